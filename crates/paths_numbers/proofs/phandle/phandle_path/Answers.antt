-- What stands between the braces, by the place of its first "/" (Reference: found_none, found_first, found_inside), and nothing where they
-- are missing (target_missing).
use Rattle.std.proofs.Common.{◌+◌, sym, ap, ◌∙◌, arith}
use Rattle.paths_numbers.specs.meaning.Reference.{path_of}
use Rattle.paths_numbers.proofs.Texts.{rest, no_rest}
use Rattle.paths_numbers.proofs.Braces.{inner_shorter}
use Rattle.paths_numbers.proofs.Slashes.{next_inside}
use Rattle.paths_numbers.proofs.Reference.{target_missing, path_of_inner, found_none, found_first, found_inside}
use Rattle.paths_numbers.proofs.phandle.phandle_path.Goals as goal

pub overflow_add-result : goal.overflow_add-result
overflow_add-result c =
    let i = c.in-Some.ensures in
    omega (arith, next_inside _ _ c.in-Some-next_slash.ensures, inner_shorter _ _ i.0 i.1)

pub slice_bounds-result-count-in-Some-next_slash : goal.slice_bounds-result-count-in-Some-next_slash
slice_bounds-result-count-in-Some-next_slash c = omega (arith, next_inside _ _ c.in-Some-next_slash.ensures)

pub slice_bounds-result-start-in-Some-next_slash : goal.slice_bounds-result-start-in-Some-next_slash
slice_bounds-result-start-in-Some-next_slash c = omega (arith, next_inside _ _ c.in-Some-next_slash.ensures)

pub returns-in_default : goal.returns-in_default
returns-in_default c =
    let raw = c.args.raw.now in
    no_rest raw ∙ sym (ap path_of (target_missing raw c.in_default.ensures))

pub returns-in-None : goal.returns-in-None
returns-in-None c =
    no_rest c.in-Some.inner.now ∙ path_of_inner _ _ _ c.in-Some.ensures.1 (found_none _ c.in-None.ensures)

pub returns-in-Some-eq0 : goal.returns-in-Some-eq0
returns-in-Some-eq0 c =
    path_of_inner _ _ _ c.in-Some.ensures.1 (found_first _ _ c.in-Some-eq0.ensures c.in-Some-eq0.field-0-test)

pub returns-in-Some-next_slash : goal.returns-in-Some-next_slash
returns-in-Some-next_slash c =
    let n = c.in-Some-next_slash in
    rest c.in-Some.inner.now (n.k + 1) ∙ path_of_inner _ _ _ c.in-Some.ensures.1 (found_inside _ _ n.ensures n.k-test.1)
