-- What stands between the braces, by the place of its first "/" (Reference: found_none, found_first, found_inside).
use Rattle.std.proofs.Common.{sym, ap, ◌∙◌}
use Rattle.paths_numbers.specs.meaning.Reference.{number_of, target_number}
use Rattle.paths_numbers.proofs.Reference.{target_missing, target_braced, found_none, found_first, found_inside}
use Rattle.paths_numbers.proofs.phandle.lower_phandle.Goals as goal

pub returns-in_err-inner : goal.returns-in_err-inner
returns-in_err-inner c = ap target_number c.from_residual.ensures ∙ sym (ap number_of (target_missing _ c.in_err-inner.ensures))

pub returns-in-None : goal.returns-in-None
returns-in-None c =
    let e = c.in_ok-inner.ensures in
    sym (ap number_of (target_braced _ _ e.1 e.0 ∙ found_none _ c.in-None.ensures))

pub returns-in-Some-eq0 : goal.returns-in-Some-eq0
returns-in-Some-eq0 c =
    let e = c.in_ok-inner.ensures in
    sym (ap number_of (target_braced _ _ e.1 e.0 ∙ found_first _ _ c.in-Some-eq0.ensures c.in-Some-eq0.field-0-test))

pub returns-in-Some : goal.returns-in-Some
returns-in-Some c =
    let e = c.in_ok-inner.ensures in
    sym (ap number_of (target_braced _ _ e.1 e.0 ∙ found_inside _ _ c.in-Some.ensures c.in-Some.field-0-test.1))
