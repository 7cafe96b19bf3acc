-- What stands between the braces gives the label, and none where they are missing (Reference: target_missing, label_part).
use Rattle.std.proofs.Common.{sym, ap, ◌∙◌, arith, length-take-le}
use Rattle.paths_numbers.specs.meaning.Reference.{label_of}
use Rattle.paths_numbers.proofs.Texts.{no_rest}
use Rattle.paths_numbers.proofs.Slashes.{before_length}
use Rattle.paths_numbers.proofs.Reference.{target_missing, label_part}
use Rattle.paths_numbers.proofs.phandle.phandle_label.Goals as goal

pub returns-in_default : goal.returns-in_default
returns-in_default c =
    let raw = c.args.raw.now in
    no_rest raw ∙ sym (ap label_of (target_missing raw c.in_default.ensures))

pub slice_bounds-result-end-2 : goal.slice_bounds-result-end-2
slice_bounds-result-end-2 c =
    let s = c.in-Some.inner.now in
    sym (length-take-le c.first_slash-k.result s (omega (arith, before_length s, c.first_slash-k.ensures)))

pub returns : goal.returns
returns c = label_part _ _ c.in-Some.ensures.1 _ c.first_slash-k.ensures
