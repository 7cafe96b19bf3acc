-- A length that is one is at most 8; what is read is told.
use mathlib.Core.Path.{sym, ap, ◌∙◌}
use Rattle.boxes.specs.meaning.Box.{box_told, read_answer}
use Rattle.boxes.proofs.Limits.{length_most}
use Rattle.boxes.proofs.Steps.{read_of}
use Rattle.boxes.proofs.box_number.read_box.Goals as goal

pub parse-requires : goal.parse-requires
parse-requires c = length_most _ (sym c.is_length.ensures ∙ c.if-not-is_length.false)

pub returns : goal.returns
unfolding read_answer
returns c =
    let t = sym c.is_length.ensures ∙ c.if-not-is_length.false in
    let e = c.parse.ensures in
    ap box_told c.ok_or.ensures.value ∙ read_of c.parse.result ∙ simp (t, e)
