-- The bytes given are written as they are.
use Rattle.std.proofs.Common.{rules, ◌≡◌, ap, ◌∙◌}
use Rattle.paths_numbers.specs.meaning.Text.{written}
use Rattle.making.specs.machine.Texts.{text_said}
use Rattle.making.proofs.text.Text.write.Goals as goal

pub returns-in-Whole-Given : goal.returns-in-Whole-Given
returns-in-Whole-Given c =
    let a = c.args in
    let e : c.in-Whole-Given.text.now ≡ text_said a.used a.bytes.now a.self = search rules in
    c.put.ensures ∙ ap (written a.bytes.now a.at) e
