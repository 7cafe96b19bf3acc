-- By the marks (Checked: checked).
use mathlib.Core.Path.{refl}
use Rattle.definition_log.proofs.Checked.{checked}
use Rattle.definition_log.proofs.sound.check_within.Goals as goal

pub returns : goal.returns
returns g c =
    let l = c.args.log in
    checked g.row.N l.words.now l.bytes.now _ _ _ _ c.all.ensures c.first_fault.ensures refl refl c.requires.room c.requires.whole
