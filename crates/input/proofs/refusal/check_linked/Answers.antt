-- No record is known at first, and each is in the end.
use mathlib.Core.Path.{refl, ◌∙◌}
use native.Mathlib.Omega.{arith}
use Rattle.input.proofs.RowsStands.{stands_start}
use Rattle.input.proofs.RowsFound.{found_rows}
use Rattle.input.proofs.refusal.check_linked.Goals as goal

pub find_stands-requires : goal.find_stands-requires
find_stands-requires c =
    let records = c.args.records in
    stands_start records.words.now _ 2048 refl (omega (arith, records.counted, records.few))

pub returns : goal.returns
returns c =
    let records = c.args.records in
    c.check_reached.ensures
    ∙ found_rows records.words.now c.requires c.args.text.now _
    (rw records.counted at c.find_stands.ensures)
    (omega (arith, records.counted, records.some))
