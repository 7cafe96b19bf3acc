-- The records that are left decide; the marks are those of the records below.
use Prim.Native.Nat.{◌-◌}
use mathlib.Core.Path.{◌≡◌}
use Rattle.input.specs.meaning.Rows.{bad_links, lowest}
use Rattle.input.specs.machine.RowsPass.{Marks}
use Rattle.input.proofs.refusal.first_bad_links.Given as goal

abbrev pub invariant-loop-r : goal.invariant-loop-r
invariant-loop-r l =
    let test = bad_links l.records.words.now in
    Marks l.records.words.now l.r l.marks × (lowest test l.records.count 0 ≡ lowest test (l.records.count - l.r) l.r)
