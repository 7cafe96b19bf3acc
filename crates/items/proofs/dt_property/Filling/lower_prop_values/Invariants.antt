-- Loop invariant: what the values that are left do completes what the whole chain does (Filled).
use Prim.Native.Nat.{ℕ}
use mathlib.Core.Path.{◌≡◌}
use mathlib.Core.List.{List}
use lib.ListN.{length}
use Rattle.making.specs.declared.ctx.LowerCtx.{LowerCtx}
use Rattle.input.specs.meaning.Property.{lower_values}
use Rattle.input.specs.machine.ChainLeft.{trees_of, chain_left, trees_left}
use Rattle.items.specs.machine.Filled.{FillsProperty}
use Rattle.items.proofs.ChainWalked.{RecordsIn}
use Rattle.items.proofs.dt_property.Filling.lower_prop_values.Given as goal

abbrev pub invariant-loop-r : goal.invariant-loop-r
invariant-loop-r l =
    RecordsIn l.values.input.words.now l.values.input.text.now l.nesting (chain_left l.r-iterator)
    × (length l.out ≡ length l.initial.out)
    × (length l.bytes ≡ length l.initial.bytes)
    × ((d : LowerCtx) (w b : List ℕ)
    → FillsProperty l.self.keep l.next d l.out l.bytes w b
    (lower_values l.self.level (trees_of l.values.input.words.now l.values.input.text.now (chain_left l.r-iterator)))
    → FillsProperty l.self.keep l.initial.next d l.initial.out l.initial.bytes w b
    (lower_values l.self.level (trees_left l.values)))
