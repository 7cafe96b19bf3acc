use mathlib.Core.Path.{refl, ap, ◌∙◌}
use mathlib.Core.List.{List}
use Prim.Native.Nat.{ℕ}
use Rattle.input.specs.meaning.Property.{lower_cells}
use Rattle.input.specs.machine.ChainLeft.{trees_of, chain_left}
use Rattle.input.proofs.ChainLeft.{chain_is}
use Rattle.items.proofs.ChainWalked.{records_start, record_there, record_shallow, records_later}
use Rattle.items.proofs.Filled.{adding_cells, fills_none, fills_then, same_fills}
use Rattle.items.proofs.dt_property.Filling.lower_cells.Goals as goal

pub loop-r-init : goal.loop-r-init
loop-r-init c =
    let a = c.args in
    let i = a.cells.input in
    let e = ap chain_left c.into_iter-r-iterator.ensures.into_iter_gives in (
      rw e (records_start a.cells a.nesting c.requires.shallow),
      refl,
      refl,
      λ d w b f. same_fills (ap (λ (l : List ℕ). lower_cells a.self.level a.size (trees_of i.words.now i.text.now l)) e
          ∙ ap (lower_cells a.self.level a.size) (chain_is i.words.now i.linked i.text.now a.cells.next a.cells.at)) f,
    )

pub invariant_of-cell : goal.invariant_of-cell
invariant_of-cell c = record { known = record_there (rw c.in-Some.ensures.steps at c.loop-r.invariant.0) }

pub lower_cell-next-requires : goal.lower_cell-next-requires
lower_cell-next-requires c = record { shallow = record_shallow (rw c.in-Some.ensures.steps at c.loop-r.invariant.0) }

pub loop-r-preserved : goal.loop-r-preserved
unfolding lower_cells
loop-r-preserved c =
    let inv = rw c.in-Some.ensures.steps at c.loop-r.invariant in (
      records_later inv.0,
      c.lower_cell-next.auto.out ∙ inv.1,
      c.lower_cell-next.auto.bytes ∙ inv.2,
      λ d w b f. inv.3 d w b (fills_then adding_cells c.args.self.keep _ _ c.lower_cell-next.ensures f),
    )

pub returns : goal.returns
unfolding lower_cells
returns c =
    let inv = rw c.in-None.ensures.steps.0 at c.loop-r.invariant in
    inv.3 _ _ _ (fills_none adding_cells c.args.self.keep)
