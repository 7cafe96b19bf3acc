-- The records of an input's chain that are left to walk: they are there, and no deeper than the nesting.
use Prim.Native.Nat.{ℕ, ◌≤◌, ◌<◌}
use mathlib.Core.List.{List, ◌∷◌}
use native.Mathlib.Omega.{arith}
use Rattle.input.specs.machine.Fits.{depth_of, depths_of}
use Rattle.input.specs.meaning.Input.{record_count}
use Rattle.input.specs.machine.At.{record_at}
use Rattle.input.specs.declared.linked.Chain.{Chain}
use Rattle.input.specs.machine.ChainLeft.{trees_of, AreRecords, chain_left, trees_left}
use Rattle.input.proofs.ChainLeft.{chain_is, are_records}

pub record RecordsIn (words text : List ℕ) (nesting : ℕ) (left : List ℕ) : Type 0 where
  pub there : AreRecords words left
  pub shallow : depths_of (trees_of words text left) ≤ nesting

pub records_start : (c : Chain) (nesting : ℕ) → depths_of (trees_left c) ≤ nesting
    → RecordsIn c.input.words.now c.input.text.now nesting (chain_left c)
records_start c nesting h =
    let words = c.input.words.now in
    record {
      there = are_records words c.input.linked c.next c.at;
      shallow = rw (chain_is words c.input.linked c.input.text.now c.next c.at) h;
    }

module _ {words text : List ℕ} {nesting r : ℕ} {later : List ℕ} (h : RecordsIn words text nesting (r ∷ later)) where
  pub record_there : r < record_count words
  record_there = h.there.0.1

  pub record_shallow : depth_of (record_at words text r) ≤ nesting
  unfolding depths_of
  record_shallow = omega (arith, h.shallow)

  pub records_later : RecordsIn words text nesting later
  unfolding depths_of
  records_later = record { there = h.there.1; shallow = omega (arith, h.shallow) }
