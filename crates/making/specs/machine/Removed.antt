-- What taking a binding out of its chain leaves: its words and its texts are zeros, and the record before it leads to the one after it.
use Rattle.std.specs.Prelude.{ℕ, ◌+◌, ◌*◌, ◌≡◌, true, false, cond, List, ◌∷◌, ◌++◌, eqb, leb, length, set, replicate}
use Rattle.paths_numbers.specs.meaning.Text.{written}
use Rattle.making.specs.declared.ctx.Chain.{Chain}
use Rattle.making.specs.declared.ctx.LowerCtx.{LowerCtx}
use Rattle.definition_log.specs.meaning.Record.{text_start, text_length, second_start, second_length}
use Rattle.making.specs.machine.Events.{Event, bindings, last}
use Rattle.making.specs.machine.Holding.{Hand, Holds}

-- a record that is no longer there
abbrev pub dead : Event → Event
dead e =
    record {
      chain = e.chain;
      kind = e.kind;
      text = e.text;
      second = e.second;
      n = e.n;
      m = e.m;
      from = e.from;
      to = e.to;
      name_from = e.name_from;
      name_to = e.name_to;
      log = e.log;
      alive = false;
    }

-- a text set to zeros, where it lies in the bytes
unfoldable pub cleared_text : List ℕ → ℕ → ℕ → List ℕ
cleared_text bytes start size = cond (leb (start + size) (length bytes)) (written bytes start (replicate size 0)) bytes

-- both texts of a record
unfoldable pub cleared_texts : List ℕ → List ℕ → ℕ → List ℕ
cleared_texts words bytes r =
    cleared_text (cleared_text bytes (text_start words r) (text_length words r)) (second_start words r) (second_length words r)

-- its words, where they lie in the words
unfoldable pub cleared_words : List ℕ → ℕ → List ℕ
cleared_words words r = cond (leb (r * 16 + 16) (length words)) (written words (r * 16) (replicate 16 0)) words

-- the next link of a record set, where there is one
unfoldable pub set_next : ℕ → ℕ → List ℕ → List ℕ
set_next r n w = cond (eqb r 0) w (set w (r * 16 + 1) n)

-- a chain without a record that stood between these two, 0 where it was the first or the last
abbrev pub without : Chain → ℕ → ℕ → Chain
without x previous next =
    record { first = cond (eqb previous 0) next x.first; last = cond (eqb next 0) previous x.last }

unfoldable pub without_bind : LowerCtx → ℕ → ℕ → LowerCtx
without_bind c previous next =
    record {
      records = c.records;
      bytes = c.bytes;
      defs = c.defs;
      exts = c.exts;
      binds = without c.binds previous next;
      diags = c.diags;
      part = c.part;
      cell = c.cell;
      short = c.short;
    }

-- an operation from c to d that removes binding r, before which `previous` stands in the chain
pub record Removes (c d : LowerCtx) (words bytes w b : List ℕ) (previous r : ℕ) : Type 0 where
  pub holds : (g : Hand) (xs : List Event) (e : Event) (ys : List Event) → Holds g c words bytes (xs ++ e ∷ ys) → e.chain ≡ bindings
      → e.alive ≡ true
      → (c.short ≡ false → r ≡ 1 + length xs) → (c.short ≡ false → previous ≡ last bindings 1 xs) → Holds g d w b (xs ++ dead e ∷ ys)
  pub stays : c.short ≡ true → d.short ≡ true
