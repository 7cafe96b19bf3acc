-- One record more has its files' numbers.
use Prim.Native.Nat.{ℕ, ◌+◌, ◌*◌, ◌≤◌, ◌<◌}
use mathlib.Core.Path.{◌≡◌, refl, ap, ◌∙◌}
use mathlib.Core.List.{List}
use native.Mathlib.Omega.{arith}
use borrow.Author.Tests.{eqb-true, eqb-false}
use lib.Dec.{eqb}
use lib.ListN.{length, set, length-set}
use lib.Seq.{get_or-set_same, get_or-set_other}
use Rattle.paths_numbers.proofs.Texts.{by_test}
use Rattle.files.specs.meaning.Files.{file_of}
use Rattle.definition_log.specs.meaning.Record.{record_words, out_field, span_start, name_start}
use Rattle.file_words.specs.machine.Put.{record_put, FilesPut}

-- none so far
pub put_none : (starts words : List ℕ) → FilesPut starts words words 0
put_none starts words =
    record {
      same_length = refl;
      file_of_span = λ r h. absurd (omega arith);
      file_of_name = λ r h. absurd (omega arith);
      others = λ r i h f g. refl;
    }

-- the words of the record, and those of others
module _ (starts v : List ℕ) (k : ℕ) (room : k * record_words + record_words ≤ length v) where
  abbrev put : List ℕ
  put = record_put starts v (k * record_words)

  pub put_length : length put ≡ length v
  unfolding record_put
  put_length = rw (length-set (set v _ _) _ _, length-set v _ _) refl

  put_13 : out_field put k 13 ≡ file_of starts (span_start v k)
  unfolding record_put out_field
  put_13 =
      get_or-set_other (set v (k * record_words + 13) _) (k * record_words + 14) (k * record_words + 13) _ 0 (λ e. omega arith)
      ∙ get_or-set_same v (k * record_words + 13) _ 0 (omega arith)

  put_14 : out_field put k 14 ≡ file_of starts (name_start v k)
  unfolding record_put out_field
  put_14 =
      get_or-set_same (set v (k * record_words + 13) _) (k * record_words + 14) _ 0 (rw (length-set v (k * record_words + 13) _) (omega arith))

  put_other : (r i : ℕ) → i < record_words → (i ≡ 13 → r ≡ k → ⊥) → (i ≡ 14 → r ≡ k → ⊥) → out_field put r i ≡ out_field v r i
  unfolding record_put out_field
  put_other r i h f g =
      get_or-set_other (set v (k * record_words + 13) _) (k * record_words + 14) (r * record_words + i) _ 0
      (λ e. g (omega arith) (omega arith))
      ∙ get_or-set_other v (k * record_words + 13) (r * record_words + i) _ 0 (λ e. f (omega arith) (omega arith))

  -- what the records of `words` before this one have, this one has too: the number of the place in word `from` as word `to`
  one_more_lem : (words : List ℕ) (r from to : ℕ) → to < record_words → out_field put k to ≡ file_of starts (out_field v k from)
      → out_field v k from ≡ out_field words k from → (r < k → out_field v r to ≡ file_of starts (out_field words r from)) → r < k + 1
      → out_field put r to ≡ file_of starts (out_field words r from)
  one_more_lem words r from to l here same before h =
      by_test (eqb r k)
      (λ t. rw (eqb-true r k t) (here ∙ ap (file_of starts) same))
      (λ t. let n = eqb-false r k t in put_other r to l (λ z e. n e) (λ z e. n e) ∙ before (omega arith))

-- and one more
pub put_next : (starts words v : List ℕ) (k : ℕ) → k * record_words + record_words ≤ length v → FilesPut starts words v k
    → FilesPut starts words (record_put starts v (k * record_words)) (k + 1)
put_next starts words v k room p =
    let same : (i : ℕ) → i < 13 → out_field v k i ≡ out_field words k i =
    λ i h. p.others k i (omega arith) (λ z. omega arith) (λ z. omega arith) in
    record {
      same_length = put_length starts v k room ∙ p.same_length;
      file_of_span = λ r.
          one_more_lem starts v k room words r 9 13 (omega arith) (put_13 starts v k room) (same 9 (omega arith)) (p.file_of_span r);
      file_of_name = λ r.
          one_more_lem starts v k room words r 11 14 (omega arith) (put_14 starts v k room) (same 11 (omega arith)) (p.file_of_name r);
      others = λ r i h f g.
          put_other starts v k room r i h (λ z e. f z (omega arith)) (λ z e. g z (omega arith))
          ∙ p.others r i h (λ z e. f z (omega arith)) (λ z e. g z (omega arith));
    }
