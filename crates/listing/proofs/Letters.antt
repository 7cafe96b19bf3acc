-- The fields of a definition's line by its record: the letter of its kind, its path, its labels.
use Prim.Native.Nat.{ℕ, ◌<◌}
use Prim.Native.Char.{code}
use mathlib.Core.Path.{◌≡◌, refl, sym, ap, ◌∙◌}
use mathlib.Core.Bool.{Bool, true, false, cond}
use mathlib.Core.List.{List, [], ◌∷◌, flat_map}
use native.Mathlib.Omega.{arith}
use borrow.Author.Tests.{ne_eqb}
use lib.Dec.{eqb}
use lib.ListN.{length}
use Rattle.paths_numbers.proofs.Texts.{no_byte}
use Rattle.definition_log.specs.meaning.Contents.{Value}
use Rattle.definition_log.specs.meaning.Record.{kind_of, child_of, node_kind, property_kind, deleted_node_kind, deleted_property_kind}
use Rattle.definition_log.specs.meaning.Record.{plugin_kind}
use Rattle.definition_log.specs.meaning.ReadBack.{def_at, def_value_at, read_labels}
use Rattle.queries.specs.meaning.Labels.{labels_in}
use Rattle.queries.proofs.Records.{by_kind, value_of, labels_kind}
use Rattle.listing.specs.meaning.Listing.{letter, path_field, definition_line, label_line, definition_lines}
use Rattle.listing.specs.declared.page.Page.{Page}
use Rattle.listing.specs.machine.Page.{Puts}
use Rattle.listing.proofs.Pages.{puts_same, then_puts, puts_none}

-- the letter of a kind by its number
abbrev pub letter_of : ℕ → ℕ
letter_of k =
    cond (eqb k node_kind) (code "N")
    (cond (eqb k property_kind) (code "P")
    (cond (eqb k deleted_node_kind) (code "X")
    (cond (eqb k deleted_property_kind) (code "Y")
    (cond (eqb k plugin_kind) (code "G")
    (code "V")))))

letter_value : (ls : List (List ℕ)) (o : Bool) (vs : List Value) (k : ℕ) → letter (value_of ls o vs k) ≡ letter_of k
letter_value ls o vs k =
    by_kind (λ (k : ℕ). letter (value_of ls o vs k) ≡ letter_of k) k refl refl refl refl refl
    (λ a b c d e. simp (a, b, c, d, e))

letter_kind : (words bytes : List ℕ) (r : ℕ) → letter (def_value_at words bytes r) ≡ letter_of (kind_of words r)
unfolding def_value_at
letter_kind words bytes r = letter_value _ _ _ (kind_of words r)

pub letter_is : (words bytes : List ℕ) (r k l : ℕ) → k ≡ kind_of words r → letter_of k ≡ l → l ≡ letter (def_value_at words bytes r)
letter_is words bytes r k l e f = sym (letter_kind words bytes r ∙ rw (← e) f)

-- the letter of any other kind
pub other_letter : (k : ℕ) → (k ≡ node_kind → ⊥) → (k ≡ property_kind → ⊥) → (k ≡ deleted_node_kind → ⊥) → (k ≡ deleted_property_kind → ⊥)
    → (k ≡ plugin_kind → ⊥)
    → letter_of k ≡ code "V"
other_letter k a b c d e =
    simp (
      ne_eqb k node_kind a,
      ne_eqb k property_kind b,
      ne_eqb k deleted_node_kind c,
      ne_eqb k deleted_property_kind d,
      ne_eqb k plugin_kind e,
    )

-- an empty path, and another
pub no_path : (p : List ℕ) → length p ≡ 0 → code "-" ∷ [] ≡ path_field p
no_path p h = sym (ap path_field (no_byte p h))

pub a_path : (p : List ℕ) → 0 < length p → p ≡ path_field p
a_path [] h = absurd (omega arith)
a_path (b ∷ p) h = refl

-- a node's lines, and those of another definition
module _ (words bytes : List ℕ) (r : ℕ) {a b : Page} (own : Puts (definition_line (def_at words bytes r)) a b) where
  pub node_lines : {c : Page} → eqb (kind_of words r) node_kind ≡ true
      → Puts (flat_map label_line (read_labels words bytes (child_of words r))) b c
      → Puts (definition_lines (def_at words bytes r)) a c
  unfolding definition_lines
  node_lines t p = then_puts own (puts_same (ap (flat_map label_line) (sym (labels_kind words bytes r ∙ rw t refl))) p)

  pub plain_lines : eqb (kind_of words r) node_kind ≡ false → Puts (definition_lines (def_at words bytes r)) a b
  unfolding definition_lines flat_map
  plain_lines t =
      let e : labels_in (def_at words bytes r).value ≡ [] = labels_kind words bytes r ∙ rw t refl in
      rw e (then_puts own puts_none)
