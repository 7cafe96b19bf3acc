-- Values and cells by the kinds of their records.
use Prim.Native.Nat.{ℕ, ◌+◌, ◌*◌, ◌/◌, ◌%◌, ◌^◌}
use native.Mathlib.Nat.{div-add-mod'}
use mathlib.Core.Path.{◌≡◌, refl, sym, ap, ◌∙◌}
use mathlib.Core.Bool.{cond}
use mathlib.Core.List.{List, []}
use native.Mathlib.Omega.{arith}
use borrow.Author.Tests.{ne_eqb}
use Rattle.paths_numbers.specs.meaning.Code.{odd_digits}
use Rattle.paths_numbers.specs.meaning.Reading as R
use Rattle.paths_numbers.specs.meaning.Bytestring.{is_odd, bytes_of, count_of, count_told}
use Rattle.std.specs.Prelude.{Result, Ok}
use Rattle.paths_numbers.specs.declared.dt_property.BitsSize.{BitsSize}
use Rattle.paths_numbers.specs.declared.dt_property.MissingDigit.{MissingDigit}
use Rattle.paths_numbers.proofs.Texts.{by_test}
use Rattle.definition_log.specs.meaning.Contents.{Span, bytestring}
use Rattle.definition_log.specs.machine.Parts.{target_made}
use Rattle.paths_numbers.specs.declared.phandle.MirPhandleTarget.{MirPhandleTarget}
use Rattle.input.specs.meaning.Tree.{tree, number_kind, character_kind, expression_kind, reference_kind, macro_kind, directive_kind}
use Rattle.input.specs.meaning.Tree.{preprocessor_kind, string_kind, cell_list_kind, bytestring_kind}
use Rattle.input.specs.meaning.Report.{one, nothing}
use Rattle.input.specs.meaning.Phandle.{lower_phandle}
use Rattle.input.specs.meaning.Property.{reference_cell, lower_cell, counted_bytes, reference_value}
use Rattle.input.specs.meaning.Property.{lower_value}
use Rattle.input.specs.meaning.Input.{kind_at, child_at, second_at, text_at, number_at, span_at, chain_at}
use Rattle.input.specs.machine.At.{record_at}
use Rattle.input.specs.machine.ValueRead.{plain_made}
use Rattle.input.specs.declared.value_read.PlainValue.{PlainValue}
use Rattle.input.specs.declared.value_read.PlainValue.TheVariants as P

module _ (words text : List ℕ) (r : ℕ) where
  -- a record of a kind
  pub cell_kind_lem : (level : ℕ) (size : BitsSize) (k : ℕ) → kind_at words r ≡ k
      → lower_cell level size (tree k (text_at words text r) (number_at words r) (span_at words r) (chain_at words text (child_at words r))
      (chain_at words text (second_at words r)))
      ≡ lower_cell level size (record_at words text r)
  unfolding record_at
  cell_kind_lem level size k e = rw (sym e) refl

  pub value_kind_lem : (level k : ℕ) → kind_at words r ≡ k
      → lower_value level (tree k (text_at words text r) (number_at words r) (span_at words r) (chain_at words text (child_at words r))
      (chain_at words text (second_at words r)))
      ≡ lower_value level (record_at words text r)
  unfolding record_at
  value_kind_lem level k e = rw (sym e) refl

  -- a reference
  pub cell_reference : (level : ℕ) (size : BitsSize) → kind_at words r ≡ reference_kind
      → reference_cell size (span_at words r) (lower_phandle (record_at words text r)) ≡ lower_cell level size (record_at words text r)
  unfolding lower_cell record_at
  cell_reference level size e = rw e refl

  pub value_reference : (level : ℕ) → kind_at words r ≡ reference_kind → reference_value (lower_phandle (record_at words text r))
      ≡ lower_value level
      (record_at words text r)
  unfolding lower_value record_at
  value_reference level e = rw e refl

  -- and of none of these kinds
  pub cell_other : (level : ℕ) (size : BitsSize) → (kind_at words r ≡ number_kind → ⊥) → (kind_at words r ≡ character_kind → ⊥)
      → (kind_at words r ≡ expression_kind → ⊥)
      → (kind_at words r ≡ reference_kind → ⊥) → (kind_at words r ≡ macro_kind → ⊥) → (kind_at words r ≡ directive_kind → ⊥)
      → (kind_at words r ≡ preprocessor_kind → ⊥)
      → nothing [] ≡ lower_cell level size (record_at words text r)
  unfolding lower_cell record_at
  cell_other level size a b c d e f g =
      simp (
        ne_eqb (kind_at words r) number_kind a,
        ne_eqb (kind_at words r) character_kind b,
        ne_eqb (kind_at words r) expression_kind c,
        ne_eqb (kind_at words r) reference_kind d,
        ne_eqb (kind_at words r) macro_kind e,
        ne_eqb (kind_at words r) directive_kind f,
        ne_eqb (kind_at words r) preprocessor_kind g,
      )

  pub value_other : (level : ℕ) → (kind_at words r ≡ string_kind → ⊥) → (kind_at words r ≡ cell_list_kind → ⊥)
      → (kind_at words r ≡ bytestring_kind → ⊥)
      → (kind_at words r ≡ reference_kind → ⊥) → (kind_at words r ≡ macro_kind → ⊥) → (kind_at words r ≡ directive_kind → ⊥)
      → (kind_at words r ≡ preprocessor_kind → ⊥)
      → nothing [] ≡ lower_value level (record_at words text r)
  unfolding lower_value record_at
  value_other level a b c d e f g =
      simp (
        ne_eqb (kind_at words r) string_kind a,
        ne_eqb (kind_at words r) cell_list_kind b,
        ne_eqb (kind_at words r) bytestring_kind c,
        ne_eqb (kind_at words r) reference_kind d,
        ne_eqb (kind_at words r) macro_kind e,
        ne_eqb (kind_at words r) directive_kind f,
        ne_eqb (kind_at words r) preprocessor_kind g,
      )

-- a bytestring that was counted has an even count of digits
pub counted_some : (span : Span) (t : List ℕ) (n : Result ℕ MissingDigit) (m : ℕ) → n ≡ Ok m → count_told n ≡ count_of t
    → cond (is_odd t) (nothing []) (one (bytestring (bytes_of t))) ≡ counted_bytes span t (count_told n)
unfolding count_of
counted_some span t n m e h =
    by_test (is_odd t)
    (λ q. let k : R.value m ≡ R.fails odd_digits = sym (ap count_told e) ∙ h ∙ rw q refl in
    let z : ◌≡◌ {A = ℕ} 0 1 = cc in absurd (omega arith))
    (λ q. rw (q, e) refl)

-- what a reference names, by its texts
pub same_target : (k : MirPhandleTarget) {l m p q : List ℕ} → l ≡ m → p ≡ q → target_made k l p ≡ target_made k m q
same_target k e f = rw (e, f) refl

-- a value without cells reports nothing
pub plain_reports : (words text : List ℕ) (r : ℕ) (v : PlainValue) → (plain_made words text r v).reports ≡ []
plain_reports words text r P.String = refl
plain_reports words text r P.Bytestring = by_test (is_odd (text_at words text r)) (λ q. rw q refl) (λ q. rw q refl)
plain_reports words text r (P.Phandle k) = refl

-- a number by its two words
pub number_whole : (n : ℕ) → n % 4294967296 + n / 4294967296 * 2 ^ 32 ≡ n
number_whole n = omega (arith, div-add-mod' n 4294967296)
