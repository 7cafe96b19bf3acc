-- Names and name spans by the numbers of the parts that decide them.
use Prim.Native.Nat.{ℕ, max}
use mathlib.Core.Path.{◌≡◌, refl, sym, ap, ◌∙◌}
use mathlib.Core.Bool.{true, false}
use mathlib.Core.List.{List, [], ◌∷◌}
use mathlib.Core.Option.{some}
use borrow.Author.Tests.{leb-true, leb-false}
use lib.Dec.{leb}
use native.Mathlib.Omega.{arith}
use Rattle.std.specs.Prelude.{Option as Maybe, Some, None, Result, Ok, Err, is_ok}
use Rattle.paths_numbers.specs.meaning.Text.{is_empty}
use Rattle.paths_numbers.specs.meaning.Path.{join, with_unit, joined}
use Rattle.paths_numbers.proofs.Texts.{by_test, not_both}
use Rattle.definition_log.specs.meaning.Contents.{Span}
use Rattle.input.specs.meaning.Tree.{first_of, name_kind, unit_address_kind, reference_kind, macro_kind, slash_kind}
use Rattle.input.specs.meaning.Report.{Got, found, failed, undefined_macro}
use Rattle.input.specs.meaning.Name.{name_or_macro, full_name, later, span_to, slash_span, own_span, node_name_span, property_name_span}
use Rattle.input.specs.meaning.Input.{text_at, span_end_at, span_at, chain_at, parts_at}
use Rattle.input.specs.machine.At.{record_at}
use Rattle.input.specs.meaning.GoodName.{good_names_in}
use Rattle.input.specs.machine.ChainLeft.{trees_over}
use Rattle.input.specs.declared.linked.Chain.{Chain}
use Rattle.input.specs.machine.Read.{optional, FirstOf}
use Rattle.input.specs.machine.NameRead.{name_read, name_text, unit_text, is_there, with_unit_read, full_read, FullNameRead}
use Rattle.input.specs.declared.report.Report.{Report}
use Rattle.input.specs.declared.name.FullName.{FullName}
use Rattle.input.proofs.GoodNames.{never, good_below, first_good, name_plain}
use Rattle.input.proofs.Read.{some_is, first_missing, first_there}

-- the name, else the macro, else nothing
module _ (c : Chain) (n m : Maybe ℕ) (f : FirstOf c name_kind n) (text : List ℕ) where
  pub name_there : (r : ℕ) → n ≡ Some r → found (text_at c.input.words.now text r) ≡ name_or_macro (trees_over text c)
  unfolding name_or_macro record_at
  name_there r k = rw (first_there c name_kind n f text r k) refl

  module _ (e : n ≡ None) (g : FirstOf c macro_kind m) where
    pub macro_there : (r : ℕ) → m ≡ Some r
        → failed (undefined_macro (record_at c.input.words.now text r) ∷ []) ≡ name_or_macro (trees_over text c)
    unfolding name_or_macro
    macro_there r k = rw (first_missing c name_kind n f text e, first_there c macro_kind m g text r k) refl

    pub nothing_there : m ≡ None → failed [] ≡ name_or_macro (trees_over text c)
    unfolding name_or_macro
    nothing_there k = rw (first_missing c name_kind n f text e, first_missing c macro_kind m g text k) refl

-- the span of a record
pub span_some : (words text : List ℕ) (r : Maybe ℕ) (span : Span) (n : ℕ) → r ≡ Some n
    → span_at words n ≡ slash_span (optional words text r) span
unfolding record_at
span_some words text r span n e = rw e refl

-- to the later end of a name and of a unit address
max_later : (a b : ℕ) → max a b ≡ later a b
max_later a b = by_test (leb a b) (λ q. rw q (omega (arith, leb-true a b q))) (λ q. rw q (omega (arith, leb-false a b q)))

pub to_end : (words text : List ℕ) (u : Maybe ℕ) (span : Span) (n : ℕ) → u ≡ Some n
    → record { from = span.from; to = max span.to (span_end_at words n) } ≡ span_to span (optional words text u)
unfolding record_at
to_end words text u span n e = rw (e, max_later span.to (span_end_at words n)) refl

-- a node's name span by its parts
module _ (c : Chain) (text : List ℕ) (span : Span) where
  pub reference_span_lem : (r : Maybe ℕ) → FirstOf c reference_kind r → (n : ℕ) → r ≡ Some n
      → span_at c.input.words.now n ≡ node_name_span (trees_over text c) span
  unfolding node_name_span record_at
  reference_span_lem r f n e = rw (first_there c reference_kind r f text n e) refl

  pub no_reference_lem : (r : Maybe ℕ) → FirstOf c reference_kind r → r ≡ None
      → own_span (first_of name_kind (trees_over text c)) (trees_over text c) span ≡ node_name_span (trees_over text c) span
  unfolding node_name_span
  no_reference_lem r f e = rw (first_missing c reference_kind r f text e) refl

  module _ (r : Maybe ℕ) (f : FirstOf c name_kind r) where
    pub name_span_lem : (u : Maybe ℕ) → FirstOf c unit_address_kind u → (n : ℕ) → r ≡ Some n
        → span_to (span_at c.input.words.now n) (optional c.input.words.now text u)
        ≡ own_span (first_of name_kind (trees_over text c)) (trees_over text c) span
    unfolding record_at
    name_span_lem u g n e = rw (first_there c name_kind r f text n e, g.tree text) refl

    pub no_name : (x : Maybe ℕ) → FirstOf c slash_kind x → r ≡ None
        → slash_span (optional c.input.words.now text x) span ≡ own_span (first_of name_kind (trees_over text c)) (trees_over text c) span
    no_name x g e = rw (first_missing c name_kind r f text e, g.tree text) refl

    pub property_span : slash_span (optional c.input.words.now text r) span ≡ property_name_span (trees_over text c) span
    unfolding property_name_span
    property_span = rw (f.tree text) refl

-- a full name from what its two parts give
module _ (c : Chain) (name : Result ℕ Report)
    (e : (text : List ℕ) → name_read c.input.words.now text name ≡ name_or_macro (trees_over text c))
    (u : Maybe ℕ) (f : FirstOf c unit_address_kind u)
  where
    pub full_alone : u ≡ None → FullNameRead c.input.words.now c.next (record { name = name; unit = None })
    unfolding full_read full_name
    full_alone z =
        record {
          read = λ text. e text ∙ rw (first_missing c unit_address_kind u f text z) refl;
          unit_good = λ text r g k. let z : ◌≡◌ {A = ℕ} 0 1 = cc in absurd (omega arith);
        }

    module _ (n : ℕ) (k : u ≡ Some n) (unit : Result ℕ Report)
        (g : (text : List ℕ) → name_read c.input.words.now text unit ≡ name_or_macro (parts_at c.input.words.now text n)) where
      -- the names below the unit address are good
      unit_names : (text : List ℕ) → good_names_in (trees_over text c) ≡ true → good_names_in (parts_at c.input.words.now text n) ≡ true
      unfolding record_at
      unit_names text h =
          good_below (record_at c.input.words.now text n)
          (first_good (trees_over text c) (record_at c.input.words.now text n) unit_address_kind h
          (first_there c unit_address_kind u f text n k)).0

      pub full_addressed : FullNameRead c.input.words.now c.next (record { name = name; unit = Some unit })
      unfolding full_read full_name record_at
      full_addressed =
          record {
            read = λ text. rw (first_there c unit_address_kind u f text n k, e text, g text) refl;
            unit_good = λ text r h d.
                (name_plain (parts_at c.input.words.now text n) (text_at c.input.words.now text r) (unit_names text h)
                (ap (λ (x : Got (List ℕ)). x.result) (sym (g text) ∙ ap (name_read c.input.words.now text) (some_is d)))).filled;
          }

-- whether there is a name with its unit address, by whether there are both
module _ (words text : List ℕ) where
  is_there_ok : (n : Result ℕ Report) → is_ok n ≡ is_there (name_read words text n).result
  is_there_ok (Ok r) = refl
  is_there_ok (Err d) = refl

  pub named_alone : (f : FullName) → f.unit ≡ None → is_ok f.name ≡ is_there (full_read words text f).result
  unfolding full_read
  named_alone f e = rw e (is_there_ok f.name)

  pub not_named : (f : FullName) → is_ok f.name ≡ false → false ≡ is_there (full_read words text f).result
  unfolding full_read
  not_named f e = go f.name f.unit e
    where
      go : (n : Result ℕ Report) (u : Maybe (Result ℕ Report)) → is_ok n ≡ false
          → false ≡ is_there (with_unit_read words text (name_read words text n) u).result
      go (Err d) None k = refl
      go (Err d) (Some u) k = refl
      go (Ok n) u k = absurd (not_both {t = true} refl k)

  pub named_addressed : (f : FullName) (u : Result ℕ Report) → f.unit ≡ Some u → is_ok f.name ≡ true
      → is_ok u ≡ is_there (full_read words text f).result
  unfolding full_read
  named_addressed f u e h = rw e (go f.name u h)
    where
      go : (n u : Result ℕ Report) → is_ok n ≡ true
          → is_ok u ≡ is_there (with_unit_read words text (name_read words text n) (Some u)).result
      go (Ok n) (Ok u) k = refl
      go (Ok n) (Err d) k = refl
      go (Err d) u k = absurd (not_both {t = false} k refl)

-- the name as the path functions take it: the texts of both parts, of which the second is empty where there is no unit address
full_text : (words text : List ℕ) (name : Result ℕ Report) (unit : Maybe (Result ℕ Report)) (n : List ℕ)
    → (full_read words text (record { name = name; unit = unit })).result ≡ some n
    → ((r : ℕ) → unit ≡ Some (Ok r) → is_empty (text_at words text r) ≡ false)
    → n ≡ with_unit (name_text words text name) (unit_text words text unit)
unfolding full_read with_unit is_empty
full_text words text (Ok a) (Some (Ok b)) n e k = rw (k b refl) (cc)
full_text words text (Ok a) (Some (Err d)) n e k = never e
full_text words text (Ok a) None n e k = cc
full_text words text (Err d) (Some u) n e k = never e
full_text words text (Err d) None n e k = never e

pub full_joined : (words text : List ℕ) (first : ℕ) (f : FullName) → FullNameRead words first f
    → good_names_in (chain_at words text first) ≡ true
    → (parent n : List ℕ) → (full_name (chain_at words text first)).result ≡ some n
    → join parent n ≡ joined parent (name_text words text f.name) (unit_text words text f.unit)
unfolding joined
full_joined words text first f r g parent n e =
    ap (join parent)
    (full_text words text f.name f.unit n (ap (λ (x : Got (List ℕ)). x.result) (r.read text) ∙ e)
    (λ k. r.unit_good text k g))
