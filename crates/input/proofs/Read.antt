-- Chains as the reading functions walk them: the first record of a kind, and how deep what a record leads to goes.
use Prim.Native.Nat.{ℕ, ◌-◌, ◌≤◌, ◌<◌}
use mathlib.Core.Path.{◌≡◌, refl, sym, ap, ◌∙◌}
use mathlib.Core.Bool.{true, false}
use mathlib.Core.List.{List, [], ◌∷◌}
use mathlib.Core.Option.{some, none}
use native.Mathlib.Omega.{arith}
use borrow.Author.Tests.{eqb-true}
use lib.Dec.{eqb}
use Rattle.paths_numbers.proofs.Texts.{by_test}
use Rattle.input.specs.meaning.Tree.{Tree, Trees, empty, more, kind_of, first_of, has}
use Rattle.input.specs.meaning.Input.{record_count, kind_at, child_at, parts_at}
use Rattle.input.specs.declared.linked.Input.{Input}
use Rattle.input.specs.machine.At.{record_at}
use Rattle.input.specs.machine.Fits.{depth_of, depths_of}
use Rattle.std.specs.Prelude.{Option as Maybe, Some, None, is_some}
use Rattle.std.specs.List.{find}
use Rattle.std.specs.Option.{option_map}
use Rattle.input.specs.machine.ChainLeft.{trees_of, AreRecords, chain_left, trees_over}
use Rattle.input.specs.declared.linked.Chain.{Chain}
use Rattle.input.specs.declared.linked.Record.{Record}
use Rattle.input.specs.machine.OfRecord.{tree_of, parts_of, contents_of}
use Rattle.input.specs.machine.Read.{optional, FirstOf}
use Rattle.input.proofs.ChainLeft.{chain_is, are_records, parts_over}

pub some_is : {A : Type 0} {x y : A} → Some x ≡ Some y → x ≡ y
some_is e = cc

pub none_some : {A B : Type 0} {x : A} → None ≡ Some x → B
none_some e = let z : ◌≡◌ {A = ℕ} 0 1 = cc in absurd (omega arith)

-- the first record of a kind among the records of a chain, as the library's search finds it
pub first_found : (words text : List ℕ) (kind : ℕ) (l : List ℕ)
    → first_of kind (trees_of words text l) ≡ optional words text (find (λ n. eqb (kind_at words n) kind) l)
unfolding first_of record_at
first_found words text kind [] = refl
first_found words text kind (r ∷ l) =
    by_test (eqb (kind_at words r) kind) (λ q. rw q refl) (λ q. rw q (first_found words text kind l))

-- what is found is a record, and of the kind
pub found_record : (words : List ℕ) (kind : ℕ) (l : List ℕ) → AreRecords words l → (n : ℕ)
    → find (λ n. eqb (kind_at words n) kind) l ≡ Some n
    → (n ≡ 0 → ⊥) × (n < record_count words) × (kind_at words n ≡ kind)
found_record words kind [] a n e = absurd (none_some e)
found_record words kind (r ∷ l) a n e =
    by_test (eqb (kind_at words r) kind)
    (λ q. let k = some_is (rw q at e) in rw (← k) (a.0.0, a.0.1, eqb-true (kind_at words r) kind q))
    (λ q. found_record words kind l a.1 n (rw q at e))

-- the first record of a kind in a chain, as the library's search finds it
pub first_in : (c : Chain) (kind : ℕ) (r : Maybe ℕ)
    → option_map (λ (x : ℕ). x) r ≡ find (λ n. eqb (kind_at c.input.words.now n) kind) (chain_left c) → FirstOf c kind r
first_in c kind r e =
    let words = c.input.words.now in
    let l = c.input.linked in
    let h : r ≡ find (λ n. eqb (kind_at words n) kind) (chain_left c) = sym (mapped r) ∙ e in
    let k : (n : ℕ) → r ≡ Some n → (n ≡ 0 → ⊥) × (n < record_count words) × (kind_at words n ≡ kind)
    = λ n q. found_record words kind (chain_left c) (are_records words l c.next c.at) n (sym h ∙ q) in
    record {
      numbered = λ n q. (k n q).0;
      there = λ n q. (k n q).1;
      kinded = λ n q. (k n q).2;
      tree = λ text. ap (λ (t : Trees). first_of kind t) (sym (chain_is words l text c.next c.at))
          ∙ first_found words text kind (chain_left c) ∙ ap (optional words text) (sym h);
    }
  where
    mapped : (r : Maybe ℕ) → option_map (λ (x : ℕ). x) r ≡ r
    mapped None = refl
    mapped (Some x) = refl

-- whether there is one of a kind, from whether there is a first
pub has_first : (kind : ℕ) (ts : Trees) → first_of kind ts ≡ none → has kind ts ≡ false
unfolding first_of has
has_first kind empty e = refl
has_first kind (more t ts) e =
    by_test (eqb (kind_of t) kind) (λ q. let z : ◌≡◌ {A = ℕ} 0 1 = cc (rw q at e) in absurd (omega arith))
    (λ q. rw q (has_first kind ts (rw q at e)))

pub has_some : (kind : ℕ) (ts : Trees) (t : Tree) → first_of kind ts ≡ some t → has kind ts ≡ true
unfolding first_of has
has_some kind empty t e = let z : ◌≡◌ {A = ℕ} 0 1 = cc in absurd (omega arith)
has_some kind (more x ts) t e =
    by_test (eqb (kind_of x) kind) (λ q. rw q refl) (λ q. rw q (has_some kind ts t (rw q at e)))

-- r is the first record of a kind
module _ (c : Chain) (kind : ℕ) (r : Maybe ℕ) (f : FirstOf c kind r) (text : List ℕ) where
  pub first_missing : r ≡ None → first_of kind (trees_over text c) ≡ none
  first_missing e = f.tree text ∙ ap (optional c.input.words.now text) e

  pub first_there : (n : ℕ) → r ≡ Some n → first_of kind (trees_over text c) ≡ some (record_at c.input.words.now text n)
  first_there n e = f.tree text ∙ ap (optional c.input.words.now text) e

-- the same of the chain of a record's children
module _ (i : Input) (r : ℕ) (c : Chain) (d : c.input ≡ i) (q : c.next ≡ child_at i.words.now r) (kind : ℕ) (m : Maybe ℕ)
    (f : FirstOf c kind m) (text : List ℕ) where
  pub part_missing : m ≡ None → first_of kind (parts_at i.words.now text r) ≡ none
  part_missing e = ap (first_of kind) (sym (parts_over i r c d q text)) ∙ first_missing c kind m f text e

  pub part_there : (n : ℕ) → m ≡ Some n → first_of kind (parts_at i.words.now text r) ≡ some (record_at i.words.now text n)
  part_there n e =
      ap (first_of kind) (sym (parts_over i r c d q text)) ∙ first_there c kind m f text n e
      ∙ ap (λ (j : Input). some (record_at j.words.now text n)) d

-- a chain has a record of the kind where there is a first
pub has_found : (c : Chain) (kind : ℕ) (r : Maybe ℕ) → FirstOf c kind r → (text : List ℕ) → is_some r ≡ has kind (trees_over text c)
has_found c kind None f text = sym (has_first kind _ (f.tree text))
has_found c kind (Some n) f text = sym (has_some kind _ _ (f.tree text))

-- a nesting is left for each record, and one less for the chains below it
module _ (r : Record) (nesting : ℕ) (h : depth_of (tree_of r) ≤ nesting) where
  pub some_nesting : 1 ≤ nesting
  unfolding depth_of record_at
  some_nesting = omega (arith, h)

  pub parts_shallow : depths_of (parts_of r) ≤ nesting - 1
  unfolding depth_of record_at
  parts_shallow = omega (arith, h)

  pub contents_shallow : depths_of (contents_of r) ≤ nesting - 1
  unfolding depth_of record_at
  contents_shallow = omega (arith, h)
