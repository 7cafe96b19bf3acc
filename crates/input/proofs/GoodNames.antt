-- Names that keep row 5's rule: none is empty or has a "/", so that a path that a name gives lies under its parent's.
use Prim.Native.Nat.{ℕ}
use mathlib.Core.Path.{◌≡◌, refl}
use mathlib.Core.Bool.{true, false, cond}
use mathlib.Core.List.{List, [], ◌∷◌, ◌++◌}
use mathlib.Core.Option.{Option, some, none}
use native.Mathlib.Omega.{arith}
use borrow.Author.Tests.{not-true}
use lib.Dec.{eqb}
use Rattle.paths_numbers.specs.meaning.Byte.{slash, at_sign}
use Rattle.paths_numbers.specs.meaning.Text.{same, is_empty}
use Rattle.paths_numbers.specs.meaning.Path.{root, join, with_unit, at_or_under}
use Rattle.paths_numbers.proofs.Texts.{by_test, not_both, both}
use Rattle.paths_numbers.proofs.Good.{without_slash, plain_not_root, unit_filled, unit_plain}
use Rattle.paths_numbers.proofs.Under.{under_trans, under_join}
use Rattle.paths_numbers.specs.meaning.Lists.{any}
use Rattle.input.specs.meaning.Tree.{Tree, Trees, tree, empty, more, kind_of, text_of, children_of, first_of, has, name_kind}
use Rattle.input.specs.meaning.Tree.{unit_address_kind, macro_kind}
use Rattle.input.specs.meaning.Name.{name_or, name_or_macro, with_address, addressed, full_name}
use Rattle.input.specs.meaning.GoodName.{good_name, good_names, good_names_in}

-- nothing is both there and not
pub never : {A : Type 0} {B : Type 0} {a : A} → none ≡ some a → B
never e = let z : ◌≡◌ {A = ℕ} 0 1 = cc in absurd (omega arith)

-- the first part of a kind, where there is one
pub first_none : (k : ℕ) (ts : Trees) → has k ts ≡ false → first_of k ts ≡ none
unfolding has first_of
first_none k empty e = refl
first_none k (more t ts) e =
    by_test (eqb (kind_of t) k) (λ q. absurd (not_both {t = true} refl (rw q at e))) (λ q. rw q (first_none k ts (rw q at e)))

pub first_some : (k : ℕ) (ts : Trees) → has k ts ≡ true → (t : Tree) × (first_of k ts ≡ some t)
unfolding has first_of
first_some k empty e = absurd (not_both {t = false} e refl)
first_some k (more t ts) e =
    by_test (eqb (kind_of t) k) (λ q. (t, rw q refl))
    (λ q. let h = first_some k ts (rw q at e) in (h.0, rw q h.1))

-- its name is good, and so are the names below it
good_text : (t : Tree) → good_names t ≡ true → eqb (kind_of t) name_kind ≡ true → good_name (text_of t) ≡ true
unfolding good_names
good_text (tree k text w span parts second) g e = rw e at (both (cond (eqb k name_kind) (good_name text) true) _ g).0

pub good_below : (t : Tree) → good_names t ≡ true → good_names_in (children_of t) ≡ true
unfolding good_names
good_below (tree k text w span parts second) g =
    (both (good_names_in parts) (good_names_in second) (both (cond (eqb k name_kind) (good_name text) true) _ g).1).0

pub good_second : (k : ℕ) (text : List ℕ) (w : ℕ) (span : _) (parts second : Trees) → good_names (tree k text w span parts second) ≡ true
    → good_names_in second ≡ true
unfolding good_names
good_second k text w span parts second g =
    (both (good_names_in parts) (good_names_in second) (both (cond (eqb k name_kind) (good_name text) true) _ g).1).1

pub good_parts : (k : ℕ) (text : List ℕ) (w : ℕ) (span : _) (parts second : Trees) → good_names (tree k text w span parts second) ≡ true
    → good_names_in parts ≡ true
good_parts k text w span parts second g = good_below (tree k text w span parts second) g

pub first_good : (ts : Trees) (t : Tree) (k : ℕ) → good_names_in ts ≡ true → first_of k ts ≡ some t
    → (good_names t ≡ true) × (eqb (kind_of t) k ≡ true)
unfolding good_names_in first_of
first_good empty t k g e = never e
first_good (more x ts) t k g e =
    let h = both (good_names x) (good_names_in ts) g in
    by_test (eqb (kind_of x) k)
    (λ q. let y : x ≡ t = cc (rw q at e) in (rw y at h.0, rw y at q))
    (λ q. first_good ts t k h.1 (rw q at e))

-- a name that is not empty and has no "/"
pub record Plain (name : List ℕ) : Type 0 where
  pub filled : is_empty name ≡ false
  pub slashless : without_slash name ≡ true

no_slash : (s : List ℕ) → any (λ (c : ℕ). eqb c slash) s ≡ false → without_slash s ≡ true
unfolding any without_slash
no_slash [] e = refl
no_slash (b ∷ s) e =
    by_test (eqb b slash) (λ q. absurd (not_both {t = true} refl (rw q at e))) (λ q. rw q (no_slash s (rw q at e)))

good_plain : (s : List ℕ) → good_name s ≡ true → Plain s
unfolding is_empty
good_plain [] g = absurd (not_both {t = false} g refl)
good_plain (b ∷ s) g = record { filled = refl; slashless = no_slash (b ∷ s) (not-true _ g) }

-- the first name of a chain of parts
pub first_plain : (ts : Trees) (n : Tree) → good_names_in ts ≡ true → first_of name_kind ts ≡ some n → Plain (text_of n)
first_plain ts n g e = let h = first_good ts n name_kind g e in good_plain (text_of n) (good_text n h.0 h.1)

-- the name that they give
pub name_plain : (ts : Trees) (name : List ℕ) → good_names_in ts ≡ true → (name_or_macro ts).result ≡ some name → Plain name
unfolding name_or_macro
name_plain ts name g e = go (first_of name_kind ts) (first_of macro_kind ts) refl e
  where
    go : (o m : Option Tree) → first_of name_kind ts ≡ o → (name_or o m).result ≡ some name → Plain name
    go (some n) m q r =
        let y : text_of n ≡ name = cc r in
        rw (← y) (first_plain ts n g q)
    go none (some m) q r = never r
    go none none q r = never r

-- and with its unit address
address_plain : (n u : Option (List ℕ)) (name : List ℕ) → ((x : List ℕ) → n ≡ some x → Plain x) → ((y : List ℕ) → u ≡ some y → Plain y)
    → with_address n u ≡ some name → Plain name
unfolding with_unit
address_plain (some x) (some y) name h k e =
    let q : x ++ at_sign ∷ y ≡ name = cc e in
    let v = h x refl in
    let w = k y refl in
    rw (← q)
    (record {
      filled = rw w.filled at (unit_filled x y v.filled);
      slashless = rw w.filled at (unit_plain x y v.slashless w.slashless);
    })
address_plain (some x) none name h k e = never e
address_plain none u name h k e = never e

-- the name of what has good names
pub full_plain : (parts : Trees) (name : List ℕ) → good_names_in parts ≡ true → (full_name parts).result ≡ some name → Plain name
unfolding full_name
full_plain parts name g e = go (first_of unit_address_kind parts) refl e
  where
    go : (o : Option Tree) → first_of unit_address_kind parts ≡ o → (addressed (name_or_macro parts) o).result ≡ some name → Plain name
    go none q r = name_plain parts name g r
    go (some u) q r =
        let h = good_below u (first_good parts u unit_address_kind g q).0 in
        address_plain (name_or_macro parts).result (name_or_macro (children_of u)).result name (λ x. name_plain parts x g)
        (λ y. name_plain (children_of u) y h) r

pub full_good : (parts : Trees) (name : List ℕ) → good_names_in parts ≡ true → (full_name parts).result ≡ some name → same name root ≡ false
full_good parts name g e = plain_not_root name (full_plain parts name g e).slashless

-- so its path lies at or under what its parent's does
pub full_under : (new parent : List ℕ) (parts : Trees) (name : List ℕ) → good_names_in parts ≡ true → (full_name parts).result ≡ some name
    → at_or_under parent new ≡ true → at_or_under (join parent name) new ≡ true
full_under new parent parts name g e u =
    under_trans (join parent name) parent new (under_join parent name (full_good parts name g e)) u

-- a good first name's likewise
pub first_under : (new parent : List ℕ) (parts : Trees) (n : Tree) → good_names_in parts ≡ true → first_of name_kind parts ≡ some n
    → at_or_under parent new ≡ true → at_or_under (join parent (text_of n)) new ≡ true
first_under new parent parts n g e u =
    let q = plain_not_root (text_of n) (first_plain parts n g e).slashless in
    under_trans (join parent (text_of n)) parent new (under_join parent (text_of n) q) u

-- a joined path is not empty
append_filled : (p : List ℕ) (b : ℕ) (s : List ℕ) → is_empty (p ++ b ∷ s) ≡ false
unfolding is_empty
append_filled [] b s = refl
append_filled (a ∷ p) b s = refl

pub join_filled : (parent name : List ℕ) → is_empty (join parent name) ≡ false
unfolding join is_empty
join_filled parent name =
    by_test (same name root) (λ e. rw e refl)
    (λ e. by_test (same parent root) (λ q. rw (e, q) refl) (λ q. rw (e, q) (append_filled parent slash name)))
