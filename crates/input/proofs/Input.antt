-- Links that go up: following more of them in a row than there are records changes nothing, so that a chain is its first record and the
-- chain from its next, with no bound on what is followed in sight.
use Prim.Native.Nat.{ℕ, zero, suc, ◌+◌, ◌≤◌, ◌<◌}
use mathlib.Core.Path.{◌≡◌, refl, sym, ◌∙◌}
use mathlib.Core.List.{List, [], ◌∷◌, ◌++◌}
use native.Mathlib.Omega.{arith}
use Rattle.input.specs.meaning.Tree.{empty, more}
use Rattle.input.specs.meaning.Input.{record_count, kind_at, next_at, child_at, second_at, trees_at, chain_at}
use Rattle.input.specs.machine.At.{record_at}
use Rattle.input.specs.meaning.Place.{InputPlace, child_place, second_place}
use Rattle.input.specs.machine.Linked.{Link, Linked, At}
use Rattle.input.specs.meaning.Rows.{visits, visits_from}

-- as many links as can be followed in a row from record r on
abbrev pub Enough : ℕ → List ℕ → ℕ → Type 0
Enough f words r = (r ≡ 0 → ⊥) → record_count words ≤ f + r

-- from no record on there is nothing
no_trees : (f : ℕ) (words text : List ℕ) → trees_at f words text 0 ≡ empty
unfolding trees_at
no_trees zero words text = refl
no_trees (suc f) words text = refl

no_visits : (f : ℕ) (words : List ℕ) (place : InputPlace) (depth : ℕ) → visits f words place depth 0 ≡ []
unfolding visits
no_visits zero words place depth = refl
no_visits (suc f) words place depth = refl

-- a link leaves enough for what it leads to
pub enough : (f : ℕ) (words : List ℕ) (r l : ℕ) → Link words r l → record_count words ≤ suc f + r → Enough f words l
enough f words r l k h = λ n. omega (arith, k.up n)

-- enough is as good as more
pub trees_same : (f g : ℕ) (words text : List ℕ) (r : ℕ) → Linked words → At words r → Enough f words r → Enough g words r
    → trees_at f words text r ≡ trees_at g words text r
unfolding trees_at
trees_same zero g words text zero l a ef eg = no_trees zero words text ∙ sym (no_trees g words text)
trees_same zero g words text (suc r) l a ef eg = absurd (omega (arith, a (λ e. omega arith), ef (λ e. omega arith)))
trees_same (suc f) g words text zero l a ef eg = no_trees (suc f) words text ∙ sym (no_trees g words text)
trees_same (suc f) zero words text (suc r) l a ef eg = absurd (omega (arith, a (λ e. omega arith), eg (λ e. omega arith)))
trees_same (suc f) (suc g) words text (suc r) l a ef eg =
    let k = l.all (suc r) (a (λ e. omega arith)) in
    let hf = ef (λ e. omega arith) in
    let hg = eg (λ e. omega arith) in
    rw (
      trees_same f g words text (child_at words (suc r)) l k.child.within (enough f words _ _ k.child hf)
          (enough g words _ _ k.child hg),
      trees_same f g words text (second_at words (suc r)) l k.second.within (enough f words _ _ k.second hf)
          (enough g words _ _ k.second hg),
      trees_same f g words text (next_at words (suc r)) l k.next.within (enough f words _ _ k.next hf)
          (enough g words _ _ k.next hg),
    )
    refl

pub visits_same : (f g : ℕ) (words : List ℕ) (place : InputPlace) (depth r : ℕ) → Linked words → At words r → Enough f words r
    → Enough g words r
    → visits f words place depth r ≡ visits g words place depth r
unfolding visits
visits_same zero g words place depth zero l a ef eg = no_visits zero words place depth ∙ sym (no_visits g words place depth)
visits_same zero g words place depth (suc r) l a ef eg = absurd (omega (arith, a (λ e. omega arith), ef (λ e. omega arith)))
visits_same (suc f) g words place depth zero l a ef eg = no_visits (suc f) words place depth ∙ sym (no_visits g words place depth)
visits_same (suc f) zero words place depth (suc r) l a ef eg = absurd (omega (arith, a (λ e. omega arith), eg (λ e. omega arith)))
visits_same (suc f) (suc g) words place depth (suc r) l a ef eg =
    let k = l.all (suc r) (a (λ e. omega arith)) in
    let hf = ef (λ e. omega arith) in
    let hg = eg (λ e. omega arith) in
    rw (
      visits_same f g words (child_place (kind_at words (suc r))) (suc depth) (child_at words (suc r)) l k.child.within
          (enough f words _ _ k.child hf) (enough g words _ _ k.child hg),
      visits_same f g words (second_place (kind_at words (suc r))) (suc depth) (second_at words (suc r)) l k.second.within
          (enough f words _ _ k.second hf) (enough g words _ _ k.second hg),
      visits_same f g words place depth (next_at words (suc r)) l k.next.within (enough f words _ _ k.next hf)
          (enough g words _ _ k.next hg),
    )
    refl

-- a chain that no record starts
pub chain_none : (words text : List ℕ) → chain_at words text 0 ≡ empty
unfolding chain_at
chain_none words text = no_trees (record_count words) words text

module _ (words : List ℕ) (l : Linked words) where
  -- one more link in a row than there are records is as good
  chain_more_links : (text : List ℕ) (r : ℕ) → At words r → trees_at (suc (record_count words)) words text r ≡ chain_at words text r
  unfolding chain_at
  chain_more_links text r a = trees_same (suc (record_count words)) (record_count words) words text r l a (λ n. omega arith)
      (λ n. omega arith)

  visits_more_links : (place : InputPlace) (depth r : ℕ) → At words r
      → visits (suc (record_count words)) words place depth r ≡ visits_from words place depth r
  unfolding visits_from
  visits_more_links place depth r a = visits_same (suc (record_count words)) (record_count words) words place depth r l a (λ n. omega arith)
      (λ n. omega arith)

  -- a chain is its first record and the chain from its next
  pub chain_more : (text : List ℕ) (r : ℕ) → (r ≡ 0 → ⊥) → r < record_count words
      → chain_at words text r ≡ more (record_at words text r) (chain_at words text (next_at words r))
  unfolding trees_at chain_at record_at
  chain_more text zero n a = absurd (n refl)
  chain_more text (suc r) n a = sym (chain_more_links text (suc r) (λ z. a))

  -- and its visits are its first record's, those of the chains below it, and those from its next
  pub visits_more : (place : InputPlace) (depth r : ℕ) → (r ≡ 0 → ⊥) → r < record_count words
      → visits_from words place depth r
      ≡ record { number = r; place = place; depth = depth }
      ∷ (visits_from words (child_place (kind_at words r)) (suc depth) (child_at words r)
      ++ (visits_from words (second_place (kind_at words r)) (suc depth) (second_at words r)
      ++ visits_from words place depth (next_at words r)))
  unfolding visits visits_from
  visits_more place depth zero n a = absurd (n refl)
  visits_more place depth (suc r) n a = sym (visits_more_links place depth (suc r) (λ z. a))
