-- The records of a chain by their numbers: none from no record on, else a record and those from its next; and their trees are the chain.
use Prim.Native.Nat.{ℕ, zero, suc, ◌<◌}
use mathlib.Core.Path.{◌≡◌, refl, sym, ap, ◌∙◌}
use mathlib.Core.List.{List, [], ◌∷◌}
use native.Mathlib.Omega.{arith}
use Rattle.input.specs.meaning.Input.{record_count, next_at, child_at, chain_at, parts_at}
use Rattle.input.specs.machine.At.{record_at}
use Rattle.input.specs.machine.Linked.{Linked, At}
use Rattle.input.specs.machine.ChainLeft.{numbers_at, numbers_from, trees_of, AreRecords, trees_over, trees_left}
use Rattle.input.specs.declared.linked.Chain.{Chain}
use Rattle.input.specs.declared.linked.Input.{Input}
use Rattle.input.specs.meaning.Tree.{Trees, more}
use Rattle.input.proofs.Input.{Enough, enough, chain_none, chain_more}

no_numbers : (f : ℕ) (words : List ℕ) → numbers_at f words 0 ≡ []
unfolding numbers_at
no_numbers zero words = refl
no_numbers (suc f) words = refl

-- enough is as good as more
numbers_same : (f g : ℕ) (words : List ℕ) (r : ℕ) → Linked words → At words r → Enough f words r → Enough g words r
    → numbers_at f words r ≡ numbers_at g words r
unfolding numbers_at
numbers_same zero g words zero l a ef eg = no_numbers zero words ∙ sym (no_numbers g words)
numbers_same zero g words (suc r) l a ef eg = absurd (omega (arith, a (λ e. omega arith), ef (λ e. omega arith)))
numbers_same (suc f) g words zero l a ef eg = no_numbers (suc f) words ∙ sym (no_numbers g words)
numbers_same (suc f) zero words (suc r) l a ef eg = absurd (omega (arith, a (λ e. omega arith), eg (λ e. omega arith)))
numbers_same (suc f) (suc g) words (suc r) l a ef eg =
    let k = (l.all (suc r) (a (λ e. omega arith))).next in
    ap (λ (x : List ℕ). suc r ∷ x)
    (numbers_same f g words (next_at words (suc r)) l k.within (enough f words _ _ k (ef (λ e. omega arith)))
    (enough g words _ _ k (eg (λ e. omega arith))))

pub numbers_none : (words : List ℕ) (r : ℕ) → r ≡ 0 → numbers_from words r ≡ []
unfolding numbers_from
numbers_none words r e = rw e (no_numbers (record_count words) words)

module _ (words : List ℕ) (l : Linked words) where
  pub numbers_more : (r : ℕ) → (r ≡ 0 → ⊥) → r < record_count words → numbers_from words r ≡ r ∷ numbers_from words (next_at words r)
  unfolding numbers_at numbers_from
  numbers_more zero n a = absurd (n refl)
  numbers_more (suc r) n a =
      sym (numbers_same (suc (record_count words)) (record_count words) words (suc r) l (λ z. a) (λ z. omega arith) (λ z. omega arith))

  -- the trees of a chain's records are the chain
  trees_to : (f : ℕ) (text : List ℕ) (r : ℕ) → At words r → Enough f words r
      → trees_of words text (numbers_at f words r) ≡ chain_at words text r
  unfolding numbers_at
  trees_to zero text zero a e = sym (chain_none words text)
  trees_to zero text (suc r) a e = absurd (omega (arith, a (λ z. omega arith), e (λ z. omega arith)))
  trees_to (suc f) text zero a e = sym (chain_none words text)
  trees_to (suc f) text (suc r) a e =
      let b = a (λ z. omega arith) in
      let k = (l.all (suc r) b).next in
      ap (λ (x : Trees). more (record_at words text (suc r)) x)
      (trees_to f text (next_at words (suc r)) k.within (enough f words _ _ k (e (λ z. omega arith))))
      ∙ sym (chain_more words l text (suc r) (λ z. omega arith) b)

  pub chain_is : (text : List ℕ) (r : ℕ) → At words r → trees_of words text (numbers_from words r) ≡ chain_at words text r
  unfolding numbers_from
  chain_is text r a = trees_to (record_count words) text r a (λ z. omega arith)

  -- and those records are there
  records_to : (f r : ℕ) → At words r → AreRecords words (numbers_at f words r)
  unfolding numbers_at
  records_to zero r a = tt
  records_to (suc f) zero a = tt
  records_to (suc f) (suc r) a =
      let b = a (λ z. omega arith) in
      ((λ z. omega arith, b), records_to f (next_at words (suc r)) (l.all (suc r) b).next.within)

  pub are_records : (r : ℕ) → At words r → AreRecords words (numbers_from words r)
  unfolding numbers_from
  are_records r a = records_to (record_count words) r a

-- the chain of a record's children
pub parts_over : (i : Input) (r : ℕ) (c : Chain) → c.input ≡ i → c.next ≡ child_at i.words.now r → (text : List ℕ)
    → trees_over text c ≡ parts_at i.words.now text r
parts_over i r c d e text = rw (d, e) refl

pub parts_left : (i : Input) (r : ℕ) (c : Chain) → c.input ≡ i → c.next ≡ child_at i.words.now r
    → trees_left c ≡ parts_at i.words.now i.text.now r
parts_left i r c d e = rw (d, e) refl
