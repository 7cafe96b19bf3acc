-- A chain cut at one of its records: the records before it and those behind it.
use Prim.Native.Nat.{ℕ, suc, ◌+◌}
use mathlib.Core.Path.{◌≡◌, refl, sym, ap, subst, ◌∙◌}
use mathlib.Core.Bool.{true}
use mathlib.Core.List.{List, [], ◌∷◌, ◌++◌, map}
use native.Mathlib.Omega.{arith}
use borrow.Author.Tests.{ne_eqb}
use lib.ListN.{length, drop, get_or}
use Rattle.paths_numbers.proofs.Texts.{by_test}
use Rattle.making.specs.machine.Events.{Event, in_chain, last, Numbered, members}
use Rattle.making.proofs.ReadEvents.{numbers_of}

-- lists
heads : {A : Type 0} {a b : A} {l m : List A} → a ∷ l ≡ b ∷ m → a ≡ b
heads {a = a} q = ap (λ (l : List _). get_or l 0 a) q

tails : {A : Type 0} {a b : A} {l m : List A} → a ∷ l ≡ b ∷ m → l ≡ m
tails q = ap (λ (l : List _). drop 1 l) q

not_empty : {A : Type 0} (ns : List A) (r : A) (ms : List A) → [] ≡ ns ++ r ∷ ms → ⊥
not_empty [] r ms q = omega (arith, ap length q)
not_empty (n ∷ ns) r ms q = omega (arith, ap length q)

-- a chain cut at a record, by the numbers
pub record Cut (c k : ℕ) (es : List Event) (ns : List ℕ) (r : ℕ) (ms : List ℕ) : Type 0 where
  pub xs : List Event
  pub event : Event
  pub ys : List Event
  pub is : es ≡ xs ++ event ∷ ys
  pub front : numbers_of (members c k xs) ≡ ns
  pub number : r ≡ k + length xs
  pub within : in_chain c event ≡ true
  pub back : numbers_of (members c (k + length xs + 1) ys) ≡ ms

longer : {c k : ℕ} {es : List Event} {ns : List ℕ} {r : ℕ} {ms : List ℕ} (x : Event) (fs : List ℕ) → Cut c (k + 1) es ns r ms
    → ((zs : List Event) → numbers_of (members c (k + 1) zs) ≡ ns → numbers_of (members c k (x ∷ zs)) ≡ fs) → Cut c k (x ∷ es) fs r ms
longer {c} {k} {ms = ms} x fs t f =
    let z : k + suc (length t.xs) + 1 ≡ k + 1 + length t.xs + 1 = omega arith in
    record {
      xs = x ∷ t.xs;
      event = t.event;
      ys = t.ys;
      is = ap (λ (l : List Event). x ∷ l) t.is;
      front = f t.xs t.front;
      number = omega (arith, t.number);
      within = t.within;
      back = subst (λ (i : ℕ). numbers_of (members c i t.ys) ≡ ms) (sym z) t.back;
    }

pub cut : (c k : ℕ) (es : List Event) (ns : List ℕ) (r : ℕ) (ms : List ℕ) → numbers_of (members c k es) ≡ ns ++ r ∷ ms → Cut c k es ns r ms
unfolding members numbers_of
cut c k [] ns r ms q = absurd (not_empty ns r ms q)
cut c k (x ∷ es) [] r ms q =
    by_test (in_chain c x)
    (λ t.
    let q' : k ∷ numbers_of (members c (k + 1) es) ≡ r ∷ ms = rw t at q in
    let z : k + 0 + 1 ≡ k + 1 = omega arith in
    record {
      xs = [];
      event = x;
      ys = es;
      is = refl;
      front = refl;
      number = sym (heads q')
          ∙ omega arith;
      within = t;
      back = subst (λ (i : ℕ). numbers_of (members c i es) ≡ ms) (sym z) (tails q');
    })
    (λ t. longer x [] (cut c (k + 1) es [] r ms (rw t at q)) (λ zs f. rw t f))
cut c k (x ∷ es) (n ∷ ns) r ms q =
    by_test (in_chain c x)
    (λ t.
    let q' : k ∷ numbers_of (members c (k + 1) es) ≡ n ∷ (ns ++ r ∷ ms) = rw t at q in
    longer x (n ∷ ns) (cut c (k + 1) es ns r ms (tails q')) (λ zs f. rw (t, f, heads q') refl))
    (λ t. longer x (n ∷ ns) (cut c (k + 1) es (n ∷ ns) r ms (rw t at q)) (λ zs f. rw t f))

-- the last record of a chain, by what is made of it
pub record LastOf {B : Type 0} (G : Numbered → B) (c k : ℕ) (es : List Event) (b : B) : Type 0 where
  pub xs : List Event
  pub event : Event
  pub ys : List Event
  pub is : es ≡ xs ++ event ∷ ys
  pub number : last c k es ≡ k + length xs
  pub within : in_chain c event ≡ true
  pub says : G (record { number = k + length xs; event = event }) ≡ b

no_last : {B : Type 0} (G : Numbered → B) (c k : ℕ) (es : List Event) → map G (members c k es) ≡ [] → last c k es ≡ 0
unfolding members last
no_last G c k [] q = refl
no_last G c k (x ∷ es) q =
    by_test (in_chain c x)
    (λ t. absurd (not_empty [] _ _ (sym (rw t at q))))
    (λ t. rw (no_last G c (k + 1) es (rw t at q), t) refl)

last_later : {B : Type 0} {G : Numbered → B} {c k : ℕ} {es : List Event} {b : B} (x : Event) → LastOf G c (k + 1) es b
    → LastOf G c k (x ∷ es) b
unfolding last
last_later {G = G} {c} {k} {es} {b} x t =
    let z : k + 1 + length t.xs ≡ k + suc (length t.xs) = omega arith in
    let n : last c (k + 1) es ≡ 0 → ⊥ = λ y. omega (arith, t.number) in
    record {
      xs = x ∷ t.xs;
      event = t.event;
      ys = t.ys;
      is = ap (λ (l : List Event). x ∷ l) t.is;
      number = rw (ne_eqb _ _ n) (t.number ∙ z);
      within = t.within;
      says = subst (λ (i : ℕ). G (record { number = i; event = t.event }) ≡ b) z t.says;
    }

pub last_of : {B : Type 0} (G : Numbered → B) (c k : ℕ) (es : List Event) (bs : List B) (b : B) → map G (members c k es) ≡ bs ++ b ∷ []
    → LastOf G c k es b
unfolding members last
last_of G c k [] bs b q = absurd (not_empty bs b [] q)
last_of G c k (x ∷ es) [] b q =
    by_test (in_chain c x)
    (λ t.
    let q' : G (record { number = k; event = x }) ∷ map G (members c (k + 1) es) ≡ b ∷ [] = rw t at q in
    let z : k ≡ k + 0 = omega arith in
    record {
      xs = [];
      event = x;
      ys = es;
      is = refl;
      number = rw (no_last G c (k + 1) es (tails q'), t) z;
      within = t;
      says = subst (λ (i : ℕ). G (record { number = i; event = x }) ≡ b) z (heads q');
    })
    (λ t. last_later x (last_of G c (k + 1) es [] b (rw t at q)))
last_of G c k (x ∷ es) (a ∷ bs) b q =
    by_test (in_chain c x)
    (λ t. last_later x (last_of G c (k + 1) es bs b (tails (rw t at q))))
    (λ t. last_later x (last_of G c (k + 1) es (a ∷ bs) b (rw t at q)))
