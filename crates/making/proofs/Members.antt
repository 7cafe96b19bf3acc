-- The records of a chain, and what they say, when the list of records grows or loses some: what is not in the chain does not count.
use Prim.Native.Nat.{ℕ, suc, ◌+◌}
use mathlib.Core.Path.{◌≡◌, refl}
use mathlib.Core.Bool.{true, false}
use mathlib.Core.List.{List, [], ◌∷◌, ◌++◌, map}
use native.Mathlib.Omega.{arith}
use borrow.Author.Tests.{eqb-true}
use lib.ListN.{length}
use Rattle.paths_numbers.proofs.Texts.{by_test, both}
use Rattle.making.specs.machine.Events.{Event, defs_of, children_of, in_chain, first, last, Numbered, members, below, value_of}
use Rattle.making.specs.machine.Events.{def_value_of, def_of, defs_in}
use Rattle.making.specs.machine.Represents.{Out, Each, each_none, each_next}
use Rattle.making.specs.machine.Whole.{At, at_here, at_later}

-- records behind that are in other chains
pub first_before : (c k : ℕ) (xs ys : List Event) → Each (Out c) (k + length xs) ys → first c k (xs ++ ys) ≡ first c k xs
unfolding first
first_before c k [] [] h = refl
first_before c k [] (y ∷ ys) (each_next t h) =
    let z : k + 0 + 1 ≡ k + 1 + 0 = omega arith in
    rw t (first_before c (k + 1) [] ys (rw z at h))
first_before c k (x ∷ xs) ys h =
    let z : k + suc (length xs) ≡ k + 1 + length xs = omega arith in
    rw (first_before c (k + 1) xs ys (rw z at h)) refl

pub last_before : (c k : ℕ) (xs ys : List Event) → Each (Out c) (k + length xs) ys → last c k (xs ++ ys) ≡ last c k xs
unfolding last
last_before c k [] [] h = refl
last_before c k [] (y ∷ ys) (each_next t h) =
    let z : k + 0 + 1 ≡ k + 1 + 0 = omega arith in
    let i = last_before c (k + 1) [] ys (rw z at h) in
    rw (t, i) refl
last_before c k (x ∷ xs) ys h =
    let z : k + suc (length xs) ≡ k + 1 + length xs = omega arith in
    rw (last_before c (k + 1) xs ys (rw z at h)) refl

pub members_before : (c k : ℕ) (xs ys : List Event) → Each (Out c) (k + length xs) ys → members c k (xs ++ ys) ≡ members c k xs
unfolding members
members_before c k [] [] h = refl
members_before c k [] (y ∷ ys) (each_next t h) =
    let z : k + 0 + 1 ≡ k + 1 + 0 = omega arith in
    rw t (members_before c (k + 1) [] ys (rw z at h))
members_before c k (x ∷ xs) ys h =
    let z : k + suc (length xs) ≡ k + 1 + length xs = omega arith in
    rw (members_before c (k + 1) xs ys (rw z at h)) refl

-- one record more in the chain
pub members_more : (c k : ℕ) (es : List Event) (e : Event) → in_chain c e ≡ true
    → members c k (es ++ e ∷ []) ≡ members c k es ++ record { number = k + length es; event = e } ∷ []
unfolding members
members_more c k [] e t = let z : k + 0 ≡ k = omega arith in rw (t, z) refl
members_more c k (x ∷ es) e t =
    let z : k + suc (length es) ≡ k + 1 + length es = omega arith in
    let h = members_more c (k + 1) es e t in
    by_test (in_chain c x) (λ u. rw (u, z, h) refl) (λ u. rw (u, z, h) refl)

-- and in another
pub members_other : (c k : ℕ) (es : List Event) (e : Event) → in_chain c e ≡ false → members c k (es ++ e ∷ []) ≡ members c k es
members_other c k es e t = members_before c k es (e ∷ []) (each_next t each_none)

-- what is so of each record of a chain is so of all that is made of them
pub map_members : {B : Type 0} (f g : Numbered → B) (c k : ℕ) (es : List Event)
    → ((r : ℕ) (e : Event) → At k es r e → e.alive ≡ true → e.chain ≡ c
    → f (record { number = r; event = e }) ≡ g (record { number = r; event = e }))
    → map f (members c k es) ≡ map g (members c k es)
unfolding members
map_members f g c k [] h = refl
map_members f g c k (x ∷ es) h =
    let more = map_members f g c (k + 1) es (λ r e a t q. h r e (at_later a) t q) in
    by_test (in_chain c x)
    (λ t.
    let b = both x.alive _ t in
    rw t (cc (h k x at_here b.0 (eqb-true _ _ b.1), more)))
    (λ t. rw t more)

-- the same children below each record, but for those of some
abbrev pub SameBelow : (ℕ → Type 0) → List Event → List Event → Type 0
SameBelow other es fs = (r : ℕ) → (other r → ⊥) → below fs r ≡ below es r

module _ (other : ℕ → Type 0) (es fs : List Event) (same : SameBelow other es fs) where
  -- a value, a definition
  pub value_same : (r : ℕ) (e : Event) → (other r → ⊥) → value_of fs (record { number = r; event = e }) ≡ value_of es
      (record { number = r; event = e })
  unfolding value_of
  value_same r e n = rw (same r n) refl

  pub def_same : (r : ℕ) (e : Event) → (other r → ⊥) → ((v : ℕ) (x : Event) → At 1 es v x → x.alive ≡ true → x.chain ≡ children_of r
      → other v → ⊥)
      → def_of fs (record { number = r; event = e }) ≡ def_of es (record { number = r; event = e })
  unfolding def_of def_value_of
  def_same r e n m =
      let vs = map_members (value_of fs) (value_of es) (children_of r) 1 es (λ v x a t q. value_same v x (m v x a t q)) in
      rw (same r n, vs) refl

  -- the definitions of a log whose chain is the same
  pub defs_same : (l : ℕ) → members (defs_of l) 1 fs ≡ members (defs_of l) 1 es
      → ((r : ℕ) (e : Event) → At 1 es r e → e.alive ≡ true → e.chain ≡ defs_of l → other r → ⊥)
      → ((r v : ℕ) (e x : Event) → At 1 es r e → e.alive ≡ true → e.chain ≡ defs_of l → At 1 es v x → x.alive ≡ true
      → x.chain ≡ children_of r → other v → ⊥)
      → defs_in l fs ≡ defs_in l es
  unfolding defs_in
  defs_same l q n m =
      rw q (map_members (def_of fs) (def_of es) (defs_of l) 1 es (λ r e a t c. def_same r e (n r e a t c)
      (λ v x b u d. m r v e x a t c b u d)))
