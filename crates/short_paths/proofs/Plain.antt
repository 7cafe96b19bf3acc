-- Where a path has no unit address to leave out, only itself means it.
use Prim.Native.Nat.{ℕ}
use mathlib.Core.Path.{◌≡◌, refl, sym, ap, ◌∙◌}
use mathlib.Core.Bool.{true, false}
use mathlib.Core.List.{List, [], ◌∷◌, ◌++◌}
use native.Mathlib.Omega.{arith}
use borrow.Author.Tests.{eqb-true}
use lib.Dec.{eqb}
use Rattle.paths_numbers.specs.meaning.Byte.{slash, at_sign}
use Rattle.paths_numbers.specs.meaning.Text.{same}
use Rattle.paths_numbers.specs.meaning.Lists.{any}
use Rattle.paths_numbers.proofs.Texts.{by_test, not_both, both, same_true}
use Rattle.short_paths.specs.meaning.Short.{before_at, has_at, component_matches, onto, split, all_match, may_mean}

-- components
before_plain : (d : List ℕ) → has_at d ≡ false → before_at d ≡ d
unfolding before_at any
before_plain [] h = refl
before_plain (b ∷ s) h =
    by_test (eqb b at_sign)
    (λ t. absurd (not_both (rw t refl) h))
    (λ t. rw t (ap (λ (l : List ℕ). b ∷ l) (before_plain s (rw t at h))))

matches_plain : (c d : List ℕ) → has_at d ≡ false → component_matches c d ≡ same c d
unfolding component_matches
matches_plain c d h = by_test (has_at c) (λ t. rw t refl) (λ t. rw (t, before_plain d h) refl)

all_equal : (cs ds : List (List ℕ)) → any has_at ds ≡ false → all_match cs ds ≡ true → cs ≡ ds
unfolding all_match any
all_equal [] [] h m = refl
all_equal [] (d ∷ ds) h m = absurd (not_both m refl)
all_equal (c ∷ cs) [] h m = absurd (not_both m refl)
all_equal (c ∷ cs) (d ∷ ds) h m =
    by_test (has_at d)
    (λ t. absurd (not_both (rw t refl) h))
    (λ t.
    let q = both (component_matches c d) (all_match cs ds) m in
    let e : c ≡ d = same_true c d (sym (matches_plain c d t) ∙ q.0) in
    let i : cs ≡ ds = all_equal cs ds (rw t at h) q.1 in
    rw (e, i) refl)

-- a path is its components again
join_parts : List (List ℕ) → List ℕ
join_parts [] = []
join_parts (c ∷ []) = c
join_parts (c ∷ d ∷ ds) = c ++ slash ∷ join_parts (d ∷ ds)

joined_onto : (b : ℕ) (l : List (List ℕ)) → join_parts (onto b l) ≡ b ∷ join_parts l
unfolding join_parts
joined_onto b [] = refl
joined_onto b (c ∷ []) = refl
joined_onto b (c ∷ d ∷ ds) = refl

split_more : (s : List ℕ) → split s ≡ [] → ⊥
unfolding split
split_more [] e = let z : ◌≡◌ {A = ℕ} 0 1 = cc in omega arith
split_more (b ∷ s) e =
    by_test (eqb b slash)
    (λ t. let z : ◌≡◌ {A = ℕ} 0 1 = cc (rw t at e) in omega arith)
    (λ t. split_onto (split s) (rw t at e))
  where
    split_onto : (l : List (List ℕ)) → onto b l ≡ [] → ⊥
    split_onto [] q = let z : ◌≡◌ {A = ℕ} 0 1 = cc in omega arith
    split_onto (c ∷ cs) q = let z : ◌≡◌ {A = ℕ} 0 1 = cc in omega arith

joined_behind : (l : List (List ℕ)) → (l ≡ [] → ⊥) → join_parts ([] ∷ l) ≡ slash ∷ join_parts l
unfolding join_parts
joined_behind [] n = absurd (n refl)
joined_behind (c ∷ cs) n = refl

joined_split : (p : List ℕ) → join_parts (split p) ≡ p
unfolding join_parts split
joined_split [] = refl
joined_split (b ∷ s) =
    by_test (eqb b slash)
    (λ t. let e : b ≡ slash = eqb-true b slash t in
    rw t (joined_behind (split s) (split_more s) ∙ rw (joined_split s, e) refl))
    (λ t. rw t (joined_onto b (split s) ∙ rw (joined_split s) refl))

-- its components have no address either
onto_plain : (b : ℕ) (l : List (List ℕ)) → eqb b at_sign ≡ false → any has_at l ≡ false → any has_at (onto b l) ≡ false
unfolding any
onto_plain b [] e h = rw e refl
onto_plain b (c ∷ cs) e h = rw e h

split_plain : (q : List ℕ) → has_at q ≡ false → any has_at (split q) ≡ false
unfolding split any
split_plain [] h = refl
split_plain (b ∷ s) h =
    by_test (eqb b at_sign)
    (λ t. absurd (not_both (rw t refl) h))
    (λ t.
    let i = split_plain s (rw t at h) in
    by_test (eqb b slash) (λ u. rw u i) (λ u. rw u (onto_plain b (split s) t i)))

pub means_itself : (p q : List ℕ) → has_at q ≡ false → may_mean p q ≡ true → p ≡ q
unfolding may_mean
means_itself p q h m =
    sym (joined_split p) ∙ ap join_parts (all_equal (split p) (split q) (split_plain q h) m) ∙ joined_split q
