-- What lies at or under what: when, and how paths above paths relate.
use Rattle.std.proofs.Common.{◌≡◌, ℕ, ◌≤◌, Bool, true, false, cond, eqb, ◌⊎◌, ◌↔◌, List, [], ◌∷◌, ◌++◌, length, get_or, drop, sym, refl, ap}
use Rattle.std.proofs.Common.{◌∙◌, inl, inr, ⊎_elim, append_assoc, arith, length-append, eq-eqb, ne_eqb}
use mathlib.Core.List.{head-eq_of_cons-eq, tail-eq_of_cons-eq}
use lib.Seq.{get_or-append_seam}
use Rattle.paths_numbers.specs.meaning.Byte.{slash}
use Rattle.paths_numbers.specs.meaning.Text.{begins, same, is_empty, starts_with}
use Rattle.paths_numbers.specs.meaning.Path.{root, strip, is_found, if_slash, at_or_under, join, joined, with_unit}
use Rattle.paths_numbers.proofs.Texts.{by_test, both, not_both, same_true, same_refl, begins_same, begins_split, begins_append}
use Rattle.paths_numbers.proofs.Texts.{begins_length, starts_split, starts_append}
use Rattle.paths_numbers.proofs.Strip.{under_tests}

-- "/ab" does not lie under "/a"
pub ab_not_under_a : at_or_under (slash ∷ 97 ∷ 98 ∷ []) (slash ∷ 97 ∷ []) ≡ false
unfolding at_or_under strip same begins starts_with
ab_not_under_a = refl

-- "" does not lie under "/"
pub empty_not_under_root : at_or_under [] root ≡ false
unfolding at_or_under strip same begins starts_with
empty_not_under_root = refl

-- what lies at or under a base begins with it
pub under_begins : (p b : List ℕ) → at_or_under p b ≡ true → begins p b ≡ true
under_begins p b u = (both (begins p b) _ (sym (under_tests p b) ∙ u)).0

-- and is not shorter
pub under_length : (p b : List ℕ) → at_or_under p b ≡ true → length b ≤ length p
under_length p b u = begins_length p b (under_begins p b u)

-- a path lies at or under itself
pub under_refl : (p : List ℕ) → at_or_under p p ≡ true
unfolding at_or_under strip
under_refl p = rw (same_refl p) refl

-- what an end that must start with "/" finds
found_slash : (s : List ℕ) → is_found (if_slash s) ≡ starts_with slash s
found_slash s = by_test (starts_with slash s) (λ e. rw e refl) (λ e. rw e refl)

-- at or under "/" lies what starts with "/"
pub under_root : (p : List ℕ) → at_or_under p root ≡ starts_with slash p
unfolding at_or_under strip same starts_with
under_root [] = refl
under_root (a ∷ []) = by_test (eqb a slash) (λ e. rw e refl) (λ e. rw e refl)
under_root (a ∷ a' ∷ s) = by_test (eqb a slash) (λ e. rw e refl) (λ e. rw e refl)

-- at or under "" lies what is empty or starts with "/"
pub under_empty : (p : List ℕ) → at_or_under p [] ≡ cond (is_empty p) true (starts_with slash p)
unfolding at_or_under strip same begins is_empty
under_empty [] = refl
under_empty (a ∷ s) = found_slash (a ∷ s)

-- a path lies under what stands before one of its "/"
pub under_below : (b rest : List ℕ) → at_or_under (b ++ slash ∷ rest) b ≡ true
under_below b rest =
    let n : length (b ++ slash ∷ rest) ≡ length b → ⊥ = λ e. omega (arith, length-append b (slash ∷ rest)) in
    let g : eqb (get_or (b ++ slash ∷ rest) (length b) 0) slash ≡ true = eq-eqb _ _ (get_or-append_seam b slash rest 0) in
    under_tests (b ++ slash ∷ rest) b
    ∙ by_test (same b root)
    (λ r. simp (begins_append b (slash ∷ rest), ne_eqb _ _ n, r))
    (λ r. simp (begins_append b (slash ∷ rest), ne_eqb _ _ n, r, g))

-- the three ways in which p lies at or under b
pub data Under (p b : List ℕ) : Type 0 where
  whole : p ≡ b → Under p b
  below_root : b ≡ root → starts_with slash p ≡ true → Under p b
  below : (rest : List ℕ) → p ≡ b ++ slash ∷ rest → Under p b

-- which of them, by the tests of stripping
ways : (p b : List ℕ) → at_or_under p b ≡ true → (x y z : Bool) → same p b ≡ x → same b root ≡ y → begins p b ≡ z → Under p b
unfolding at_or_under strip
ways p b u true y z e r g = whole (same_true p b e)
ways p b u false true z e r g = below_root (same_true b root r) (sym (found_slash p) ∙ rw (e, r) at u)
ways p b u false false true e r g =
    let q = drop (length b) p in
    let s = sym (found_slash q) ∙ rw (e, r, g) at u in
    below (drop 1 q) (begins_split p b g ∙ ap (λ (t : List ℕ). b ++ t) (starts_split slash q s))
ways p b u false false false e r g = absurd (not_both (rw (e, r, g) at u) refl)

-- what lies at or under b does so in one of these ways
pub under_ways : (p b : List ℕ) → at_or_under p b ≡ true → Under p b
under_ways p b u = ways p b u _ _ _ refl refl refl

-- what does so in one of these ways lies at or under b
pub under_by : {p b : List ℕ} → Under p b → at_or_under p b ≡ true
under_by {p} {b} (whole e) = rw e (under_refl b)
under_by {p} {b} (below_root e s) = rw e (under_root p ∙ s)
under_by {p} {b} (below rest e) = rw e (under_below b rest)

-- both in one
pub under_spec : (p b : List ℕ) → (at_or_under p b ≡ true) ↔ Under p b
under_spec p b = (under_ways p b, under_by)

-- only "" stands before a "/" of "/"
above_root : (b rest : List ℕ) → root ≡ b ++ slash ∷ rest → b ≡ []
above_root [] rest e = refl
above_root (a ∷ b) rest e = absurd (omega (arith, ap length e, length-append b (slash ∷ rest)))

-- one way after another
chain : {p b c : List ℕ} → Under p b → Under b c → Under p c
chain (whole e) v = rw e v
chain (below_root e s) (whole f) = below_root (sym f ∙ e) s
chain (below_root e s) (below_root f t) = below_root f s
chain {p} {b} {c} (below_root e s) (below rest f) = below (drop 1 p) (rw (above_root c rest (sym e ∙ f)) (starts_split slash p s))
chain (below rest e) (whole f) = below rest (rw f at e)
chain {p} {b} {c} (below rest e) (below_root f t) = below_root f (rw e (starts_append slash b (slash ∷ rest) t))
chain {p} {b} {c} (below rest e) (below more f) = below (more ++ slash ∷ rest) (rw (e, f) (append_assoc c (slash ∷ more) (slash ∷ rest)))

-- what lies at or under what lies at or under c lies at or under c
pub under_trans : (p b c : List ℕ) → at_or_under p b ≡ true → at_or_under b c ≡ true → at_or_under p c ≡ true
under_trans p b c u v = under_by (chain (under_ways p b u) (under_ways b c v))

-- two paths at or under each other are one
pub under_antisym : (p b : List ℕ) → at_or_under p b ≡ true → at_or_under b p ≡ true → p ≡ b
under_antisym p b u v =
    let h : length p ≡ length b = omega (arith, under_length p b u, under_length b p v) in
    same_true p b (sym (begins_same p b h) ∙ under_begins p b u)

-- how two texts relate that each stand before a "/" of one text
data Line (a b : List ℕ) : Type 0 where
  level : a ≡ b → Line a b
  first : (rest : List ℕ) → a ≡ b ++ slash ∷ rest → Line a b
  second : (rest : List ℕ) → b ≡ a ++ slash ∷ rest → Line a b

-- the same behind one byte more
line_cons : {a b : List ℕ} (x : ℕ) → Line a b → Line (x ∷ a) (x ∷ b)
line_cons x (level e) = level (ap (λ (s : List ℕ). x ∷ s) e)
line_cons x (first rest e) = first rest (ap (λ (s : List ℕ). x ∷ s) e)
line_cons x (second rest e) = second rest (ap (λ (s : List ℕ). x ∷ s) e)

-- and so they do
line : (a b r t : List ℕ) → a ++ slash ∷ r ≡ b ++ slash ∷ t → Line a b
line [] [] r t e = level refl
line [] (y ∷ b) r t e = second b (rw (head-eq_of_cons-eq e) refl)
line (x ∷ a) [] r t e = first a (rw (head-eq_of_cons-eq e) refl)
line (x ∷ a) (y ∷ b) r t e = rw (head-eq_of_cons-eq e) (line_cons y (line a b r t (tail-eq_of_cons-eq e)))

-- what stands before a "/" of a text that starts with "/" is "" or starts with "/"
line_root : (p b rest : List ℕ) → starts_with slash p ≡ true → p ≡ b ++ slash ∷ rest → Under root b ⊎ Under b root
unfolding starts_with
line_root p [] rest s e = inl (below [] refl)
line_root p (x ∷ b) rest s e = inr (below_root refl (rw e at s))

-- so that one lies at or under the other
line_under : {a b : List ℕ} → Line a b → Under a b ⊎ Under b a
line_under (level e) = inl (whole e)
line_under (first rest e) = inl (below rest e)
line_under (second rest e) = inr (below rest e)

-- in each way
compare : {p a b : List ℕ} → Under p a → Under p b → Under a b ⊎ Under b a
compare (whole e) v = inl (rw e at v)
compare {p} {a} {b} (below_root e s) (whole f) = inr (below_root e (rw f at s))
compare (below_root e s) (below_root f t) = inl (whole (e ∙ sym f))
compare {p} {a} {b} (below_root e s) (below rest f) = rw e (line_root p b rest s f)
compare (below rest e) (whole f) = inr (below rest (sym f ∙ e))
compare {p} {a} {b} (below rest e) (below_root f t) = rw f (⊎_elim inr inl (line_root p a rest t e))
compare {p} {a} {b} (below r e) (below t f) = line_under (line a b r t (sym e ∙ f))

-- of two paths that one path lies at or under, one lies at or under the other
pub under_comparable : (p a b : List ℕ) → at_or_under p a ≡ true → at_or_under p b ≡ true → (at_or_under a b ≡ true) ⊎ (at_or_under b a ≡ true)
under_comparable p a b u v = ⊎_elim (λ x. inl (under_by x)) (λ x. inr (under_by x)) (compare (under_ways p a u) (under_ways p b v))

-- a name's path lies under its parent's
pub under_join : (parent name : List ℕ) → same name root ≡ false → at_or_under (join parent name) parent ≡ true
unfolding join starts_with
under_join parent name n =
    by_test (same parent root)
    (λ r. rw (n, r, same_true parent root r) (under_root (slash ∷ name)))
    (λ r. rw (n, r) (under_below parent name))

-- also with a unit address
pub under_joined : (parent name unit : List ℕ) → same (with_unit name unit) root ≡ false → at_or_under (joined parent name unit) parent ≡ true
unfolding joined
under_joined parent name unit n = under_join parent (with_unit name unit) n
