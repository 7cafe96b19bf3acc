-- What stripping a base from a path comes to by the tests that the code makes.
use Rattle.std.proofs.Common.{◌≡◌, ℕ, ◌<◌, ◌≤◌, Bool, true, false, cond, eqb, List, [], ◌∷◌, length, get_or, drop, sym, refl, ap, ◌∙◌}
use Rattle.std.proofs.Common.{arith, eqb-true, eq-eqb, ne_eqb}
use borrow.Author.Tests.{eqb-false}
use Rattle.paths_numbers.specs.meaning.Byte.{slash}
use Rattle.paths_numbers.specs.meaning.Text.{begins, same, starts_with}
use Rattle.paths_numbers.specs.meaning.Path.{root, Stripped, found, nothing, strip, is_found, part, at_or_under, stripped}
use Rattle.paths_numbers.proofs.Texts.{by_test, not_both, same_true, same_ne, same_lengths, begins_refl, begins_same, begins_length}
use Rattle.paths_numbers.proofs.Texts.{starts_at}

-- to begin with "/" is to start with its byte
pub begins_root : (p : List ℕ) → begins p root ≡ starts_with slash p
unfolding begins starts_with
begins_root [] = refl
begins_root (a ∷ p) = by_test (eqb a slash) (λ e. rw e refl) (λ e. rw e refl)

-- what the tests find of a path p with q behind its base: whether p begins with the base, is as long, the base is "/", and q starts with
-- "/"
unfoldable by_tests : Bool → Bool → Bool → Bool → List ℕ → List ℕ → Stripped
by_tests true true root-base slash-next p q = found []
by_tests true false true slash-next p q = found p
by_tests true false false slash-next p q = cond slash-next (found q) nothing
by_tests false as_long root-base slash-next p q = nothing

module _ (p b : List ℕ) where
  -- where p does not begin with b
  strip_none : begins p b ≡ false → strip p b ≡ nothing
  unfolding strip
  strip_none f =
      let n : same p b ≡ false = same_ne p b (λ e. not_both (rw e (begins_refl b)) f) in
      by_test (same b root)
      (λ e. let g : starts_with slash p ≡ false = sym (begins_root p) ∙ ap (begins p) (sym (same_true b root e)) ∙ f in rw (n, e, g) refl)
      (λ e. rw (n, e, f) refl)

  -- where it does, and is as long
  strip_at : begins p b ≡ true → length p ≡ length b → strip p b ≡ found []
  unfolding strip
  strip_at e h = rw (sym (begins_same p b h) ∙ e) refl

  -- is longer than "/"
  strip_root : begins p b ≡ true → (length p ≡ length b → ⊥) → same b root ≡ true → strip p b ≡ found p
  unfolding strip
  strip_root e n r =
      let g : starts_with slash p ≡ true = sym (begins_root p) ∙ ap (begins p) (sym (same_true b root r)) ∙ e in
      rw (same_lengths p b n, r, g) refl

  -- is longer than another base
  strip_below : begins p b ≡ true → (length p ≡ length b → ⊥) → same b root ≡ false
      → strip p b ≡ cond (eqb (get_or p (length b) 0) slash) (found (drop (length b) p)) nothing
  unfolding strip
  strip_below e n r =
      let h : length b < length p = omega (arith, begins_length p b e, n) in
      rw (same_lengths p b n, r, e, starts_at slash p (length b) h) refl

  -- in each case
  strip_case : (t u v : Bool) → begins p b ≡ t → eqb (length p) (length b) ≡ u → same b root ≡ v
      → strip p b ≡ by_tests t u v (eqb (get_or p (length b) 0) slash) p (drop (length b) p)
  unfolding by_tests
  strip_case true true v e l r = strip_at e (eqb-true _ _ l)
  strip_case true false true e l r = strip_root e (eqb-false _ _ l) r
  strip_case true false false e l r = strip_below e (eqb-false _ _ l) r
  strip_case false u v e l r = strip_none e

-- whether the tests find anything
found_by : (t u v w : Bool) (p q : List ℕ) → is_found (by_tests t u v w p q) ≡ cond t (cond u true (cond v true w)) false
unfolding by_tests
found_by true true v w p q = refl
found_by true false true w p q = refl
found_by true false false true p q = refl
found_by true false false false p q = refl
found_by false u v w p q = refl

-- what they find, empty if nothing
part_by : (t u v w : Bool) (p q : List ℕ)
    → part (by_tests t u v w p q) ≡ cond (cond t (cond u true (cond v true w)) false) (cond u [] (cond v p q)) []
unfolding by_tests
part_by true true v w p q = refl
part_by true false true w p q = refl
part_by true false false true p q = refl
part_by true false false false p q = refl
part_by false u v w p q = refl

-- a path lies at or under a base that it begins with where it is as long, or the base is "/", or a "/" follows
pub under_tests : (p b : List ℕ)
    → at_or_under p b ≡ cond (begins p b) (cond (eqb (length p) (length b)) true (cond (same b root) true (eqb (get_or p (length b) 0) slash)))
    false
unfolding at_or_under
under_tests p b = ap is_found (strip_case p b _ _ _ refl refl refl) ∙ found_by (begins p b) _ _ _ _ _

-- so does the code: where the base is "/", where the path does not begin with the base, and where it ends there or a byte follows
module _ (p b : List ℕ) where
  pub under_slash : same b root ≡ true → at_or_under p b ≡ begins p root
  under_slash r =
      under_tests p b
      ∙ simp r (begun (begins p b) (eqb (length p) (length b)))
      ∙ ap (begins p) (same_true b root r)
    where
      begun : (t u : Bool) → cond t (cond u true true) false ≡ t
      begun true true = refl
      begun true false = refl
      begun false u = refl

  pub under_no : begins p b ≡ false → at_or_under p b ≡ false
  under_no e = under_tests p b ∙ simp e

  module _ (e : begins p b ≡ true) where
    pub under_whole : length p ≤ length b → at_or_under p b ≡ true
    under_whole h = let l : length p ≡ length b = omega (arith, begins_length p b e) in under_tests p b ∙ simp (e, eq-eqb _ _ l)

    module _ (h : length b < length p) where
      pub under_root : same b root ≡ true → at_or_under p b ≡ true
      under_root r = let l : length p ≡ length b → ⊥ = λ q. omega arith in under_tests p b ∙ simp (e, ne_eqb _ _ l, r)

      pub under_next : same b root ≡ false → at_or_under p b ≡ eqb (get_or p (length b) 0) slash
      under_next r = let l : length p ≡ length b → ⊥ = λ q. omega arith in under_tests p b ∙ simp (e, ne_eqb _ _ l, r)

-- what is then left of the path
pub stripped_tests : (p b : List ℕ)
    → stripped p b ≡ cond (at_or_under p b) (cond (eqb (length p) (length b)) [] (cond (same b root) p (drop (length b) p))) []
unfolding stripped
stripped_tests p b = rw (under_tests p b) (ap part (strip_case p b _ _ _ refl refl refl) ∙ part_by (begins p b) _ _ _ _ _)
