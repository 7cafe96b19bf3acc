-- What a raw reference names: what the place of the first "/" between its braces tells, and what the answer tells of the text.
use Rattle.std.proofs.Common.{◌≡◌, ℕ, ◌+◌, Bool, true, false, eqb, List, [], ◌∷◌, ◌++◌, length, take, drop, sym, refl, ap, ◌∙◌, subst}
use Rattle.std.proofs.Common.{add-one, arith, eqb-true}
use borrow.Author.Tests.{eqb-false}
use lib.Seq.{take-length}
use Rattle.paths_numbers.specs.meaning.Byte.{slash}
use Rattle.paths_numbers.specs.meaning.Text.{starts_with}
use Rattle.paths_numbers.specs.meaning.Reference.{Target, label, label_path, path, unreadable, before_slash, has_slash, in_braces}
use Rattle.paths_numbers.specs.meaning.Reference.{is_braced, inner_text, target, label_of, path_of}
use Rattle.paths_numbers.proofs.Braces.{braced, braced_is, braced_inner, braced_text}
use Rattle.paths_numbers.proofs.Slashes.{take_before, drop_behind, before_length, slash_found, slash_missing, slash_first}
use Rattle.paths_numbers.proofs.Slashes.{slash_inside, slash_split, before_none, before_some, place_or, next_before, next_inside}
use Rattle.slashes.specs.meaning.Slash.{next_slash}
use Rattle.std.specs.Prelude.{Some, None}

-- what stands between the braces, by the place k of its first "/"
module _ (s : List ℕ) (k : ℕ) (e : k ≡ length (before_slash s)) where
  place_none : k ≡ length s → in_braces s ≡ label s
  unfolding in_braces
  place_none h = simp (slash_inside s (λ p z. omega arith), slash_missing s (omega arith))

  place_first : (k ≡ length s → ⊥) → k ≡ 0 → in_braces s ≡ path s
  unfolding in_braces
  place_first h z = simp (slash_first s (omega (arith, before_length s)) (sym e ∙ z))

  place_inside : (k ≡ length s → ⊥) → (k ≡ 0 → ⊥) → in_braces s ≡ label_path (take k s) (drop (k + 1) s)
  unfolding in_braces
  place_inside h z =
      let a = slash_inside s (λ p y. z (e ∙ y)) in
      let b = slash_found s (omega (arith, before_length s)) in
      simp (a, b) (rw (e, add-one, take_before, drop_behind) refl)

-- what a raw reference names: nothing without the braces, else what its inner text s says
pub target_missing : (raw : List ℕ) → is_braced raw ≡ false → target raw ≡ unreadable
unfolding target
target_missing raw b = simp b

pub target_braced : (raw s : List ℕ) → s ≡ inner_text raw → is_braced raw ≡ true → target raw ≡ in_braces s
unfolding target
target_braced raw s i b = rw (b, i) refl

-- the inner text gives the label and the path in either case
pub target_parts : (raw s : List ℕ) → s ≡ inner_text raw → (label_of (in_braces s) ≡ label_of (target raw))
    × (path_of (in_braces s) ≡ path_of (target raw))
unfolding target inner_text in_braces has_slash starts_with
target_parts raw s i = rw i (go (is_braced raw) refl)
  where
    go : (t : Bool) → is_braced raw ≡ t → (label_of (in_braces (inner_text raw)) ≡ label_of (target raw))
        × (path_of (in_braces (inner_text raw)) ≡ path_of (target raw))
    go true b = rw b (refl, refl)
    go false b = rw b (refl, refl)

-- the label ends at the first "/", and the path starts at it or behind it
module _ (raw s : List ℕ) (i : s ≡ inner_text raw) (k : ℕ) (e : k ≡ length (before_slash s)) where
  pub label_part : take k s ≡ label_of (target raw)
  label_part = go (eqb k (length s)) refl (eqb k 0) refl ∙ (target_parts raw s i).0
    where
      go : (t : Bool) → eqb k (length s) ≡ t → (u : Bool) → eqb k 0 ≡ u → take k s ≡ label_of (in_braces s)
      go true t u f = let h = eqb-true k (length s) t in rw (place_none s k e h, h) (take-length s)
      go false t true f = let z = eqb-true k 0 f in rw (place_first s k e (eqb-false _ _ t) z, z) refl
      go false t false f = rw (place_inside s k e (eqb-false _ _ t) (eqb-false _ _ f)) refl

-- the same by what the search for a "/" answers
module _ (s : List ℕ) where
  pub found_none : None ≡ next_slash s 0 → in_braces s ≡ label s
  found_none h = place_none s (length s) (ap (place_or (length s)) h ∙ next_before s) refl

  module _ (k : ℕ) (h : Some k ≡ next_slash s 0) where
    at : k ≡ length (before_slash s)
    at = ap (place_or (length s)) h ∙ next_before s

    inside : k ≡ length s → ⊥
    inside e = omega (arith, next_inside s k h)

    pub found_first : k ≡ 0 → in_braces s ≡ path s
    found_first z = place_first s k at inside z

    pub found_inside : (k ≡ 0 → ⊥) → in_braces s ≡ label_path (take k s) (drop (k + 1) s)
    found_inside z = place_inside s k at inside z

-- a label that is all between the braces has no path
pub path_of_inner : (raw s : List ℕ) (t : Target) → s ≡ inner_text raw → in_braces s ≡ t → path_of t ≡ path_of (target raw)
path_of_inner raw s t i e = sym (ap path_of e) ∙ (target_parts raw s i).1

-- what a target says of the text that it was read from
abbrev pub Says : List ℕ → Target → Type 0
Says raw (label l) = (raw ≡ braced l) × (has_slash l ≡ false)
Says raw (label_path l p) = (raw ≡ braced (l ++ slash ∷ p)) × (has_slash l ≡ false) × (l ≡ [] → ⊥)
Says raw (path p) = (raw ≡ braced p) × (starts_with slash p ≡ true)
Says raw unreadable = (s : List ℕ) → raw ≡ braced s → ⊥

-- and what the target of a text between braces says of it
inside_says : (s : List ℕ) → Says (braced s) (in_braces s)
unfolding in_braces
inside_says s = go (starts_with slash s) refl (has_slash s) refl
  where
    go : (t : Bool) → starts_with slash s ≡ t → (u : Bool) → has_slash s ≡ u → Says (braced s) (in_braces s)
    go true e u f = rw e (refl, e)
    go false e true f = rw (e, f) (ap braced (slash_split s f), before_none s, before_some s f e)
    go false e false f = rw (e, f) (refl, f)

-- every target says what is true of its text
pub target_says : (raw : List ℕ) → Says raw (target raw)
unfolding target
target_says raw = go (is_braced raw) refl
  where
    go : (t : Bool) → is_braced raw ≡ t → Says raw (target raw)
    go true e = rw e (subst (λ (r : List ℕ). Says r (in_braces (inner_text raw))) (sym (braced_text raw e)) (inside_says (inner_text raw)))
    go false e = rw e (λ s f. let z : ◌≡◌ {A = Bool} false true = sym e ∙ ap is_braced f
        ∙ braced_is s in let o : ◌≡◌ {A = ℕ} 0 1 = cc in omega arith)

-- so a target that is known says it; in particular no label holds a "/"
pub target_told_lem : (raw : List ℕ) (t : Target) → target raw ≡ t → Says raw t
target_told_lem raw t e = subst (Says raw) e (target_says raw)

pub target_label_no_slash : (raw l : List ℕ) → target raw ≡ label l → has_slash l ≡ false
target_label_no_slash raw l e = (target_told_lem raw (label l) e).1

-- the other way round: every text put in braces is read as what stands between them
pub target_of_lem : (s : List ℕ) → target (braced s) ≡ in_braces s
unfolding target
target_of_lem s = rw (braced_is s, braced_inner s) refl
