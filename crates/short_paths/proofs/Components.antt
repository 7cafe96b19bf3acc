-- Laws of the texts between a path's slashes, and of two of them that match.
use Prim.Native.Nat.{ℕ, ◌<◌}
use mathlib.Core.Path.{◌≡◌, refl, sym, ap, ◌∙◌}
use mathlib.Core.Bool.{Bool, true, false, not, cond}
use mathlib.Core.List.{List, [], ◌∷◌, ◌++◌, append-nil}
use native.Mathlib.Omega.{arith}
use borrow.Author.Tests.{eq-eqb, ne_eqb}
use lib.Dec.{eqb}
use lib.ListN.{length, get_or, take, drop, length-drop}
use Rattle.std.specs.List.{list_any}
use Rattle.paths_numbers.specs.meaning.Byte.{slash, at_sign}
use Rattle.paths_numbers.specs.meaning.Text.{same, begins, is_empty, starts_with}
use Rattle.paths_numbers.specs.meaning.Lists.{any}
use Rattle.paths_numbers.specs.meaning.Reference.{before_slash}
use Rattle.paths_numbers.proofs.Texts.{by_test, not_both, is_false, same_true, begins_split, begins_append, begins_refl, is_empty_lem}
use Rattle.paths_numbers.proofs.Texts.{not_empty, starts_at, no_byte}
use Rattle.paths_numbers.proofs.Slashes.{take_before}
use Rattle.short_paths.specs.meaning.Short.{before_at, has_at, component_matches, onto, split, all_match, may_mean}
use Rattle.short_paths.specs.machine.Front.{more, Matched, Unmatched}

abbrev is_none : List (List ℕ) → Bool
is_none [] = true
is_none (c ∷ cs) = false

-- the first text, and those behind it
pub first_text_lem : (s : List ℕ) → split s ≡ before_slash s ∷ more (drop (length (before_slash s)) s)
unfolding split before_slash more
first_text_lem [] = refl
first_text_lem (b ∷ s) =
    by_test (eqb b slash)
    (λ t. rw t refl)
    (λ t. rw (t, first_text_lem s) refl)

-- there is always one
onto_append : (b : ℕ) (x y : List (List ℕ)) → is_none x ≡ false → onto b (x ++ y) ≡ onto b x ++ y
onto_append b [] y h = absurd (not_both {t = true} refl h)
onto_append b (c ∷ x) y h = refl

split_some : (s : List ℕ) → is_none (split s) ≡ false
split_some s = ap is_none (first_text_lem s)

-- texts put behind each other
pub split_append : (s t : List ℕ) → split (s ++ slash ∷ t) ≡ split s ++ split t
unfolding split
split_append [] t = refl
split_append (b ∷ s) t =
    by_test (eqb b slash)
    (λ e. rw (e, split_append s t) refl)
    (λ e. rw (e, split_append s t) (onto_append b (split s) (split t) (split_some s)))

-- the library's search for a byte is that of the definition
pub any_list : (f : ℕ → Bool) (s : List ℕ) → list_any f s ≡ any f s
unfolding any
any_list f [] = refl
any_list f (b ∷ s) = by_test (f b) (λ t. rw t refl) (λ t. rw t (any_list f s))

-- a text and one that begins with it
same_front : (c t : List ℕ) → same c (c ++ t) ≡ is_empty t
unfolding same is_empty
same_front [] [] = refl
same_front [] (b ∷ t) = refl
same_front (a ∷ c) t = simp (eq-eqb a a refl) (same_front c t)

before_front : (c t : List ℕ) → has_at c ≡ false → before_at (c ++ t) ≡ c ++ before_at t
unfolding any before_at
before_front [] t h = refl
before_front (a ∷ c) t h =
    by_test (eqb a at_sign)
    (λ e. absurd (not_both {t = true} refl (rw e at h)))
    (λ e. rw e (ap (λ (x : List ℕ). a ∷ x) (before_front c t (rw e at h))))

none_before : (t : List ℕ) → is_empty (before_at t) ≡ cond (is_empty t) true (starts_with at_sign t)
unfolding is_empty before_at starts_with
none_before [] = refl
none_before (b ∷ t) = by_test (eqb b at_sign) (λ e. rw e refl) (λ e. rw e refl)

matches_front : (c t : List ℕ)
    → component_matches c (c ++ t) ≡ cond (has_at c) (is_empty t) (cond (is_empty t) true (starts_with at_sign t))
unfolding component_matches
matches_front c t =
    by_test (has_at c)
    (λ h. rw h (same_front c t))
    (λ h. rw (h, before_front c t h) (same_front c (before_at t) ∙ none_before t))

-- what a component matches begins with it
behind_at : List ℕ → List ℕ
behind_at [] = []
behind_at (b ∷ s) = cond (eqb b at_sign) (b ∷ s) (behind_at s)

around_at : (d : List ℕ) → before_at d ++ behind_at d ≡ d
unfolding before_at behind_at
around_at [] = refl
around_at (b ∷ d) =
    by_test (eqb b at_sign) (λ e. rw e refl) (λ e. rw e (ap (λ (x : List ℕ). b ∷ x) (around_at d)))

module _ (c d : List ℕ) where
  pub no_match : begins d c ≡ false → component_matches c d ≡ false
  unfolding component_matches
  no_match h =
      by_test (has_at c)
      (λ t. rw t (is_false (same c d) (λ e. not_both (ap (λ (x : List ℕ). begins x c) (sym (same_true c d e)) ∙ begins_refl c) h)))
      (λ t. rw t (is_false (same c (before_at d)) (λ e.
      let q : d ≡ c ++ behind_at d =
      sym (around_at d) ∙ ap (λ (x : List ℕ). x ++ behind_at d) (sym (same_true c (before_at d) e)) in
      not_both (ap (λ (x : List ℕ). begins x c) q ∙ begins_append c (behind_at d)) h)))

  -- one that begins with a component, by what is behind it
  behind : begins d c ≡ true → component_matches c d
      ≡ cond (has_at c) (is_empty (drop (length c) d)) (cond (is_empty (drop (length c) d)) true (starts_with at_sign (drop (length c) d)))
  behind h = ap (component_matches c) (begins_split d c h) ∙ matches_front c (drop (length c) d)

  pub match_same : begins d c ≡ true → length d ≡ length c → component_matches c d ≡ true
  match_same h e =
      let t : is_empty (drop (length c) d) ≡ true = is_empty_lem _ (omega (arith, length-drop (length c) d)) in
      behind h ∙ by_test (has_at c) (λ k. rw (k, t) refl) (λ k. rw (k, t) refl)

  module _ (h : begins d c ≡ true) (l : length c < length d) where
    more_there : is_empty (drop (length c) d) ≡ false
    more_there = not_empty _ (λ z. omega (arith, length-drop (length c) d))

    pub match_other : (get_or d (length c) 0 ≡ at_sign → ⊥) → component_matches c d ≡ false
    match_other n =
        let t : starts_with at_sign (drop (length c) d) ≡ false = starts_at at_sign d (length c) l ∙ ne_eqb _ _ n in
        behind h ∙ by_test (has_at c) (λ k. rw (k, more_there) refl) (λ k. rw (k, more_there, t) refl)

    pub match_address : get_or d (length c) 0 ≡ at_sign → component_matches c d ≡ not (has_at c)
    match_address n =
        let t : starts_with at_sign (drop (length c) d) ≡ true = starts_at at_sign d (length c) l ∙ eq-eqb _ _ n in
        behind h ∙ by_test (has_at c) (λ k. rw (k, more_there) refl) (λ k. rw (k, more_there, t) refl)

-- one text of each path, and what is behind both
module _ (p q : List ℕ) (cs : List (List ℕ)) where
  step : all_match (split p ++ cs) (split q)
      ≡ cond (component_matches (before_slash p) (before_slash q))
      (all_match (more (drop (length (before_slash p)) p) ++ cs) (more (drop (length (before_slash q)) q)))
      false
  unfolding all_match
  step = rw (first_text_lem p, first_text_lem q) refl

  pub step_none : component_matches (before_slash p) (before_slash q) ≡ false → all_match (split p ++ cs) (split q) ≡ false
  step_none h = step ∙ rw h refl

  pub step_on : component_matches (before_slash p) (before_slash q) ≡ true
      → all_match (split p ++ cs) (split q)
      ≡ all_match (more (drop (length (before_slash p)) p) ++ cs) (more (drop (length (before_slash q)) q))
  step_on h = step ∙ rw h refl

-- texts are left, and none to match them
too_many : (s : List ℕ) (cs : List (List ℕ)) → all_match (split s ++ cs) [] ≡ false
unfolding all_match
too_many s cs = rw (first_text_lem s) refl

-- c is the first text of a path s, and x is what is behind it
pub record Cut (s c x : List ℕ) : Type 0 where
  pub front : c ≡ before_slash s
  pub back : x ≡ drop (length (before_slash s)) s

pub cut : (s c x : List ℕ) (k : ℕ) → k ≡ length (before_slash s) → c ≡ take k s → x ≡ drop k s → Cut s c x
cut s c x k e f g = record {
  front = f ∙ ap (λ (n : ℕ). take n s) e ∙ take_before s;
  back = g ∙ ap (λ (n : ℕ). drop n s) e;
}

-- the code's step, where t is what the first texts of both paths were compared to
module _ {p q c d x y : List ℕ} {t : Bool} (u : Cut p c x) (v : Cut q d y) (m : t ≡ component_matches c d) (cs : List (List ℕ)) where
  texts : component_matches (before_slash p) (before_slash q) ≡ t
  texts = sym (m ∙ rw (u.front, v.front) refl)

  pub first_differs : t ≡ false → all_match (split p ++ cs) (split q) ≡ false
  first_differs n = step_none p q cs (texts ∙ n)

  module _ (n : t ≡ true) where
    on : all_match (split p ++ cs) (split q) ≡ all_match (more x ++ cs) (more y)
    on = rw (u.back, v.back) (step_on p q cs (texts ∙ n))

    pub path_ends : length x ≡ 0 → all_match (split p ++ cs) (split q) ≡ all_match cs (more y)
    unfolding more
    path_ends z = on ∙ rw (no_byte x z) refl

    module _ {b : ℕ} {s : List ℕ} (r : x ≡ b ∷ s) where
      pub full_ends : length y ≡ 0 → all_match (split p ++ cs) (split q) ≡ false
      unfolding more
      full_ends z = on ∙ rw (no_byte y z, r) (too_many s cs)

      pub both_go_on : {a : ℕ} {w : List ℕ} → y ≡ a ∷ w → all_match (split p ++ cs) (split q) ≡ all_match (split s ++ cs) (split w)
      unfolding more
      both_go_on z = on ∙ rw (r, z) refl

-- no text left on one side
pub none_left : (s : List ℕ) → all_match (split s) [] ≡ false
unfolding all_match
none_left s = rw (first_text_lem s) refl

none_meant : (s : List ℕ) → all_match [] (split s) ≡ false
unfolding all_match
none_meant s = rw (first_text_lem s) refl

-- a whole path is matched where its match leaves nothing
pub matched_none : (p q : List ℕ) → Unmatched p q → all_match (split p) (split q) ≡ false
matched_none p q h = ap (λ (x : List (List ℕ)). all_match x (split q)) (sym (append-nil (split p))) ∙ h []

pub matched_end : (p q r : List ℕ) → Matched p q r → eqb (length r) 0 ≡ all_match (split p) (split q)
unfolding all_match more
matched_end p q [] h = sym (ap (λ (x : List (List ℕ)). all_match x (split q)) (sym (append-nil (split p))) ∙ h [])
matched_end p q (b ∷ r) h =
    ne_eqb (length (b ∷ r)) 0 (λ e. omega arith)
    ∙ sym (ap (λ (x : List (List ℕ)). all_match x (split q)) (sym (append-nil (split p))) ∙ h [] ∙ none_meant r)

-- a path given by what stands before the "/" of a name
module _ (front name full : List ℕ) where
  pub not_meant : Unmatched front full → may_mean (front ++ slash ∷ name) full ≡ false
  unfolding may_mean
  not_meant h = rw (split_append front name) (h (split name))

  module _ (e : List ℕ) where
    pub short_meant : length e ≡ 0 → Matched front full e → may_mean (front ++ slash ∷ name) full ≡ false
    unfolding may_mean more
    short_meant z h = rw (split_append front name) (h (split name) ∙ rw (no_byte e z) (none_left name))

    pub meant : (b : ℕ) (r : List ℕ) → e ≡ b ∷ r → Matched front full e → may_mean (front ++ slash ∷ name) full ≡ all_match (split name) (split r)
    unfolding may_mean more
    meant b r q h = rw (split_append front name) (h (split name) ∙ rw q refl)
