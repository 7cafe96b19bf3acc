-- Row 9's form of a path: its components byte by byte, and that joining keeps it.
use Rattle.std.proofs.Common.{◌≡◌, ℕ, ◌+◌, ◌-◌, ◌<◌, ◌≤◌, Bool, true, false, cond, not, ◌||◌, eqb, List, [], ◌∷◌, ◌++◌, length, get_or}
use Rattle.std.proofs.Common.{drop, sym, refl, ap, ◌∙◌, add-one, arith, drop_of_length-le, drop-cons, eqb-true}
use Rattle.paths_numbers.specs.meaning.Byte.{slash, at_sign}
use Rattle.paths_numbers.specs.meaning.Text.{same, is_empty, starts_with}
use Rattle.paths_numbers.specs.meaning.Path.{root, components, good_path, join, joined, with_unit}
use Rattle.paths_numbers.proofs.Texts.{by_test, both, not_both, same_ne}
use Rattle.paths_numbers.proofs.Joined.{join_plain}

-- behind a first byte, the rest decides
pub first_byte : (s : List ℕ) → components false s ≡ components (eqb (get_or s 0 0) slash) (drop 1 s)
unfolding components
first_byte [] = refl
first_byte (b ∷ s) = by_test (eqb b slash) (λ e. rw e refl) (λ e. rw e refl)

-- one byte more: two "/" were found before, or are found now, or the rest decides
one_byte : (doubled after : Bool) (b : ℕ) (s : List ℕ)
    → cond doubled false (components after (b ∷ s)) ≡ cond (doubled || cond after (eqb b slash) false) false (components (eqb b slash) s)
unfolding components
one_byte true after b s = refl
one_byte false true b s = by_test (eqb b slash) (λ e. rw e refl) (λ e. rw e refl)
one_byte false false b s = by_test (eqb b slash) (λ e. rw e refl) (λ e. rw e refl)

-- w is whether the whole has components, and the invariant says that two "/" were found or what is left behind the byte before i decides it
module _ (s : List ℕ) (i : ℕ) (doubled w : Bool) (inv : w ≡ cond doubled false (components (eqb (get_or s (i - 1) 0) slash) (drop i s))) where
  -- the next byte
  pub next_byte : (d : Bool) → i < length s → d ≡ cond (eqb (get_or s (i - 1) 0) slash) (eqb (get_or s i 0) slash) false
      → w ≡ cond (doubled || d) false (components (eqb (get_or s (i + 1 - 1) 0) slash) (drop (i + 1) s))
  next_byte d h e =
      let k : i + 1 - 1 ≡ i = omega arith in
      inv ∙ rw (drop-cons s i 0 h, one_byte doubled _ _ _, e, k, add-one) refl

  -- two "/" were found
  pub were_doubled : doubled ≡ true → false ≡ w
  were_doubled t = sym (inv ∙ rw t refl)

  -- there are no more bytes
  pub at_end : length s ≤ i → doubled ≡ false → not (eqb (get_or s (i - 1) 0) slash) ≡ w
  unfolding components
  at_end h t = sym (inv ∙ rw (drop_of_length-le s h, t) refl)

-- whether no byte is "/"
unfoldable pub without_slash : List ℕ → Bool
without_slash [] = true
without_slash (b ∷ s) = cond (eqb b slash) false (without_slash s)

-- a text without "/" ends components
plain_components : (s : List ℕ) → without_slash s ≡ true → components false s ≡ true
unfolding without_slash components
plain_components [] w = refl
plain_components (b ∷ s) w =
    by_test (eqb b slash)
    (λ e. absurd (not_both (rw e at w) refl))
    (λ e. rw e (plain_components s (rw e at w)))

-- and is one behind a "/" where it is not empty
name_components : (s : List ℕ) → is_empty s ≡ false → without_slash s ≡ true → components true s ≡ true
unfolding is_empty without_slash components
name_components [] n w = absurd (not_both refl n)
name_components (b ∷ s) n w =
    by_test (eqb b slash)
    (λ e. absurd (not_both (rw e at w) refl))
    (λ e. rw e (plain_components s (rw e at w)))

-- a "/" and a component behind components are components
components_append : (after : Bool) (s t : List ℕ) → components after s ≡ true → components true t ≡ true
    → components after (s ++ slash ∷ t) ≡ true
unfolding components
components_append true [] t e h = absurd (not_both e refl)
components_append false [] t e h = h
components_append true (b ∷ s) t e h =
    by_test (eqb b slash)
    (λ q. absurd (not_both (rw q at e) refl))
    (λ q. rw q (components_append false s t (rw q at e) h))
components_append false (b ∷ s) t e h =
    by_test (eqb b slash)
    (λ q. rw q (components_append true s t (rw q at e) h))
    (λ q. rw q (components_append false s t (rw q at e) h))

-- a name without "/" is not "/"
pub plain_not_root : (name : List ℕ) → without_slash name ≡ true → same name root ≡ false
unfolding without_slash
plain_not_root name w = same_ne name root (λ e. not_both (sym (ap without_slash e) ∙ w) refl)

-- what starts with "/" and has components is good
good_components : (s : List ℕ) → components true s ≡ true → good_path (slash ∷ s) ≡ true
unfolding good_path is_empty starts_with components
good_components s h = by_test (same (slash ∷ s) root) (λ e. rw e refl) (λ e. rw e h)

-- a good path that is neither empty nor "/" is a "/" and what is then components
good_parts : (a : ℕ) (s : List ℕ) → good_path (a ∷ s) ≡ true → same (a ∷ s) root ≡ false → (a ≡ slash) × (components true s ≡ true)
unfolding good_path is_empty starts_with components
good_parts a s g r =
    let h = both (eqb a slash) (components false (a ∷ s)) (rw r at g) in
    (eqb-true a slash h.0, rw h.0 at h.1)

-- a good path and a name that is not empty and has no "/" join to a good path
pub good_join : (parent name : List ℕ) → good_path parent ≡ true → is_empty name ≡ false → without_slash name ≡ true
    → good_path (join parent name) ≡ true
unfolding same
good_join [] name g n w = rw (join_plain [] name (plain_not_root name w)) (good_components name (name_components name n w))
good_join (a ∷ s) name g n w =
    let j = join_plain (a ∷ s) name (plain_not_root name w) in
    let k = name_components name n w in
    by_test (same (a ∷ s) root)
    (λ r. rw (j, r) (good_components name k))
    (λ r. let h = good_parts a s g r in rw (j, r, h.0) (good_components (s ++ slash ∷ name) (components_append true s name h.1 k)))

-- two texts without "/" have none together
plain_append : (s t : List ℕ) → without_slash s ≡ true → without_slash t ≡ true → without_slash (s ++ t) ≡ true
unfolding without_slash
plain_append [] t v w = w
plain_append (b ∷ s) t v w =
    by_test (eqb b slash)
    (λ e. absurd (not_both (rw e at v) refl))
    (λ e. rw e (plain_append s t (rw e at v) w))

-- a name that is not empty is not empty with its unit address
pub unit_filled : (name unit : List ℕ) → is_empty name ≡ false → is_empty (with_unit name unit) ≡ false
unfolding with_unit is_empty
unit_filled [] unit n = absurd (not_both refl n)
unit_filled (b ∷ name) unit n = by_test (is_empty unit) (λ e. rw e refl) (λ e. rw e refl)

-- and has no "/" where neither has one
pub unit_plain : (name unit : List ℕ) → without_slash name ≡ true → without_slash unit ≡ true → without_slash (with_unit name unit) ≡ true
unfolding with_unit without_slash
unit_plain name unit v w = by_test (is_empty unit) (λ e. rw e v) (λ e. rw e (plain_append name (at_sign ∷ unit) v w))

-- so a good path and such a name with its unit address join to a good path
pub good_joined : (parent name unit : List ℕ) → good_path parent ≡ true → is_empty name ≡ false → without_slash name ≡ true
    → without_slash unit ≡ true
    → good_path (joined parent name unit) ≡ true
unfolding joined
good_joined parent name unit g n v w = good_join parent (with_unit name unit) g (unit_filled name unit n) (unit_plain name unit v w)
