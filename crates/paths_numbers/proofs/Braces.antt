-- The braces around a raw reference, and the text between them.
use Rattle.std.proofs.Common.{◌≡◌, ℕ, suc, ◌+◌, ◌-◌, ◌<◌, ◌≤◌, Bool, true, false, cond, eqb, ltb, List, [], ◌∷◌, ◌++◌, length, get_or, take}
use Rattle.std.proofs.Common.{drop, sym, refl, ap, ◌∙◌, arith, length-append, length-drop, drop_of_length-le, get_or-drop, take_at, ltb-false}
use Rattle.std.proofs.Common.{ltb-true, eq-eqb, ne_eqb, eqb-true}
use lib.Seq.{get_or_at, split_at}
use Rattle.paths_numbers.specs.meaning.Byte.{ampersand, opening_brace, closing_brace}
use Rattle.paths_numbers.specs.meaning.Text.{begins}
use Rattle.paths_numbers.specs.meaning.Reference.{last_byte, is_braced, inner_text}
use Rattle.paths_numbers.proofs.Texts.{not_both, by_test}

-- a test that changes nothing
cond_same : {A : Type 0} (t : Bool) (x : A) → cond t x x ≡ x
cond_same true x = refl
cond_same false x = refl

-- the last byte behind the first two is the last byte of all
last_behind : (s : List ℕ) → 3 ≤ length s → last_byte (drop 2 s) ≡ last_byte s
last_behind s h =
    let e : 2 + (length (drop 2 s) - 1) ≡ length s - 1 = omega (arith, length-drop 2 s) in
    get_or-drop 2 s (length (drop 2 s) - 1) 0 ∙ ap (λ (i : ℕ). get_or s i 0) e

-- a text is in braces where it has their three bytes, and has room for them
pub braced_short : (s : List ℕ) → length s < 3 → is_braced s ≡ false
unfolding is_braced begins
braced_short [] h = refl
braced_short (a ∷ []) h = rw (cond_same (eqb a ampersand) false) refl
braced_short (a ∷ b ∷ []) h = cond_same (cond (eqb a ampersand) (cond (eqb b opening_brace) true false) false) false
braced_short (a ∷ b ∷ d ∷ s) h = absurd (omega arith)

pub braced_first : (s : List ℕ) → (get_or s 0 0 ≡ ampersand → ⊥) → is_braced s ≡ false
unfolding is_braced begins
braced_first [] h = refl
braced_first (a ∷ s) h = simp (ne_eqb _ _ h)

pub braced_second : (s : List ℕ) → (get_or s 1 0 ≡ opening_brace → ⊥) → is_braced s ≡ false
unfolding is_braced begins
braced_second [] h = refl
braced_second (a ∷ []) h = rw (cond_same (eqb a ampersand) false) refl
braced_second (a ∷ b ∷ s) h = simp (ne_eqb _ _ h, cond_same)

pub braced_last : (s : List ℕ) → 3 ≤ length s → (last_byte s ≡ closing_brace → ⊥) → is_braced s ≡ false
unfolding is_braced
braced_last s h n = rw (last_behind s h) (simp (ne_eqb _ _ n, cond_same))

pub braced_all : (s : List ℕ) → 3 ≤ length s → get_or s 0 0 ≡ ampersand → get_or s 1 0 ≡ opening_brace → last_byte s ≡ closing_brace
    → is_braced s ≡ true
unfolding is_braced begins
braced_all [] h e f g = absurd (omega arith)
braced_all (a ∷ []) h e f g = absurd (omega arith)
braced_all (a ∷ b ∷ s) h e f g = simp (eq-eqb _ _ e, eq-eqb _ _ f) (eq-eqb _ _ (last_behind (a ∷ b ∷ s) h ∙ g))

inner_braced : (s : List ℕ) → is_braced s ≡ true → take (length s - 1 - 2) (drop 2 s) ≡ inner_text s
unfolding inner_text
inner_braced s e = let f : length s - 1 - 2 ≡ length s - 3 = omega arith in rw (e, f) refl

pub inner_all : (s : List ℕ) → 3 ≤ length s → get_or s 0 0 ≡ ampersand → get_or s 1 0 ≡ opening_brace → last_byte s ≡ closing_brace
    → take (length s - 1 - 2) (drop 2 s) ≡ inner_text s
inner_all s h e f g = inner_braced s (braced_all s h e f g)

pub ruleset braced_steps = (braced_short, braced_first, braced_second, braced_last, braced_all, inner_all)

pub braced_length : (s : List ℕ) → is_braced s ≡ true → 3 ≤ length s
braced_length s e =
    by_test (ltb (length s) 3)
    (λ t. absurd (not_both e (braced_short s (ltb-true _ _ t))))
    (λ t. ltb-false _ _ t)

-- a text put in braces
abbrev pub braced : List ℕ → List ℕ
braced s = ampersand ∷ opening_brace ∷ (s ++ closing_brace ∷ [])

-- such a text is in braces, and what was put into them stands between them
pub braced_is : (s : List ℕ) → is_braced (braced s) ≡ true
unfolding is_braced begins
braced_is s =
    let e : length (s ++ closing_brace ∷ []) - 1 ≡ length s = omega (arith, length-append s (closing_brace ∷ [])) in
    eq-eqb _ _ (ap (λ (i : ℕ). get_or (s ++ closing_brace ∷ []) i 0) e ∙ get_or_at s closing_brace [] 0 (length s) refl)

pub braced_inner : (s : List ℕ) → inner_text (braced s) ≡ s
unfolding inner_text
braced_inner s =
    let e : length (braced s) - 3 ≡ length s = omega (arith, length-append s (closing_brace ∷ [])) in
    rw (braced_is s, e) (take_at s (closing_brace ∷ []) (length s) refl)

-- two tests that both hold
both : (t u : Bool) → cond t u false ≡ true → (t ≡ true) × (u ≡ true)
both true u e = (refl, e)
both false u e = let z : ◌≡◌ {A = ℕ} 0 1 = cc in absurd (omega arith)

-- a text is what stands before its last byte, and that byte
last_split : (s : List ℕ) → 0 < length s → s ≡ take (length s - 1) s ++ last_byte s ∷ []
last_split s h =
    let e : drop (suc (length s - 1)) s ≡ [] = drop_of_length-le s {i = suc (length s - 1)} (omega arith) in
    split_at s (length s - 1) 0 (omega arith) ∙ ap (λ (l : List ℕ). take (length s - 1) s ++ last_byte s ∷ l) e

-- a text in braces is its inner text put in braces
pub braced_text : (raw : List ℕ) → is_braced raw ≡ true → raw ≡ braced (inner_text raw)
unfolding is_braced begins
braced_text [] e = absurd (omega (arith, braced_length [] e))
braced_text (a ∷ []) e = absurd (omega (arith, braced_length (a ∷ []) e))
braced_text (a ∷ b ∷ s) e =
    let t = both (cond (eqb a ampersand) (cond (eqb b opening_brace) true false) false) (eqb (last_byte s) closing_brace) e in
    let u = both (eqb a ampersand) (cond (eqb b opening_brace) true false) t.0 in
    let v = both (eqb b opening_brace) true u.1 in
    let n : suc (suc (length s)) - 1 - 2 ≡ length s - 1 = omega arith in
    let i : take (length s - 1) s ≡ inner_text (a ∷ b ∷ s) = sym (ap (λ (k : ℕ). take k s) n) ∙ inner_braced (a ∷ b ∷ s) e in
    let l = last_split s (omega (arith, braced_length (a ∷ b ∷ s) e)) in
    cc (i, l, eqb-true a ampersand u.0, eqb-true b opening_brace v.0, eqb-true (last_byte s) closing_brace t.1)

-- so that what stands between them is shorter
pub inner_shorter : (raw s : List ℕ) → is_braced raw ≡ true → s ≡ inner_text raw → length s < length raw
inner_shorter raw s e i =
    omega (arith, ap length i, ap length (braced_text raw e), length-append (inner_text raw) (closing_brace ∷ []))
