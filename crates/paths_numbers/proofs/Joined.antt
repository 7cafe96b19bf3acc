-- What joining a parent and a name comes to, byte by byte and in length.
use Rattle.std.proofs.Common.{◌≡◌, ℕ, suc, ◌+◌, ◌-◌, ◌<◌, ◌≤◌, Bool, true, false, cond, eqb, List, [], ◌∷◌, ◌++◌, length, get_or, take, sym}
use Rattle.std.proofs.Common.{refl, ap, ◌∙◌, arith, length-append, get_or-append-add, ne_eqb}
use lib.ListN.{get_or-append, get_or-eq_default}
use lib.Seq.{get_or_at, take_all}
use Rattle.paths_numbers.specs.meaning.Byte.{slash, at_sign}
use Rattle.paths_numbers.specs.meaning.Text.{same, is_empty}
use Rattle.paths_numbers.specs.meaning.Path.{root, join, joined, with_unit}
use Rattle.paths_numbers.specs.machine.Limits.{stem}
use Rattle.paths_numbers.proofs.Texts.{by_test, same_lengths, is_empty_lem, not_empty}

-- the bytes of two texts with one byte between them: those behind it
pub behind : (s : List ℕ) (b : ℕ) (t : List ℕ) (i : ℕ) → length s < i → get_or (s ++ b ∷ t) i 0 ≡ get_or t (i - length s - 1) 0
behind s b t i h =
    let e : i ≡ length s + suc (i - length s - 1) = omega arith in
    ap (λ (k : ℕ). get_or (s ++ b ∷ t) k 0) e ∙ get_or-append-add s (b ∷ t) (suc (i - length s - 1)) 0

-- a name without a unit address
pub unit_none : (name unit : List ℕ) → length unit ≡ 0 → with_unit name unit ≡ name
unfolding with_unit
unit_none name unit h = rw (is_empty_lem unit h) refl

-- and with one
pub unit_some : (name unit : List ℕ) → (length unit ≡ 0 → ⊥) → with_unit name unit ≡ name ++ at_sign ∷ unit
unfolding with_unit
unit_some name unit n = rw (not_empty unit n) refl

-- a name with a unit address is longer by it and the "@"
pub unit_length : (name unit : List ℕ) → (length unit ≡ 0 → ⊥) → length (with_unit name unit) ≡ length name + 1 + length unit
unit_length name unit n = rw (unit_some name unit n) (omega (arith, length-append name (at_sign ∷ unit)))

-- a name is no longer than with its unit address
pub name_within : (name unit : List ℕ) → length name ≤ length (with_unit name unit)
unfolding with_unit
name_within name unit =
    by_test (is_empty unit) (λ e. rw e (omega arith)) (λ e. rw e (omega (arith, length-append name (at_sign ∷ unit))))

-- a name with a unit address is not "/"
pub unit_not_root : (name unit : List ℕ) → (length unit ≡ 0 → ⊥) → same (with_unit name unit) root ≡ false
unit_not_root name unit n =
    rw (unit_some name unit n) (same_lengths (name ++ at_sign ∷ unit) root (λ e. n (omega (arith, length-append name (at_sign ∷ unit)))))

-- the bytes of a name stand first
pub name_first : (name unit : List ℕ) (i : ℕ) → i < length name → get_or name i 0 ≡ get_or (with_unit name unit) i 0
unfolding with_unit
name_first name unit i h =
    by_test (is_empty unit)
    (λ e. rw e refl)
    (λ e. rw e (sym (get_or-append name (at_sign ∷ unit) 0 i h)))

-- behind a name without a unit address is nothing
pub name_end_lem : (name unit : List ℕ) (i : ℕ) → length name ≤ i → length unit ≡ 0 → 0 ≡ get_or (with_unit name unit) i 0
name_end_lem name unit i h e = rw (unit_none name unit e) (sym (get_or-eq_default name 0 h))

-- between a name and its unit address is an "@"
pub name_sign : (name unit : List ℕ) (i : ℕ) → length name ≡ i → (length unit ≡ 0 → ⊥) → at_sign ≡ get_or (with_unit name unit) i 0
name_sign name unit i h n = rw (unit_some name unit n) (sym (get_or_at name at_sign unit 0 i h))

-- and behind that the unit address
pub name_unit : (name unit : List ℕ) (i : ℕ) → length name < i → (length unit ≡ 0 → ⊥)
    → get_or unit (i - length name - 1) 0 ≡ get_or (with_unit name unit) i 0
name_unit name unit i h n = rw (unit_some name unit n) (sym (behind name at_sign unit i h))

-- by whether the parent is "/"
stem_of : (t : Bool) (parent : List ℕ) (i : ℕ) → i < length (cond t [] parent) → cond t [] parent ≡ parent
stem_of true parent i h = absurd (omega arith)
stem_of false parent i h = refl

-- a stem that has bytes is the parent
pub stem_is : (parent : List ℕ) (i : ℕ) → i < length (stem parent) → stem parent ≡ parent
stem_is parent i h = stem_of (same parent root) parent i h

-- a stem is the front of the parent
stem_front : (t : Bool) (parent : List ℕ) → take (length (cond t [] parent)) parent ≡ cond t [] parent
stem_front true parent = refl
stem_front false parent = take_all (length parent) parent (omega arith)

pub stem_taken : (parent : List ℕ) → take (length (stem parent)) parent ≡ stem parent
stem_taken parent = stem_front (same parent root) parent

-- by whether the parent is "/"
stem_join : (t : Bool) (parent name : List ℕ) → cond t (slash ∷ name) (parent ++ slash ∷ name) ≡ cond t [] parent ++ slash ∷ name
stem_join true parent name = refl
stem_join false parent name = refl

-- a name that is not "/" stands behind the stem and a "/"
pub join_plain : (parent name : List ℕ) → same name root ≡ false → join parent name ≡ stem parent ++ slash ∷ name
unfolding join
join_plain parent name e = rw e (stem_join (same parent root) parent name)

module _ (parent name unit : List ℕ) where
  -- the name "/" gives "/"
  pub joined_root : same (with_unit name unit) root ≡ true → joined parent name unit ≡ root
  unfolding joined join
  joined_root e = rw e refl

  -- any other the parent's stem, "/" and the name
  pub joined_plain : same (with_unit name unit) root ≡ false → joined parent name unit ≡ stem parent ++ slash ∷ with_unit name unit
  unfolding joined
  joined_plain e = join_plain parent (with_unit name unit) e

  -- its length
  pub joined_length : same (with_unit name unit) root ≡ false → length (joined parent name unit) ≡ length (stem parent) + 1 + length
      (with_unit name unit)
  joined_length e = rw (joined_plain e) (omega (arith, length-append (stem parent) (slash ∷ with_unit name unit)))

  -- its bytes: those of the parent
  pub joined_first : same (with_unit name unit) root ≡ false → (i : ℕ) → i < length (stem parent)
      → get_or parent i 0 ≡ get_or (joined parent name unit) i 0
  joined_first e i h =
      sym (ap (λ (s : List ℕ). get_or s i 0) (joined_plain e)
      ∙ get_or-append (stem parent) (slash ∷ with_unit name unit) 0 i h
      ∙ ap (λ (s : List ℕ). get_or s i 0) (stem_is parent i h))

  -- a "/"
  pub joined_slash : same (with_unit name unit) root ≡ false → (i : ℕ) → i ≡ length (stem parent)
      → slash ≡ get_or (joined parent name unit) i 0
  joined_slash e i h = sym (ap (λ (s : List ℕ). get_or s i 0) (joined_plain e) ∙ get_or_at (stem parent) slash (with_unit name unit) 0 i (sym h))

  -- those of the name
  pub joined_name : same (with_unit name unit) root ≡ false → (i : ℕ) → length (stem parent) < i
      → get_or (with_unit name unit) (i - length (stem parent) - 1) 0 ≡ get_or (joined parent name unit) i 0
  joined_name e i h = sym (ap (λ (s : List ℕ). get_or s i 0) (joined_plain e) ∙ behind (stem parent) slash (with_unit name unit) i h)

-- a text with a "/" in it is "/" where it is one byte long
one_byte : (s t : List ℕ) → eqb (length (s ++ slash ∷ t)) 1 ≡ same (s ++ slash ∷ t) root
unfolding same
one_byte [] [] = refl
one_byte [] (b ∷ t) = ne_eqb (suc (suc (length t))) 1 (λ e. omega arith)
one_byte (a ∷ s) t =
    let n : length (a ∷ (s ++ slash ∷ t)) ≡ 1 → ⊥ = λ e. omega (arith, length-append s (slash ∷ t)) in
    ne_eqb _ _ n ∙ sym (same_lengths (a ∷ (s ++ slash ∷ t)) root n)

-- a joined path is "/" where it is one byte long
pub joined_one : (parent name unit : List ℕ) → eqb (length (joined parent name unit)) 1 ≡ same (joined parent name unit) root
joined_one parent name unit =
    by_test (same (with_unit name unit) root)
    (λ e. rw (joined_root parent name unit e) (one_byte [] []))
    (λ e. rw (joined_plain parent name unit e) (one_byte (stem parent) (with_unit name unit)))
