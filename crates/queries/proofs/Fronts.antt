-- A deleted node at or above a path, by look-ups: at "/", at each text that stands before a "/" of the path, and at the path itself.
use Prim.Native.Nat.{ℕ, ◌+◌, ◌≤◌, ◌<◌}
use mathlib.Core.Path.{◌≡◌, refl, sym, ◌∙◌}
use mathlib.Core.Bool.{Bool, true, false, cond}
use mathlib.Core.List.{List, [], ◌∷◌, ◌++◌, append-nil, append_assoc}
use native.Mathlib.Numerals.{add-one}
use native.Mathlib.Omega.{arith}
use borrow.Author.Tests.{eq-eqb, ne_eqb, eqb-true, eqb-false}
use lib.Dec.{eqb}
use lib.ListN.{length, get_or, take, drop, drop_of_length-le}
use lib.Seq.{take-suc, take_all, drop-cons}
use Rattle.std.specs.List.{fold}
use Rattle.paths_numbers.specs.meaning.Byte.{slash}
use Rattle.paths_numbers.specs.meaning.Text.{same, starts_with}
use Rattle.paths_numbers.specs.meaning.Path.{root, at_or_under}
use Rattle.paths_numbers.proofs.Texts.{by_test, both, same_true, same_refl}
use Rattle.paths_numbers.proofs.Under.{Under, whole, below_root, below, under_ways, under_by}
use Rattle.definition_log.specs.meaning.Contents.{Def}
use Rattle.queries.specs.meaning.Kind.{is_deleted_node}
use Rattle.paths_numbers.specs.meaning.Lists.{any}
use Rattle.queries.specs.meaning.Live.{deletes}
use Rattle.queries.specs.machine.Table.{mixed, hash_from, deleted_at}

-- whether a look-up finds something at a text that stands before a "/" of a path, or at the path; so much of it is passed
unfoldable pub above_from : (List ℕ → Bool) → List ℕ → List ℕ → Bool
above_from look passed [] = look passed
above_from look passed (b ∷ s) = cond (cond (eqb b slash) (look passed) false) true (above_from look (passed ++ b ∷ []) s)

-- or at "/", for a path that starts with it
unfoldable pub above : (List ℕ → Bool) → List ℕ → Bool
above look path = cond (cond (starts_with slash path) (look root) false) true (above_from look [] path)

-- a true test, whichever came before it
or_true : (a b : Bool) → b ≡ true → cond a true b ≡ true
or_true true b e = refl
or_true false b e = e

-- tests that are true alike are equal
alike : (a b : Bool) → (a ≡ true → b ≡ true) → (b ≡ true → a ≡ true) → a ≡ b
alike true b f g = sym (f refl)
alike false true f g = g refl
alike false false f g = refl

-- look-ups that find nothing
none_from : (passed s : List ℕ) → above_from (λ f. false) passed s ≡ false
unfolding above_from
none_from passed [] = refl
none_from passed (b ∷ s) = by_test (eqb b slash) (λ t. rw t (none_from (passed ++ b ∷ []) s)) (λ t. rw t (none_from (passed ++ b ∷ []) s))

above_none : (path : List ℕ) → above (λ f. false) path ≡ false
unfolding above
above_none path = by_test (starts_with slash path) (λ t. rw t (none_from [] path)) (λ t. rw t (none_from [] path))

-- two look-ups made as one: at one text
or_both : (t a b x y : Bool) → cond (cond t (cond a true b) false) true (cond x true y) ≡ cond (cond (cond t a false) true x) true
    (cond (cond t b false) true y)
or_both true true b x y = refl
or_both true false true true y = refl
or_both true false true false y = refl
or_both true false false x y = refl
or_both false a b x y = refl

module _ (a b : List ℕ → Bool) where
  both_from : (passed s : List ℕ) → above_from (λ f. cond (a f) true (b f)) passed s ≡ cond (above_from a passed s) true
      (above_from b passed s)
  unfolding above_from
  both_from passed [] = refl
  both_from passed (c ∷ s) =
      rw (both_from (passed ++ c ∷ []) s)
      (or_both (eqb c slash) (a passed) (b passed) (above_from a (passed ++ c ∷ []) s) (above_from b (passed ++ c ∷ []) s))

  above_both : (path : List ℕ) → above (λ f. cond (a f) true (b f)) path ≡ cond (above a path) true (above b path)
  unfolding above
  above_both path = rw (both_from [] path) (or_both (starts_with slash path) (a root) (b root) (above_from a [] path) (above_from b [] path))

-- a look-up finds at the path itself, and before one of its "/"
module _ (look : List ℕ → Bool) where
  found_own : (passed s : List ℕ) → look (passed ++ s) ≡ true → above_from look passed s ≡ true
  unfolding above_from
  found_own passed [] t = rw append-nil at t
  found_own passed (b ∷ s) t =
      or_true (cond (eqb b slash) (look passed) false) _ (found_own (passed ++ b ∷ []) s (rw (append_assoc passed (b ∷ []) s) t))

  found_before : (passed s rest : List ℕ) → look (passed ++ s) ≡ true → above_from look passed (s ++ slash ∷ rest) ≡ true
  unfolding above_from
  found_before passed [] rest t = rw (rw append-nil at t) refl
  found_before passed (b ∷ s) rest t =
      or_true (cond (eqb b slash) (look passed) false) _ (found_before (passed ++ b ∷ []) s rest (rw (append_assoc passed (b ∷ []) s) t))

-- what is found so is at or above the path
module _ (p q : List ℕ) where
  above_found : Under p q → above (λ f. same q f) p ≡ true
  unfolding above
  above_found (whole e) =
      or_true (cond (starts_with slash p) (same q root) false) _ (found_own (λ f. same q f) [] p (rw e (same_refl q)))
  above_found (below_root e s) = rw (s, e, same_refl root) refl
  above_found (below rest e) =
      or_true (cond (starts_with slash p) (same q root) false) _ (rw e (found_before (λ f. same q f) [] q rest (same_refl q)))

  found_from : (passed s : List ℕ) → p ≡ passed ++ s → above_from (λ f. same q f) passed s ≡ true → Under p q
  unfolding above_from
  found_from passed [] e t = whole (e ∙ append-nil passed ∙ sym (same_true q passed t))
  found_from passed (b ∷ s) e t =
      by_test (cond (eqb b slash) (same q passed) false)
      (λ z.
      let h = both (eqb b slash) _ z in
      below s (e ∙ rw (same_true q passed h.1, eqb-true b slash h.0) refl))
      (λ z. found_from (passed ++ b ∷ []) s (e ∙ sym (append_assoc passed (b ∷ []) s)) (rw z at t))

  found_above : above (λ f. same q f) p ≡ true → Under p q
  unfolding above
  found_above t =
      by_test (cond (starts_with slash p) (same q root) false)
      (λ z. let h = both (starts_with slash p) _ z in below_root (same_true q root h.1) h.0)
      (λ z. found_from [] p refl (rw z at t))

  under_above : at_or_under p q ≡ above (λ f. same q f) p
  under_above = alike _ _ (λ t. above_found (under_ways p q t)) (λ t. under_by (found_above t))

  -- of a deleted node, and of any other
  deleted_above : (k : Bool) → cond k (at_or_under p q) false ≡ above (λ f. cond k (same q f) false) p
  deleted_above true = under_above
  deleted_above false = sym (above_none p)

-- whether a deleted node is at a path
abbrev pub deleted_in : List Def → List ℕ → Bool
deleted_in l path = any (deleted_at path) l

-- so a deleted node at or above a path is found by look-ups
deletes_above : (p : List ℕ) (l : List Def) → any (deletes p) l ≡ above (deleted_in l) p
unfolding any
deletes_above p [] = sym (above_none p)
deletes_above p (d ∷ l) =
    rw (deletes_above p l, deleted_above p d.path (is_deleted_node d.value)) (sym (above_both (λ f. deleted_at f d) (deleted_in l) p))

-- the first of them is at "/"
pub above_start : (p : List ℕ) (l : List Def) (found : Bool) → found ≡ cond (starts_with slash p) (deleted_in l root) false
    → any (deletes p) l ≡ cond found true (above_from (deleted_in l) [] p)
unfolding above
above_start p l found e = deletes_above p l ∙ rw e refl

-- w is whether the whole path is found, and the invariant says that what is left decides it
module _ (look : List ℕ → Bool) (s : List ℕ) (i : ℕ) (found w : Bool) (inv : w ≡ cond found true (above_from look (take i s) (drop i s)))
  where
    -- at a "/"
    pub above_slash : i < length s → get_or s i 0 ≡ slash → (after : Bool) → after ≡ cond found true (look (take i s))
        → w ≡ cond after true (above_from look (take (i + 1) s) (drop (i + 1) s))
    unfolding above_from
    above_slash n e after f =
        inv ∙ rw (drop-cons s i 0 n, add-one, take-suc s i 0 n, f, eq-eqb _ _ e)
        (by_test found (λ t. rw t refl) (λ t. rw t refl))

    -- at another byte
    pub above_pass : i < length s → (get_or s i 0 ≡ slash → ⊥) → w ≡ cond found true (above_from look (take (i + 1) s) (drop (i + 1) s))
    unfolding above_from
    above_pass n e = inv ∙ rw (drop-cons s i 0 n, add-one, take-suc s i 0 n, ne_eqb _ _ e) refl

    -- at either
    pub above_next : i < length s → (after : Bool) → (get_or s i 0 ≡ slash → after ≡ cond found true (look (take i s)))
        → ((get_or s i 0 ≡ slash → ⊥) → after ≡ found) → w ≡ cond after true (above_from look (take (i + 1) s) (drop (i + 1) s))
    above_next n after at other =
        by_test (eqb (get_or s i 0) slash) (λ t. let e = eqb-true _ _ t in above_slash n e after (at e))
        (λ t. let e = eqb-false _ _ t in rw (other e) (above_pass n e))

    -- behind the last
    pub above_end : length s ≤ i → cond found true (look s) ≡ w
    unfolding above_from
    above_end n = sym (inv ∙ rw (drop_of_length-le s n, take_all i s n) refl)

-- a path that starts with "/", by its first byte
pub first_none : (p : List ℕ) → length p ≡ 0 → starts_with slash p ≡ false
unfolding starts_with
first_none [] e = refl
first_none (b ∷ p) e = absurd (omega arith)

pub first_other : (p : List ℕ) → (get_or p 0 0 ≡ slash → ⊥) → starts_with slash p ≡ false
unfolding starts_with
first_other [] n = refl
first_other (b ∷ p) n = ne_eqb b slash n

pub first_slash : (p : List ℕ) → (length p ≡ 0 → ⊥) → get_or p 0 0 ≡ slash → (starts_with slash p ≡ true) × (take 1 p ≡ root)
unfolding starts_with
first_slash [] n e = absurd (n refl)
first_slash (b ∷ p) n e = (eq-eqb b slash e, rw e refl)

-- the hash of one byte more
hash_more : (h : ℕ) (s : List ℕ) (b : ℕ) → hash_from h (s ++ b ∷ []) ≡ mixed (hash_from h s) b
unfolding hash_from
hash_more h [] b = refl
hash_more h (a ∷ s) b = hash_more (mixed h a) s b

-- the hash of what is passed
module _ (s : List ℕ) (i h : ℕ) (inv : h ≡ hash_from 0 (take i s)) where
  pub hash_step : i < length s → (after : ℕ) → after ≡ mixed h (get_or s i 0) → after ≡ hash_from 0 (take (i + 1) s)
  hash_step n after e = e ∙ rw (add-one, take-suc s i 0 n, hash_more 0 (take i s) (get_or s i 0), ← inv) refl

  pub hash_end : length s ≤ i → h ≡ hash_from 0 s
  hash_end n = inv ∙ rw (take_all i s n) refl

-- the hash of "/"
pub root_hash : hash_from 0 root ≡ 47
unfolding hash_from mixed
root_hash = refl

-- the hash of a text, byte after byte
pub hash_fold : (h : ℕ) (s : List ℕ) → fold mixed h s ≡ hash_from h s
unfolding hash_from
hash_fold h [] = refl
hash_fold h (b ∷ s) = hash_fold (mixed h b) s
