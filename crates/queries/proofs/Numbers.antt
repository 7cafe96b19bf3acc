-- The answers of the queries by record numbers: that they stand for the definitions that are meant, and how a walk over a chain makes them.
use Prim.Native.Nat.{ℕ, suc, ◌+◌, ◌-◌, ◌≤◌, ◌<◌}
use mathlib.Core.Path.{◌≡◌, refl, sym, ap, ◌∙◌}
use mathlib.Core.Bool.{Bool, true, false, cond}
use mathlib.Core.List.{List, [], ◌∷◌, ◌++◌, map, append-nil, append_assoc}
use native.Mathlib.Omega.{arith}
use native.Mathlib.Numerals.{add-one}
use borrow.Author.Tests.{le-leb, lt-leb}
use lib.ListN.{length, get_or, take, drop, set, replicate, length-append, length-drop, length-replicate}
use lib.Seq.{drop-cons, drop-length, take_all, length-take-le, take-append_seam, drop-append_seam}
use Rattle.std.proofs.lemmas.List.{take_more_set}
use Rattle.paths_numbers.specs.meaning.Text.{same, written}
use Rattle.paths_numbers.proofs.Texts.{by_test}
use Rattle.paths_numbers.proofs.Written.{written_cons}
use Rattle.definition_log.specs.meaning.Contents.{Def}
use Rattle.definition_log.specs.meaning.Record.{first_def}
use Rattle.definition_log.specs.meaning.ReadBack.{chain_of, def_at, read_defs}
use Rattle.queries.specs.meaning.Live.{deletes, is_live, live}
use Rattle.queries.specs.meaning.History.{defined_by, history_from, history}
use Rattle.queries.specs.meaning.Query.{live_numbers, history_numbers, live_answers, history_answers}
use Rattle.queries.specs.machine.Table.{fitted}
use Rattle.queries.specs.machine.Pass.{is_listed, defined_after}

-- what two lists become
map_append : {A B : Type 0} (f : A → B) (x y : List A) → map f (x ++ y) ≡ map f x ++ map f y
map_append f [] y = refl
map_append f (a ∷ x) y = ap (λ (l : List _). f a ∷ l) (map_append f x y)

-- the live numbers are those of the live definitions
pub live_numbers_lem : (def : ℕ → Def) (base l : List ℕ) → map def (live_numbers def base l) ≡ live base (map def l)
unfolding live_numbers live
live_numbers_lem def base [] = refl
live_numbers_lem def base (r ∷ later) =
    map_append def (live_numbers def base later) _
    ∙ rw (live_numbers_lem def base later) (by_test (is_live base (def r) (map def later)) (λ t. rw t refl) (λ t. rw t refl))

-- a history's numbers are those of its definitions
pub history_numbers_lem : (def : ℕ → Def) (defined : Bool) (path l : List ℕ)
    → map def (history_numbers def defined path l) ≡ history_from defined path (map def l)
unfolding history_numbers history_from
history_numbers_lem def defined path [] = refl
history_numbers_lem def defined path (r ∷ later) =
    by_test (same (def r).path path)
    (λ s. rw s (ap (λ (l : List Def). def r ∷ l) (history_numbers_lem def (defined_by (def r) defined) path later)))
    (λ s.
    by_test (cond defined (deletes path (def r)) false)
    (λ t. rw (s, t) (ap (λ (l : List Def). def r ∷ l) (history_numbers_lem def false path later)))
    (λ t. rw (s, t) (history_numbers_lem def defined path later)))

-- so the answers of the queries are what is live, and a history
pub live_answers_lem : (words bytes base : List ℕ) → map (def_at words bytes) (live_answers words bytes base) ≡ live base
    (read_defs words bytes (first_def words))
unfolding live_answers read_defs
live_answers_lem words bytes base = live_numbers_lem (def_at words bytes) base (chain_of words (first_def words))

pub history_answers_lem : (words bytes path : List ℕ) → map (def_at words bytes) (history_answers words bytes path) ≡ history path
    (read_defs words bytes (first_def words))
unfolding history_answers read_defs history
history_answers_lem words bytes path = history_numbers_lem (def_at words bytes) false path (chain_of words (first_def words))

-- a history at one record
history_turn : (def : ℕ → Def) (defined : Bool) (path : List ℕ) (r : ℕ) (later : List ℕ)
    → history_numbers def defined path (r ∷ later)
    ≡ cond (is_listed path (def r) defined) (r ∷ history_numbers def (defined_after path (def r) defined) path later)
    (history_numbers def (defined_after path (def r) defined) path later)
unfolding history_numbers is_listed defined_after
history_turn def defined path r later =
    by_test (same (def r).path path)
    (λ s. rw s refl)
    (λ s. by_test (cond defined (deletes path (def r)) false) (λ t. rw (s, t) refl) (λ t. rw (s, t) refl))

-- and at the first of those that are left
module _ (def : ℕ → Def) (defined : Bool) (path : List ℕ) {r : ℕ} {xs ys : List ℕ} (g : xs ≡ r ∷ ys) {after : Bool}
    (e : after ≡ defined_after path (def r) defined) where
  pub history_listed : is_listed path (def r) defined ≡ true
      → history_numbers def defined path xs ≡ r ∷ history_numbers def after path ys
  history_listed t = rw (g, history_turn def defined path r ys, t, e) refl

  pub history_passed : is_listed path (def r) defined ≡ false
      → history_numbers def defined path xs ≡ history_numbers def after path ys
  history_passed t = rw (g, history_turn def defined path r ys, t, e) refl

-- as answers are collected at the start of an array: w is all of them, and those written and those to come make it
module _ (d : List ℕ) (n : ℕ) {w to_come : List ℕ} (inv : w ≡ take n d ++ to_come) where
  pub one_collected : {b : ℕ} {rest : List ℕ} → to_come ≡ b ∷ rest → n < length d → w ≡ take (n + 1) (set d n b) ++ rest
  one_collected {b = b} {rest = rest} e h = inv ∙ rw (e, take_more_set d n b h) (sym (append_assoc (take n d) (b ∷ []) rest))

  -- so there is room for the next one
  pub room_for_next : {b : ℕ} {rest : List ℕ} → to_come ≡ b ∷ rest → n ≤ length d → length w ≤ length d → n < length d
  room_for_next e h m =
      let k : length (take n d) ≡ n = length-take-le n d h in
      omega (arith, k, m, ap length inv, length-append (take n d) to_come, ap length e)

  -- and in the end they are all written
  pub all_collected : to_come ≡ [] → take n d ≡ w
  all_collected e = sym (inv ∙ rw (e, append-nil) refl)

-- the live numbers from one record of a chain on, by those from the next one on, where the chain is walked from its end
module _ (def : ℕ → Def) (base order left earlier : List ℕ) (r : ℕ) (i : order ≡ left ++ drop (length left) order)
    (e : left ≡ earlier ++ r ∷ []) where
  parts : order ≡ earlier ++ r ∷ drop (length left) order
  parts = i ∙ ap (λ (x : List ℕ). x ++ drop (length left) order) e ∙ append_assoc earlier (r ∷ []) (drop (length left) order)

  pub one_before : drop (length earlier) order ≡ r ∷ drop (length left) order
  one_before = ap (drop (length earlier)) parts ∙ drop-append_seam earlier (r ∷ drop (length left) order)

  pub still_parts : order ≡ earlier ++ drop (length earlier) order
  still_parts = parts ∙ ap (λ (x : List ℕ). earlier ++ x) (sym one_before)

  pub live_taken : is_live base (def r) (map def (drop (length left) order)) ≡ true
      → live_numbers def base (drop (length earlier) order) ≡ live_numbers def base (drop (length left) order) ++ r ∷ []
  unfolding live_numbers
  live_taken t = rw (one_before, t) refl

  pub live_passed : is_live base (def r) (map def (drop (length left) order)) ≡ false
      → live_numbers def base (drop (length earlier) order) ≡ live_numbers def base (drop (length left) order)
  unfolding live_numbers
  live_passed t = rw (one_before, t) (append-nil (live_numbers def base (drop (length left) order)))

-- there are no more of them than records
pub live_most : (def : ℕ → Def) (base l : List ℕ) → length (live_numbers def base l) ≤ length l
unfolding live_numbers
live_most def base [] = omega arith
live_most def base (r ∷ l) =
    by_test (is_live base (def r) (map def l))
    (λ t. rw t (omega (arith, length-append (live_numbers def base l) (r ∷ []), live_most def base l)))
    (λ t. rw (t, append-nil) (omega (arith, live_most def base l)))

-- a history has no more of them than records either
pub history_most : (def : ℕ → Def) (defined : Bool) (path l : List ℕ) → length (history_numbers def defined path l) ≤ length l
unfolding history_numbers
history_most def defined path [] = omega arith
history_most def defined path (r ∷ l) =
    let n = history_most def (defined_after path (def r) defined) path l in
    rw (history_turn def defined path r l)
    (by_test (is_listed path (def r) defined) (λ t. rw t (omega (arith, n))) (λ t. rw t (omega (arith, n))))

-- there are none behind the last
pub live_none : (def : ℕ → Def) (base order : List ℕ) → live_numbers def base (drop (length order) order) ≡ []
unfolding live_numbers
live_none def base order = rw (drop-length order) refl

-- the part of a list from one place on
pub part_on : (s : List ℕ) (i : ℕ) → take (length s - i) (drop i s) ≡ drop i s
part_on s i = take_all (length s - i) (drop i s) (omega (arith, length-drop i s))

-- what is written is at the start
pub written_start : (d s : List ℕ) (n : ℕ) → n ≡ length s → take n (written d 0 s) ≡ s
unfolding written
written_start d s n e = rw e (take-append_seam s (drop (0 + length s) d))

-- one number more of a list that is written number by number: w is the whole written, and the invariant says that the rest written gives it
pub written_next : (d s w : List ℕ) (i : ℕ) → w ≡ written d i (drop i s) → i < length d → i < length s
    → w ≡ written (set d i (get_or s i 0)) (i + 1) (drop (i + 1) s)
written_next d s w i inv h k = inv ∙ rw (drop-cons s i 0 k, written_cons d i (get_or s i 0) (drop (suc i) s) h, add-one i) refl

-- a list that has room for the answers, and one that has not
pub fitted_full : (list answers : List ℕ) → length answers ≤ length list → written list 0 answers ≡ fitted list answers
unfolding fitted
fitted_full list answers h = rw (le-leb _ _ h) refl

pub fitted_short : (list answers : List ℕ) → length list < length answers → list ≡ fitted list answers
unfolding fitted
fitted_short list answers h = rw (lt-leb _ _ h) refl

-- an array of zeros has room for as many
pub zeros_room : (m k : ℕ) (array : List ℕ) → array ≡ replicate m 0 → k ≤ m → k ≤ length array
zeros_room m k array e h =
    let n : length (replicate {A = ℕ} m 0) ≡ m = length-replicate m 0 in
    rw e (omega arith)
