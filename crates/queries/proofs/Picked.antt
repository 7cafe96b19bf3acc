-- One pass over a chain, which keeps the first path found, gives the one distinct path of those that are taken.
use Prim.Native.Nat.{ℕ}
use mathlib.Core.Path.{◌≡◌, refl, sym, ap, ◌∙◌}
use mathlib.Core.Bool.{Bool, true, false, not}
use mathlib.Core.List.{List, [], ◌∷◌, map}
use borrow.Author.Tests.{eq-eqb}
use lib.Dec.{eqb}
use Rattle.std.specs.Prelude.{Option, Some, None, is_some, unwrap_or}
use Rattle.paths_numbers.specs.meaning.Text.{same}
use Rattle.paths_numbers.specs.meaning.Lists.{any}
use Rattle.paths_numbers.proofs.Texts.{by_test, not_both}
use Rattle.short_paths.specs.meaning.Short.{may_mean}
use Rattle.definition_log.specs.meaning.Contents.{Def}
use Rattle.definition_log.specs.meaning.Record.{first_text}
use Rattle.definition_log.specs.meaning.ReadBack.{chain_of, def_at, read_defs}
use Rattle.queries.specs.meaning.Kind.{is_node}
use Rattle.queries.specs.meaning.Live.{live}
use Rattle.queries.specs.meaning.Lookup.{LookedUp, found, no_node, several, node_paths, distinct}
use Rattle.queries.specs.machine.Looked.{candidate, another}
use Rattle.queries.proofs.Distinct.{distinct_same}
use Rattle.queries.proofs.Meant.{same_turned, candidates_same}

-- a test turned round
turned_false : (t : Bool) → not t ≡ false → t ≡ true
turned_false true k = refl
turned_false false k = absurd (not_both {t = true} refl k)

turned_true : (t : Bool) → not t ≡ true → t ≡ false
turned_true true k = absurd (not_both {t = false} k refl)
turned_true false k = refl

-- whether there was one before
none_before : (before : Option ℕ) → is_some before ≡ false → before ≡ None
none_before None z = refl
none_before (Some q) z = absurd (not_both {t = true} refl z)

no_some : {q : ℕ} → None ≡ Some q → ⊥
no_some e = not_both {t = false} (ap is_some e) refl

some_same : {q r : ℕ} → Some r ≡ Some q → r ≡ q
some_same e = ap (λ (x : Option ℕ). unwrap_or x 0) e

module _ (def : ℕ → Def) (defs : List Def) (p : List ℕ) where
  -- the path found before, where there is one, and those that are taken behind it
  abbrev pub pending : Option ℕ → List ℕ → List (List ℕ)
  pending None rs = node_paths (candidate p defs) (map def rs)
  pending (Some q) rs = (def q).path ∷ node_paths (candidate p defs) (map def rs)

  pub passed : (before : Option ℕ) (r : ℕ) (rs : List ℕ) → another def defs p before r ≡ false
      → distinct (pending before (r ∷ rs)) ≡ distinct (pending before rs)
  unfolding another node_paths distinct any
  passed None r rs h =
      by_test (is_node (def r).value)
      (λ n. by_test (candidate p defs (def r).path)
      (λ t. absurd (not_both {t = true} refl (rw (n, t) at h)))
      (λ t. rw (n, t) refl))
      (λ n. rw n refl)
  passed (Some q) r rs h =
      by_test (is_node (def r).value)
      (λ n. by_test (candidate p defs (def r).path)
      (λ t. let e : same (def r).path (def q).path ≡ true =
      same_turned (def r).path (def q).path ∙ turned_false (same (def q).path (def r).path) (rw (n, t) at h) in
      rw (n, t, e) refl)
      (λ t. rw (n, t) refl))
      (λ n. rw n refl)

  -- it is at another path than the one found before
  differs : (q r : ℕ) → another def defs p (Some q) r ≡ true → not (same (def q).path (def r).path) ≡ true
  unfolding another
  differs q r h =
      by_test (is_node (def r).value)
      (λ n. by_test (candidate p defs (def r).path)
      (λ t. rw (n, t) at h)
      (λ t. absurd (not_both {t = false} (rw (n, t) at h) refl)))
      (λ n. absurd (not_both {t = false} (rw n at h) refl))

  -- a node at another path is one that is taken
  pub another_taken : (before : Option ℕ) (r : ℕ) (rs : List ℕ) → another def defs p before r ≡ true
      → node_paths (candidate p defs) (map def (r ∷ rs)) ≡ (def r).path ∷ node_paths (candidate p defs) (map def rs)
  unfolding another node_paths
  another_taken before r rs h =
      by_test (is_node (def r).value)
      (λ n. by_test (candidate p defs (def r).path)
      (λ t. rw (n, t) refl)
      (λ t. absurd (not_both {t = false} (rw (n, t) at h) refl)))
      (λ n. absurd (not_both {t = false} (rw n at h) refl))

  pub second : (q r : ℕ) (rs : List ℕ) → another def defs p (Some q) r ≡ true → distinct (pending (Some q) (r ∷ rs)) ≡ several
  unfolding distinct any
  second q r rs h =
      let n : not (same (def q).path (def r).path) ≡ true = differs q r h in
      rw (another_taken (Some q) r rs h, same_turned (def r).path (def q).path, n) refl

  pub second_of : (before : Option ℕ) (r : ℕ) (rs : List ℕ) → another def defs p before r ≡ true → is_some before ≡ true
      → distinct (pending before (r ∷ rs)) ≡ several
  second_of None r rs h z = absurd (not_both {t = false} z refl)
  second_of (Some q) r rs h z = second q r rs h

  -- the first of them
  pub another_taken_first : (r : ℕ) (rs : List ℕ) → another def defs p None r ≡ true
      → distinct (pending None (r ∷ rs)) ≡ distinct (pending (Some r) rs)
  another_taken_first r rs h = rw (another_taken None r rs h) refl

  -- at the end
  pub none_found : distinct (pending None []) ≡ no_node
  unfolding distinct node_paths
  none_found = refl

  pub one_found : (q : ℕ) → distinct (pending (Some q) []) ≡ found (def q).path
  unfolding distinct node_paths any
  one_found q = refl

-- the pass over a chain with this left of it, and the node found before
pub record Passing (words bytes : List ℕ) (first : ℕ) (p : List ℕ) (before : Option ℕ) (left : List ℕ) : Type 0 where
  pub answer :
      distinct (node_paths (candidate p (read_defs words bytes first)) (read_defs words bytes first))
      ≡ distinct (pending (def_at words bytes) (read_defs words bytes first) p before left)
  pub inside : (q : ℕ) → any (eqb q) left ≡ true → any (eqb q) (chain_of words first) ≡ true
  pub known : (q : ℕ) → before ≡ Some q → any (eqb q) (chain_of words first) ≡ true

-- what the code answers stands for what the definition gives
abbrev Meant : List ℕ → List ℕ → ℕ → List ℕ → LookedUp → Type 0
Meant words bytes first p v = v ≡ distinct (node_paths (may_mean p) (live [] (read_defs words bytes first)))

pub passing_start : (words bytes : List ℕ) (first : ℕ) (p left : List ℕ) → left ≡ chain_of words first
    → Passing words bytes first p None left
unfolding read_defs
passing_start words bytes first p left e =
    rw e (record { answer = refl; inside = λ q h. h; known = λ q z. absurd (no_some z) })

module _ {words bytes : List ℕ} {first : ℕ} {p : List ℕ} {before : Option ℕ} {left : List ℕ}
    (h : Passing words bytes first p before left) where
  due : {v : LookedUp} → distinct (pending (def_at words bytes) (read_defs words bytes first) p before left) ≡ v
      → Meant words bytes first p v
  due e = sym e ∙ sym h.answer ∙ distinct_same _ _ (candidates_same p (read_defs words bytes first))

  module _ {r : ℕ} {rest : List ℕ} (g : left ≡ r ∷ rest) where
    here : any (eqb r) (chain_of words first) ≡ true
    unfolding any
    here = h.inside r (rw (g, eq-eqb r r refl) refl)

    rest_inside : (q : ℕ) → any (eqb q) rest ≡ true → any (eqb q) (chain_of words first) ≡ true
    unfolding any
    rest_inside q k = h.inside q (rw g (by_test (eqb q r) (λ t. rw t refl) (λ t. rw t k)))

    -- the record is passed by
    pub passing_by : another (def_at words bytes) (read_defs words bytes first) p before r ≡ false
        → Passing words bytes first p before rest
    passing_by n =
        record {
          answer = h.answer ∙ rw g (passed (def_at words bytes) (read_defs words bytes first) p before r rest n);
          inside = rest_inside;
          known = h.known;
        }

    -- it is the first that is taken
    pub passing_taken : another (def_at words bytes) (read_defs words bytes first) p before r ≡ true → is_some before ≡ false
        → Passing words bytes first p (Some r) rest
    passing_taken n z =
        let e = none_before before z in
        record {
          answer =
              h.answer ∙ rw (g, e) (another_taken_first (def_at words bytes) (read_defs words bytes first) p r rest (rw e at n));
          inside = rest_inside;
          known = λ q k. rw (← some_same k) here;
        }

    -- it is the second
    pub passing_second : another (def_at words bytes) (read_defs words bytes first) p before r ≡ true → is_some before ≡ true
        → Meant words bytes first p several
    passing_second n z = due (rw g (second_of (def_at words bytes) (read_defs words bytes first) p before r rest n z))

  -- there are no more
  pub passing_none : left ≡ [] → before ≡ None → Meant words bytes first p no_node
  passing_none g e = due (rw (g, e) (none_found (def_at words bytes) (read_defs words bytes first) p))

  pub passing_one : {q : ℕ} → left ≡ [] → before ≡ Some q → Meant words bytes first p (found (first_text words bytes q))
  unfolding def_at
  passing_one {q = q} g e = due (rw (g, e) (one_found (def_at words bytes) (read_defs words bytes first) p q))
