-- The search for the first record of a chain with a text, and where a reference leads by it.
use Prim.Native.Nat.{ℕ}
use mathlib.Core.Path.{◌≡◌, refl, sym, ap, ◌∙◌}
use mathlib.Core.Bool.{Bool, true, false}
use mathlib.Core.List.{List, [], ◌∷◌, ◌++◌, map, append-nil, head-eq_of_cons-eq, tail-eq_of_cons-eq}
use mathlib.Core.Option.{some, none}
use native.Mathlib.Omega.{arith}
use borrow.Author.Tests.{eqb-true}
use Rattle.std.specs.Prelude.{Option as Maybe, Some, None, Result, Ok, Err, MatchResult, IsErrAnd}
use Rattle.std.proofs.lemmas.Result.{err_from_is_err_and}
use lib.Dec.{eqb}
use lib.Seq.{append_snoc}
use Rattle.paths_numbers.specs.meaning.Code.{node_not_found, node_ambiguous}
use Rattle.paths_numbers.specs.meaning.Text.{is_empty}
use Rattle.paths_numbers.specs.meaning.Path.{join, joined, with_unit}
use Rattle.paths_numbers.proofs.Texts.{by_test, not_both, same_true, same_refl}
use Rattle.definition_log.specs.meaning.Contents.{Def, Binding, Span}
use Rattle.definition_log.specs.meaning.Record.{first_text, second_text}
use Rattle.definition_log.specs.meaning.ReadBack.{chain_of, binding_at, read_bindings, read_defs}
use Rattle.making.specs.machine.Represents.{last_number, Context, Represents, Steps}
use Rattle.paths_numbers.specs.meaning.Lists.{any}
use Rattle.paths_numbers.proofs.Lists.{any_append as any_both, any_head, any_back}
use Rattle.queries.specs.meaning.Live.{contains_node}
use Rattle.queries.specs.meaning.Lookup.{lookup}
use Rattle.queries.specs.machine.Looked.{looked_up, AnswersLookup}
use Rattle.queries.specs.declared.lookup.Lookup.{Lookup}
use Rattle.queries.specs.declared.lookup.Lookup.TheVariants as L
use Rattle.queries.proofs.LookedUp.{found_live}
use Rattle.paths_numbers.specs.meaning.Reference.{Target, label, label_path, path}
use Rattle.resolving.specs.meaning.Resolve.{first_binding, by_lookup, by_label, below_label, live_at, resolve}
use Rattle.resolving.specs.meaning.Resolve.{missing, reaches}
use Rattle.input.specs.machine.PhandleRead.{label_at, path_at, phandle_read}
use Rattle.input.specs.declared.report.Report.{Report}
use Rattle.paths_numbers.specs.declared.phandle.MirPhandleTarget.{MirPhandleTarget}
use Rattle.paths_numbers.specs.declared.phandle.MirPhandleTarget.TheVariants as K
use Rattle.resolving.specs.machine.Leading.{has_text, FirstAt, FirstWith, resolution, InChain, bound_by, Leads}
use Rattle.resolving.specs.machine.Leading.{AnswersBelow, AnswersPath, ReportsMissing, node_found}
use Rattle.making.specs.machine.PathPlaces.{placed_in, path_in}
use Rattle.making.specs.declared.ctx.LowerCtx.{LowerCtx}
use Rattle.making.specs.declared.place.PathAt.{PathAt}
use Rattle.definition_log.specs.declared.parts.Span.{Span as LogSpan}
use Rattle.making.specs.machine.Recs.{diag_made, no_span}
use Rattle.definition_log.specs.machine.Parts.{meant}
use Rattle.making.specs.meaning.State.{State, emit}
use Rattle.making.proofs.InHand.{represents_defs, binding_path as path_of_binding}
use Rattle.queries.specs.meaning.Kind.{sets_overlay}
use Rattle.input.specs.meaning.Report.{report}
use Rattle.resolving.specs.declared.resolve.Found.{Found}
use Rattle.resolving.proofs.Under.{emit_none}
use Rattle.resolving.specs.declared.resolve.Leads.{Leads as Led}
use Rattle.resolving.specs.declared.resolve.Leads.TheVariants as R
use Rattle.resolving.specs.declared.resolve.Missing.{Missing}
use Rattle.resolving.specs.declared.resolve.Missing.TheVariants as M

-- the last number of a list with one more
pub last_snoc : (ns : List ℕ) (n : ℕ) → last_number (ns ++ n ∷ []) ≡ n
unfolding last_number
last_snoc [] n = refl
last_snoc (a ∷ []) n = refl
last_snoc (a ∷ b ∷ l) n = last_snoc (b ∷ l) n

-- whether some element passes a test, of two lists of which the first has none that does
pub any_append : {A : Type 0} (f : A → Bool) (xs ys : List A) → any f xs ≡ false → any f (xs ++ ys) ≡ any f ys
any_append f xs ys h = any_both f xs ys ∙ rw h refl

-- what a walk along a chain has passed: none of it has the text
pub record Passed (words bytes : List ℕ) (first : ℕ) (t : List ℕ) (previous : ℕ) (left : List ℕ) : Type 0 where
  pub before : List ℕ
  pub chain : chain_of words first ≡ before ++ left
  pub previous_is : previous ≡ last_number before
  pub others : any (has_text words bytes t) before ≡ false

pub passed_none : (words bytes : List ℕ) (first : ℕ) (t : List ℕ) → Passed words bytes first t 0 (chain_of words first)
unfolding last_number any
passed_none words bytes first t = record { before = []; chain = refl; previous_is = refl; others = refl }

module _ {words bytes : List ℕ} {first : ℕ} {t : List ℕ} {previous : ℕ} where
  pub passed_one : {r : ℕ} {left : List ℕ} → Passed words bytes first t previous (r ∷ left) → has_text words bytes t r ≡ false
      → Passed words bytes first t r left
  unfolding any
  passed_one {r} p h =
      record {
        before = p.before ++ r ∷ [];
        chain = p.chain ∙ rw append_snoc refl;
        previous_is = sym (last_snoc p.before r);
        others = any_append (has_text words bytes t) p.before (r ∷ []) p.others ∙ rw h refl;
      }

  pub passed_found : {r : ℕ} {left : List ℕ} → Passed words bytes first t previous (r ∷ left) → has_text words bytes t r ≡ true
      → FirstAt words bytes first t r previous
  passed_found {r} {left} p h =
      record {
        before = p.before;
        after = left;
        chain = p.chain;
        previous_is = p.previous_is;
        others = p.others;
        has = same_true (first_text words bytes r) t h;
      }

  pub passed_all : Passed words bytes first t previous [] → any (has_text words bytes t) (chain_of words first) ≡ false
  passed_all p = ap (any (has_text words bytes t)) (p.chain ∙ rw append-nil refl) ∙ p.others

-- a list has one first element that passes a test
one_first : (f : ℕ → Bool) (x y : List ℕ) (m n : ℕ) (z w : List ℕ) → x ++ m ∷ z ≡ y ++ n ∷ w → any f x ≡ false → any f y ≡ false
    → f m ≡ true → f n ≡ true → (m ≡ n) × (x ≡ y)
unfolding any
one_first f [] [] m n z w e a b h k = (head-eq_of_cons-eq e, refl)
one_first f [] (u ∷ y) m n z w e a b h k = absurd (not_both (rw (← head-eq_of_cons-eq e, h) refl) b)
one_first f (t ∷ x) [] m n z w e a b h k = absurd (not_both (rw (head-eq_of_cons-eq e, k) refl) a)
one_first f (t ∷ x) (u ∷ y) m n z w e a b h k =
    by_test (f t) (λ q. absurd (not_both (rw q refl) a))
    (λ q.
    let r : f u ≡ false = rw (head-eq_of_cons-eq e) at q in
    let i = one_first f x y m n z w (tail-eq_of_cons-eq e) (rw q at a) (rw r at b) h k in
    (i.0, rw (head-eq_of_cons-eq e, i.1) refl))

-- so that the chain and the text decide what the search answers
module _ {words bytes : List ℕ} {first : ℕ} {t : List ℕ} where
  passes : {r previous : ℕ} → FirstAt words bytes first t r previous → has_text words bytes t r ≡ true
  passes x = rw (x.has, same_refl t) refl

  never_missed : {r previous : ℕ} → any (has_text words bytes t) (chain_of words first) ≡ false → FirstAt words bytes first t r previous → ⊥
  never_missed {r} h x =
      let y = any_head (has_text words bytes t) r x.after (passes x) in
      not_both (ap (any (has_text words bytes t)) x.chain ∙ any_back (has_text words bytes t) x.before (r ∷ x.after) y) h

pub answers_once : (words bytes : List ℕ) (first : ℕ) (t : List ℕ) (f g : Maybe Found) → FirstWith words bytes first t f
    → FirstWith words bytes first t g → f ≡ g
answers_once words bytes first t None None a b = refl
answers_once words bytes first t None (Some g) a b = absurd (never_missed a b)
answers_once words bytes first t (Some f) None a b = absurd (never_missed b a)
answers_once words bytes first t (Some f) (Some g) a b =
    let i = one_first (has_text words bytes t) a.before b.before f.number g.number a.after b.after
    (sym a.chain ∙ b.chain) a.others b.others
    (passes a) (passes b) in
    ap (λ (x : Found). Some x) (alike f g i.0 (a.previous_is ∙ ap last_number i.1 ∙ sym b.previous_is))
  where
    alike : (f g : Found) → f.number ≡ g.number → f.previous ≡ g.previous → f ≡ g
    alike f g e h = rw (e, h) refl

-- the same of bindings: the label's first
module _ (words bytes : List ℕ) (l : List ℕ) where
  pub no_binding : (ns : List ℕ) → any (has_text words bytes l) ns ≡ false → first_binding l (map (binding_at words bytes) ns) ≡ none
  unfolding any first_binding binding_at
  no_binding [] h = refl
  no_binding (n ∷ ns) h =
      by_test (has_text words bytes l n) (λ q. absurd (not_both (rw q refl) h)) (λ q. rw q (no_binding ns (rw q at h)))

  pub a_binding : (ns : List ℕ) (n : ℕ) (ms : List ℕ) → any (has_text words bytes l) ns ≡ false → first_text words bytes n ≡ l
      → first_binding l (map (binding_at words bytes) (ns ++ n ∷ ms)) ≡ some (second_text words bytes n)
  unfolding any first_binding binding_at
  a_binding [] n ms h e = rw (e, same_refl l) refl
  a_binding (m ∷ ns) n ms h e =
      by_test (has_text words bytes l m) (λ q. absurd (not_both (rw q refl) h)) (λ q. rw q (a_binding ns n ms (rw q at h) e))

  pub label_missing : (first : ℕ) → any (has_text words bytes l) (chain_of words first) ≡ false → first_binding l (read_bindings words bytes first) ≡ none
  unfolding read_bindings
  label_missing first h = no_binding (chain_of words first) h

  pub label_there : {first n previous : ℕ} → FirstAt words bytes first l n previous
      → first_binding l (read_bindings words bytes first) ≡ some (second_text words bytes n)
  unfolding read_bindings
  label_there {n = n} x =
      ap (λ (c : List ℕ). first_binding l (map (binding_at words bytes) c)) x.chain
      ∙ a_binding x.before n x.after x.others x.has

-- a name without a unit address
pub joined_plain : (parent name : List ℕ) → joined parent name [] ≡ join parent name
unfolding joined with_unit is_empty
joined_plain parent name = refl

-- where a reference leads by the look-up of its own path, and of the path below binding n's
abbrev pub told_missing : (ℕ → Missing) → Result Led ℕ → Result Led Missing
told_missing f (Ok to) = Ok to
told_missing f (Err code) = Err (f code)

abbrev pub path_led : Lookup → Result Led Missing
path_led v = told_missing M.NoNode (node_found R.AtPath v)

abbrev pub below_led : ℕ → Lookup → Result Led Missing
below_led n v = told_missing (λ code. M.NoNodeBelow code n) (node_found (R.BoundPath n) v)

pub told : (f : ℕ → Missing) (r : Result Led ℕ) {o : Result Led Missing} {P : ℕ → Missing → Type 0}
    → MatchResult r (λ x. o ≡ Ok x) (λ e. IsErrAnd o (P e)) → ((e : ℕ) (d : Missing) → P e d → d ≡ f e)
    → o ≡ told_missing f r
told f (Ok x) m h = m
told f (Err e) {o} m h = let p = err_from_is_err_and o m in p.1 ∙ ap Err (h e p.0 p.2)

module _ (words bytes l p : List ℕ) where
  path_led_lem : (v : Lookup) → resolution words bytes l p (path_led v) ≡ by_lookup p (looked_up words bytes p v)
  unfolding resolution
  path_led_lem L.Exact = refl
  path_led_lem L.NoNode = refl
  path_led_lem (L.Node r) = refl
  path_led_lem L.Several = refl

  below_led_lem : (n : ℕ) (v : Lookup) → resolution words bytes l p (below_led n v) ≡ by_lookup (joined (second_text words bytes n) p [])
      (looked_up words bytes (joined (second_text words bytes n) p []) v)
  unfolding resolution
  below_led_lem n L.Exact = refl
  below_led_lem n L.NoNode = refl
  below_led_lem n (L.Node r) = refl
  below_led_lem n L.Several = refl

-- where a reference leads
module _ (words bytes l p : List ℕ) where
  module _ (first : ℕ) (h : any (has_text words bytes l) (chain_of words first) ≡ false) where
    pub no_label : resolution words bytes l p (Err M.NoLabel) ≡ by_label l (first_binding l (read_bindings words bytes first))
    unfolding resolution
    no_label = rw (label_missing words bytes l first h) refl

    pub no_label_below : (defs : List Def) → resolution words bytes l p (Err M.NoLabel) ≡ below_label l p
        (first_binding l (read_bindings words bytes first)) defs
    unfolding resolution
    no_label_below defs = rw (label_missing words bytes l first h) refl

  module _ {first n previous : ℕ} (x : FirstAt words bytes first l n previous) where
    pub leads_label : resolution words bytes l p (Ok (R.Bound n)) ≡ by_label l (first_binding l (read_bindings words bytes first))
    unfolding resolution
    leads_label = rw (label_there words bytes l x) refl

    leads_below : (defs : List Def) (v : Lookup)
        → looked_up words bytes (joined (second_text words bytes n) p []) v
        ≡ lookup (joined (second_text words bytes n) p []) defs
        → resolution words bytes l p (below_led n v) ≡ below_label l p (first_binding l (read_bindings words bytes first)) defs
    leads_below defs v e =
        let j = joined_plain (second_text words bytes n) p in
        below_led_lem words bytes l p n v ∙ ap (by_lookup (joined (second_text words bytes n) p [])) e
        ∙ rw (label_there words bytes l x, ← j) refl

leads_path : (words bytes l p : List ℕ) (defs : List Def) (v : Lookup) → looked_up words bytes p v ≡ lookup p defs
    → resolution words bytes l p (path_led v) ≡ live_at p defs
leads_path words bytes l p defs v e = path_led_lem words bytes l p v ∙ ap (by_lookup p) e

-- a reference by what it was read as
module _ (words text : List ℕ) (r : ℕ) (k : Result MirPhandleTarget Report) (t : Target) (e : (phandle_read words text r k).result ≡ some t) where
  abbrev l : List ℕ
  l = label_at words text r

  abbrev p : List ℕ
  p = path_at words text r

  module _ (binds : List Binding) (defs : List Def) where
    pub read_label : (f : MirPhandleTarget) → k ≡ Ok f → f ≡ K.Label → by_label l (first_binding l binds) ≡ resolve t binds defs
    unfolding resolve
    read_label f h g = let q : label l ≡ t = cc (rw (h, g) at e) in rw (← q) refl

    pub read_below : (f : MirPhandleTarget) → k ≡ Ok f → f ≡ K.LabelPath → below_label l p (first_binding l binds) defs ≡ resolve t binds defs
    unfolding resolve
    read_below f h g = let q : label_path l p ≡ t = cc (rw (h, g) at e) in rw (← q) refl

    pub read_path : (f : MirPhandleTarget) → k ≡ Ok f → f ≡ K.Path → live_at p defs ≡ resolve t binds defs
    unfolding resolve
    read_path f h g = let q : path p ≡ t = cc (rw (h, g) at e) in rw (← q) refl

  -- one that cannot be read names nothing
  pub read_nothing : ((f : MirPhandleTarget) → k ≡ Ok f → ⊥) → ⊥
  read_nothing h = go k e h
    where
      go : (k : Result MirPhandleTarget Report) → (phandle_read words text r k).result ≡ some t → ((f : MirPhandleTarget) → k ≡ Ok f → ⊥) → ⊥
      go (Ok f) e h = h f refl
      go (Err d) e h = let z : ◌≡◌ {A = ℕ} 0 1 = cc in omega arith

-- a binding that was found is one of the log's
pub bound_there : {words bytes : List ℕ} {first : ℕ} {t : List ℕ} {n previous : ℕ} → FirstAt words bytes first t n previous
    → InChain words first n
bound_there x = record { before = x.before; after = x.after; chain = x.chain }

-- a definition that was found is one of the log's
number_in : (r : ℕ) (ns : List ℕ) → any (eqb r) ns ≡ true → (before : List ℕ) × (after : List ℕ) × (ns ≡ before ++ r ∷ after)
unfolding any
number_in r [] h = absurd (not_both {t = false} h refl)
number_in r (n ∷ ns) h =
    by_test (eqb r n)
    (λ q. ([], ns, ap (λ (m : ℕ). m ∷ ns) (sym (eqb-true r n q))))
    (λ q. let i = number_in r ns (rw q at h) in (n ∷ i.0, i.1, ap (λ (m : List ℕ). n ∷ m) i.2))

node_there : (words : List ℕ) (first r : ℕ) → any (eqb r) (chain_of words first) ≡ true → InChain words first r
node_there words first r h = let i = number_in r (chain_of words first) h in record { before = i.0; after = i.1; chain = i.2 }

module _ {words bytes : List ℕ} {binds defs : ℕ} {l p : List ℕ} where
  bound_in : (v : Result Led Missing) {n previous : ℕ} → FirstAt words bytes binds l n previous → bound_by v ≡ some n
      → Leads words bytes binds defs l p v
  bound_in v {n} w e =
      record {
        there = λ r q. let i : n ≡ r = cc in rw (← i) (bound_there w);
        first = λ r q. let i : n ≡ r = cc in rw (← i) (label_there words bytes l w);
        alive = λ q. let i : none ≡ some n = sym (ap bound_by q) ∙ e in let x : ◌≡◌ {A = ℕ} 0 1 = cc in absurd (omega arith);
        named = λ r q. let i : none ≡ some n = sym (ap bound_by q) ∙ e in let x : ◌≡◌ {A = ℕ} 0 1 = cc in absurd (omega arith);
      }

  none_in : (v : Result Led Missing) → bound_by v ≡ none → (v ≡ Ok R.AtPath → contains_node p (read_defs words bytes defs) ≡ true)
      → ((r : ℕ) → v ≡ Ok (R.Node r) → InChain words defs r) → Leads words bytes binds defs l p v
  none_in v e a n =
      record {
        there = λ r q. let z : ◌≡◌ {A = ℕ} 0 1 = cc in absurd (omega arith);
        first = λ r q. let z : ◌≡◌ {A = ℕ} 0 1 = cc in absurd (omega arith);
        alive = a;
        named = n;
      }

  -- by the label's binding, and nowhere for its label
  pub label_in_lem : {n previous : ℕ} → FirstAt words bytes binds l n previous → Leads words bytes binds defs l p (Ok (R.Bound n))
  label_in_lem {n} w = bound_in (Ok (R.Bound n)) w refl

  pub no_label_in : Leads words bytes binds defs l p (Err M.NoLabel)
  no_label_in =
      none_in (Err M.NoLabel) refl (λ q. let z : ◌≡◌ {A = ℕ} 0 1 = cc in absurd (omega arith))
      (λ r q. let z : ◌≡◌ {A = ℕ} 0 1 = cc in absurd (omega arith))

  -- by a definition, and nowhere for its path
  node_in_lem : (n : ℕ) → any (eqb n) (chain_of words defs) ≡ true → Leads words bytes binds defs l p (Ok (R.Node n))
  node_in_lem n h =
      none_in (Ok (R.Node n)) refl (λ q. let z : ◌≡◌ {A = ℕ} 0 1 = cc in absurd (omega arith))
      (λ r q. let i : n ≡ r = cc in rw (← i) (node_there words defs n h))

  no_node_in : (code : ℕ) → Leads words bytes binds defs l p (Err (M.NoNode code))
  no_node_in code =
      none_in (Err (M.NoNode code)) refl (λ q. let z : ◌≡◌ {A = ℕ} 0 1 = cc in absurd (omega arith))
      (λ r q. let z : ◌≡◌ {A = ℕ} 0 1 = cc in absurd (omega arith))

  path_in_lem : (v : Lookup) → AnswersLookup words bytes defs p v → Leads words bytes binds defs l p (path_led v)
  path_in_lem L.Exact a =
      none_in (Ok R.AtPath) refl (λ q. found_live p (read_defs words bytes defs) p (sym a.0))
      (λ r q. let z : ◌≡◌ {A = ℕ} 0 1 = cc in absurd (omega arith))
  path_in_lem L.NoNode a = no_node_in node_not_found
  path_in_lem (L.Node n) a = node_in_lem n a.1
  path_in_lem L.Several a = no_node_in node_ambiguous

  below_in : {n previous : ℕ} → FirstAt words bytes binds l n previous → (v : Lookup) (q : List ℕ)
      → AnswersLookup words bytes defs q v
      → Leads words bytes binds defs l p (below_led n v)
  below_in {n} w L.Exact q a = bound_in (Ok (R.BoundPath n)) w refl
  below_in {n} w L.NoNode q a = bound_in (Err (M.NoNodeBelow node_not_found n)) w refl
  below_in w (L.Node m) q a = node_in_lem m a.1
  below_in {n} w L.Several q a = bound_in (Err (M.NoNodeBelow node_ambiguous n)) w refl

-- what the look-ups answer
pub answers_path : {words bytes : List ℕ} {defs : ℕ} {p : List ℕ} (v : Lookup) (o : Result Led Missing) → o ≡ path_led v
    → AnswersLookup words bytes defs p v → AnswersPath words bytes defs p o
answers_path {words} {bytes} {defs} {p} v o e a =
    rw e ((λ l. leads_path words bytes l p (read_defs words bytes defs) v a.0), (λ l k. path_in_lem v a))

pub answers_below : {words bytes : List ℕ} {binds defs : ℕ} {l p : List ℕ} {n previous : ℕ} → FirstAt words bytes binds l n previous
    → (v : Lookup) (o : Result Led Missing) → o ≡ below_led n v
    → AnswersLookup words bytes defs (joined (second_text words bytes n) p []) v → AnswersBelow words bytes binds defs l p o
answers_below {words} {bytes} {defs = defs} {l} {p} w v o e a =
    rw e (leads_below words bytes l p w (read_defs words bytes defs) v a.0, below_in w v _ a)

-- what a reference that leads nowhere reports
pub reports_overlay : {v : Result Led Missing} {l p : List ℕ} {span : Span} {c : LowerCtx} {words bytes : List ℕ}
    → sets_overlay (read_defs words bytes c.defs.first) ≡ true
    → ReportsMissing v l p span c c words bytes words bytes
reports_overlay o =
    record {
      reports = λ k s code text h n i e.
          let t : sets_overlay s.defs ≡ true = ap sets_overlay (sym (represents_defs h n)) ∙ o in
          rw (t, emit_none s) h;
    }

module _ {v : Result Led Missing} {l p : List ℕ} {span : Span} {c d : LowerCtx} {words bytes w b : List ℕ} where
  module _ (o : sets_overlay (read_defs words bytes c.defs.first) ≡ false) where
    pub reports_one : (code : ℕ) (text told : List ℕ) → resolution words bytes l p v ≡ missing code text
        → ((k : Context) (s : State) → Represents k c words bytes s → c.short ≡ false
        → Leads words bytes c.binds.first c.defs.first l p v → told ≡ text)
        → Steps c d words bytes w b (emit (report code told span ∷ [])) → ReportsMissing v l p span c d words bytes w b
    reports_one code text told r g f =
        record {
          reports = λ k s code' text' h n i e.
              let t : sets_overlay s.defs ≡ false = ap sets_overlay (sym (represents_defs h n)) ∙ o in
              let x : code ≡ code' = cc in
              let y : text ≡ text' = cc in
              rw (t, ← x, ← y, ← g k s h n i) (f.steps k s h n);
        }

  -- no report is asked of one that leads somewhere
  pub reports_never : (q : List ℕ) → resolution words bytes l p v ≡ reaches q → ReportsMissing v l p span c d words bytes w b
  reports_never q r = record { reports = λ k s code text h n i e. let z : ◌≡◌ {A = ℕ} 0 1 = cc in absurd (omega arith) }

-- the text of a path below a binding's
pub below_text : {k : Context} {c : LowerCtx} {words bytes : List ℕ} {s : State} (r : ℕ) {l : List ℕ} (p : List ℕ)
    → Represents k c words bytes s → c.short ≡ false
    → {code : ℕ} → Leads words bytes c.binds.first c.defs.first l p (Err (M.NoNodeBelow code r))
    → joined (path_in c.bytes bytes (placed_in words r 4)) p [] ≡ joined (second_text words bytes r) p []
below_text r p h n i =
    let x = i.there r refl in
    ap (λ (q : List ℕ). joined q p []) (path_of_binding h n x.before x.after r x.chain)

-- a report by what was not found
module _ {v : Result Led Missing} {l p : List ℕ} {span : LogSpan} {c d : LowerCtx} {words bytes w b : List ℕ} where
  pub missing_label : v ≡ Err M.NoLabel → sets_overlay (read_defs words bytes c.defs.first) ≡ false
      → Steps c d words bytes w b (emit (diag_made 3 l span no_span ∷ []))
      → ReportsMissing v l p (meant span) c d words bytes w b
  unfolding resolution
  missing_label e o f = rw e (reports_one o 3 l l refl (λ k s h n i. refl) f)

  pub missing_node : (code : ℕ) → v ≡ Err (M.NoNode code) → sets_overlay (read_defs words bytes c.defs.first) ≡ false
      → Steps c d words bytes w b (emit (diag_made code p span no_span ∷ []))
      → ReportsMissing v l p (meant span) c d words bytes w b
  unfolding resolution
  missing_node code e o f = rw e (reports_one o code p p refl (λ k s h n i. refl) f)

  pub missing_below : (code r : ℕ) {place : PathAt} {unit : List ℕ} → v ≡ Err (M.NoNodeBelow code r) → place ≡ placed_in words r 4 → unit ≡ []
      → sets_overlay (read_defs words bytes c.defs.first) ≡ false
      → Steps c d words bytes w b (emit (diag_made code (joined (path_in c.bytes bytes place) p unit) span no_span ∷ []))
      → ReportsMissing v l p (meant span) c d words bytes w b
  unfolding resolution
  missing_below code r e x y o f =
      rw e (reports_one o code (joined (second_text words bytes r) p []) (joined (path_in c.bytes bytes (placed_in words r 4)) p []) refl
      (λ k s h n i. below_text r p h n i) (rw (x, y) at f))

-- or none, where it leads somewhere
module _ {v : Result Led Missing} {l p : List ℕ} {span : Span} {c : LowerCtx} {words bytes : List ℕ} where
  pub missing_none : (to : Led) → v ≡ Ok to → ReportsMissing v l p span c c words bytes words bytes
  unfolding resolution
  missing_none (R.Bound r) e = rw e (reports_never _ refl)
  missing_none (R.BoundPath r) e = rw e (reports_never _ refl)
  missing_none R.AtPath e = rw e (reports_never _ refl)
  missing_none (R.Node r) e = rw e (reports_never _ refl)
