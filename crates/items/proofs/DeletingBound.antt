-- A deletion by a label's first binding: that binding is taken out last, since its path is read until then.
use Prim.Native.Nat.{ℕ, ◌+◌, ◌-◌}
use mathlib.Core.Path.{◌≡◌, refl, sym, ap, subst, ◌∙◌}
use mathlib.Core.Bool.{Bool, true, false}
use mathlib.Core.List.{List, [], ◌∷◌, ◌++◌, map, append-nil, map-append}
use mathlib.Core.Option.{some, none}
use native.Mathlib.Omega.{arith}
use borrow.Author.Tests.{eq-eqb}
use lib.ListN.{length, length-append, length-map}
use lib.Seq.{append_snoc}
use Rattle.paths_numbers.specs.meaning.Text.{same}
use Rattle.paths_numbers.specs.meaning.Path.{joined}
use Rattle.paths_numbers.proofs.Texts.{by_test, not_both, same_refl}
use Rattle.making.specs.declared.ctx.LowerCtx.{LowerCtx}
use Rattle.definition_log.specs.declared.parts.Span.{Span as LogSpan}
use Rattle.making.specs.declared.recs.DefKind.TheVariants as D
use Rattle.making.specs.machine.Recs.{bare_def}
use Rattle.definition_log.specs.machine.Parts.{meant}
use Rattle.definition_log.specs.meaning.Contents.{Def, deleted_node, Binding, Span}
use Rattle.definition_log.specs.meaning.Record.{one_of, next_of, second_text, log_count}
use Rattle.definition_log.specs.meaning.ReadBack.{chain_from, chain_of, binding_at, read_bindings}
use Rattle.making.specs.machine.PathPlaces.{path_in, placed_in}
use Rattle.making.specs.meaning.State.{State, define}
use Rattle.making.specs.machine.Adding.{remove_at, unbind_at}
use Rattle.making.specs.machine.Represents.{Context, Represents, Steps, Unlinks}
use Rattle.making.proofs.InHand.{represents_defs, represents_bindings, binding_path}
use Rattle.paths_numbers.specs.meaning.Lists.{any}
use Rattle.queries.specs.meaning.Live.{live}
use Rattle.std.specs.Prelude.{Option as Maybe, Some, None, MatchOption}
use Rattle.definition_log.specs.machine.ChainLeft.{Stopped, Stepped}
use Rattle.definition_log.specs.declared.chain.Walk.{Walk as Cursor}
use Rattle.definition_log.proofs.ChainLeft.{goes, goes_left}
use Rattle.resolving.specs.meaning.Resolve.{first_binding}
use Rattle.items.specs.meaning.Unbind.{binds_label_of, without, unbind}
use Rattle.items.specs.meaning.Lower.{bare, delete_node}
use Rattle.resolving.specs.machine.Leading.{has_text, FirstAt}
use Rattle.items.specs.declared.unbind.Below.{Below}
use Rattle.items.specs.machine.Unbinding.{base_of, goes_with, stop_of, with_binds, passed, ahead, BaseAt, at_bound, at_below}
use Rattle.items.specs.machine.Unbinding.{Stays, Walk, Unbinds, bound_base, bound_path, FirstOfLabel, UnbindsOthers, UnbindsBehind}
use Rattle.items.specs.machine.Unbinding.{UnlinksFirst}
use Rattle.items.specs.machine.Deleting.{DeletesBound, DefinesBound}
use Rattle.items.specs.declared.unbind.Base.{Base}
use Rattle.items.specs.declared.unbind.Unbound.{Unbound}
use Rattle.resolving.proofs.Lowers.{stays_over}
use Rattle.resolving.proofs.Leading.{last_snoc, label_missing, label_there}
use Rattle.items.proofs.Unbinding.{member_behind, removed_at, walk_start, walk_here, walk_ended, nothing_left, to_the_end, todo_is}
use Rattle.items.proofs.Unbinding.{without_append}

-- whether a binding has a label
abbrev named : List ℕ → Binding → Bool
named l y = same y.label l

-- the first binding of a label, by its path
first_path : (l : List ℕ) (xs : List Binding) (x : Binding) (ys : List Binding) → any (named l) xs ≡ false → named l x ≡ true
    → first_binding l (xs ++ x ∷ ys) ≡ some x.path
unfolding any first_binding
first_path l [] x ys h e = rw e refl
first_path l (y ∷ xs) x ys h e = by_test (named l y) (λ q. absurd (not_both (rw q refl) h)) (λ q. rw q (first_path l xs x ys (rw q at h) e))

none_named : (l : List ℕ) (xs : List Binding) → any (named l) xs ≡ false → first_binding l xs ≡ none
unfolding any first_binding
none_named l [] h = refl
none_named l (y ∷ xs) h = by_test (named l y) (λ q. absurd (not_both (rw q refl) h)) (λ q. rw q (none_named l xs (rw q at h)))

-- there is only one
pub record Same (xs us : List Binding) (x u : Binding) (ys vs : List Binding) : Type 0 where
  pub fronts : xs ≡ us
  pub firsts : x ≡ u
  pub rests : ys ≡ vs

parts : (ds : List Def) {xs us : List Binding} {x u : Binding} {ys vs : List Binding} → xs ≡ us → x ≡ u → ys ≡ vs
    → without ds xs ++ x ∷ without ds ys ≡ without ds us ++ u ∷ without ds vs
parts ds a b c = rw (a, b, c) refl

one_first : (l : List ℕ) (xs : List Binding) (x : Binding) (ys us : List Binding) (u : Binding) (vs : List Binding)
    → xs ++ x ∷ ys ≡ us ++ u ∷ vs
    → any (named l) xs ≡ false → named l x ≡ true → any (named l) us ≡ false → named l u ≡ true → Same xs us x u ys vs
unfolding any
one_first l [] x ys [] u vs e a b c d = record { fronts = refl; firsts = cc; rests = cc }
one_first l [] x ys (w ∷ us) u vs e a b c d =
    let i : x ≡ w = cc in
    absurd (not_both (rw (ap (named l) (sym i) ∙ b) refl) c)
one_first l (w ∷ xs) x ys [] u vs e a b c d =
    let i : w ≡ u = cc in
    absurd (not_both (rw (ap (named l) i ∙ d) refl) a)
one_first l (w ∷ xs) x ys (y ∷ us) u vs e a b c d =
    let i : w ≡ y = cc in
    by_test (named l w)
    (λ q. absurd (not_both (rw q refl) a))
    (λ q.
    let j : named l y ≡ false = ap (named l) (sym i) ∙ q in
    let t = one_first l xs x ys us u vs (cc) (rw q at a) b (rw j at c) d in
    record { fronts = cc t.fronts; firsts = t.firsts; rests = t.rests })

-- the one that a search finds
none_labelled : (words bytes l : List ℕ) (ns : List ℕ) → any (has_text words bytes l) ns ≡ false
    → any (named l) (map (binding_at words bytes) ns) ≡ false
unfolding any binding_at
none_labelled words bytes l [] h = refl
none_labelled words bytes l (n ∷ ns) h =
    by_test (has_text words bytes l n) (λ q. absurd (not_both (rw q refl) h)) (λ q. rw q (none_labelled words bytes l ns (rw q at h)))

-- a search for a label that has one finds it
search_finds : {k : Context} {c : LowerCtx} {words bytes : List ℕ} {s : State} (l : List ℕ) → Represents k c words bytes s → c.short ≡ false
    → (p : List ℕ) → first_binding l s.binds ≡ some p → any (has_text words bytes l) (chain_of words c.binds.first) ≡ false → ⊥
search_finds {c = c} {words} {bytes} l h n p e m =
    let q : some p ≡ none = sym e ∙ ap (first_binding l) (sym (represents_bindings h n)) ∙ label_missing words bytes l c.binds.first m in
    let x : ◌≡◌ {A = ℕ} 0 1 = cc in
    omega arith

module _ {k : Context} {c : LowerCtx} {words bytes : List ℕ} {s : State} {l : List ℕ} (h : Represents k c words bytes s)
    (n : c.short ≡ false) where
  module _ {number previous : ℕ} (found_at : FirstAt words bytes c.binds.first l number previous) where
    pub first_found : FirstOfLabel l s (map (binding_at words bytes) found_at.before) (binding_at words bytes number)
        (map (binding_at words bytes) found_at.after)
    unfolding read_bindings binding_at
    first_found =
        record {
          binds = sym (represents_bindings h n) ∙ ap (map (binding_at words bytes)) found_at.chain
              ∙ map-append (binding_at words bytes) found_at.before (number ∷ found_at.after);
          others = none_labelled words bytes l found_at.before found_at.others;
          labelled = rw found_at.has (same_refl l);
        }

first_some : {l : List ℕ} {s : State} {xs : List Binding} {x : Binding} {ys : List Binding} → FirstOfLabel l s xs x ys
    → first_binding l s.binds ≡ some x.path
first_some {l} {s} {xs} {x} {ys} g = ap (first_binding l) g.binds ∙ first_path l xs x ys g.others g.labelled

-- the label's first binding taken out
pub unlinks_first : {l : List ℕ} {number previous : ℕ} {c d : LowerCtx} {words bytes w b : List ℕ}
    → FirstAt words bytes c.binds.first l number previous → Unlinks c d words bytes w b previous number
    → UnlinksFirst l c d words bytes w b
unfolding unbind_at
unlinks_first {l} {number} {c = c} {d} {words} {bytes} {w} {b} at u =
    record {
      unlinks = λ k s xs x ys h g.
          by_test c.short
          (λ t. stays_over (with_binds s (xs ++ ys)) u.stays t (omega arith) (omega arith) h)
          (λ t.
          let o = first_found h t at in
          let q = one_first l xs x ys (map (binding_at words bytes) at.before) (binding_at words bytes number)
          (map (binding_at words bytes) at.after) (sym g.binds ∙ o.binds) g.others g.labelled o.others o.labelled
          in
          let size : length at.before ≡ length xs = sym (length-map at.before (binding_at words bytes))
          ∙ ap length (sym q.fronts) in
          subst (λ (v : List Binding). Represents k d w b (with_binds s v))
          (ap (remove_at (length at.before)) g.binds ∙ removed_at xs x ys (length at.before) size)
          (u.steps k s at.before at.after h t at.chain at.previous_is).0);
    }

-- where the label has no binding there is nothing to take out or to delete
module _ (l : List ℕ) {c : LowerCtx} {words bytes : List ℕ} (m : any (has_text words bytes l) (chain_of words c.binds.first) ≡ false) where
  pub never_first : UnlinksFirst l c c words bytes words bytes
  never_first =
      record {
        unlinks = λ k s xs x ys h g.
            by_test c.short
            (λ t. stays_over (with_binds s (xs ++ ys)) (λ q. (q, refl, refl)) t (omega arith) (omega arith) h)
            (λ t. absurd (search_finds l h t x.path (first_some g) m));
      }

  pub never_others : (below : Maybe Below) → UnbindsOthers below l c c words bytes words bytes
  never_others below =
      record { unbinds = λ k s xs x ys h n g. absurd (search_finds l h n x.path (first_some g) m) }

  pub never_defined : (below : Maybe Below) (span : Span) → DefinesBound below l span c c words bytes words bytes
  never_defined below span = record { defines = λ k s p h n e. absurd (search_finds l h n p e m) }

  pub never_deleted : (below : Maybe Below) (span : Span) → DeletesBound below l span c c words bytes words bytes
  never_deleted below span = record { deletes = λ k s p h n e. absurd (search_finds l h n p e m) }

-- the deletion, at its path
module _ {l : List ℕ} {number previous : ℕ} {c : LowerCtx} {words bytes : List ℕ}
    (at : FirstAt words bytes c.binds.first l number previous) where
  path_read : {k : Context} {s : State} → Represents k c words bytes s → c.short ≡ false → (p : List ℕ)
      → first_binding l s.binds ≡ some p → path_in c.bytes bytes (placed_in words number 4) ≡ p
  path_read h n p e =
      let q : some p ≡ some (second_text words bytes number) = sym e ∙ ap (first_binding l) (sym (represents_bindings h n))
      ∙ label_there words bytes l at in
      let i : second_text words bytes number ≡ p = cc in
      binding_path h n at.before at.after number at.chain ∙ i

  pub defines_below : (span : LogSpan) (below : Below) {d : LowerCtx} {w b : List ℕ}
      → Steps c d words bytes w b (define (bare_def D.DeletedNode span span
      (joined (path_in c.bytes bytes (placed_in words number 4)) below.name.now below.unit.now)))
      → DefinesBound (Some below) l (meant span) c d words bytes w b
  defines_below span below {d} {w} {b} g =
      record {
        defines = λ k s p h n e.
            subst (λ (q : List ℕ). Represents k d w b (define (bare (joined q below.name.now below.unit.now) deleted_node (meant span)) s)) (path_read h n p e)
            (g.steps k s h n);
      }

  pub defines_whole : (span : LogSpan) {d : LowerCtx} {w b : List ℕ}
      → Steps c d words bytes w b (define (bare_def D.DeletedNode span span (path_in c.bytes bytes (placed_in words number 4))))
      → DefinesBound None l (meant span) c d words bytes w b
  defines_whole span {d} {w} {b} g =
      record {
        defines = λ k s p h n e.
            subst (λ (q : List ℕ). Represents k d w b (define (bare q deleted_node (meant span)) s)) (path_read h n p e)
            (g.steps k s h n);
      }

-- the base by a binding of the log
base_by : (below : Maybe Below) {k : Context} {w b : List ℕ} {until : Maybe (List ℕ)} {ns ms : List ℕ} (r : ℕ) (p : List ℕ)
    → p ≡ bound_path below (second_text w b r)
    → Stays w b until r ns ms → BaseAt k w b until ns ms p (bound_base below r)
base_by None r p e m = at_bound r m e
base_by (Some b) r p e m = at_below r b m e

member_here : (r : ℕ) (xs ys : List ℕ) → one_of r (xs ++ r ∷ ys) ≡ true
unfolding one_of
member_here r xs ys = member_behind r xs (r ∷ ys) (rw (eq-eqb r r refl) refl)

-- all others taken out: first those before it, then those behind it
module _ (below : Maybe Below) {l : List ℕ} {number before : ℕ} {c : LowerCtx} {words bytes w b : List ℕ} {from : Cursor}
    {up : Unbound} (at : FirstAt words bytes c.binds.first l number before) (q : from ≡ record { next = c.binds.first; left = log_count words })
    (one : Unbinds (bound_base below number) (Some l) c words bytes w b 0 from up)
    {k : Context} {s : State} {xs : List Binding} {x : Binding} {ys : List Binding} (h : Represents k c words bytes s)
    (n : c.short ≡ false) (g : FirstOfLabel l s xs x ys)
  where
    abbrev p : List ℕ
    p = bound_path below x.path

    abbrev ds : List Def
    ds = live p s.defs

    path_of_lem : x.path ≡ second_text words bytes number
    path_of_lem =
        let e : some x.path ≡ some (second_text words bytes number) = sym (first_some g)
        ∙ ap (first_binding l) (sym (represents_bindings h n)) ∙ label_there words bytes l at in
        cc

    walked : Walk (bound_base below number) (Some l) k s [] p up.ctx w b up.previous one.last.next one.last.left
    unfolding binding_at
    walked =
        one.walks k s [] p
        (walk_start h n q
        (base_by below number p (ap (bound_path below) path_of_lem)
        (ahead (rw at.chain (member_here number at.before at.after)) (rw at.has (same_refl l)))))

    -- the walk stops at it
    pub never_ends : Stopped w one.last up.rest → ⊥
    never_ends t =
        let all : s.binds ≡ walked.done = walked.split ∙ rw (nothing_left walked t, append-nil) refl in
        let e : some x.path ≡ none = sym (first_some g) ∙ ap (first_binding l) all
        ∙ none_named l walked.done walked.unlabelled in
        let z : ◌≡◌ {A = ℕ} 0 1 = cc in
        omega arith

    module _ {r : ℕ} (step : Stepped w one.last up.rest r) (stopped : stop_of (Some l) (binding_at w b r) ≡ true) where
      abbrev later : List ℕ
      later = chain_from (one.last.left - 1) w (next_of w r)

      abbrev u : Binding
      u = binding_at w b r

      abbrev vs : List Binding
      vs = map (binding_at w b) later

      at_it : Walk (bound_base below number) (Some l) k s [] p up.ctx w b up.previous r one.last.left
      at_it = walk_here step walked

      here : chain_from one.last.left w r ≡ r ∷ later
      here = goes w r one.last.left step.going

      todo_there : at_it.todo ≡ u ∷ vs
      todo_there = sym (todo_is at_it) ∙ ap (map (binding_at w b)) here

      split_there : s.binds ≡ at_it.done ++ u ∷ vs
      split_there = at_it.split ∙ rw todo_there refl

      same_first : Same xs at_it.done x u ys vs
      same_first = one_first l xs x ys at_it.done u vs (sym g.binds ∙ split_there) g.others g.labelled at_it.unlabelled stopped

      abbrev front : List Binding
      front = without ds at_it.done ++ u ∷ []

      -- so far
      abbrev s₁ : State
      s₁ = with_binds s (front ++ vs)

      so_far : Represents k up.ctx w b s₁
      so_far = subst (λ (v : List Binding). Represents k up.ctx w b (with_binds s v)) (rw (todo_there, append_snoc) refl) at_it.now

      behind_start : Walk (bound_base below r) None k s₁ front p up.ctx w b r up.rest.next up.rest.left
      unfolding without any binding_at
      behind_start =
          subst (λ (i : ℕ). Walk (bound_base below r) None k s₁ front p up.ctx w b r i up.rest.left) (sym step.next)
          (subst (λ (i : ℕ). Walk (bound_base below r) None k s₁ front p up.ctx w b r (next_of w r) i) (sym step.left)
          (record {
            done = [];
            todo = vs;
            ns = at_it.ns ++ r ∷ [];
            going = at_it.going;
            split = refl;
            now = rw append-nil so_far;
            chain = at_it.chain ∙ rw (here, append_snoc) refl;
            sized = rw append-nil (length-append at_it.ns (r ∷ []) ∙ ap (λ (i : ℕ). i + 1) at_it.sized
                ∙ sym (length-append (without ds at_it.done) (u ∷ [])));
            last_is = sym (last_snoc at_it.ns r);
            room = omega (arith, goes_left w r one.last.left step.going, length-append at_it.ns (r ∷ []), at_it.room);
            at = base_by below r p (ap (λ (v : Binding). bound_path below v.path) same_first.firsts)
                (passed (member_here r at_it.ns []));
            unlabelled = refl;
          }))

      pub others_gone : {v t : List ℕ} {behind : Unbound}
          → Unbinds (bound_base below r) None up.ctx w b v t r up.rest behind
          → Represents k behind.ctx v t (with_binds s (without ds xs ++ x ∷ without ds ys)) × (behind.ctx.short ≡ false)
      others_gone {v} {t} {behind} two =
          let o = two.walks k s₁ front p behind_start in
          let i : front ++ without ds vs ≡ without ds xs ++ x ∷ without ds ys = append_snoc (without ds at_it.done) u (without ds vs)
          ∙ sym (parts ds same_first.fronts same_first.firsts same_first.rests) in (
            subst (λ (j : List Binding). Represents k behind.ctx v t (with_binds s j)) i
                (walk_ended o (to_the_end two) vs refl),
            o.going,
          )

-- so in any state
pub others_all : (below : Maybe Below) {l : List ℕ} {number before : ℕ} {c d : LowerCtx} {words bytes w b v t : List ℕ}
    {from : Cursor} (up : Unbound) {base : Base} → FirstAt words bytes c.binds.first l number before
    → from ≡ record { next = c.binds.first; left = log_count words } → base ≡ bound_base below number
    → Unbinds base (Some l) c words bytes w b 0 from up → UnbindsBehind below up d w b v t
    → UnbindsOthers below l c d words bytes v t
others_all below {l} {number} {c = c} {d} {words} {bytes} {w} {b} {v} {t} {from} up at q i one two =
    record { unbinds = λ k s xs x ys h n g. by_here k s xs x ys h n g up.here refl up_to.ends }
  where
    up_to : Unbinds (bound_base below number) (Some l) c words bytes w b 0 from up
    up_to = subst (λ (z : Base). Unbinds z (Some l) c words bytes w b 0 from up) i one

    by_here : (k : Context) (s : State) (xs : List Binding) (x : Binding) (ys : List Binding) → Represents k c words bytes s
        → c.short ≡ false → FirstOfLabel l s xs x ys → (here : Maybe ℕ) → up.here ≡ here
        → MatchOption here (Stopped w up_to.last up.rest)
        (λ r. Stepped w up_to.last up.rest r × (stop_of (Some l) (binding_at w b r) ≡ true))
        → Represents k d v t (with_binds s (without (live (bound_path below x.path) s.defs) xs ++ x
        ∷ without (live (bound_path below x.path) s.defs) ys)) × (d.short ≡ false)
    by_here k s xs x ys h n g None e m = absurd (never_ends below at q up_to h n g m)
    by_here k s xs x ys h n g (Some r) e m =
        let y = two.some_here r e in
        rw y.2 (others_gone below at q up_to h n g m.0 m.1 y.1)

-- what goes leaves no others with the label
without_named : (l : List ℕ) (ds : List Def) (xs : List Binding) → any (named l) xs ≡ false → any (named l) (without ds xs) ≡ false
unfolding any without
without_named l ds [] h = refl
without_named l ds (x ∷ xs) h =
    by_test (named l x)
    (λ q. absurd (not_both (rw q refl) h))
    (λ q.
    let rest = without_named l ds xs (rw q at h) in
    by_test (any (binds_label_of x) ds) (λ t. rw t rest) (λ t. rw (t, q) rest))

-- the base by a binding, as it is read
base_bound : (below : Maybe Below) (used : ℕ) (words bytes : List ℕ) (r : ℕ)
    → base_of used words bytes (bound_base below r) ≡ bound_path below (second_text words bytes r)
unfolding base_of
base_bound None used words bytes r = refl
base_bound (Some b) used words bytes r = refl

-- the whole deletion
module _ (span : LogSpan) (below : Maybe Below) {l : List ℕ} {number previous : ℕ} {c d e : LowerCtx}
    {words bytes w b v u : List ℕ} (at : FirstAt words bytes c.binds.first l number previous)
    (others : UnbindsOthers below l c d words bytes w b) (made : DefinesBound below l (meant span) d e w b v u)
  where
    module _ {k : Context} {s : State} (p : List ℕ) (h : Represents k c words bytes s) (n : c.short ≡ false)
        (q : first_binding l s.binds ≡ some p) where
      abbrev before : List Binding
      before = map (binding_at words bytes) at.before

      abbrev this : Binding
      this = binding_at words bytes number

      abbrev after : List Binding
      after = map (binding_at words bytes) at.after

      first_is_lem : FirstOfLabel l s before this after
      first_is_lem = first_found h n at

      path_is : this.path ≡ p
      path_is = let i : some this.path ≡ some p = sym (first_some first_is_lem) ∙ q in cc

      abbrev base : List ℕ
      base = bound_path below p

      abbrev nodes : List Def
      nodes = live base s.defs

      abbrev left_over : List Binding
      left_over = without nodes before ++ this ∷ without nodes after

      unbound : Represents k d w b (with_binds s left_over) × (d.short ≡ false)
      unbound =
          subst
          (λ (i : List ℕ). Represents k d w b (with_binds s (without (live (bound_path below i) s.defs) before ++ this
          ∷ without (live (bound_path below i) s.defs) after)) × (d.short ≡ false))
          path_is (others.unbinds k s before this after h n first_is_lem)

      none_before : any (named l) (without nodes before) ≡ false
      none_before = without_named l nodes before first_is_lem.others

      abbrev deletion : Def
      deletion = bare base deleted_node (meant span)

      made_so : Represents k e v u (define deletion (with_binds s left_over))
      made_so = made.defines k (with_binds s left_over) p unbound.0 unbound.1
          (first_path l (without nodes before) this (without nodes after) none_before first_is_lem.labelled ∙ ap some path_is)

      goes_as : goes_with words bytes c.defs.first (base_of c.bytes words bytes (bound_base below number))
          number ≡ any (binds_label_of this) nodes
      unfolding goes_with binding_at
      goes_as = rw (base_bound below c.bytes words bytes number, path_is, represents_defs h n) refl

      all_without : without nodes s.binds ≡ without nodes before ++ without nodes (this ∷ after)
      all_without = ap (without nodes) first_is_lem.binds ∙ without_append nodes before (this ∷ after)

      keeps : any (binds_label_of this) nodes ≡ false → Represents k e v u (delete_node base (meant span) s)
      unfolding delete_node unbind without
      keeps t = subst (λ (i : List Binding). Represents k e v u (define deletion (with_binds s i))) (sym (all_without ∙ rw t refl)) made_so

      goes_too : {g : LowerCtx} {y x : List ℕ} → UnlinksFirst l e g v u y x → any (binds_label_of this) nodes ≡ true
          → Represents k g y x (delete_node base (meant span) s)
      unfolding delete_node unbind define without
      goes_too {g} {y} {x} z t =
          subst (λ (i : List Binding). Represents k g y x (define deletion (with_binds s i))) (sym (all_without ∙ rw t refl))
          (z.unlinks k (define deletion (with_binds s left_over)) (without nodes before) this (without nodes after) made_so
          (record { binds = refl; others = none_before; labelled = first_is_lem.labelled }))

    abbrev tested : Bool
    tested = goes_with words bytes c.defs.first (base_of c.bytes words bytes (bound_base below number)) number

    pub deletes_left : tested ≡ false → DeletesBound below l (meant span) c e words bytes v u
    deletes_left t = record { deletes = λ k s p h n q. keeps p h n q (sym (goes_as p h n q) ∙ t) }

    pub deletes_first : {g : LowerCtx} {y x : List ℕ} → UnlinksFirst l e g v u y x → tested ≡ true
        → DeletesBound below l (meant span) c g words bytes y x
    deletes_first z t = record { deletes = λ k s p h n q. goes_too p h n q z (sym (goes_as p h n q) ∙ t) }
