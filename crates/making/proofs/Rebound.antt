-- Bindings taken out: all other records and what they say stay.
use Prim.Native.Nat.{ℕ, suc, ◌+◌}
use mathlib.Core.Path.{◌≡◌, refl, sym, ap, subst, ◌∙◌}
use mathlib.Core.List.{List, [], ◌∷◌, ◌++◌, append_assoc}
use native.Mathlib.Omega.{arith}
use lib.ListN.{length}
use Rattle.paths_numbers.proofs.Texts.{not_both}
use Rattle.making.specs.declared.ctx.LowerCtx.{LowerCtx}
use Rattle.making.specs.meaning.State.{State}
use Rattle.making.specs.machine.Events.{Event, defs_of, exts_of, bindings, children_of, first, last, bytes_in, end_of, members, defs_in}
use Rattle.making.specs.machine.Removed.{dead}
use Rattle.making.specs.declared.place.PathAt.TheVariants as P
use Rattle.making.specs.machine.Represents.{Place, Waiting, log_of, exts_log, Each, each_none, each_next, Sort, is_def, is_ext}
use Rattle.making.specs.machine.Represents.{is_binding, is_diag, is_part, Open, Stands, at_root, at_top, at_definition, AllStand}
use Rattle.making.specs.machine.Represents.{no_places, more_places, Stack, bottom, above}
use Rattle.making.specs.machine.Whole.{At, at_here, at_later, Making}
use Rattle.definition_log.specs.meaning.Record.{binding_kind}
use Rattle.making.proofs.Append.{chain_other}
use Rattle.making.proofs.Members.{SameBelow, defs_same}
use Rattle.making.proofs.Growing.{each_map, exts_same}
use Rattle.making.proofs.MakingLess.{making_remove}

-- the same records, but for bindings that are no longer there
pub data Rebound : List Event → List Event → Type 0 where
  none_rebound : Rebound [] []
  same_bound : {e : Event} {es fs : List Event} → Rebound es fs → Rebound (e ∷ es) (e ∷ fs)
  unbound : {e : Event} {es fs : List Event} → e.chain ≡ bindings → e.kind ≡ binding_kind → Rebound es fs → Rebound (e ∷ es) (dead e ∷ fs)

pub rebound_same : (es : List Event) → Rebound es es
rebound_same [] = none_rebound
rebound_same (e ∷ es) = same_bound (rebound_same es)

-- one of them
pub rebound_at : (xs : List Event) (e : Event) (ys : List Event) → e.chain ≡ bindings → e.kind ≡ binding_kind
    → Rebound (xs ++ e ∷ ys) (xs ++ dead e ∷ ys)
rebound_at [] e ys c k = unbound c k (rebound_same ys)
rebound_at (x ∷ xs) e ys c k = same_bound (rebound_at xs e ys c k)

pub rebound_length : {es fs : List Event} → Rebound es fs → length fs ≡ length es
rebound_length none_rebound = refl
rebound_length (same_bound h) = ap suc (rebound_length h)
rebound_length (unbound c k h) = ap suc (rebound_length h)

pub rebound_end : {es fs : List Event} (at : ℕ) → Rebound es fs → end_of at fs ≡ end_of at es
unfolding end_of
rebound_end at none_rebound = refl
rebound_end at (same_bound {e} h) = rebound_end (at + bytes_in e) h
rebound_end at (unbound {e} c k h) = rebound_end (at + bytes_in e) h

-- another chain
module _ (c : ℕ) (n : bindings ≡ c → ⊥) where
  pub members_rebound : {es fs : List Event} (k : ℕ) → Rebound es fs → members c k fs ≡ members c k es
  unfolding members
  members_rebound k none_rebound = refl
  members_rebound k (same_bound h) = rw (members_rebound (k + 1) h) refl
  members_rebound k (unbound {e} b j h) = rw (chain_other bindings c e b n) (members_rebound (k + 1) h)

  pub first_rebound : {es fs : List Event} (k : ℕ) → Rebound es fs → first c k fs ≡ first c k es
  unfolding first
  first_rebound k none_rebound = refl
  first_rebound k (same_bound h) = rw (first_rebound (k + 1) h) refl
  first_rebound k (unbound {e} b j h) = rw (chain_other bindings c e b n) (first_rebound (k + 1) h)

  pub last_rebound : {es fs : List Event} (k : ℕ) → Rebound es fs → last c k fs ≡ last c k es
  unfolding last
  last_rebound k none_rebound = refl
  last_rebound k (same_bound h) = rw (last_rebound (k + 1) h) refl
  last_rebound k (unbound {e} b j h) = rw (chain_other bindings c e b n, last_rebound (k + 1) h) refl

-- the same records, but for some that are no longer there
pub data Thinned : List Event → List Event → Type 0 where
  none_thinned : Thinned [] []
  same_there : {e : Event} {es fs : List Event} → Thinned es fs → Thinned (e ∷ es) (e ∷ fs)
  gone : {e : Event} {es fs : List Event} → Thinned es fs → Thinned (e ∷ es) (dead e ∷ fs)

rebound_thinned : {es fs : List Event} → Rebound es fs → Thinned es fs
rebound_thinned none_rebound = none_thinned
rebound_thinned (same_bound h) = same_there (rebound_thinned h)
rebound_thinned (unbound c k h) = gone (rebound_thinned h)

pub each_thinned : {P : ℕ → Event → Type 0} {es fs : List Event} → ((r : ℕ) (e : Event) → P r e → P r (dead e)) → Thinned es fs
    → {k : ℕ} → Each P k es → Each P k fs
each_thinned f none_thinned each_none = each_none
each_thinned f (same_there h) (each_next p q) = each_next p (each_thinned f h q)
each_thinned f (gone h) (each_next p q) = each_next (f _ _ p) (each_thinned f h q)

-- what is so of each record, where it does not hang on whether that is there
pub each_rebound : {P : ℕ → Event → Type 0} {k : ℕ} {es fs : List Event} → ((r : ℕ) (e : Event) → P r e → P r (dead e)) → Rebound es fs
    → Each P k es → Each P k fs
each_rebound f h q = each_thinned f (rebound_thinned h) q

-- the kind of a record
record Kinded (k : ℕ) (fs : List Event) (r kind : ℕ) : Type 0 where
  event : Event
  at : At k fs r event
  is : event.kind ≡ kind

kind_thinned : {es fs : List Event} → Thinned es fs → {k r : ℕ} {e : Event} → At k es r e → Kinded k fs r e.kind
kind_thinned (same_there h) at_here = record { event = _; at = at_here; is = refl }
kind_thinned (gone h) at_here = record { event = _; at = at_here; is = refl }
kind_thinned (same_there h) (at_later a) = let m = kind_thinned h a in record { event = m.event; at = at_later m.at; is = m.is }
kind_thinned none_thinned a = elim a [ ]
kind_thinned (gone h) (at_later a) = let m = kind_thinned h a in record { event = m.event; at = at_later m.at; is = m.is }

sort_thinned : {es fs : List Event} → Thinned es fs → (r : ℕ) (e : Event) → Sort es r e → Sort fs r e
sort_thinned h r e (is_def l c b k) = is_def l c b k
sort_thinned h r e (is_ext x c b k m) = is_ext x c b k m
sort_thinned h r e (is_binding c k) = is_binding c k
sort_thinned h r e (is_diag p c k) = is_diag p c k
sort_thinned h r e (is_part o x c a p k) = let m = kind_thinned h a in is_part o m.event c m.at (rw m.is p) (rw m.is k)

dead_sort : {es : List Event} (r : ℕ) (e : Event) → Sort es r e → Sort es r (dead e)
dead_sort r e (is_def l c b k) = is_def l c b k
dead_sort r e (is_ext x c b k m) = is_ext x c b k m
dead_sort r e (is_binding c k) = is_binding c k
dead_sort r e (is_diag p c k) = is_diag p c k
dead_sort r e (is_part o x c a p k) = is_part o x c a p k

pub sorts_thinned : {es fs : List Event} → Thinned es fs → Each (Sort es) 1 es → Each (Sort fs) 1 fs
sorts_thinned h s = each_thinned (λ r e p. dead_sort r e p) h (each_map (λ r e p. sort_thinned h r e p) s)

pub sorts_rebound : {es fs : List Event} → Rebound es fs → Each (Sort es) 1 es → Each (Sort fs) 1 fs
sorts_rebound h s = sorts_thinned (rebound_thinned h) s

-- two parts
record Parted (xs ys fs : List Event) : Type 0 where
  front : List Event
  back : List Event
  is : fs ≡ front ++ back
  front_bound : Rebound xs front
  back_bound : Rebound ys back

parted : (xs : List Event) {ys fs : List Event} → Rebound (xs ++ ys) fs → Parted xs ys fs
parted [] h = record { front = []; back = _; is = refl; front_bound = none_rebound; back_bound = h }
parted (x ∷ xs) (same_bound h) =
    let p = parted xs h in
    record {
      front = x ∷ p.front;
      back = p.back;
      is = ap (λ (l : List Event). x ∷ l) p.is;
      front_bound = same_bound p.front_bound;
      back_bound = p.back_bound;
    }
parted (x ∷ xs) (unbound c k h) =
    let p = parted xs h in
    record {
      front = dead x ∷ p.front;
      back = p.back;
      is = ap (λ (l : List Event). dead x ∷ l) p.is;
      front_bound = unbound c k
          p.front_bound;
      back_bound = p.back_bound;
    }

-- a definition is where it was
head_same : {e : Event} {ys fs : List Event} → (e.chain ≡ bindings → ⊥) → Rebound (e ∷ ys) fs → (zs : List Event) × (fs ≡ e ∷ zs)
head_same n (same_bound h) = (_, refl)
head_same n (unbound c k h) = absurd (n c)

pub places_rebound : {es fs : List Event} {ps : List Place} → Rebound es fs → AllStand es ps → AllStand fs ps
places_rebound h no_places = no_places
places_rebound {es} {fs} h (more_places {p} s q) = more_places (stands s) (places_rebound h q)
  where
    stands : Stands es p → Stands fs p
    stands (at_root a b) = at_root a b
    stands (at_top a b) = at_top a b
    stands (at_definition xs e ys l i t c a b) =
        let m = parted xs (subst (λ (z : List Event). Rebound z fs) i h) in
        let y = head_same (λ z. omega (arith, sym c ∙ z)) m.back_bound in
        at_definition m.front e y.0 l (m.is ∙ ap (λ (z : List Event). m.front ++ z) y.1) t c
        (a ∙ ap (λ (i : ℕ). P.Bytes i (length e.text)) (sym (rebound_end 0 m.front_bound))) b

-- a log
pub open_rebound : {ws : List Waiting} {c d : LowerCtx} {s t : State} {es fs : List Event} → Rebound es fs → Open ws c es s
    → d.defs ≡ c.defs → d.exts ≡ c.exts
    → d.part ≡ c.part → d.cell ≡ c.cell → t.defs ≡ s.defs → t.exts ≡ s.exts → Open ws d fs t
open_rebound {ws} {c} {d} {es = es} {fs} h o dd dx dp dc td tx =
    let below : SameBelow (λ (r : ℕ). ⊥) es fs = λ r z. members_rebound (children_of r) (λ q. omega arith) 1 h in
    let defs : (l : ℕ) → defs_in l fs ≡ defs_in l es =
    λ l. defs_same (λ (r : ℕ). ⊥) es fs below l (members_rebound (defs_of l) (λ q. omega arith) 1 h) (λ r x a t c z. z)
    (λ r v x y a t c b u d z. z) in
    let exts = exts_same (λ (r : ℕ). ⊥) es fs below (exts_log ws) (members_rebound (exts_of (exts_log ws)) (λ q. omega arith) 1 h)
    (λ r y a t c. (λ z. z, defs y.log)) in
    let l = last_rebound in
    record {
      defs_run = rw dd (record {
        first_is = o.defs_run.first_is ∙ sym (first_rebound (defs_of (log_of ws)) (λ q. omega arith) 1 h);
        last_is = o.defs_run.last_is ∙ sym (last_rebound (defs_of (log_of ws)) (λ q. omega arith) 1 h);
      });
      exts_run = rw dx (record {
        first_is = o.exts_run.first_is ∙ sym (first_rebound (exts_of (exts_log ws)) (λ q. omega arith) 1 h);
        last_is = o.exts_run.last_is ∙ sym (last_rebound (exts_of (exts_log ws)) (λ q. omega arith) 1 h);
      });
      part_is = rw (dp, dd, last_rebound (children_of c.defs.last) (λ q. omega arith) 1 h) o.part_is;
      cell_is = rw (dc, dp, last_rebound (children_of c.part) (λ q. omega arith) 1 h) o.cell_is;
      defs_say = defs (log_of ws) ∙ o.defs_say ∙ sym td;
      exts_say = exts ∙ o.exts_say ∙ rw tx refl;
      others = each_rebound (λ r e p x q t z. p x q (absurd (not_both t refl)) z) h o.others;
      passed = λ p. each_rebound (λ r e q. refl) h (o.passed p);
    }

-- the records of a log in the making
pub making_rebound : {hand : ℕ → Type 0} (xs : List Event) {es fs : List Event} → Rebound es fs → Making hand (xs ++ es)
    → Making hand (xs ++ fs)
making_rebound xs none_rebound m = m
making_rebound {hand} xs (same_bound {e} {es} {fs} h) m =
    subst (λ (l : List Event). Making hand l) (append_assoc xs (e ∷ []) fs)
    (making_rebound (xs ++ e ∷ []) h (subst (λ (l : List Event). Making hand l) (sym (append_assoc xs (e ∷ []) es)) m))
making_rebound {hand} xs (unbound {e} {es} {fs} c k h) m =
    subst (λ (l : List Event). Making hand l) (append_assoc xs (dead e ∷ []) fs)
    (making_rebound (xs ++ dead e ∷ []) h (subst (λ (l : List Event). Making hand l) (sym (append_assoc xs (dead e ∷ []) es))
    (making_remove xs e es c k m)))

-- and those that wait
pub stack_rebound : {ws : List Waiting} {es fs : List Event} → Rebound es fs → Stack ws es → Stack ws fs
stack_rebound h bottom = bottom
stack_rebound {fs = fs} h (above {w} xs ys q m kp o a i st mk) =
    let p = parted xs (subst (λ (z : List Event). Rebound z fs) q h) in
    above {w = w} p.front p.back p.is (omega (arith, m, rebound_length p.front_bound)) kp
    (open_rebound p.front_bound o refl refl refl refl refl refl)
    (places_rebound p.front_bound a) (each_rebound (λ r e x. record { of_defs = x.of_defs; of_exts = x.of_exts; of_parts = x.of_parts })
    p.back_bound i) (stack_rebound p.front_bound st) (making_rebound [] p.front_bound mk)
