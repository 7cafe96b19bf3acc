-- One record more, as the relation of Represents sees it: what each fact becomes.
use Prim.Native.Nat.{ℕ, suc, ◌+◌, ◌≤◌}
use mathlib.Core.Path.{◌≡◌, refl, sym, ap, subst, ◌∙◌}
use mathlib.Core.Bool.{true, false}
use mathlib.Core.List.{List, [], ◌∷◌, ◌++◌, append_assoc}
use native.Mathlib.Omega.{arith}
use borrow.Author.Tests.{eqb-true}
use lib.ListN.{length, length-append}
use Rattle.paths_numbers.proofs.Texts.{by_test, both}
use Rattle.making.specs.machine.Events.{Event, exts_of, children_of, in_chain, last, Ordered, ordered_next, members, defs_in, ext_of}
use Rattle.making.specs.machine.Represents.{Place, Waiting, log_of, exts_log, Each, each_none, each_next, Sort, is_def, is_ext}
use Rattle.making.specs.machine.Represents.{is_binding, is_diag, is_part, exts_in, Inside, Stands, at_root, at_top, at_definition}
use Rattle.making.specs.machine.Represents.{AllStand, no_places, more_places, Stack, bottom, above}
use Rattle.making.specs.machine.Whole.{At, at_here, at_later}
use Rattle.making.proofs.Append.{chain_other}
use Rattle.making.proofs.Members.{map_members, SameBelow}
use Rattle.making.proofs.FirstOf.{at_from}

pub each_at : {P : ℕ → Event → Type 0} {k r : ℕ} {es : List Event} {e : Event} → Each P k es → At k es r e → P r e
each_at (each_next p h) at_here = p
each_at (each_next p h) (at_later a) = each_at h a
each_at each_none a = elim a [ ]

pub each_more : {P : ℕ → Event → Type 0} (es : List Event) {k : ℕ} {e : Event} → Each P k es → P (k + length es) e → Each P k (es ++ e ∷ [])
each_more {P} [] {k} {e} each_none p =
    let z : k + 0 ≡ k = omega arith in
    each_next (subst (λ (i : ℕ). P i e) z p) each_none
each_more {P} (x ∷ es) {k} {e} (each_next q h) p =
    let z : k + suc (length es) ≡ k + 1 + length es = omega arith in
    each_next q (each_more es h (subst (λ (i : ℕ). P i e) z p))

-- no record has children before it is made
pub childless : (k : ℕ) (es : List Event) (r : ℕ) → Ordered k es → k + length es ≤ r → members (children_of r) k es ≡ []
unfolding members
childless k [] r o h = refl
childless k (x ∷ es) r (ordered_next f o) h =
    by_test (in_chain (children_of r) x)
    (λ t. absurd (omega (arith, f r (eqb-true _ _ (both x.alive _ t).1))))
    (λ t. rw t (childless (k + 1) es r o (omega arith)))

pub childless_last : (k : ℕ) (es : List Event) (r : ℕ) → Ordered k es → k + length es ≤ r → last (children_of r) k es ≡ 0
unfolding last
childless_last k [] r o h = refl
childless_last k (x ∷ es) r (ordered_next f o) h =
    let i = childless_last (k + 1) es r o (omega arith) in
    by_test (in_chain (children_of r) x)
    (λ t. absurd (omega (arith, f r (eqb-true _ _ (both x.alive _ t).1))))
    (λ t. rw (i, t) refl)

-- the extensions of a chain that is the same
pub exts_same : (other : ℕ → Type 0) (es fs : List Event) → SameBelow other es fs → (x : ℕ)
    → members (exts_of x) 1 fs ≡ members (exts_of x) 1 es
    → ((r : ℕ) (e : Event) → At 1 es r e → e.alive ≡ true → e.chain ≡ exts_of x
    → (other r → ⊥) × (defs_in e.log fs ≡ defs_in e.log es))
    → exts_in x fs ≡ exts_in x es
unfolding exts_in ext_of
exts_same other es fs same x q h =
    rw q (map_members (ext_of fs) (ext_of es) (exts_of x) 1 es (λ r e a t c. let i = h r e a t c in rw (same r i.0, i.1) refl))

-- a place stays
pub stands_more : {es : List Event} {p : Place} (zs : List Event) → Stands es p → Stands (es ++ zs) p
stands_more zs (at_root a b) = at_root a b
stands_more zs (at_top a b) = at_top a b
stands_more zs (at_definition xs e ys l q t i a b) = at_definition xs e (ys ++ zs) l
    (ap (λ (l : List Event). l ++ zs) q ∙ append_assoc xs (e ∷ ys) zs) t i a b

pub places_more : {es : List Event} {ps : List Place} (zs : List Event) → AllStand es ps → AllStand (es ++ zs) ps
places_more zs no_places = no_places
places_more zs (more_places s h) = more_places (stands_more zs s) (places_more zs h)

-- and the logs that wait, with a record more in the body
pub data InsideTop : List Waiting → Event → Type 0 where
  in_main : {e : Event} → InsideTop [] e
  in-body : {w : Waiting} {ws : List Waiting} {e : Event} → Inside w.mark (exts_log (w ∷ ws)) e → InsideTop (w ∷ ws) e

pub stack_more : {ws : List Waiting} {es : List Event} (e : Event) → InsideTop ws e → Stack ws es → Stack ws (es ++ e ∷ [])
stack_more e in_main bottom = bottom
stack_more e (in-body i) (above xs ys q m kp o a h st mk) =
    above xs (ys ++ e ∷ []) (ap (λ (l : List Event). l ++ e ∷ []) q ∙ append_assoc xs ys (e ∷ [])) m kp o a (each_more ys h i) st mk

-- sorts
pub each_map : {P Q : ℕ → Event → Type 0} {k : ℕ} {es : List Event} → ((r : ℕ) (e : Event) → P r e → Q r e) → Each P k es → Each Q k es
each_map f each_none = each_none
each_map f (each_next p h) = each_next (f _ _ p) (each_map f h)

pub at_more : {k r : ℕ} {es : List Event} {e : Event} (zs : List Event) → At k es r e → At k (es ++ zs) r e
at_more zs at_here = at_here
at_more zs (at_later a) = at_later (at_more zs a)

pub sort_more : {es : List Event} (zs : List Event) (r : ℕ) (e : Event) → Sort es r e → Sort (es ++ zs) r e
sort_more zs r e (is_def l c h k) = is_def l c h k
sort_more zs r e (is_ext x c h k b) = is_ext x c h k b
sort_more zs r e (is_binding c k) = is_binding c k
sort_more zs r e (is_diag p c k) = is_diag p c k
sort_more zs r e (is_part o x c a h k) = is_part o x c (at_more zs a) h k

pub sorts_more : {es : List Event} (e : Event) → Each (Sort es) 1 es → Sort (es ++ e ∷ []) (1 + length es) e
    → Each (Sort (es ++ e ∷ [])) 1 (es ++ e ∷ [])
sorts_more {es} e h p = each_more es (each_map (λ r x q. sort_more (e ∷ []) r x q) h) p

-- record 0 has no children
pub no_child_lem : {gs : List Event} {es : List Event} {k : ℕ} → Each (Sort gs) k es → last (children_of 0) k es ≡ 0
unfolding last
no_child_lem each_none = refl
no_child_lem {gs = gs} {k} (each_next {e = e} s h) = rw (no_child_lem h, chain_other e.chain (children_of 0) e refl (owner s)) refl
  where
    none : {x : Event} → At 1 gs 0 x → ⊥
    none a = omega (arith, at_from a)

    owner : Sort gs k e → e.chain ≡ children_of 0 → ⊥
    owner (is_def l c b d) q = omega (arith, sym c ∙ q)
    owner (is_ext x c b d m) q = omega (arith, sym c ∙ q)
    owner (is_binding c d) q = omega (arith, sym c ∙ q)
    owner (is_diag true c d) q = omega (arith, sym c ∙ q)
    owner (is_diag false c d) q = omega (arith, sym c ∙ q)
    owner (is_part r o c a p d) q =
        let z : r ≡ 0 = omega (arith, sym c ∙ q) in
        none (subst (λ (i : ℕ). At 1 gs i o) z a)

-- the number of the log in hand is not above that of the next record
pub log_low : {ws : List Waiting} {es : List Event} → Stack ws es → log_of ws ≤ 1 + length es
log_low bottom = omega arith
log_low (above xs ys q m kp o a h st mk) = rw (q, m) (omega (arith, length-append xs ys))
