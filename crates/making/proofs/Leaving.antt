-- A body dropped: the log around it is in hand again and says what it said.
use Prim.Native.Nat.{ℕ, suc, ◌+◌, ◌≤◌, ◌<◌}
use mathlib.Core.Path.{◌≡◌, refl, sym, ap, subst, ◌∙◌}
use mathlib.Core.Bool.{Bool, true, false, cond}
use mathlib.Core.List.{List, [], ◌∷◌, ◌++◌}
use native.Mathlib.Omega.{arith}
use borrow.Author.Tests.{eqb-true, le-leb, leb-false}
use lib.Dec.{eqb, leb}
use lib.ListN.{length}
use Rattle.paths_numbers.proofs.Texts.{by_test, not_both, both}
use Rattle.definition_log.specs.meaning.Record.{one_of, def_kinds, node_kind, property_kind, cell_list_kind, extension_kind, binding_kind}
use Rattle.definition_log.specs.meaning.Record.{diagnostic_kind}
use Rattle.definition_log.specs.meaning.Record.{has_children}
use Rattle.definition_log.specs.meaning.Sound.{kinds_in, labels, values, cells, references, nowhere}
use Rattle.making.specs.machine.Events.{Event, children_of, in_chain, first, last, Ordered, members}
use Rattle.making.specs.machine.Removed.{dead}
use Rattle.making.specs.machine.Dropped.{stays_kind, after_drop, dropped, Quiet, quiet_none, quiet_next, Body}
use Rattle.making.specs.machine.Holding.{Runs, diags_of}
use Rattle.making.specs.machine.Represents.{Out, Each, each_none, each_next, part_fits, Sort, is_def, is_ext, is_binding, is_diag}
use Rattle.making.specs.machine.Represents.{is_part, Inside}
use Rattle.making.specs.machine.Whole.{At, at_here, at_later}
use Rattle.making.proofs.Append.{chain_other}
use Rattle.making.proofs.Growing.{each_at, at_more}
use Rattle.making.proofs.PartSteps.{low, behind}
use Rattle.making.proofs.Rebound.{Thinned, none_thinned, same_there, gone}
use Rattle.making.proofs.Entered.{low_ext}
use Rattle.making.proofs.FirstOf.{at_same}

-- a list of kinds that has none of these
none_stays : (ks : List ℕ) (k : ℕ) → one_of 0 ks ≡ false → one_of binding_kind ks ≡ false → one_of diagnostic_kind ks ≡ false → one_of k ks ≡ true
    → stays_kind k ≡ true → ⊥
none_stays ks k a b c t s =
    by_test (eqb k 0)
    (λ x. not_both t (rw (eqb-true k 0 x) a))
    (λ x.
    by_test (eqb k binding_kind)
    (λ y. not_both t (rw (eqb-true k binding_kind y) b))
    (λ y. not_both t (rw (eqb-true k diagnostic_kind (rw (x, y) at s)) c)))

part_stays : (o k : ℕ) → part_fits o k ≡ true → stays_kind k ≡ true → ⊥
unfolding one_of
part_stays o k t s =
    by_test (eqb o node_kind)
    (λ a. none_stays (kinds_in labels) k refl refl refl (rw a at t) s)
    (λ a.
    by_test (eqb o property_kind)
    (λ b. none_stays (kinds_in values) k refl refl refl (rw (a, b) at t) s)
    (λ b.
    by_test (eqb o cell_list_kind)
    (λ c. none_stays (kinds_in cells) k refl refl refl (rw (a, b, c) at t) s)
    (λ c.
    by_test (eqb o extension_kind)
    (λ d. none_stays (kinds_in references) k refl refl refl (rw (a, b, c, d) at t) s)
    (λ d. none_stays (kinds_in nowhere) k refl refl refl (rw (a, b, c, d) at t) s))))

parent_stays : (k : ℕ) → has_children k ≡ true → stays_kind k ≡ true → ⊥
unfolding one_of
parent_stays k g s = none_stays (node_kind ∷ property_kind ∷ cell_list_kind ∷ extension_kind ∷ []) k refl refl refl g s

-- so what stays is in a chain of no log
pub data Shared (e : Event) : Type 0 where
  shared_binding : e.chain ≡ 2 → Shared e
  shared_diag : (post : Bool) → e.chain ≡ diags_of post → Shared e

stays_shared : {es : List Event} {k : ℕ} {e : Event} → Sort es k e → stays_kind e.kind ≡ true → Shared e
unfolding one_of
stays_shared {e = e} (is_def l c h k) s = absurd (none_stays def_kinds e.kind refl refl refl k s)
stays_shared (is_ext x c h k b) s = absurd (not_both (rw k at s) refl)
stays_shared (is_binding c k) s = shared_binding c
stays_shared (is_diag p c k) s = shared_diag p c
stays_shared {e = e} (is_part r o c a h k) s = absurd (part_stays o.kind e.kind k s)

goes : {es : List Event} {k : ℕ} {e : Event} → Sort es k e → Shared e → stays_kind e.kind ≡ true
goes (is_def l c h k) (shared_binding z) = absurd (omega (arith, sym c ∙ z))
goes (is_def l c h k) (shared_diag true z) = absurd (omega (arith, sym c ∙ z))
goes (is_def l c h k) (shared_diag false z) = absurd (omega (arith, sym c ∙ z))
goes (is_ext l c h k b) (shared_binding z) = absurd (omega (arith, sym c ∙ z))
goes (is_ext l c h k b) (shared_diag true z) = absurd (omega (arith, sym c ∙ z))
goes (is_ext l c h k b) (shared_diag false z) = absurd (omega (arith, sym c ∙ z))
goes (is_binding c k) h = rw k refl
goes (is_diag p c k) h = rw k refl
goes (is_part l o c a h k) (shared_binding z) = absurd (omega (arith, sym c ∙ z))
goes (is_part l o c a h k) (shared_diag true z) = absurd (omega (arith, sym c ∙ z))
goes (is_part l o c a h k) (shared_diag false z) = absurd (omega (arith, sym c ∙ z))

shared_apart : (e : Event) (c : ℕ) → (c ≡ 2 → ⊥) → (c ≡ 3 → ⊥) → (c ≡ 4 → ⊥) → Shared e → in_chain c e ≡ false
shared_apart e c a b d (shared_binding z) = chain_other 2 c e z (λ q. a (sym q))
shared_apart e c a b d (shared_diag true z) = chain_other 4 c e z (λ q. d (sym q))
shared_apart e c a b d (shared_diag false z) = chain_other 3 c e z (λ q. b (sym q))

-- the records of a body after the drop
behind_mark : (mark k : ℕ) (e : Event) → mark ≤ k → after_drop mark k e ≡ cond (stays_kind e.kind) e (dead e)
unfolding after_drop
behind_mark mark k e h = rw (le-leb mark k h) refl

pub dropped_thinned : (mark k : ℕ) (es : List Event) → Thinned es (dropped mark k es)
unfolding dropped after_drop
dropped_thinned mark k [] = none_thinned
dropped_thinned mark k (e ∷ es) =
    by_test (leb mark k)
    (λ t.
    by_test (stays_kind e.kind)
    (λ s. rw (t, s) (same_there (dropped_thinned mark (k + 1) es)))
    (λ s. rw (t, s) (gone (dropped_thinned mark (k + 1) es))))
    (λ t. rw t (same_there (dropped_thinned mark (k + 1) es)))

pub dropped_parts : (mark k : ℕ) (xs ys : List Event) → dropped mark k (xs ++ ys) ≡ dropped mark k xs ++ dropped mark (k + length xs) ys
unfolding dropped
dropped_parts mark k [] ys = let z : k + 0 ≡ k = omega arith in rw z refl
dropped_parts mark k (x ∷ xs) ys =
    let z : k + suc (length xs) ≡ k + 1 + length xs = omega arith in
    rw (z, dropped_parts mark (k + 1) xs ys) refl

-- what is left of it is in other chains than those of logs
pub left_shared : {gs : List Event} (mark k : ℕ) (es : List Event) → mark ≤ k → Each (Sort gs) k es
    → Each (λ (i : ℕ) (e : Event). e.alive ≡ true → Shared e) k (dropped mark k es)
unfolding dropped
left_shared mark k [] h each_none = each_none
left_shared {gs} mark k (e ∷ es) h (each_next s q) = each_next (first_left s) (left_shared mark (k + 1) es (omega arith) q)
  where
    first_left : Sort gs k e → (after_drop mark k e).alive ≡ true → Shared (after_drop mark k e)
    first_left s t =
        by_test (stays_kind e.kind)
        (λ u. let i : after_drop mark k e ≡ e = behind_mark mark k e h ∙ rw u refl in subst Shared (sym i) (stays_shared s u))
        (λ u. let i : after_drop mark k e ≡ dead e = behind_mark mark k e h
        ∙ rw u refl in absurd (not_both t (ap (λ (x : Event). x.alive) i)))

pub shared_out : {k : ℕ} {es : List Event} (c : ℕ) → (c ≡ 2 → ⊥) → (c ≡ 3 → ⊥) → (c ≡ 4 → ⊥)
    → Each (λ (i : ℕ) (e : Event). e.alive ≡ true → Shared e) k es → Each (Out c) k es
shared_out c a b d each_none = each_none
shared_out c a b d (each_next {e = e} h q) =
    each_next (by_test e.alive (λ t. shared_apart e c a b d (h t)) (λ t. rw t refl)) (shared_out c a b d q)

-- and bindings and diagnostics are as they were
module _ (c : ℕ) (shared : (e : Event) → e.chain ≡ c → Shared e) where
  in_dropped : {gs : List Event} (mark k : ℕ) (e : Event) → Sort gs k e → in_chain c e ≡ true → after_drop mark k e ≡ e
  unfolding after_drop
  in_dropped mark k e s t =
      let st = goes s (shared e (eqb-true _ _ (both e.alive _ t).1)) in
      by_test (leb mark k) (λ u. rw (u, st) refl) (λ u. rw u refl)

  out_dropped : (mark k : ℕ) (e : Event) → in_chain c e ≡ false → in_chain c (after_drop mark k e) ≡ false
  unfolding after_drop
  out_dropped mark k e t = by_test (leb mark k) (λ u. by_test (stays_kind e.kind) (λ v. rw (u, v) t) (λ v. rw (u, v) refl)) (λ u. rw u t)

  pub members_dropped : {gs : List Event} (mark k : ℕ) (es : List Event) → Each (Sort gs) k es
      → members c k (dropped mark k es) ≡ members c k es
  unfolding members dropped
  members_dropped mark k [] each_none = refl
  members_dropped mark k (e ∷ es) (each_next s q) =
      let h = members_dropped mark (k + 1) es q in
      by_test (in_chain c e) (λ t. rw (in_dropped mark k e s t, t, h) refl) (λ t. rw (out_dropped mark k e t, t, h) refl)

  pub first_dropped : {gs : List Event} (mark k : ℕ) (es : List Event) → Each (Sort gs) k es → first c k (dropped mark k es) ≡ first c k es
  unfolding first dropped
  first_dropped mark k [] each_none = refl
  first_dropped mark k (e ∷ es) (each_next s q) =
      let h = first_dropped mark (k + 1) es q in
      by_test (in_chain c e) (λ t. rw (in_dropped mark k e s t, t) refl) (λ t. rw (out_dropped mark k e t, t, h) refl)

  pub last_dropped : {gs : List Event} (mark k : ℕ) (es : List Event) → Each (Sort gs) k es → last c k (dropped mark k es) ≡ last c k es
  unfolding last dropped
  last_dropped mark k [] each_none = refl
  last_dropped mark k (e ∷ es) (each_next s q) =
      let h = last_dropped mark (k + 1) es q in
      by_test (in_chain c e) (λ t. rw (in_dropped mark k e s t, h) refl) (λ t. rw (out_dropped mark k e t, t, h) refl)

  pub runs_dropped : {gs : List Event} {x : _} (mark : ℕ) (es : List Event) → Each (Sort gs) 1 es → Runs c x es
      → Runs c x (dropped mark 1 es)
  runs_dropped mark es ss r =
      record { first_is = r.first_is ∙ sym (first_dropped mark 1 es ss); last_is = r.last_is ∙ sym (last_dropped mark 1 es ss) }

-- lists in two parts
pub each_back : {P : ℕ → Event → Type 0} (xs : List Event) {k : ℕ} {ys : List Event} → Each P k (xs ++ ys) → Each P (k + length xs) ys
each_back {P} [] {k} {ys} h = let z : k ≡ k + 0 = omega arith in subst (λ (i : ℕ). Each P i ys) z h
each_back {P} (x ∷ xs) {k} {ys} (each_next p h) =
    let z : k + 1 + length xs ≡ k + suc (length xs) = omega arith in
    subst (λ (i : ℕ). Each P i ys) z (each_back xs h)

pub each_join : {P : ℕ → Event → Type 0} (xs : List Event) {k : ℕ} {ys : List Event} → Each P k xs → Each P (k + length xs) ys
    → Each P k (xs ++ ys)
each_join {P} [] {k} {ys} each_none q = let z : k + 0 ≡ k = omega arith in subst (λ (i : ℕ). Each P i ys) z q
each_join {P} (x ∷ xs) {k} {ys} (each_next p h) q =
    let z : k + suc (length xs) ≡ k + 1 + length xs = omega arith in
    each_next p (each_join xs h (subst (λ (i : ℕ). Each P i ys) z q))

pub at_cut : (k : ℕ) (xs : List Event) (e : Event) (ys : List Event) → At k (xs ++ e ∷ ys) (k + length xs) e
at_cut k [] e ys = let z : k ≡ k + 0 = omega arith in subst (λ (i : ℕ). At k (e ∷ ys) i e) z at_here
at_cut k (x ∷ xs) e ys =
    let z : k + 1 + length xs ≡ k + suc (length xs) = omega arith in
    at_later (subst (λ (i : ℕ). At (k + 1) (xs ++ e ∷ ys) i e) z (at_cut (k + 1) xs e ys))

at_back : (xs : List Event) {k r : ℕ} {ys : List Event} {e : Event} → k + length xs ≤ r → At k (xs ++ ys) r e → At (k + length xs) ys r e
at_back [] {k} {r} {ys} {e} h a = let z : k ≡ k + 0 = omega arith in subst (λ (i : ℕ). At i ys r e) z a
at_back (x ∷ xs) h at_here = absurd (omega arith)
at_back (x ∷ xs) {k} {r} {ys} {e} h (at_later a) =
    let z : k + 1 + length xs ≡ k + suc (length xs) = omega arith in
    subst (λ (i : ℕ). At i ys r e) z (at_back xs (omega arith) a)

-- nothing that stays, and nothing before the body, leads to a record of the body that is dropped
quiet_of : {chain k : ℕ} {xs : List Event} → Each (λ (i : ℕ) (x : Event). x.alive ≡ true
    → (x.chain ≡ chain → ⊥) × (chain ≡ children_of i → ⊥)) k xs → Quiet chain k xs
quiet_of each_none = quiet_none
quiet_of (each_next h q) = quiet_next h (quiet_of q)

shared_not : {es : List Event} {k : ℕ} {e x : Event} → Sort es k e → stays_kind e.kind ≡ false → Shared x → x.chain ≡ e.chain → ⊥
shared_not {e = e} {x} s n h q = not_both (goes s (moved h)) n
  where
    moved : Shared x → Shared e
    moved (shared_binding z) = shared_binding (sym q ∙ z)
    moved (shared_diag p z) = shared_diag p (sym q ∙ z)

module _ (es : List Event) (mark p : ℕ) (e : Event) (sorted : Each (Sort es) 1 es) (ordered : Ordered 1 es) (at : At 1 es p e)
    (goes-away : stays_kind e.kind ≡ false)
    (inside : Inside mark mark e) where
  sort : Sort es p e
  sort = each_at sorted at

  -- a record before the body
  before_apart : (r : ℕ) (x : Event) → r < mark → At 1 es r x → x.chain ≡ e.chain → ⊥
  before_apart r x h a q = go sort
    where
      go : Sort es p e → ⊥
      go (is_def l c b k) = omega (arith, inside.of_defs l c, low l (each_at sorted a) (q ∙ c))
      go (is_ext l c b k m) =
          let n : l < mark → ⊥ = λ z. omega (arith, (inside.of_exts l c).0 z) in
          omega (arith, low_ext l (each_at sorted a) (q ∙ c))
      go (is_binding c k) = not_both (goes {e = e} sort (shared_binding c)) goes-away
      go (is_diag t c k) = not_both (goes {e = e} sort (shared_diag t c)) goes-away
      go (is_part o y c b g k) = omega (arith, inside.of_parts o c, behind ordered a (q ∙ c))

  -- a record that stays owns nothing
  owns_nothing : (r : ℕ) (x : Event) → stays_kind x.kind ≡ true → At 1 es r x → e.chain ≡ children_of r → ⊥
  owns_nothing r x t a q = go sort
    where
      go : Sort es p e → ⊥
      go (is_def l c b k) = omega (arith, sym c ∙ q)
      go (is_ext l c b k m) = omega (arith, sym c ∙ q)
      go (is_binding c k) = omega (arith, sym c ∙ q)
      go (is_diag true c k) = omega (arith, sym c ∙ q)
      go (is_diag false c k) = omega (arith, sym c ∙ q)
      go (is_part o y c b g k) =
          let i : o ≡ r = omega (arith, sym c ∙ q) in
          let same : y ≡ x = at_same (subst (λ (j : ℕ). At 1 es j y) i b) a in
          parent_stays x.kind (subst (λ (z : Event). has_children z.kind ≡ true) same g) t

  quiet_one : (r : ℕ) (x : Event) → At 1 es r x → (after_drop mark r x).alive ≡ true
      → ((after_drop mark r x).chain ≡ e.chain → ⊥) × (e.chain ≡ children_of r → ⊥)
  unfolding after_drop
  quiet_one r x a t =
      by_test (leb mark r)
      (λ u.
      by_test (stays_kind x.kind)
      (λ v. rw (u, v) (shared_not sort goes-away (stays_shared (each_at sorted a) v), owns_nothing r x v a))
      (λ v. absurd (not_both (rw (u, v) at t) refl)))
      (λ u.
      let h : r < mark = leb-false mark r u in
      rw u (before_apart r x h a, λ q. omega (arith, inside.of_parts r q)))

  quiet_each : (k : ℕ) (us : List Event) → ((r : ℕ) (x : Event) → At k us r x → At 1 es r x)
      → Each (λ (i : ℕ) (x : Event). x.alive ≡ true → (x.chain ≡ e.chain → ⊥) × (e.chain ≡ children_of i → ⊥)) k (dropped mark k us)
  unfolding dropped
  quiet_each k [] f = each_none
  quiet_each k (x ∷ us) f = each_next (quiet_one k x (f k x at_here)) (quiet_each (k + 1) us (λ r y a. f r y (at_later a)))

pub body : (es xs ys : List Event) (mark : ℕ) → es ≡ xs ++ ys → mark ≡ 1 + length xs → Each (Sort es) 1 es → Ordered 1 es
    → Each (λ (k : ℕ) (e : Event). Inside mark mark e) mark ys → Body mark es
body es xs ys mark q m ss o i =
    record {
      quiet = λ us e vs c h n.
          let a : At 1 es (1 + length us) e = subst (λ (l : List Event). At 1 l (1 + length us) e) (sym c) (at_cut 1 us e vs) in
          let b : At (1 + length xs) ys (1 + length us) e = at_back xs (omega arith)
          (subst (λ (l : List Event). At 1 l (1 + length us) e) q a) in
          let k : Inside mark mark e = each_at i (subst (λ (j : ℕ). At j ys (1 + length us) e) (sym m) b) in
          quiet_of (quiet_each es mark (1 + length us) e ss o a n k 1 us
          (λ r x z. subst (λ (l : List Event). At 1 l r x) (sym c) (at_more (e ∷ vs) z)));
    }
