-- A part more below a record: what the newest definition says then, and that all others say what they said.
use Prim.Native.Nat.{ℕ, ◌+◌, ◌<◌}
use mathlib.Core.Path.{◌≡◌, refl, sym, ap, subst, ◌∙◌}
use mathlib.Core.Bool.{Bool, true}
use mathlib.Core.List.{List, [], ◌∷◌, ◌++◌, map, map-append}
use native.Mathlib.Omega.{arith}
use borrow.Author.Tests.{eqb-true, eqb-false}
use lib.Dec.{eqb}
use lib.ListN.{length}
use Rattle.paths_numbers.proofs.Texts.{by_test, not_both, both}
use Rattle.definition_log.specs.meaning.Contents.{Cell, Value, DefValue}
use Rattle.making.specs.machine.Adding.{on_last, with_label, on_values, with_cell, changed, last_is}
use Rattle.definition_log.specs.meaning.Record.{node_kind, property_kind, cell_list_kind}
use Rattle.making.specs.machine.Events.{Event, defs_of, exts_of, children_of, in_chain, last, Ordered, Numbered, members, below, cell_of}
use Rattle.making.specs.machine.Events.{value_of, def_value_of, def_of, defs_in}
use Rattle.making.specs.machine.Represents.{Each, OtherBody, exts_in}
use Rattle.making.specs.machine.Whole.{At, at_here, at_later}
use Rattle.making.proofs.Append.{chain_other, new_in, last_from_lem}
use Rattle.making.proofs.Members.{map_members, members_more, members_other, SameBelow, value_same, def_same, defs_same}
use Rattle.making.proofs.Growing.{each_at, exts_same, childless}
use Rattle.making.proofs.FirstOf.{at_from, at_same}

-- a chain without a last record is empty, and one with a last record has it
pub none_last : (c k : ℕ) (es : List Event) → 0 < k → last c k es ≡ 0 → members c k es ≡ []
unfolding last members
none_last c k [] p z = refl
none_last c k (x ∷ es) p z =
    by_test (eqb (last c (k + 1) es) 0)
    (λ q.
    by_test (in_chain c x)
    (λ u. absurd (omega (arith, rw (q, u) at z)))
    (λ u. rw u (none_last c (k + 1) es (omega arith) (eqb-true _ _ q))))
    (λ q. absurd (eqb-false _ _ q (rw q at z)))

pub record Found (c k : ℕ) (es : List Event) (r : ℕ) : Type 0 where
  pub event : Event
  pub at : At k es r event
  pub there : event.alive ≡ true
  pub chain : event.chain ≡ c

pub last_at : (c k : ℕ) (es : List Event) → (last c k es ≡ 0 → ⊥) → Found c k es (last c k es)
unfolding last
last_at c k [] n = absurd (n refl)
last_at c k (x ∷ es) n =
    by_test (eqb (last c (k + 1) es) 0)
    (λ q.
    by_test (in_chain c x)
    (λ u. let b = both x.alive _ u in rw (q, u) (record { event = x; at = at_here; there = b.0; chain = eqb-true _ _ b.1 }))
    (λ u. absurd (n (rw (q, u) refl))))
    (λ q. let f = last_at c (k + 1) es (eqb-false _ _ q) in rw q
    (record { event = f.event; at = at_later f.at; there = f.there; chain = f.chain }))

-- a list that is not empty
record Filled {A : Type 0} (l : List A) : Type 0 where
  head : A
  tail : List A
  is : l ≡ head ∷ tail

some_last : (c k : ℕ) (es : List Event) → (last c k es ≡ 0 → ⊥) → Filled (members c k es)
unfolding last members
some_last c k [] n = absurd (n refl)
some_last c k (x ∷ es) n =
    by_test (in_chain c x)
    (λ u. rw u (record { head = _; tail = _; is = refl }))
    (λ u. rw u (some_last c (k + 1) es (λ z. n (rw (z, u) refl))))

on_last_lem : {A : Type 0} (f : A → A) (a : A) (l : List A) → Filled l → on_last f (a ∷ l) ≡ a ∷ on_last f l
unfolding on_last
on_last_lem f a l m = rw m.is refl

on_one : {B : Type 0} {a b : B} (f : B → B) → a ≡ f b → a ∷ [] ≡ on_last f (b ∷ [])
unfolding on_last
on_one f i = ap (λ (y : _). y ∷ []) i

map_filled : {A B : Type 0} (f : A → B) (l : List A) → Filled l → Filled (map f l)
map_filled f l m = record { head = f m.head; tail = map f m.tail; is = ap (map f) m.is }

-- what is made of a chain's records, where only that of the last changes
pub map_last : {B : Type 0} (F G : Numbered → B) (f : B → B) (c k : ℕ) (es : List Event) → 0 < k → (last c k es ≡ 0 → ⊥)
    → ((r : ℕ) (e : Event) → At k es r e → e.alive ≡ true → e.chain ≡ c → (r ≡ last c k es → ⊥)
    → F (record { number = r; event = e }) ≡ G (record { number = r; event = e }))
    → ((e : Event) → At k es (last c k es) e → F (record { number = last c k es; event = e }) ≡ f
    (G (record { number = last c k es; event = e })))
    → map F (members c k es) ≡ on_last f (map G (members c k es))
unfolding last members
map_last F G f c k [] p n same new = absurd (n refl)
map_last F G f c k (x ∷ es) p n same new =
    by_test (eqb (last c (k + 1) es) 0)
    (λ q.
    by_test (in_chain c x)
    (λ u.
    let m = none_last c (k + 1) es (omega arith) (eqb-true _ _ q) in
    let i : F (record { number = k; event = x }) ≡ f (G (record { number = k; event = x })) = subst
    (λ (i : ℕ). At k (x ∷ es) i x → F (record { number = i; event = x }) ≡ f (G (record { number = i; event = x })))
    (rw (q, u) refl) (new x) at_here in
    rw (u, m) (on_one f i))
    (λ u. absurd (n (rw (q, u) refl))))
    (λ q.
    let n' = eqb-false _ _ q in
    let l : last c k (x ∷ es) ≡ last c (k + 1) es = rw q refl in
    let same' : (r : ℕ) (e : Event) → At (k + 1) es r e → e.alive ≡ true → e.chain ≡ c → (r ≡ last c (k + 1) es → ⊥)
    → F (record { number = r; event = e }) ≡ G (record { number = r; event = e }) =
    λ r e a t d z. same r e (at_later a) t d (λ y. z (y ∙ l)) in
    let new' : (e : Event) → At (k + 1) es (last c (k + 1) es) e
    → F (record { number = last c (k + 1) es; event = e }) ≡ f (G (record { number = last c (k + 1) es; event = e })) =
    λ e a. subst (λ (i : ℕ). At k (x ∷ es) i e → F (record { number = i; event = e }) ≡ f (G (record { number = i; event = e }))) l (new e)
    (at_later a) in
    let h = map_last F G f c (k + 1) es (omega arith) n' same' new' in
    by_test (in_chain c x)
    (λ u.
    let b = both x.alive _ u in
    let i = same k x at_here b.0 (eqb-true _ _ b.1) (λ z. omega (arith, last_from_lem c (k + 1) es n', z ∙ l)) in
    rw (u, i, h) (sym (on_last_lem f _ _ (map_filled G _ (some_last c (k + 1) es n')))))
    (λ u. rw (u, h) refl))

-- what a test says of the last
pub last_is_lem : {B : Type 0} (p : B → Bool) (G : Numbered → B) (c k : ℕ) (es : List Event) → 0 < k → last_is p (map G (members c k es)) ≡ true
    → (e : Event) → At k es (last c k es) e → p (G (record { number = last c k es; event = e })) ≡ true
unfolding last_is members last
last_is_lem p G c k [] z t e a = absurd (not_both t refl)
last_is_lem p G c k (x ∷ es) z t e a =
    by_test (eqb (last c (k + 1) es) 0)
    (λ q.
    let m = none_last c (k + 1) es (omega arith) (eqb-true _ _ q) in
    by_test (in_chain c x)
    (λ u.
    let l : last c k (x ∷ es) ≡ k = rw (q, u) refl in
    let a' : At k (x ∷ es) k e = subst (λ (i : ℕ). At k (x ∷ es) i e) l a in
    rw (l, at_same a' at_here) (rw (u, m) at t))
    (λ u. absurd (not_both (rw (u, m) at t) refl)))
    (λ q.
    let n = eqb-false _ _ q in
    let l : last c k (x ∷ es) ≡ last c (k + 1) es = rw q refl in
    let a' : At (k + 1) es (last c (k + 1) es) e = later (omega (arith, last_from_lem c (k + 1) es n))
    (subst (λ (i : ℕ). At k (x ∷ es) i e) l a) in
    let f = some_last c (k + 1) es n in
    rw l (last_is_lem p G c (k + 1) es (omega arith) (by_test (in_chain c x)
    (λ u. skip p (G _) (map G (members c (k + 1) es)) (map_filled G _ f) (rw u at t)) (λ u. rw u at t)) e a'))
  where
    later : {k r : ℕ} {x e : Event} {es : List Event} → k < r → At k (x ∷ es) r e → At (k + 1) es r e
    later h at_here = absurd (omega arith)
    later h (at_later a) = a

    skip : {B : Type 0} (p : B → Bool) (a : B) (l : List B) → Filled l → last_is p (a ∷ l) ≡ true → last_is p l ≡ true
    skip p a l f t = rw f.is (rw f.is at t)

-- a part below record o
module _ (es : List Event) (o : ℕ) (e : Event) (part : e.chain ≡ children_of o) (alive : e.alive ≡ true) where
  abbrev fs : List Event
  fs = es ++ e ∷ []

  pub below_but : SameBelow (λ (r : ℕ). r ≡ o) es fs
  below_but r n = members_other (children_of r) 1 es e (chain_other (children_of o) (children_of r) e part (λ q. n (omega arith)))

  pub below_owner : below fs o ≡ below es o ++ record { number = 1 + length es; event = e } ∷ []
  below_owner = members_more (children_of o) 1 es e (new_in (children_of o) e alive part)

  pub none_new : Ordered 1 es → o < 1 + length es → below fs (1 + length es) ≡ []
  none_new h l = below_but (1 + length es) (λ q. omega arith) ∙ childless 1 es (1 + length es) h (omega arith)

  same_members : (l : ℕ) → members (defs_of l) 1 fs ≡ members (defs_of l) 1 es
  same_members l = members_other (defs_of l) 1 es e (chain_other (children_of o) (defs_of l) e part (λ q. omega arith))

  same_exts : (x : ℕ) → members (exts_of x) 1 fs ≡ members (exts_of x) 1 es
  same_exts x = members_other (exts_of x) 1 es e (chain_other (children_of o) (exts_of x) e part (λ q. omega arith))

  -- of a definition
  module _ (l : ℕ) (owner : Found (defs_of l) 1 es o) where
    not_value : (r v : ℕ) (x : Event) → At 1 es v x → x.chain ≡ children_of r → v ≡ o → ⊥
    not_value r v x a c q =
        let b : At 1 es o x = subst (λ (i : ℕ). At 1 es i x) q a in
        let d : defs_of l ≡ children_of r = sym owner.chain ∙ ap (λ (y : Event). y.chain) (at_same owner.at b) ∙ c in
        omega arith

    not_def : (j r : ℕ) (x : Event) → (j ≡ l → ⊥) → At 1 es r x → x.chain ≡ defs_of j → r ≡ o → ⊥
    not_def j r x n a c q =
        let b : At 1 es o x = subst (λ (i : ℕ). At 1 es i x) q a in
        let d : defs_of l ≡ defs_of j = sym owner.chain ∙ ap (λ (y : Event). y.chain) (at_same owner.at b) ∙ c in
        n (omega arith)

    not_ext : (j r : ℕ) (x : Event) → At 1 es r x → x.chain ≡ exts_of j → r ≡ o → ⊥
    not_ext j r x a c q =
        let b : At 1 es o x = subst (λ (i : ℕ). At 1 es i x) q a in
        let d : defs_of l ≡ exts_of j = sym owner.chain ∙ ap (λ (y : Event). y.chain) (at_same owner.at b) ∙ c in
        omega arith

    other_defs : (j : ℕ) → (j ≡ l → ⊥) → defs_in j fs ≡ defs_in j es
    other_defs j n =
        defs_same (λ (r : ℕ). r ≡ o) es fs below_but j (same_members j) (λ r x a t c. not_def j r x n a c)
        (λ r v x y a t c b u d. not_value r v y b d)

    pub exts_part : (x : ℕ) → Each (OtherBody l) 1 es → exts_in x fs ≡ exts_in x es
    exts_part x h =
        exts_same (λ (r : ℕ). r ≡ o) es fs below_but x (same_exts x)
        (λ r y a t c. (not_ext x r y a c, other_defs y.log (each_at h a x c t)))

    pub defs_part : (f : DefValue → DefValue) → last (defs_of l) 1 es ≡ o
        → def_of fs (record { number = o; event = owner.event }) ≡ changed f (def_of es (record { number = o; event = owner.event }))
        → defs_in l fs ≡ on_last (changed f) (defs_in l es)
    unfolding defs_in
    defs_part f q h =
        let n : last (defs_of l) 1 es ≡ 0 → ⊥ = λ z. omega (arith, at_from owner.at) in
        rw (same_members l)
        (map_last (def_of fs) (def_of es) (changed f) (defs_of l) 1 es (omega arith) n
        (λ r x a t c z. def_same (λ (r : ℕ). r ≡ o) es fs below_but r x (λ y. z (y ∙ sym q)) (λ v y b u d. not_value r v y b d))
        (λ x a.
        let a' : At 1 es o x = subst (λ (i : ℕ). At 1 es i x) q a in
        rw (q, at_same a' owner.at) h))

    -- a label of a node, a value of a property
    pub label_part : owner.event.kind ≡ node_kind
        → def_of fs (record { number = o; event = owner.event }) ≡ changed (with_label e.text)
        (def_of es (record { number = o; event = owner.event }))
    unfolding def_of def_value_of
    label_part k = rw (k, below_owner, map-append) refl

    pub value_part : (v : Value) → owner.event.kind ≡ property_kind → value_of fs (record { number = 1 + length es; event = e }) ≡ v
        → def_of fs (record { number = o; event = owner.event }) ≡ changed (on_values (λ vs. vs ++ v ∷ []))
        (def_of es (record { number = o; event = owner.event }))
    unfolding def_of def_value_of
    value_part v k h =
        let old = map_members (value_of fs) (value_of es) (children_of o) 1 es
        (λ r x a t c. value_same (λ (r : ℕ). r ≡ o) es fs below_but r x (not_value o r x a c)) in
        rw (k, below_owner, map-append, old, h) refl

  -- of a value
  module _ (l d : ℕ) (definition : Found (defs_of l) 1 es d) (owner : Found (children_of d) 1 es o) where
    not_def_2 : (j r : ℕ) (x : Event) → At 1 es r x → x.chain ≡ defs_of j → r ≡ o → ⊥
    not_def_2 j r x a c q =
        let b : At 1 es o x = subst (λ (i : ℕ). At 1 es i x) q a in
        let i : children_of d ≡ defs_of j = sym owner.chain ∙ ap (λ (y : Event). y.chain) (at_same owner.at b) ∙ c in
        omega arith

    not_ext_2 : (j r : ℕ) (x : Event) → At 1 es r x → x.chain ≡ exts_of j → r ≡ o → ⊥
    not_ext_2 j r x a c q =
        let b : At 1 es o x = subst (λ (i : ℕ). At 1 es i x) q a in
        let i : children_of d ≡ exts_of j = sym owner.chain ∙ ap (λ (y : Event). y.chain) (at_same owner.at b) ∙ c in
        omega arith

    not_value_2 : (r v : ℕ) (x : Event) → (r ≡ d → ⊥) → At 1 es v x → x.chain ≡ children_of r → v ≡ o → ⊥
    not_value_2 r v x n a c q =
        let b : At 1 es o x = subst (λ (i : ℕ). At 1 es i x) q a in
        let i : children_of d ≡ children_of r = sym owner.chain ∙ ap (λ (y : Event). y.chain) (at_same owner.at b) ∙ c in
        n (omega arith)

    not_same : (j r : ℕ) (x : Event) → (j ≡ l → ⊥) → At 1 es r x → x.chain ≡ defs_of j → r ≡ d → ⊥
    not_same j r x n a c q =
        let b : At 1 es d x = subst (λ (i : ℕ). At 1 es i x) q a in
        let i : defs_of l ≡ defs_of j = sym definition.chain ∙ ap (λ (y : Event). y.chain) (at_same definition.at b) ∙ c in
        n (omega arith)

    other_defs_2 : (j : ℕ) → (j ≡ l → ⊥) → defs_in j fs ≡ defs_in j es
    other_defs_2 j n =
        defs_same (λ (r : ℕ). r ≡ o) es fs below_but j (same_members j) (λ r x a t c. not_def_2 j r x a c)
        (λ r v x y a t c b u i. not_value_2 r v y (not_same j r x n a c) b i)

    pub exts_cell : (x : ℕ) → Each (OtherBody l) 1 es → exts_in x fs ≡ exts_in x es
    exts_cell x h =
        exts_same (λ (r : ℕ). r ≡ o) es fs below_but x (same_exts x)
        (λ r y a t c. (not_ext_2 x r y a c, other_defs_2 y.log (each_at h a x c t)))

    pub defs_cell : (c : Cell) → last (defs_of l) 1 es ≡ d → last (children_of d) 1 es ≡ o → definition.event.kind ≡ property_kind
        → owner.event.kind ≡ cell_list_kind
        → cell_of (record { number = 1 + length es; event = e }) ≡ c
        → defs_in l fs ≡ on_last (changed (on_values (on_last (with_cell c)))) (defs_in l es)
    unfolding defs_in def_of def_value_of value_of
    defs_cell c qd qo kd ko h =
        let n : last (defs_of l) 1 es ≡ 0 → ⊥ = λ z. omega (arith, at_from definition.at) in
        let m : last (children_of d) 1 es ≡ 0 → ⊥ = λ z. omega (arith, at_from owner.at) in
        let apart : d ≡ o → ⊥ = not_def_2 l d definition.event definition.at definition.chain in
        let vs : map (value_of fs) (below es d) ≡ on_last (with_cell c) (map (value_of es) (below es d)) =
        map_last (value_of fs) (value_of es) (with_cell c) (children_of d) 1 es (omega arith) m
        (λ r x a t i z. value_same (λ (r : ℕ). r ≡ o) es fs below_but r x (λ y. z (y ∙ sym qo)))
        (λ x a.
        let a' : At 1 es o x = subst (λ (i : ℕ). At 1 es i x) qo a in
        rw (qo, at_same a' owner.at) (cell_value c ko h)) in
        rw (same_members l)
        (map_last (def_of fs) (def_of es) (changed (on_values (on_last (with_cell c)))) (defs_of l) 1 es (omega arith) n
        (λ r x a t i z. def_same (λ (r : ℕ). r ≡ o) es fs below_but r x (not_def_2 l r x a i)
        (λ v y b u j. not_value_2 r v y (λ w. z (w ∙ sym qd)) b j))
        (λ x a.
        let a' : At 1 es d x = subst (λ (i : ℕ). At 1 es i x) qd a in
        rw (qd, at_same a' definition.at) (property_value c kd (below_but d apart) vs)))
      where
        cell_value : (c : Cell) → owner.event.kind ≡ cell_list_kind → cell_of (record { number = 1 + length es; event = e }) ≡ c
            → value_of fs (record { number = o; event = owner.event }) ≡ with_cell c
            (value_of es (record { number = o; event = owner.event }))
        cell_value c k h = rw (k, below_owner, map-append, h) refl

        property_value : (c : Cell) → definition.event.kind ≡ property_kind → below fs d ≡ below es d
            → map (value_of fs) (below es d) ≡ on_last (with_cell c) (map (value_of es) (below es d))
            → def_of fs (record { number = d; event = definition.event }) ≡ changed (on_values (on_last (with_cell c)))
            (def_of es (record { number = d; event = definition.event }))
        property_value c k b vs = rw (k, b, vs) refl
