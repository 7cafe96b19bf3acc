-- A log in the making with one record more, with one that is no longer there, and with other logs in hand: its records stand as before.
use Prim.Native.Nat.{ℕ, suc, ◌+◌, ◌≤◌}
use mathlib.Core.Path.{◌≡◌, refl, sym, ap, ◌∙◌}
use mathlib.Core.Logic.{◌⊎◌, inl, inr}
use mathlib.Core.Bool.{true, false}
use mathlib.Core.List.{List, [], ◌∷◌, ◌++◌}
use native.Mathlib.Omega.{arith}
use borrow.Author.Tests.{ne_eqb}
use lib.ListN.{length, length-append}
use Rattle.paths_numbers.proofs.Texts.{by_test}
use Rattle.definition_log.specs.meaning.Record.{reference_kind, extension_kind, binding_kind, diagnostic_kind, one_of, def_kinds}
use Rattle.definition_log.specs.meaning.Record.{has_children}
use Rattle.definition_log.specs.meaning.Sound.{kinds_in, below as place_below}
use Rattle.making.specs.machine.Events.{Event, defs_of, exts_of, bindings, diagnostics, post_diagnostics, children_of, in_chain, first}
use Rattle.making.specs.machine.Events.{members}
use Rattle.making.specs.machine.Whole.{At, at_here, at_later, There, Logged, logged_hand, logged_body, Stands, in_defs, in_exts}
use Rattle.making.specs.machine.Whole.{in_bindings, in_diagnostics, in_post, in_children, Plain, Making}
use Rattle.making.proofs.Append.{first_other}
use Rattle.making.proofs.FirstOf.{at_to, at_same, in_chain_lem}
use Rattle.making.proofs.Standing.{def_range, child_range, extends, owned}
use Rattle.making.proofs.Members.{members_other}
use Rattle.making.proofs.Growing.{at_more}

-- the last record of a longer list, and which of both a record is
at_last : (k : ℕ) (es : List Event) (x : Event) → At k (es ++ x ∷ []) (k + length es) x
at_last k [] x = let z : k + 0 ≡ k = omega arith in rw z at_here
at_last k (y ∷ es) x = let z : k + suc (length es) ≡ k + 1 + length es = omega arith in rw z (at_later (at_last (k + 1) es x))

abbrev Last : ℕ → ℕ → List Event → Event → Event → Type 0
Last k r es e x = (r ≡ k + length es) × (e ≡ x)

at_cases : (k : ℕ) (es : List Event) (x : Event) {r : ℕ} {e : Event} → At k (es ++ x ∷ []) r e → At k es r e ⊎ Last k r es e x
at_cases k [] x at_here = inr (omega arith, refl)
at_cases k [] x (at_later p) = elim p [ ]
at_cases k (y ∷ es) x at_here = inl at_here
at_cases k (y ∷ es) x {r} {e} (at_later p) = go (at_cases (k + 1) es x p)
  where
    go : At (k + 1) es r e ⊎ Last (k + 1) r es e x → At k (y ∷ es) r e ⊎ Last k r (y ∷ es) e x
    go (inl q) = inl (at_later q)
    go (inr q) = inr (omega (arith, q.0), q.1)

pub there_more : {es : List Event} {r : ℕ} {e : Event} (x : Event) → There es r e → There (es ++ x ∷ []) r e
there_more x h = record { at = at_more (x ∷ []) h.at; alive = h.alive }

-- a record that is in no body and below no extension
pub record Aside (es : List Event) (x : Event) : Type 0 where
  pub no_body : (r : ℕ) (e : Event) → There es r e → e.kind ≡ extension_kind → x.alive ≡ true → x.chain ≡ defs_of e.log → ⊥
  pub no_child : (r : ℕ) (e : Event) → There es r e → e.kind ≡ extension_kind → x.alive ≡ true → x.chain ≡ children_of r → ⊥

-- it is not in their chains
chain_out : (c : ℕ) (x : Event) → (x.alive ≡ true → x.chain ≡ c → ⊥) → in_chain c x ≡ false
chain_out c x n = by_test x.alive (λ t. rw t (ne_eqb x.chain c (n t))) (λ t. rw t refl)

-- nothing made
pub making_none : {hand : ℕ → Type 0} → Making hand []
making_none =
    record {
      stands = λ r e h. elim h.at [ ];
      plain = λ r e h. elim h.at [ ];
      apart = λ r s e f h. elim h.at [ ];
    }

-- the record made last
which : {es : List Event} {x : Event} {r : ℕ} {e : Event} → There (es ++ x ∷ []) r e → There es r e ⊎ Last 1 r es e x
which {es} {x} {r} {e} h = go (at_cases 1 es x h.at)
  where
    go : At 1 es r e ⊎ Last 1 r es e x → There es r e ⊎ Last 1 r es e x
    go (inl p) = inl (record { at = p; alive = h.alive })
    go (inr q) = inr q

module _ {hand : ℕ → Type 0} {es : List Event} (x : Event) where
  logged_more : {l : ℕ} → Logged hand es l → Logged hand (es ++ x ∷ []) l
  logged_more (logged_hand h) = logged_hand h
  logged_more (logged_body h k) = logged_body (there_more x h) k

  stands_more : {r : ℕ} {e : Event} → (e.kind ≡ extension_kind → x.alive ≡ true → x.chain ≡ defs_of e.log → ⊥)
      → (e.kind ≡ extension_kind → x.alive ≡ true → x.chain ≡ children_of r → ⊥)
      → Stands hand es r e → Stands hand (es ++ x ∷ []) r e
  stands_more f g (in_defs l q o) = in_defs (logged_more l) q o
  stands_more {r} {e} f g (in_exts l q k n b o) =
      in_exts l q k n
      (b ∙ sym (first_other (defs_of e.log) 1 es x (chain_out (defs_of e.log) x (f k))))
      (ap length (members_other (children_of r) 1 es x (chain_out (children_of r) x (g k))) ∙ o)
  stands_more f g (in_bindings q k) = in_bindings q k
  stands_more f g (in_diagnostics q k) = in_diagnostics q k
  stands_more f g (in_post q k) = in_post q k
  stands_more f g (in_children i q k o) = in_children (there_more x i) q k o

  -- a record more that is no extension
  pub making_more : Making hand es → Aside es x → (x.alive ≡ true
      → Stands hand (es ++ x ∷ []) (1 + length es) x × Plain x × (x.kind ≡ extension_kind → ⊥))
      → Making hand (es ++ x ∷ [])
  making_more m a new =
      record {
        stands = λ r e h. stands_of r e h (which h);
        plain = λ r e h. plain_of r e h (which h);
        apart = λ r s e f h k p q l. apart_of r s e f h k (which h) (which k) p q l;
      }
    where
      stands_of : (r : ℕ) (e : Event) → There (es ++ x ∷ []) r e → There es r e ⊎ Last 1 r es e x → Stands hand (es ++ x ∷ []) r e
      stands_of r e h (inl p) = stands_more (a.no_body r e p) (a.no_child r e p) (m.stands r e p)
      stands_of r e h (inr q) = rw (q.0, q.1) (new (rw q.1 at h.alive)).0

      plain_of : (r : ℕ) (e : Event) → There (es ++ x ∷ []) r e → There es r e ⊎ Last 1 r es e x → Plain e
      plain_of r e h (inl p) = m.plain r e p
      plain_of r e h (inr q) = rw q.1 (new (rw q.1 at h.alive)).1

      apart_of : (r s : ℕ) (e f : Event) → There (es ++ x ∷ []) r e → There (es ++ x ∷ []) s f → There es r e ⊎ Last 1 r es e x
          → There es s f ⊎ Last 1 s es f x
          → e.kind ≡ extension_kind → f.kind ≡ extension_kind → e.log ≡ f.log → r ≡ s
      apart_of r s e f h k (inl i) (inl j) p q l = m.apart r s e f i j p q l
      apart_of r s e f h k (inr i) j p q l = absurd ((new (rw i.1 at h.alive)).2 (rw i.1 at p))
      apart_of r s e f h k (inl i) (inr j) p q l = absurd ((new (rw j.1 at k.alive)).2 (rw j.1 at q))

-- a binding or a diagnostic, which stays where a body is dropped
pub data Stays (e : Event) : Type 0 where
  stays_binding : e.chain ≡ bindings → e.kind ≡ binding_kind → Stays e
  stays_diagnostic : e.chain ≡ diagnostics → e.kind ≡ diagnostic_kind → Stays e
  stays_post : e.chain ≡ post_diagnostics → e.kind ≡ diagnostic_kind → Stays e

-- it is in no body and below no extension, and stands in any log
stays_chain : {e : Event} → Stays e → (2 ≤ e.chain) × (e.chain ≤ 4)
stays_chain (stays_binding q k) = (omega arith, omega arith)
stays_chain (stays_diagnostic q k) = (omega arith, omega arith)
stays_chain (stays_post q k) = (omega arith, omega arith)

stays_kind_lem : {e : Event} → Stays e → e.kind ≡ extension_kind → ⊥
stays_kind_lem (stays_binding q k) z = omega (arith, sym k ∙ z)
stays_kind_lem (stays_diagnostic q k) z = omega (arith, sym k ∙ z)
stays_kind_lem (stays_post q k) z = omega (arith, sym k ∙ z)

stays_stands : {hand : ℕ → Type 0} {es : List Event} {r : ℕ} {e : Event} → Stays e → Stands hand es r e
stays_stands (stays_binding q k) = in_bindings q k
stays_stands (stays_diagnostic q k) = in_diagnostics q k
stays_stands (stays_post q k) = in_post q k

-- one more, or a record that is no longer there
pub making_stays : {hand : ℕ → Type 0} {es : List Event} (x : Event) → (x.alive ≡ true → Stays x × Plain x) → Making hand es
    → Making hand (es ++ x ∷ [])
making_stays x f m =
    making_more x m
    (record {
      no_body = λ r e h k a q. let c = stays_chain (f a).0 in omega arith;
      no_child = λ r e h k a q. let c = stays_chain (f a).0 in omega arith;
    })
    (λ a. (stays_stands (f a).0, (f a).1, stays_kind_lem (f a).0))

-- a definition more, in a log in hand
pub making_define : {hand : ℕ → Type 0} {es : List Event} (x : Event) (l : ℕ) → hand l → x.chain ≡ defs_of l
    → one_of x.kind def_kinds ≡ true → Plain x → Making hand es → Making hand (es ++ x ∷ [])
making_define {hand} x l h q o p m =
    making_more x m
    (record {
      no_body = λ r e i k a z. (extends (m.stands r e i) k).own (in_hand e.log (sym q ∙ z));
      no_child = λ r e i k a z. omega (arith, sym q ∙ z);
    })
    (λ a. (in_defs (logged_hand h) q o, p, λ z. omega (arith, z, def_range x.kind o)))
  where
    in_hand : (j : ℕ) → defs_of l ≡ defs_of j → hand j
    in_hand j z = let e : l ≡ j = omega arith in rw e at h

-- a child more, below a record that is no extension
pub making_child : {hand : ℕ → Type 0} {es : List Event} (x : Event) {o : ℕ} {w : Event} → There es o w → x.chain ≡ children_of o
    → has_children w.kind ≡ true → (w.kind ≡ extension_kind → ⊥)
    → one_of x.kind (kinds_in (place_below w.kind)) ≡ true → Plain x → Making hand es → Making hand (es ++ x ∷ [])
making_child {es = es} x {o} {w} h q c n u p m =
    making_more x m
    (record {
      no_body = λ r e i k a z. omega (arith, sym q ∙ z);
      no_child = λ r e i k a z. n (same_kind r e i (sym q ∙ z) ∙ k);
    })
    (λ a. (in_children (there_more x h) q c u, p, λ z. omega (arith, z, child_range x.kind w.kind u)))
  where
    same_kind : (r : ℕ) (e : Event) → There es r e → children_of o ≡ children_of r → w.kind ≡ e.kind
    same_kind r e i z = let y : o ≡ r = omega arith in ap (λ (v : Event). v.kind) (at_same (rw y at h.at) i.at)

-- other logs in hand: none is an extension's
module _ {hand within : ℕ → Type 0} {es : List Event} (inner : (l : ℕ) → hand l → within l) where
  pub making_hand : Making hand es → ((r : ℕ) (e : Event) → There es r e → e.kind ≡ extension_kind → within e.log → ⊥) → Making within es
  making_hand m fresh =
      record { stands = λ r e h. go (fresh r e h) (m.stands r e h); plain = m.plain; apart = m.apart }
    where
      logged : {l : ℕ} → Logged hand es l → Logged within es l
      logged (logged_hand {l} h) = logged_hand (inner l h)
      logged (logged_body h k) = logged_body h k

      go : {r : ℕ} {e : Event} → (e.kind ≡ extension_kind → within e.log → ⊥) → Stands hand es r e → Stands within es r e
      go f (in_defs l q o) = in_defs (logged l) q o
      go f (in_exts {l} h q k n b o) = in_exts (inner l h) q k (f k) b o
      go f (in_bindings q k) = in_bindings q k
      go f (in_diagnostics q k) = in_diagnostics q k
      go f (in_post q k) = in_post q k
      go f (in_children i q k o) = in_children i q k o

-- the children of a record that is not made yet
members_none : (c k : ℕ) (es : List Event) → ((r : ℕ) (e : Event) → At k es r e → in_chain c e ≡ false) → length (members c k es) ≡ 0
unfolding members
members_none c k [] f = refl
members_none c k (e ∷ es) f = rw (f k e at_here) (members_none c (k + 1) es (λ r x p. f r x (at_later p)))

members_new : (c k : ℕ) (es : List Event) (x : Event) → in_chain c x ≡ true
    → length (members c k (es ++ x ∷ [])) ≡ length (members c k es) + 1
unfolding members
members_new c k [] x t = rw t refl
members_new c k (y ∷ es) x t =
    by_test (in_chain c y)
    (λ u. rw u (omega (arith, members_new c (k + 1) es x t)))
    (λ u. rw u (members_new c (k + 1) es x t))

-- An extension and its reference: the log of its body, which was in hand, is no longer. The extensions that the body holds stand in another
-- log's chain.
pub record Extending (hand within : ℕ → Type 0) (es : List Event) (x y : Event) : Type 0 where
  pub log : ℕ
  pub held : hand log
  pub chain : x.chain ≡ exts_of log
  pub kind : x.kind ≡ extension_kind
  pub body : x.m ≡ first (defs_of x.log) 1 es
  pub said : Plain x
  pub below : y.chain ≡ children_of (1 + length es)
  pub reference : y.kind ≡ reference_kind
  pub reference_said : Plain y
  pub both_alive : (x.alive ≡ true) × (y.alive ≡ true)
  pub inner : (l : ℕ) → hand l → within l
  pub outer : (l : ℕ) → within l → hand l ⊎ (l ≡ x.log)
  pub before : within x.log
  pub after : hand x.log → ⊥
  pub passed : (r : ℕ) (e : Event) → There es r e → e.chain ≡ exts_of x.log → ⊥

module _ {hand within : ℕ → Type 0} {es : List Event} (x y : Event) (m : Making within es) (d : Extending hand within es x y) where
  abbrev ys : List Event
  ys = (es ++ x ∷ []) ++ y ∷ []

  abbrev n : ℕ
  n = 1 + length es

  size : length (es ++ x ∷ []) ≡ n
  size = length-append es (x ∷ []) ∙ omega arith

  there_x : There ys n x
  there_x = record { at = at_more (y ∷ []) (at_last 1 es x); alive = d.both_alive.0 }

  -- the records made before
  logged_old : {l : ℕ} → Logged within ys l → Logged hand ys l
  logged_old (logged_hand {l} h) = go (d.outer l h)
    where
      go : hand l ⊎ (l ≡ x.log) → Logged hand ys l
      go (inl i) = logged_hand i
      go (inr q) = rw q (logged_body there_x d.kind)
  logged_old (logged_body h k) = logged_body h k

  rehand : {r : ℕ} {e : Event} → (e.chain ≡ exts_of x.log → ⊥) → Stands within ys r e → Stands hand ys r e
  rehand f (in_defs l q o) = in_defs (logged_old l) q o
  rehand {r} {e} f (in_exts {l} h q k i b o) = go (d.outer l h)
    where
      go : hand l ⊎ (l ≡ x.log) → Stands hand ys r e
      go (inl j) = in_exts j q k (λ z. i (d.inner e.log z)) b o
      go (inr z) = absurd (f (q ∙ ap exts_of z))
  rehand f (in_bindings q k) = in_bindings q k
  rehand f (in_diagnostics q k) = in_diagnostics q k
  rehand f (in_post q k) = in_post q k
  rehand f (in_children i q k o) = in_children i q k o

  stands_old : {r : ℕ} {e : Event} → There es r e → Stands hand ys r e
  stands_old {r} {e} h =
      rehand (d.passed r e h)
      (stands_more y (λ k a z. omega (arith, sym d.below ∙ z)) (λ k a z. omega (arith, at_to h.at, sym d.below ∙ z))
      (stands_more x (λ k a z. omega (arith, sym d.chain ∙ z)) (λ k a z. omega (arith, sym d.chain ∙ z)) (m.stands r e h)))

  -- the extension
  no_children : (r : ℕ) (e : Event) → At 1 es r e → in_chain (children_of n) e ≡ false
  no_children r e p =
      chain_out (children_of n) e
      (λ a q. omega (arith, at_to (owned (m.stands r e (record { at = p; alive = a })) q).there.at))

  one_below : length (members (children_of n) 1 ys) ≡ 1
  one_below =
      let out = chain_out (children_of n) x (λ a z. omega (arith, sym d.chain ∙ z)) in
      members_new (children_of n) 1 (es ++ x ∷ []) y (in_chain_lem (children_of n) y d.both_alive.1 d.below)
      ∙ rw (members_other (children_of n) 1 es x out, members_none (children_of n) 1 es no_children) refl

  same_body : x.m ≡ first (defs_of x.log) 1 ys
  same_body =
      d.body
      ∙ sym (first_other (defs_of x.log) 1 (es ++ x ∷ []) y (chain_out (defs_of x.log) y (λ a z. omega (arith, sym d.below ∙ z)))
      ∙ first_other (defs_of x.log) 1 es x (chain_out (defs_of x.log) x (λ a z. omega (arith, sym d.chain ∙ z))))

  stands_ext : Stands hand ys n x
  stands_ext = in_exts d.held d.chain d.kind d.after same_body one_below

  -- its reference
  stands_reference : Stands hand ys (1 + length (es ++ x ∷ [])) y
  unfolding one_of
  stands_reference = in_children there_x d.below (rw d.kind refl) (rw (d.kind, d.reference) refl)

  -- which of them a record is
  data Which (r : ℕ) (e : Event) : Type 0 where
    is_old : There es r e → Which r e
    is_ext : r ≡ n → e ≡ x → Which r e
    is_reference : r ≡ 1 + length (es ++ x ∷ []) → e ≡ y → Which r e

  which_of : {r : ℕ} {e : Event} → There ys r e → Which r e
  which_of {r} {e} h = go (which h)
    where
      more : There es r e ⊎ Last 1 r es e x → Which r e
      more (inl i) = is_old i
      more (inr q) = is_ext q.0 q.1

      go : There (es ++ x ∷ []) r e ⊎ Last 1 r (es ++ x ∷ []) e y → Which r e
      go (inl i) = more (which i)
      go (inr q) = is_reference q.0 q.1

  pub making_extend : Making hand ys
  making_extend =
      record {
        stands = λ r e h. stands_of (which_of h);
        plain = λ r e h. plain_of (which_of h);
        apart = λ r s e f h k p q l. apart_of (which_of h) (which_of k) p q l;
      }
    where
      stands_of : {r : ℕ} {e : Event} → Which r e → Stands hand ys r e
      stands_of (is_old h) = stands_old h
      stands_of (is_ext p q) = rw (p, q) stands_ext
      stands_of (is_reference p q) = rw (p, q) stands_reference

      plain_of : {r : ℕ} {e : Event} → Which r e → Plain e
      plain_of {r} {e} (is_old h) = m.plain r e h
      plain_of (is_ext p q) = rw q d.said
      plain_of (is_reference p q) = rw q d.reference_said

      -- an extension made before has another log
      old_apart : {r : ℕ} {e : Event} → There es r e → e.kind ≡ extension_kind → e.log ≡ x.log → ⊥
      old_apart {r} {e} h k l = (extends (m.stands r e h) k).own (rw l d.before)

      not_reference : {e : Event} → e ≡ y → e.kind ≡ extension_kind → ⊥
      not_reference q k = omega (arith, sym d.reference ∙ (rw q at k))

      apart_of : {r s : ℕ} {e f : Event} → Which r e → Which s f → e.kind ≡ extension_kind → f.kind ≡ extension_kind → e.log ≡ f.log
          → r ≡ s
      apart_of {r} {s} {e} {f} (is_old h) (is_old k) p q l = m.apart r s e f h k p q l
      apart_of (is_old h) (is_ext i j) p q l = absurd (old_apart h p (l ∙ ap (λ (z : Event). z.log) j))
      apart_of (is_ext i j) (is_old k) p q l = absurd (old_apart k q (sym l ∙ ap (λ (z : Event). z.log) j))
      apart_of (is_ext i j) (is_ext u v) p q l = i ∙ sym u
      apart_of (is_reference i j) w p q l = absurd (not_reference j p)
      apart_of (is_old h) (is_reference i j) p q l = absurd (not_reference j q)
      apart_of (is_ext u v) (is_reference i j) p q l = absurd (not_reference j q)
