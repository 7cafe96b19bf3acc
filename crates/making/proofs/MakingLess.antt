-- A log in the making with a binding removed, and with a body dropped: the records that are left stand as before.
use Prim.Native.Nat.{ℕ, suc, ◌+◌, ◌≤◌}
use mathlib.Core.Path.{◌≡◌, refl, sym, ap, ◌∙◌}
use mathlib.Core.Bool.{true}
use mathlib.Core.List.{List, [], ◌∷◌, ◌++◌, append_assoc, append-nil}
use native.Mathlib.Omega.{arith}
use borrow.Author.Tests.{ne_eqb, le-leb, lt-leb}
use lib.ListN.{length}
use Rattle.paths_numbers.proofs.Texts.{by_test, not_both}
use Rattle.definition_log.specs.meaning.Record.{binding_kind, one_of}
use Rattle.making.specs.machine.Events.{Event, defs_of, bindings, children_of, members}
use Rattle.making.specs.machine.Removed.{dead}
use Rattle.making.specs.machine.Dropped.{stays_kind, after_drop, dropped}
use Rattle.making.specs.machine.Whole.{At, at_here, at_later, There, Logged, logged_hand, logged_body, Stands, in_defs, in_exts}
use Rattle.making.specs.machine.Whole.{in_bindings, in_diagnostics, in_post, in_children, Plain, Making}
use Rattle.making.proofs.Unlinked.{first_apart}
use Rattle.making.proofs.Standing.{def_range, child_range}
use Rattle.making.proofs.MakingMore.{Stays, stays_binding, stays_diagnostic, stays_post, making_stays}

-- a record that is there was there
at_before : (xs : List Event) {k r : ℕ} (e : Event) (ys : List Event) {f : Event} → At k (xs ++ dead e ∷ ys) r f → f.alive ≡ true
    → At k (xs ++ e ∷ ys) r f
at_before [] e ys at_here t = absurd (not_both t refl)
at_before [] e ys (at_later p) t = at_later p
at_before (x ∷ xs) e ys at_here t = at_here
at_before (x ∷ xs) e ys (at_later p) t = at_later (at_before xs e ys p t)

-- and is there, where it is another
at_after : (xs : List Event) {k r : ℕ} (e : Event) (ys : List Event) {f : Event} → At k (xs ++ e ∷ ys) r f → (f.kind ≡ e.kind → ⊥)
    → At k (xs ++ dead e ∷ ys) r f
at_after [] e ys at_here n = absurd (n refl)
at_after [] e ys (at_later p) n = at_later p
at_after (x ∷ xs) e ys at_here n = at_here
at_after (x ∷ xs) e ys (at_later p) n = at_later (at_after xs e ys p n)

-- another chain
members_apart : (c k : ℕ) (xs : List Event) (e : Event) (ys : List Event) → (e.chain ≡ c → ⊥)
    → members c k (xs ++ dead e ∷ ys) ≡ members c k (xs ++ e ∷ ys)
unfolding members
members_apart c k [] e ys n =
    by_test e.alive (λ t. rw (t, ne_eqb e.chain c n) refl) (λ t. rw t refl)
members_apart c k (x ∷ xs) e ys n = rw (members_apart c (k + 1) xs e ys n) refl

-- a binding removed
module _ (xs : List Event) (e : Event) (ys : List Event) (chain : e.chain ≡ bindings) (kind : e.kind ≡ binding_kind) where
  there_before : {r : ℕ} {f : Event} → There (xs ++ dead e ∷ ys) r f → There (xs ++ e ∷ ys) r f
  there_before h = record { at = at_before xs e ys h.at h.alive; alive = h.alive }

  there_after : {r : ℕ} {f : Event} → There (xs ++ e ∷ ys) r f → (f.kind ≡ binding_kind → ⊥) → There (xs ++ dead e ∷ ys) r f
  there_after h n = record { at = at_after xs e ys h.at (λ q. n (q ∙ kind)); alive = h.alive }

  logged_after : {hand : ℕ → Type 0} {l : ℕ} → Logged hand (xs ++ e ∷ ys) l → Logged hand (xs ++ dead e ∷ ys) l
  logged_after (logged_hand h) = logged_hand h
  logged_after (logged_body h k) = logged_body (there_after h (λ q. omega (arith, sym k ∙ q))) k

  stands_after : {hand : ℕ → Type 0} {r : ℕ} {f : Event} → Stands hand (xs ++ e ∷ ys) r f → Stands hand (xs ++ dead e ∷ ys) r f
  unfolding one_of
  stands_after (in_defs l q o) = in_defs (logged_after l) q o
  stands_after {r = r} {f} (in_exts h q k n b o) =
      in_exts h q k n
      (b ∙ sym (first_apart e ys (defs_of f.log) 1 xs (λ z. omega (arith, sym chain ∙ z))))
      (ap length (members_apart (children_of r) 1 xs e ys (λ z. omega (arith, sym chain ∙ z))) ∙ o)
  stands_after (in_bindings q k) = in_bindings q k
  stands_after (in_diagnostics q k) = in_diagnostics q k
  stands_after (in_post q k) = in_post q k
  stands_after (in_children i q k o) = in_children (there_after i (λ z. not_both (rw z at k) refl)) q k o

  pub making_remove : {hand : ℕ → Type 0} → Making hand (xs ++ e ∷ ys) → Making hand (xs ++ dead e ∷ ys)
  making_remove m =
      record {
        stands = λ r f h. stands_after (m.stands r f (there_before h));
        plain = λ r f h. m.plain r f (there_before h);
        apart = λ r s f g h k. m.apart r s f g (there_before h) (there_before k);
      }

-- a record that stays where a body is dropped is a binding or a diagnostic
not_stays : (k : ℕ) → stays_kind k ≡ true → 1 ≤ k → k ≤ 13 → ⊥
not_stays k t l h =
    not_both t (rw (ne_eqb k 0 (λ z. omega arith), ne_eqb k 14 (λ z. omega arith), ne_eqb k 15 (λ z. omega arith)) refl)

stays_of : {hand : ℕ → Type 0} {es : List Event} {r : ℕ} {e : Event} → Stands hand es r e → stays_kind e.kind ≡ true → Stays e
stays_of {e = e} (in_defs l q o) t =
    let d = def_range e.kind o in
    absurd (not_stays e.kind t (omega arith) (omega arith))
stays_of {e = e} (in_exts h q k n b o) t = absurd (not_stays e.kind t (omega arith) (omega arith))
stays_of (in_bindings q k) t = stays_binding q k
stays_of (in_diagnostics q k) t = stays_diagnostic q k
stays_of (in_post q k) t = stays_post q k
stays_of {e = e} (in_children {x = x} i q k o) t =
    let d = child_range e.kind x.kind o in
    absurd (not_stays e.kind t (omega arith) (omega arith))

-- after the drop it is one that stays, or no longer there
after_stays : (mark k : ℕ) (e : Event) → mark ≤ k → (e.alive ≡ true → stays_kind e.kind ≡ true → Stays e × Plain e)
    → (after_drop mark k e).alive ≡ true → Stays (after_drop mark k e) × Plain (after_drop mark k e)
unfolding after_drop
after_stays mark k e l f =
    rw (le-leb mark k l)
    (by_test (stays_kind e.kind)
    (λ t. rw t (λ a. f a t))
    (λ t. rw t (λ a. absurd (not_both a refl))))

making_rest : {hand : ℕ → Type 0} (mark k : ℕ) (xs zs : List Event) → mark ≤ k → Making hand xs
    → ((r : ℕ) (e : Event) → At k zs r e → e.alive ≡ true → stays_kind e.kind ≡ true → Stays e × Plain e)
    → Making hand (xs ++ dropped mark k zs)
unfolding dropped
making_rest mark k xs [] l m f = rw (append-nil xs) m
making_rest mark k xs (z ∷ zs) l m f =
    rw (← append_assoc xs (after_drop mark k z ∷ []) (dropped mark (k + 1) zs))
    (making_rest mark (k + 1) (xs ++ after_drop mark k z ∷ []) zs (omega arith)
    (making_stays (after_drop mark k z) (after_stays mark k z l (f k z at_here)) m)
    (λ r e p. f r e (at_later p)))

-- a body dropped: the records behind xs
at_behind : (k : ℕ) (xs : List Event) {zs : List Event} {r : ℕ} {e : Event} → At (k + length xs) zs r e → At k (xs ++ zs) r e
at_behind k [] p = let z : k + 0 ≡ k = omega arith in rw z at p
at_behind k (x ∷ xs) p = let z : k + suc (length xs) ≡ k + 1 + length xs = omega arith in at_later (at_behind (k + 1) xs (rw z at p))

dropped_behind : (mark k : ℕ) (xs zs : List Event) → k + length xs ≤ mark
    → dropped mark k (xs ++ zs) ≡ xs ++ dropped mark (k + length xs) zs
unfolding dropped after_drop
dropped_behind mark k [] zs h = let z : k + 0 ≡ k = omega arith in rw z refl
dropped_behind mark k (x ∷ xs) zs h =
    let z : k + suc (length xs) ≡ k + 1 + length xs = omega arith in
    rw (z, lt-leb mark k (omega arith), dropped_behind mark (k + 1) xs zs (omega arith)) refl

pub making_drop : {hand within : ℕ → Type 0} (xs zs : List Event) → Making hand xs → Making within (xs ++ zs)
    → Making hand (dropped (1 + length xs) 1 (xs ++ zs))
making_drop xs zs m w =
    rw (dropped_behind (1 + length xs) 1 xs zs (omega arith))
    (making_rest (1 + length xs) (1 + length xs) xs zs (omega arith) m
    (λ r e p a t.
    let h : There (xs ++ zs) r e = record { at = at_behind 1 xs p; alive = a } in
    (stays_of (w.stands r e h) t, w.plain r e h)))
