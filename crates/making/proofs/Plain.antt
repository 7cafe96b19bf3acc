-- What each sort of record has to say to be plain: by its kind, the words and texts that 01 names for it.
use Prim.Native.Nat.{ℕ, ◌≤◌}
use mathlib.Core.Path.{◌≡◌, refl}
use mathlib.Core.Bool.{true, false}
use mathlib.Core.List.{[], ◌∷◌}
use native.Mathlib.Omega.{arith}
use borrow.Author.Tests.{eqb-true, eqb-false}
use lib.Dec.{eqb}
use Rattle.paths_numbers.proofs.Texts.{by_test, not_both}
use Rattle.definition_log.specs.meaning.Record.{node_kind, cell_list_kind, number_kind, reference_kind, extension_kind, binding_kind}
use Rattle.definition_log.specs.meaning.Record.{diagnostic_kind, one_of}
use Rattle.definition_log.specs.meaning.Record.{def_kinds}
use Rattle.definition_log.specs.meaning.Written.{has_text, has_second_text, has_n, has_m, largest_n}
use Rattle.making.specs.machine.Events.{Event}
use Rattle.making.specs.machine.Whole.{Plain}

-- a kind of definitions is no other
no_def : (k j : ℕ) → one_of k def_kinds ≡ true → one_of j def_kinds ≡ false → eqb k j ≡ false
no_def k j o n = by_test (eqb k j) (λ t. absurd (not_both (rw (eqb-true k j t) at o) n)) (λ t. t)

module _ (e : Event) where
  -- a definition
  pub plain_definition : one_of e.kind def_kinds ≡ true → e.second ≡ [] → e.m ≡ 0 → ((e.kind ≡ node_kind → ⊥) → e.n ≡ 0) → e.n ≤ 1
      → Plain e
  unfolding one_of
  plain_definition o s m n l =
      let r = no_def e.kind reference_kind o refl in
      record {
        text = λ h. absurd (not_both refl (rw (r, o) at h));
        second = λ h. s;
        n =
            λ h.
            by_test (eqb e.kind node_kind)
            (λ t. absurd (not_both refl (rw t at h)))
            (λ t. n (eqb-false e.kind node_kind t));
        most = by_test (eqb e.kind node_kind) (λ t. rw t l) (λ t. rw (t, r) (omega arith));
        m = λ h. m;
        span = λ h. absurd (not_both refl (rw o at h));
        name_span = λ h. absurd (not_both refl (rw o at h));
      }

  -- an extension
  pub plain_extension : e.kind ≡ extension_kind → e.text ≡ [] → e.second ≡ [] → e.n ≡ 0 → Plain e
  unfolding one_of
  plain_extension k t s n =
      record {
        text = λ h. t;
        second = λ h. s;
        n = λ h. n;
        most = rw k (omega arith);
        m = λ h. absurd (not_both refl (rw k at h));
        span = λ h. absurd (not_both refl (rw k at h));
        name_span = λ h. absurd (not_both refl (rw k at h));
      }

  -- a binding
  pub plain_binding : e.kind ≡ binding_kind → e.n ≡ 0 → e.m ≡ 0 → e.name_from ≡ 0 → e.name_to ≡ 0 → Plain e
  unfolding one_of
  plain_binding k n m x y =
      record {
        text = λ h. absurd (not_both refl (rw k at h));
        second = λ h. absurd (not_both refl (rw k at h));
        n = λ h. n;
        most = rw k (omega arith);
        m = λ h. m;
        span = λ h. absurd (not_both refl (rw k at h));
        name_span = λ h. (x, y);
      }

  -- a diagnostic
  pub plain_diagnostic : e.kind ≡ diagnostic_kind → e.second ≡ [] → e.m ≡ 0 → Plain e
  unfolding one_of
  plain_diagnostic k s m =
      record {
        text = λ h. absurd (not_both refl (rw k at h));
        second = λ h. s;
        n = λ h. absurd (not_both refl (rw k at h));
        most = rw k (omega arith);
        m = λ h. m;
        span = λ h. absurd (not_both refl (rw k at h));
        name_span = λ h. absurd (not_both refl (rw k at h));
      }

  -- a child, which has no spans
  module _ (from : e.from ≡ 0) (to : e.to ≡ 0) (name_from : e.name_from ≡ 0) (name_to : e.name_to ≡ 0) where
    pub plain_child : (has_text e.kind e.n ≡ false → e.text ≡ []) → (has_second_text e.kind e.n ≡ false → e.second ≡ [])
        → (has_n e.kind ≡ false → e.n ≡ 0) → e.n ≤ largest_n e.kind e.n → (has_m e.kind ≡ false → e.m ≡ 0) → Plain e
    plain_child text second n most m =
        record {
          text = text;
          second = second;
          n = n;
          most = most;
          m = m;
          span = λ z. (from, to);
          name_span = λ z. (name_from, name_to);
        }

    -- a label, a string or a bytestring
    pub plain_text : has_text e.kind e.n ≡ true → e.second ≡ [] → e.n ≡ 0 → e.m ≡ 0 → Plain e
    plain_text t s n m = plain_child (λ z. absurd (not_both t z)) (λ z. s) (λ z. n) (omega arith) (λ z. m)

    -- a cell list
    pub plain_cells : e.kind ≡ cell_list_kind → e.text ≡ [] → e.second ≡ [] → e.m ≡ 0 → Plain e
    unfolding one_of
    plain_cells k t s m = plain_child (λ z. t) (λ z. s) (λ z. absurd (not_both refl (rw k at z))) (rw k (omega arith)) (λ z. m)

    -- a number
    pub plain_number : e.kind ≡ number_kind → e.text ≡ [] → e.second ≡ [] → Plain e
    unfolding one_of
    plain_number k t s =
        plain_child (λ z. t) (λ z. s) (λ z. absurd (not_both refl (rw k at z))) (rw k (omega arith))
        (λ z. absurd (not_both refl (rw k at z)))

    -- a reference
    pub plain_reference : e.kind ≡ reference_kind → e.n ≤ 3 → (one_of e.n (1 ∷ 2 ∷ []) ≡ false → e.text ≡ [])
        → (one_of e.n (2 ∷ 3 ∷ []) ≡ false → e.second ≡ []) → e.m ≡ 0 → Plain e
    unfolding one_of
    plain_reference k n t s m =
        plain_child (λ z. t (rw k at z)) (λ z. s (rw k at z)) (λ z. absurd (not_both refl (rw k at z))) (rw k n) (λ z. m)
