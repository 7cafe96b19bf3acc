-- A log in the making whose chains all start in record 0, and that says only spans and paths that keep row 8's rules, is complete: each of
-- its records stands in a chain that the log says, or is a child and has no spans and no path.
use Prim.Native.Nat.{ℕ, ◌≤◌}
use mathlib.Core.Path.{◌≡◌, refl, ap, ◌∙◌}
use mathlib.Core.Bool.{Bool, true, false, cond}
use mathlib.Core.List.{List, map}
use native.Mathlib.Omega.{arith}
use borrow.Author.Tests.{ne_eqb, leb-true}
use lib.Dec.{leb}
use Rattle.paths_numbers.proofs.Texts.{by_test, both}
use Rattle.definition_log.specs.meaning.Record.{binding_kind, diagnostic_kind, extension_kind, one_of, def_kinds, has_span, has_name_span}
use Rattle.definition_log.specs.meaning.Sound.{nonempty_path}
use Rattle.definition_log.specs.machine.Good.{all, path_fits, good_def, good_ext, good_binding, good_diag, good_log}
use Rattle.making.specs.machine.Events.{Event, Numbered, defs_of, exts_of, bindings, diagnostics, post_diagnostics, in_chain, members}
use Rattle.making.specs.machine.Events.{def_value_of, def_of, defs_in, ext_of, binding_of, diag_of}
use Rattle.making.specs.machine.Whole.{At, at_here, at_later, There, Logged, logged_hand, logged_body, Stands, in_defs, in_exts}
use Rattle.making.specs.machine.Whole.{in_bindings, in_diagnostics, in_post, in_children, Plain, Making, path_right, Right, main_log}
use Rattle.making.specs.machine.Whole.{Whole, log_in}
use Rattle.definition_log.proofs.Pinned.{done, also, by_kind}
use Rattle.making.proofs.FirstOf.{in_chain_lem}
use Rattle.making.proofs.Standing.{child_range, extends}

-- what all records of a chain say, each says
all_say : {A : Type 0} (p : A → Bool) (f : Numbered → A) (c : ℕ) {k r : ℕ} {es : List Event} {e : Event} → At k es r e → in_chain c e ≡ true
    → all p (map f (members c k es)) ≡ true → p (f (record { number = r; event = e })) ≡ true
unfolding all members
all_say p f c {k} (at_here {e = e} {es}) t h = (both (p (f (record { number = k; event = e }))) _ (rw t at h)).0
all_say p f c {k} (at_later {x = x} q) t h =
    by_test (in_chain c x)
    (λ u. all_say p f c q t (both (p (f (record { number = k; event = x }))) _ (rw u at h)).1)
    (λ u. all_say p f c q t (rw u at h))

-- a record of a chain, by its chain
says : {A : Type 0} (p : A → Bool) (f : Numbered → A) (c : ℕ) {r : ℕ} {es : List Event} {e : Event} → There es r e → e.chain ≡ c
    → all p (map f (members c 1 es)) ≡ true → p (f (record { number = r; event = e })) ≡ true
says p f c {e = e} h q a = all_say p f c h.at (in_chain_lem c e h.alive q) a

-- a definition's path
def_path : (es : List Event) (x : Numbered) → one_of x.event.kind def_kinds ≡ true
    → path_fits (def_value_of es x) x.event.text ≡ path_right x.event
unfolding def_value_of path_right one_of
def_path es x o =
    by_kind (λ k. x.event.kind ≡ k → path_fits (def_value_of es x) x.event.text ≡ path_right x.event)
    (also (λ e. rw e refl) (also (λ e. rw e refl) (also (λ e. rw e refl)
    (also (λ e. rw e refl) (also (λ e. rw e refl) (also (λ e. rw e refl) done))))))
    x.event.kind o refl

-- both spans of a definition or an extension
spans_order : (a b c d : ℕ) (t : Bool) → cond (leb a b) (cond (leb c d) t false) false ≡ true → (a ≤ b) × (c ≤ d) × (t ≡ true)
spans_order a b c d t g =
    let x = both (leb a b) (cond (leb c d) t false) g in
    let y = both (leb c d) t x.1 in
    (leb-true a b x.0, leb-true c d y.0, y.1)

-- a definition, an extension, a binding, a diagnostic and a child, of which the rules hold
module _ (es : List Event) (r : ℕ) (e : Event) where
  abbrev this : Numbered
  this = record { number = r; event = e }

  def_right : one_of e.kind def_kinds ≡ true → good_def (def_of es this) ≡ true → Right e
  unfolding good_def def_of
  def_right o g =
      let a = spans_order e.from e.to e.name_from e.name_to (path_fits (def_value_of es this) e.text) g in
      record { span_order = a.0; name_order = a.1; path = rw (← def_path es this o) a.2 }

  ext_right : e.kind ≡ extension_kind → good_ext (ext_of es this) ≡ true → Right e × (all good_def (defs_in e.log es) ≡ true)
  unfolding good_ext ext_of path_right one_of
  ext_right k g =
      let a = spans_order e.from e.to e.name_from e.name_to (all good_def (defs_in e.log es)) g in
      (record { span_order = a.0; name_order = a.1; path = rw k refl }, a.2)

  binding_right : e.kind ≡ binding_kind → Plain e → good_binding (binding_of this) ≡ true → Right e
  unfolding good_binding path_right one_of
  binding_right k p g =
      let a = both (leb e.from e.to) (nonempty_path e.second) g in
      let z = p.name_span (rw k refl) in
      record { span_order = leb-true e.from e.to a.0; name_order = omega (arith, z.0, z.1); path = rw k a.1 }

  diag_right : e.kind ≡ diagnostic_kind → good_diag (diag_of this) ≡ true → Right e
  unfolding good_diag path_right one_of
  diag_right k g =
      let a = both (leb e.from e.to) (leb e.name_from e.name_to) g in
      record { span_order = leb-true e.from e.to a.0; name_order = leb-true e.name_from e.name_to a.1; path = rw k refl }

  -- a child has no spans and no path
  none_to_keep : 7 ≤ e.kind → e.kind ≤ 12 → (has_span e.kind ≡ false) × (has_name_span e.kind ≡ false) × (path_right e ≡ true)
  unfolding path_right one_of
  none_to_keep l h =
      let k = e.kind in
      rw (
        ne_eqb k 1 (λ z. omega arith),
        ne_eqb k 2 (λ z. omega arith),
        ne_eqb k 3 (λ z. omega arith),
        ne_eqb k 4 (λ z. omega arith),
        ne_eqb
            k 5 (λ z. omega arith),
        ne_eqb k 6 (λ z. omega arith),
        ne_eqb k 13 (λ z. omega arith),
        ne_eqb k 14 (λ z. omega arith),
        ne_eqb k 15
            (λ z. omega arith),
      )
      (refl, refl, refl)

  child_right : 7 ≤ e.kind → e.kind ≤ 12 → Plain e → Right e
  child_right l h p =
      let n = none_to_keep l h in
      let s = p.span n.0 in
      let z = p.name_span n.1 in
      record { span_order = omega (arith, s.0, s.1); name_order = omega (arith, z.0, z.1); path = n.2 }

module _ (es : List Event) (making : Making main_log es) (good : good_log (log_in es) ≡ true) where
  -- what the rules say of the log's parts
  record Parts : Type 0 where
    defs : all good_def (defs_in 0 es) ≡ true
    exts : all good_ext (map (ext_of es) (members (exts_of 0) 1 es)) ≡ true
    binds : all good_binding (map binding_of (members bindings 1 es)) ≡ true
    diags : all good_diag (map diag_of (members diagnostics 1 es)) ≡ true
    post : all good_diag (map diag_of (members post_diagnostics 1 es)) ≡ true

  parts : Parts
  unfolding good_log log_in
  parts =
      let a = both (all good_def (defs_in 0 es)) _ good in
      let b = both (all good_ext (map (ext_of es) (members (exts_of 0) 1 es))) _ a.1 in
      let c = both (all good_binding (map binding_of (members bindings 1 es))) _ b.1 in
      let d = both (all good_diag (map diag_of (members diagnostics 1 es))) _ c.1 in
      record { defs = a.0; exts = b.0; binds = c.0; diags = d.0; post = d.1 }

  -- an extension stands in the main log
  ext_good : {r : ℕ} {e : Event} → There es r e → e.kind ≡ extension_kind → Right e × (all good_def (defs_in e.log es) ≡ true)
  ext_good {r} {e} h k =
      let x = extends (making.stands r e h) k in
      ext_right es r e k (says good_ext (ext_of es) (exts_of 0) h (x.chain ∙ ap exts_of x.held) parts.exts)

  -- the definitions of a log that is read back
  logged_good : {l : ℕ} → Logged main_log es l → all good_def (defs_in l es) ≡ true
  logged_good (logged_hand z) = rw z parts.defs
  logged_good (logged_body h k) = (ext_good h k).1

  right_of : {r : ℕ} {e : Event} → There es r e → Stands main_log es r e → Right e
  unfolding defs_in
  right_of {r} {e} h (in_defs {l} b q o) = def_right es r e o (says good_def (def_of es) (defs_of l) h q (logged_good b))
  right_of h (in_exts z q k n b o) = (ext_good h k).0
  right_of {r} {e} h (in_bindings q k) = binding_right es r e k (making.plain r e h)
      (says good_binding binding_of bindings h q parts.binds)
  right_of {r} {e} h (in_diagnostics q k) = diag_right es r e k (says good_diag diag_of diagnostics h q parts.diags)
  right_of {r} {e} h (in_post q k) = diag_right es r e k (says good_diag diag_of post_diagnostics h q parts.post)
  right_of {r} {e} h (in_children {x = x} i q c o) =
      let n = child_range e.kind x.kind o in
      child_right es r e n.0 n.1 (making.plain r e h)

  pub good_whole : Whole es
  good_whole = record { making = making; right = λ r e h. right_of h (making.stands r e h) }
