-- Every record of a complete log in the making is reached: along its chain, from record 0, from the record below which it stands, or from
-- the extension whose body it is in.
use Prim.Native.Nat.{ℕ, zero, suc, ◌+◌, ◌≤◌, ◌<◌}
use mathlib.Core.Path.{◌≡◌, ap, ◌∙◌}
use mathlib.Core.Bool.{true, cond}
use mathlib.Core.List.{List, []}
use native.Mathlib.Omega.{arith}
use borrow.Author.Tests.{eqb-true}
use lib.Dec.{eqb}
use lib.ListN.{length}
use Rattle.paths_numbers.proofs.Texts.{by_test, both}
use Rattle.definition_log.specs.meaning.Record.{kind_of, next_of, child_of, m_of, extension_kind, log_count, leads}
use Rattle.definition_log.specs.meaning.Sound.{Place, times}
use Rattle.making.specs.machine.Events.{Event, defs_of, exts_of, bindings, diagnostics, post_diagnostics, children_of, in_chain, first}
use Rattle.making.specs.machine.Events.{bytes_in, all_words, Ordered, ordered_none, ordered_next}
use Rattle.making.specs.machine.Whole.{At, at_here, at_later, There, Logged, logged_hand, logged_body, Stands, in_defs, in_exts}
use Rattle.making.specs.machine.Whole.{in_bindings, in_diagnostics, in_post, in_children, main_log, Whole}
use Rattle.making.specs.machine.Finished.{head_in}
use Rattle.definition_log.proofs.Walk.{to_of, heads_followed}
use Rattle.definition_log.proofs.Reached.{Reached, out_reached, times_outs, times_to, Head, defs, exts, binds, diags, post, head_led}
use Rattle.making.proofs.ReadEvents.{Splits, splits_here, splits_later, next_at_lem, leads_there}
use Rattle.making.proofs.FirstOf.{at_to, first_member, first_some, in_chain_lem}
use Rattle.making.proofs.Standing.{extends}
use Rattle.making.proofs.LogLinks.{sixteen, head_def_lem, head_ext_lem, head_bind_lem, head_diag_lem, head_post_lem, kind_is, child_is}
use Rattle.making.proofs.LogLinks.{m_is}

-- an owner stands before its children
owner_before : {k t o : ℕ} {es : List Event} {y : Event} → Ordered k es → At k es t y → y.chain ≡ children_of o → o < t
owner_before {o = o} (ordered_next f h) at_here q = f o q
owner_before (ordered_next f h) (at_later p) q = owner_before h p q
owner_before ordered_none p q = elim p [ ]

-- what a link of a record that is reached leads to
next_led : (words : List ℕ) (a t : ℕ) → Reached words a → next_of words a ≡ t → leads words t ≡ true → Reached words t
next_led words a t h q l =
    let z : times t (to_of words (next_of words a)) ≡ 1 = rw q (times_to words t l) in
    out_reached words a t h (omega (arith, times_outs words a t))

child_led : (words : List ℕ) (a t : ℕ) → Reached words a → child_of words a ≡ t → leads words t ≡ true → Reached words t
child_led words a t h q l =
    let z : times t (to_of words (child_of words a)) ≡ 1 = rw q (times_to words t l) in
    out_reached words a t h (omega (arith, times_outs words a t))

body_led : (words : List ℕ) (a t : ℕ) → Reached words a → kind_of words a ≡ extension_kind → m_of words a ≡ t → leads words t ≡ true
    → Reached words t
body_led words a t h k q l =
    let z : times t (cond (eqb (kind_of words a) extension_kind) (to_of words (m_of words a)) []) ≡ 1 = rw (k, q) (times_to words t l) in
    out_reached words a t h (omega (arith, times_outs words a t))

module _ (es : List Event) (records used room : ℕ) (fits : 1 + length es ≤ log_count (all_words (head_in records used es) es room))
    (ordered : Ordered 1 es) (whole : Whole es) where
  abbrev words : List ℕ
  words = all_words (head_in records used es) es room

  -- the first record of a chain that has records
  first_leads : (c k : ℕ) (later : List Event) {t : ℕ} {y : Event} → 0 < k → k + length later ≤ log_count words → At k later t y
      → in_chain c y ≡ true
      → leads words (first c k later) ≡ true
  first_leads c k later h n p u =
      let f = first_some c p u h in
      let m = first_member c k later (λ z. omega arith) in
      leads_there words (first c k later) f (omega (arith, at_to m.at))

  -- a chain whose first record is reached
  chain_led : (c : ℕ) {k t : ℕ} {later : List Event} {y : Event} → At k later t y → (at : ℕ) → 0 < k → k + length later ≤ log_count words
      → ((r b : ℕ) (e : Event) (ys : List Event) → Splits k at later r b e ys → Splits 1 0 es r b e ys)
      → Reached words (first c k later) → in_chain c y ≡ true → Reached words t
  unfolding first
  chain_led c at_here at h n inj l u = rw u at l
  chain_led c {k} (at_later {x = x} {es = later} p) at h n inj l u =
      let more : (r b : ℕ) (e : Event) (ys : List Event) → Splits (k + 1) (at + bytes_in x) later r b e ys → Splits 1 0 es r b e ys =
      λ r b e ys s. inj r b e ys (splits_later s) in
      by_test (in_chain c x)
      (λ v.
      let q = both x.alive (eqb x.chain c) v in
      let next : next_of words k ≡ first c (k + 1) later =
      next_at_lem (head_in records used es) (sixteen es records used room fits ordered whole) es room (inj k at x later splits_here) q.0
      ∙ ap (λ (d : ℕ). first d (k + 1) later) (eqb-true x.chain c q.1) in
      let l' : Reached words (first c (k + 1) later) =
      next_led words k (first c (k + 1) later) (rw v at l) next (first_leads c (k + 1) later (omega arith) (omega arith) p u) in
      chain_led c p (at + bytes_in x) (omega arith) (omega arith) more l' u)
      (λ v. chain_led c p (at + bytes_in x) (omega arith) (omega arith) more (rw v at l) u)

  -- from its start
  start_led : (c : ℕ) {t : ℕ} {y : Event} → There es t y → y.chain ≡ c → (leads words (first c 1 es) ≡ true → Reached words (first c 1 es))
      → Reached words t
  start_led c {y = y} h q f =
      let u = in_chain_lem c y h.alive q in
      chain_led c h.at 0 (omega arith) fits (λ r b e ys s. s) (f (first_leads c 1 es (omega arith) fits h.at u)) u

  -- record 0's chains
  from-head : {r : ℕ} {p : Place} (c : ℕ) → Head words r p → r ≡ first c 1 es → leads words (first c 1 es) ≡ true
      → Reached words (first c 1 es)
  from-head {r} c x e l = rw (← e) (omega (arith, heads_followed words r, head_led x (rw e l)))

  ext_led : {t : ℕ} {y : Event} → There es t y → y.chain ≡ exts_of 0 → Reached words t
  ext_led h q = start_led (exts_of 0) h q (from-head (exts_of 0) exts (head_ext_lem es records used room fits ordered whole))

  -- a body
  def_led : {l t : ℕ} {y : Event} → There es t y → y.chain ≡ defs_of l → Logged main_log es l → Reached words t
  def_led h q (logged_hand z) = start_led (defs_of 0) h (q ∙ ap defs_of z)
      (from-head (defs_of 0) defs (head_def_lem es records used room fits ordered whole))
  def_led h q (logged_body {r} {x} i k) =
      let o = extends (whole.making.stands r x i) k in
      start_led (defs_of x.log) h q
      (body_led words r (first (defs_of x.log) 1 es) (ext_led i (o.chain ∙ ap exts_of o.held))
      (kind_is es records used room fits ordered whole i ∙ k)
      (m_is es records used room fits ordered whole i ∙ o.body))

  -- by where it stands
  stands_led : {t : ℕ} {y : Event} → There es t y → Stands main_log es t y → ((o : ℕ) (x : Event) → There es o x → o < t → Reached words o)
      → Reached words t
  stands_led h (in_defs k q o) f = def_led h q k
  stands_led h (in_exts z q k m b o) f = ext_led h (q ∙ ap exts_of z)
  stands_led h (in_bindings q k) f = start_led bindings h q (from-head bindings binds (head_bind_lem es records used room fits ordered whole))
  stands_led h (in_diagnostics q k) f = start_led diagnostics h q
      (from-head diagnostics diags (head_diag_lem es records used room fits ordered whole))
  stands_led h (in_post q k) f = start_led post_diagnostics h q (from-head post_diagnostics post
      (head_post_lem es records used room fits ordered whole))
  stands_led h (in_children {o} {x} i q k u) f =
      let led = f o x i (owner_before ordered h.at q) in
      start_led (children_of o) h q
      (child_led words o (first (children_of o) 1 es) led (child_is es records used room fits ordered whole i))

  led_below : (n : ℕ) {t : ℕ} {y : Event} → t < n → There es t y → Reached words t
  led_below zero l h = absurd (omega arith)
  led_below (suc n) {t} {y} l h = stands_led h (whole.making.stands t y h) (λ o x i b. led_below n (omega arith) i)

  -- and all
  pub all_led : {t : ℕ} {y : Event} → There es t y → Reached words t
  all_led {t} h = led_below (suc t) (omega arith) h
