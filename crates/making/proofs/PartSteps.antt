-- The operations that add a part below the newest definition, or a cell below its last part: what the log says afterwards.
use Prim.Native.Nat.{ℕ, ◌+◌, ◌≤◌, ◌<◌}
use mathlib.Core.Path.{◌≡◌, refl, sym, ap, subst, ◌∙◌}
use mathlib.Core.Bool.{Bool, true, false}
use mathlib.Core.List.{List, [], ◌∷◌, ◌++◌, map}
use native.Mathlib.Omega.{arith}
use borrow.Author.Tests.{eqb-true}
use lib.Dec.{eqb}
use lib.ListN.{length}
use Rattle.paths_numbers.proofs.Texts.{by_test, not_both}
use Rattle.making.specs.declared.ctx.LowerCtx.{LowerCtx}
use Rattle.making.specs.declared.ctx.Rec.{Rec}
use Rattle.definition_log.specs.meaning.Contents.{Cell, Value, DefValue, Def}
use Rattle.making.specs.meaning.State.{State, value_bytes, cell_bytes}
use Rattle.making.specs.machine.Adding.{last_is, is_node, is_cell_list, is_property_with, newest_is, add_part, changed, on_values, on_last}
use Rattle.making.specs.machine.Adding.{with_label, with_cell, in_node, in_property, in_cell_list, add_label, add_value, add_cell}
use Rattle.definition_log.specs.meaning.Record.{node_kind, property_kind, deleted_node_kind, deleted_property_kind, plugin_kind}
use Rattle.definition_log.specs.meaning.Record.{cell_list_kind, bytestring_kind}
use Rattle.definition_log.specs.meaning.Record.{reference_kind, label_kind, one_of, has_children, extension_kind}
use Rattle.making.specs.machine.Events.{Event, defs_of, exts_of, children_of, last, Ordered, ordered_none, ordered_next, Numbered, members}
use Rattle.making.specs.machine.Events.{below}
use Rattle.making.specs.machine.Events.{cell_of, value_of, def_value_of, def_of, defs_in}
use Rattle.making.specs.machine.Buffers.{event_of}
use Rattle.making.specs.machine.Made.{Told, child_link, with_part, with_last_cell}
use Rattle.making.specs.machine.Holding.{Hand, Holds, there}
use Rattle.making.specs.machine.Holding as H
use Rattle.making.specs.machine.Represents.{Waiting, Context, log_of, exts_log, hand_of, part_fits, Sort, is_def, is_ext, is_binding}
use Rattle.making.specs.machine.Represents.{is_diag, is_part, Represents, going, over, StepsIn}
use Rattle.making.specs.machine.Whole.{At, at_here, at_later, Plain}
use Rattle.making.proofs.Append.{chain_other, new_in, last_new, last_other}
use Rattle.making.proofs.Holding.{added_child}
use Rattle.making.proofs.Growing.{each_at, each_more, at_more, childless_last, InsideTop, in_main, in-body}
use Rattle.making.proofs.Below.{Found, last_at, none_last, last_is_lem, none_new, exts_part, defs_part, label_part, value_part}
use Rattle.making.proofs.Below.{exts_cell, defs_cell}
use Rattle.making.proofs.Represented.{ends, one_more_lem, common_same, stays_short, keeps_log}
use Rattle.making.proofs.FirstOf.{at_to, at_there}
use Rattle.making.proofs.MakingMore.{making_child}

-- the state but for its parts
holds_parts : {g : Hand} {d f : LowerCtx} {w b : List ℕ} {es : List Event} → (p q : ℕ) → f ≡ record {
  records = d.records;
  bytes = d.bytes;
  defs = d.defs;
  exts = d.exts;
  binds = d.binds;
  diags = d.diags;
  part = p;
  cell = q;
  short = d.short;
} → Holds g d w b es → Holds g f w b es
holds_parts p q e (H.going s l en) =
    rw e (H.going s l (record { defs_run = en.defs_run; exts_run = en.exts_run; binds_run = en.binds_run; diags_run = en.diags_run }))
holds_parts p q e (H.over s x) = rw e (H.over s x)

-- what a definition says tells its kind
node_kind_lem : (es : List Event) (x : Numbered) → is_node (def_value_of es x) ≡ true → x.event.kind ≡ node_kind
unfolding def_value_of
node_kind_lem es x t =
    by_test (eqb x.event.kind node_kind)
    (λ k. eqb-true _ _ k)
    (λ k.
    by_test (eqb x.event.kind property_kind)
    (λ p. absurd (not_both (rw (k, p) at t) refl))
    (λ p.
    by_test (eqb x.event.kind deleted_node_kind)
    (λ a. absurd (not_both (rw (k, p, a) at t) refl))
    (λ a.
    by_test (eqb x.event.kind deleted_property_kind)
    (λ b. absurd (not_both (rw (k, p, a, b) at t) refl))
    (λ b.
    by_test (eqb x.event.kind plugin_kind)
    (λ c. absurd (not_both (rw (k, p, a, b, c) at t) refl))
    (λ c. absurd (not_both (rw (k, p, a, b, c) at t) refl))))))

property_kind_lem : (es : List Event) (x : Numbered) (q : List Value → Bool) → is_property_with q (def_value_of es x) ≡ true
    → (x.event.kind ≡ property_kind) × (q (map (value_of es) (below es x.number)) ≡ true)
unfolding def_value_of
property_kind_lem es x q t =
    by_test (eqb x.event.kind node_kind)
    (λ k. absurd (not_both (rw k at t) refl))
    (λ k.
    by_test (eqb x.event.kind property_kind)
    (λ p. (eqb-true _ _ p, rw (k, p) at t))
    (λ p.
    by_test (eqb x.event.kind deleted_node_kind)
    (λ a. absurd (not_both (rw (k, p, a) at t) refl))
    (λ a.
    by_test (eqb x.event.kind deleted_property_kind)
    (λ b. absurd (not_both (rw (k, p, a, b) at t) refl))
    (λ b.
    by_test (eqb x.event.kind plugin_kind)
    (λ c. absurd (not_both (rw (k, p, a, b, c) at t) refl))
    (λ c. absurd (not_both (rw (k, p, a, b, c) at t) refl))))))

list_kind : (es : List Event) (x : Numbered) → is_cell_list (value_of es x) ≡ true → x.event.kind ≡ cell_list_kind
unfolding value_of
list_kind es x t =
    by_test (eqb x.event.kind cell_list_kind)
    (λ k. eqb-true _ _ k)
    (λ k.
    by_test (eqb x.event.kind bytestring_kind)
    (λ p. absurd (not_both (rw (k, p) at t) refl))
    (λ p.
    by_test (eqb x.event.kind reference_kind)
    (λ a. absurd (not_both (rw (k, p, a) at t) refl))
    (λ a. absurd (not_both (rw (k, p, a) at t) refl))))

-- the last of a chain that a test finds something in
tested : {B : Type 0} (p : B → Bool) (G : Numbered → B) (c : ℕ) (es : List Event) → last_is p (map G (members c 1 es)) ≡ true
    → last c 1 es ≡ 0 → ⊥
unfolding last_is
tested p G c es t z = not_both (rw (none_last c 1 es (omega arith) z) at t) refl

-- the log of a definition in hand is inside, and so are its parts
inside_part : (ws : List Waiting) (o : ℕ) (r : Rec) (x y : List ℕ) → log_of ws ≤ o → InsideTop ws (event_of (children_of o) 0 r x y)
inside_part [] o r x y h = in_main
inside_part (w ∷ ws) o r x y h =
    in-body {w = w} {ws = ws} {e = event_of (children_of o) 0 r x y}
    (record { of_defs = λ l q. absurd (omega arith); of_exts = λ l q. absurd (omega arith); of_parts = λ l q. omega arith })

-- a log's number is not above that of its records
pub low : {es : List Event} {k : ℕ} {e : Event} (l : ℕ) → Sort es k e → e.chain ≡ defs_of l → l ≤ k
low l (is_def j c h k) q = omega (arith, sym c ∙ q)
low l (is_ext j c h k b) q = absurd (omega (arith, sym c ∙ q))
low l (is_binding c k) q = absurd (omega (arith, sym c ∙ q))
low l (is_diag true c k) q = absurd (omega (arith, sym c ∙ q))
low l (is_diag false c k) q = absurd (omega (arith, sym c ∙ q))
low l (is_part r o c a h k) q = absurd (omega (arith, sym c ∙ q))

module _ {c d f : LowerCtx} {words bytes w b : List ℕ} {r : Rec} {x y : List ℕ} {link : ℕ} (told : Told c d words bytes w b r x y link)
  where
    -- a part of the newest definition
    module _ (at : link ≡ child_link c.defs.last c.part) (with_part : f ≡ with_part d c.records) (p : DefValue → Bool) (K : ℕ)
        (F : DefValue → DefValue) (size : ℕ)
        (kind : (es : List Event) (z : Numbered) → p (def_value_of es z) ≡ true → z.event.kind ≡ K) (owns : has_children K ≡ true)
        (fits : part_fits K r.kind ≡ true)
        (sized : size ≡ length x + length y) (other : K ≡ extension_kind → ⊥) (plain : (o : ℕ) → Plain (event_of (children_of o) 0 r x y))
        (says : (es : List Event) (o l : ℕ) (owner : Found (defs_of l) 1 es o) → Ordered 1 es → o < 1 + length es → owner.event.kind ≡ K
        → def_of (es ++ event_of (children_of o) 0 r x y ∷ []) (record { number = o; event = owner.event }) ≡ changed F
        (def_of es (record { number = o; event = owner.event }))) where
      part_added : (k : Context) (s : State) → Represents k c words bytes s → c.short ≡ false → newest_is p s ≡ true
          → Represents k f w b (add_part F size s)
      unfolding add_part with_part defs_in def_of
      part_added k s (over h m) n t = absurd (not_both h n)
      part_added k s (going es h lay cr cb op m st ps ss mk) n t =
          let ws = k.waiting in
          let l = log_of ws in
          let o = c.defs.last in
          let e = event_of (children_of o) 0 r x y in
          let t' : last_is (λ (a : Def). p a.value) (defs_in l es) ≡ true = rw op.defs_say t in
          let full : last (defs_of l) 1 es ≡ 0 → ⊥ = tested (λ (a : Def). p a.value) (def_of es) (defs_of l) es t' in
          let newest = last_at (defs_of l) 1 es full in
          let k₀ : newest.event.kind ≡ K = kind es _ (last_is_lem (λ (a : Def). p a.value) (def_of es) (defs_of l) 1 es (omega arith) t'
          newest.event newest.at) in
          let owner : Found (defs_of l) 1 es o = record {
            event = newest.event;
            at = subst (λ (i : ℕ). At 1 es i newest.event)
                (sym op.defs_run.last_is) newest.at;
            there = newest.there;
            chain = newest.chain;
          } in
          let some : o ≡ 0 → ⊥ = λ z. full (sym op.defs_run.last_is ∙ z) in
          let made = holds_parts c.records 0 with_part ((added_child o c.part (rw at at told)).holds (hand_of k) es
          (H.going h lay (ends op m)) (λ _. at_there owner.at ∙ owner.there) (λ _. op.part_is)) in
          let fd : f.defs ≡ c.defs = ap (λ (a : LowerCtx). a.defs) with_part ∙ (keeps_log told).0 in
          let fl : f.defs.last ≡ o = ap (λ (a : _). a.last) fd in
          let fp : f.part ≡ 1 + length es = ap (λ (a : LowerCtx). a.part) with_part ∙ lay.records_are in
          let fc : f.cell ≡ 0 = ap (λ (a : LowerCtx). a.cell) with_part in
          one_more_lem c s lay cr cb st ps ss (inside_part ws o r x y (low l (each_at ss owner.at) owner.chain))
          (is_part o owner.event refl (at_more (e ∷ []) owner.at) (rw k₀ owns) (rw k₀ fits)) made refl
          (ap (λ (i : ℕ). s.bytes + i) sized)
          (λ en.
          record {
            defs_run = en.defs_run;
            exts_run = en.exts_run;
            part_is = rw (fl, fp) (sym (last_new (children_of o) 1 es e (omega arith) (new_in (children_of o) e refl refl)));
            cell_is =
                rw (fp, fc)
                (sym (last_other (children_of (1 + length es)) 1 es e
                (chain_other (children_of o) (children_of (1 + length es)) e refl (λ q. omega (arith, at_to owner.at)))
                ∙ childless_last 1 es (1 + length es) lay.ordered (omega arith)));
            defs_say = defs_part es o e refl refl l owner F (sym op.defs_run.last_is)
                (says es o l owner lay.ordered (at_to owner.at) k₀) ∙ ap (λ (a : List Def). on_last (changed F) a) op.defs_say;
            exts_say = exts_part es o e refl refl l owner (exts_log ws) op.others ∙ op.exts_say;
            others = each_more es op.others (λ i q t z. omega arith);
            passed = λ p. each_more es (op.passed p) (chain_other e.chain (exts_of l) e refl (λ q. omega arith));
          })
          (λ en. common_same e m en (λ q. omega arith) (λ q. omega arith) (λ q. omega arith) refl refl)
          (making_child e (record { at = owner.at; alive = owner.there }) refl (rw k₀ owns) (λ q. other (sym k₀
          ∙ q)) (rw k₀ fits) (plain o)
          mk)

      pub steps_part : StepsIn (newest_is p) c f words bytes w b (add_part F size)
      unfolding with_part
      steps_part = record { steps = part_added; stays = stays_short told f (ap (λ (a : LowerCtx). a.short) with_part) }

-- a label, a value
module _ {c d f : LowerCtx} {words bytes w b : List ℕ} {r : Rec} {x y : List ℕ} {link : ℕ} (told : Told c d words bytes w b r x y link)
    (at : link ≡ child_link c.defs.last c.part) (with_part : f ≡ with_part d c.records) where
  pub steps_label : r.kind ≡ label_kind → y ≡ [] → ((o : ℕ) → Plain (event_of (children_of o) 0 r x y))
      → StepsIn in_node c f words bytes w b (add_label x)
  unfolding one_of
  steps_label k q plain =
      steps_part told at with_part is_node node_kind (with_label x) (length x) node_kind_lem refl (rw k refl) (rw q (omega arith))
      (λ z. omega arith) plain
      (λ es o l owner od h kind. label_part es o (event_of (children_of o) 0 r x y) refl refl l owner kind)

  pub steps_value : (v : Value) → part_fits property_kind r.kind ≡ true → value_bytes v ≡ length x + length y
      → ((o : ℕ) → Plain (event_of (children_of o) 0 r x y)) → ((n o : ℕ) (es : List Event) → below es n ≡ []
      → value_of es (record { number = n; event = event_of (children_of o) 0 r x y }) ≡ v)
      → StepsIn in_property c f words bytes w b (add_value v)
  unfolding one_of
  steps_value v k q plain h =
      steps_part told at with_part (is_property_with (λ vs. true)) property_kind (on_values (λ vs. vs ++ v ∷ [])) (value_bytes v)
      (λ es z t. (property_kind_lem es z (λ vs. true) t).0) refl k q (λ z. omega arith) plain
      (λ es o l owner od g kind.
      let e = event_of (children_of o) 0 r x y in
      value_part es o e refl refl l owner v kind (h (1 + length es) o (es ++ e ∷ []) (none_new es o e refl refl od g)))

-- a part stands behind its owner
pub behind : {k r d : ℕ} {es : List Event} {e : Event} → Ordered k es → At k es r e → e.chain ≡ children_of d → d < r
behind {d = d} (ordered_next f h) at_here c = f d c
behind (ordered_next f h) (at_later a) c = behind h a c
behind ordered_none a c = elim a [ ]

-- a cell of the newest definition's last value
module _ {c d f : LowerCtx} {words bytes w b : List ℕ} {r : Rec} {x y : List ℕ} {link : ℕ} (told : Told c d words bytes w b r x y link)
    (at : link ≡ child_link c.part c.cell) (last_celled : f ≡ with_last_cell d c.records) (v : Cell)
    (fits : part_fits cell_list_kind r.kind ≡ true)
    (sized : cell_bytes v ≡ length x + length y) (plain : (o : ℕ) → Plain (event_of (children_of o) 0 r x y))
    (says : (n o : ℕ) → cell_of (record { number = n; event = event_of (children_of o) 0 r x y }) ≡ v) where
  cell_added : (k : Context) (s : State) → Represents k c words bytes s → c.short ≡ false → in_cell_list s ≡ true
      → Represents k f w b (add_cell v s)
  unfolding add_part with_last_cell defs_in def_of one_of
  cell_added k s (over h m) n t = absurd (not_both h n)
  cell_added k s (going es h lay cr cb op m st ps ss mk) n t =
      let ws = k.waiting in
      let l = log_of ws in
      let g = c.defs.last in
      let o = c.part in
      let e = event_of (children_of o) 0 r x y in
      let test : Def → Bool = λ (a : Def). is_property_with (last_is is_cell_list) a.value in
      let t' : last_is (λ (a : Def). is_property_with (last_is is_cell_list) a.value) (defs_in l es) ≡ true = rw op.defs_say t in
      let full : last (defs_of l) 1 es ≡ 0 → ⊥ = tested (λ (a : Def). is_property_with (last_is is_cell_list) a.value) (def_of es) (defs_of l) es
      t' in
      let newest = last_at (defs_of l) 1 es full in
      let kq = property_kind_lem es _ (last_is is_cell_list) (last_is_lem (λ (a : Def). is_property_with (last_is is_cell_list) a.value) (def_of es)
      (defs_of l) 1 es (omega arith) t' newest.event newest.at) in
      let dl = op.defs_run.last_is in
      let definition : Found (defs_of l) 1 es g = record {
        event = newest.event;
        at = subst (λ (i : ℕ). At 1 es i newest.event) (sym dl)
            newest.at;
        there = newest.there;
        chain = newest.chain;
      } in
      let some : g ≡ 0 → ⊥ = λ z. full (sym dl ∙ z) in
      let listed : last_is is_cell_list (map (value_of es) (members (children_of g) 1 es)) ≡ true = rw dl kq.1 in
      let filled : last (children_of g) 1 es ≡ 0 → ⊥ = tested is_cell_list (value_of es) (children_of g) es listed in
      let newpart = last_at (children_of g) 1 es filled in
      let pl = op.part_is in
      let lk : newpart.event.kind ≡ cell_list_kind = list_kind es _
      (last_is_lem is_cell_list (value_of es) (children_of g) 1 es (omega arith) listed newpart.event newpart.at) in
      let owner : Found (children_of g) 1 es o = record {
        event = newpart.event;
        at = subst (λ (i : ℕ). At 1 es i newpart.event) (sym pl)
            newpart.at;
        there = newpart.there;
        chain = newpart.chain;
      } in
      let there₀ : o ≡ 0 → ⊥ = λ z. filled (sym pl ∙ z) in
      let made = holds_parts c.part c.records (last_celled ∙ cell_state)
      ((added_child o c.cell (rw at at told)).holds (hand_of k) es (H.going h lay (ends op m))
      (λ _. at_there owner.at ∙ owner.there) (λ _. op.cell_is)) in
      let fd : f.defs ≡ c.defs = ap (λ (a : LowerCtx). a.defs) last_celled ∙ (keeps_log told).0 in
      let fl : f.defs.last ≡ g = ap (λ (a : _). a.last) fd in
      let fp : f.part ≡ o = ap (λ (a : LowerCtx). a.part) last_celled ∙ (keeps_log told).2 in
      let fc : f.cell ≡ 1 + length es = ap (λ (a : LowerCtx). a.cell) last_celled ∙ lay.records_are in
      let up : g < o = behind lay.ordered owner.at owner.chain in
      let lw : l ≤ g = low l (each_at ss definition.at) definition.chain in
      one_more_lem c s lay cr cb st ps ss (inside_part ws o r x y (omega arith))
      (is_part o owner.event refl (at_more (e ∷ []) owner.at) (rw lk refl) (rw lk fits)) made refl
      (ap (λ (i : ℕ). s.bytes + i) sized)
      (λ en.
      record {
        defs_run = en.defs_run;
        exts_run = en.exts_run;
        part_is = rw (fl, fp) (pl ∙ sym (last_other (children_of g) 1 es e
            (chain_other (children_of o) (children_of g) e refl (λ q. omega arith))));
        cell_is = rw (fp, fc) (sym (last_new (children_of o) 1 es e (omega arith) (new_in (children_of o) e refl refl)));
        defs_say =
            defs_cell es o e refl refl l g definition owner v (sym dl) (sym pl) kq.0 lk (says (1 + length es) o)
            ∙ ap (λ (a : List Def). on_last (changed (on_values (on_last (with_cell v)))) a) op.defs_say;
        exts_say = exts_cell es o e refl refl l g definition owner (exts_log ws) op.others ∙ op.exts_say;
        others = each_more es op.others (λ i q t z. omega arith);
        passed = λ p. each_more es (op.passed p) (chain_other e.chain (exts_of l) e refl (λ q. omega arith));
      })
      (λ en. common_same e m en (λ q. omega arith) (λ q. omega arith) (λ q. omega arith) refl refl)
      (making_child e (record { at = owner.at; alive = owner.there }) refl (rw lk refl) (λ q. omega (arith, sym lk ∙ q)) (rw lk fits)
      (plain o) mk)
    where
      cell_state : with_last_cell d c.records ≡ record {
        records = d.records;
        bytes = d.bytes;
        defs = d.defs;
        exts = d.exts;
        binds = d.binds;
        diags = d.diags;
        part = c.part;
        cell = c.records;
        short = d.short;
      }
      cell_state = rw (sym (keeps_log told).2) refl

  pub steps_cell : StepsIn in_cell_list c f words bytes w b (add_cell v)
  unfolding with_last_cell
  steps_cell = record { steps = cell_added; stays = stays_short told f (ap (λ (a : LowerCtx). a.short) last_celled) }
