-- By the kind, the base and what is looked up (Turn).
use mathlib.Core.Path.{◌≡◌, refl, sym, ap, ◌∙◌}
use mathlib.Core.Bool.{true, not, cond}
use native.Mathlib.Omega.{arith}
use borrow.Author.Rules.{rules}
use Rattle.std.proofs.lemmas.Bool.Decides.{nat_tests}
use Rattle.definition_log.specs.meaning.ReadBack.{def_at}
use Rattle.queries.specs.declared.later.Above.{Above}
use Rattle.queries.proofs.Table.{deleted_held, overwrites_held, same_length}
use Rattle.queries.proofs.Turn.{turn_deleted_node, turn_outside, turn_deleted_property, turn_other, turn_property}
use Rattle.queries.proofs.live.pass.Goals as goal
use Rattle.queries.proofs.live.pass.Goals.{then-above, else-above}

pub returns-in-3 : goal.returns-in-3
returns-in-3 c =
    let a = c.args in
    let e = c.enter_at-in-3.ensures in
    let k : c.kind_of.result ≡ 3 = search rules in
    let told = turn_deleted_node a.log.words.now a.log.bytes.now a.r a.base.now a.table.now.heads.now a.table.now.links.now a.later.now _
    c.kind_of.ensures _ c.first_text-path.ensures c.requires.room_for_one.0 c.requires.room_for_one.1 c.requires.table
    k _ _ e.heads_after e.links_after in
    record {
      value = told.0;
      table_2 = told.1;
      lengths = (same_length _ _ _ e.heads_after, same_length _ _ _ e.links_after);
    }

pub returns-in_default : goal.returns-in_default
returns-in_default c =
    let a = c.args in
    let told = turn_outside a.log.words.now a.log.bytes.now a.r a.base.now a.table.now.heads.now a.table.now.links.now a.later.now _
    c.kind_of.ensures _ c.first_text-path.ensures c.requires.room_for_one.0 c.requires.room_for_one.1 c.requires.table
    (λ e. grind (arith, nat_tests)) (sym c.lies_under.ensures ∙ c.if-not-lies_under.true) in
    record { value = told.0; table_2 = told.1; lengths = (refl, refl) }

pub returns-in-4 : goal.returns-in-4
returns-in-4 c =
    let a = c.args in
    let e = c.enter_at.ensures in
    let told = turn_deleted_property a.log.words.now a.log.bytes.now a.r a.base.now a.table.now.heads.now a.table.now.links.now
    a.later.now _ c.kind_of.ensures _ c.first_text-path.ensures c.requires.room_for_one.0 c.requires.room_for_one.1 c.requires.table
    (λ n. grind (arith, c.in-4.is, n)) (sym c.lies_under.ensures ∙ c.if-not-lies_under.false) c.in-4.is _ _ e.heads_after e.links_after in
    record {
      value = told.0;
      table_2 = told.1;
      lengths = (same_length _ _ _ e.heads_after, same_length _ _ _ e.links_after);
    }

pub invariant_of-seen-clause-finds_deleted : goal.invariant_of-seen-clause-finds_deleted
invariant_of-seen-clause-finds_deleted c =
    let a = c.args in
    let t = a.table.now in
    deleted_held (def_at a.log.words.now a.log.bytes.now) a.base.now t.heads.now t.links.now a.later.now c.requires.room_for_one.0
    c.requires.table

pub invariant_of-look_above-clause-finds_deleted : goal.invariant_of-look_above-clause-finds_deleted
invariant_of-look_above-clause-finds_deleted c =
    let a = c.args in
    let t = a.table.now in
    deleted_held (def_at a.log.words.now a.log.bytes.now) a.base.now t.heads.now t.links.now a.later.now c.requires.room_for_one.0
    c.requires.table

pub returns-in_default-2 : goal.returns-in_default-2
returns-in_default-2 c =
    let a = c.args in
    let told = turn_other a.log.words.now a.log.bytes.now a.r a.base.now a.table.now.heads.now a.table.now.links.now a.later.now _
    c.kind_of.ensures _ c.first_text-path.ensures c.requires.room_for_one.0 c.requires.room_for_one.1 c.requires.table
    (λ e. grind (arith, nat_tests)) (sym c.lies_under.ensures ∙ c.if-not-lies_under.false) (λ e. grind (arith, nat_tests))
    _ (ap (λ (b : Above). b.deleted) c.look_above.ensures) (λ e. grind (arith, nat_tests)) in
    record { value = told.0; table_2 = told.1; lengths = (refl, refl) }

pub holds-overwritten-requires : goal.holds-overwritten-requires
holds-overwritten-requires c =
    let a = c.args in
    let t = a.table.now in
    overwrites_held (def_at a.log.words.now a.log.bytes.now) a.base.now t.heads.now t.links.now a.later.now
    c.requires.room_for_one.0 c.requires.table _ (sym c.lies_under.ensures ∙ c.if-not-lies_under.false) _
    (ap (λ (b : Above). b.hash) c.look_above-above.ensures)

pub returns-after-above : goal.returns-after-above
returns-after-above c =
    let a = c.args in
    let e : c.if-above.result ≡ cond c.look_above-above.result.deleted true c.holds-overwritten.result =
    elim c.if-above.branch [
      | then-above w ↦ w.result-is ∙ rw w.if-above.true refl
      | else-above w ↦ w.result-is ∙ rw w.if-above.false refl
    ] in
    let t = turn_property a.log.words.now a.log.bytes.now a.r a.base.now a.table.now.heads.now a.table.now.links.now a.later.now _
    c.kind_of.ensures _ c.first_text-path.ensures c.requires.room_for_one.0 c.requires.room_for_one.1 c.requires.table
    (λ n. grind (arith, c.in-2.is, n)) (sym c.lies_under.ensures ∙ c.if-not-lies_under.false) (λ n. grind (arith, c.in-2.is, n))
    _ (ap (λ (b : Above). b.deleted) c.look_above-above.ensures) c.in-2.is _ c.holds-overwritten.ensures _
    (ap (λ (b : Above). b.hash) c.look_above-above.ensures) _ _ c.enter.ensures.heads_after c.enter.ensures.links_after in record {
      value = ap not e ∙ t.0;
      table_2 = t.1;
      lengths = (same_length _ _ _ c.enter.ensures.heads_after, same_length _ _ _ c.enter.ensures.links_after);
    }
