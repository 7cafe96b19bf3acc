-- By the tests in turn, the last by the marks.
use Prim.Native.Nat.{ℕ}
use mathlib.Core.Path.{refl, sym, ap, ◌∙◌}
use native.Mathlib.Omega.{arith}
use borrow.Author.Tests.{eq-eqb, ne_eqb, le-leb, lt-leb}
use lib.Dec.{leb}
use Rattle.input.specs.meaning.Rows.{bad_link}
use Rattle.input.proofs.RowsLoops.{any_contains}
use Rattle.input.proofs.refusal.bad_link.Goals as goal

pub returns-then-l-eq0 : goal.returns-then-l-eq0
unfolding bad_link
returns-then-l-eq0 c = rw (eq-eqb _ _ c.if-l-eq0.true) refl

pub returns-then-l-r : goal.returns-then-l-r
unfolding bad_link
returns-then-l-r c = rw (ne_eqb _ _ c.if-l-eq0.false, le-leb _ _ c.if-l-r.true) refl

pub returns-then-records-l : goal.returns-then-records-l
unfolding bad_link
returns-then-records-l c =
    rw (
      ne_eqb _ _ c.if-l-eq0.false,
      lt-leb _ _ c.if-l-r.false,
      ap
          (λ (n : ℕ). leb n c.args.l) (sym c.args.records.counted)
          ∙ le-leb _ _ c.if-records-l.true,
    ) refl

pub returns-then-contains : goal.returns-then-contains
unfolding bad_link
returns-then-contains c =
    rw (
      ne_eqb _ _ c.if-l-eq0.false,
      lt-leb _ _ c.if-l-r.false,
      ap
          (λ (n : ℕ). leb n c.args.l)
          (sym c.args.records.counted)
          ∙ lt-leb _ _ c.if-records-l.false,
      sym (c.contains.ensures.value ∙ any_contains c.args.l c.args.earlier.now) ∙ c.if-contains.true,
    ) refl

pub returns : goal.returns
unfolding bad_link
returns c =
    let m = c.requires in
    c.entry_in.ensures ∙ m.tell
    c.args.l (omega (arith, m.room))
    ∙ rw (
      ne_eqb _ _ c.if-l-eq0.false,
      lt-leb _ _
          c.if-l-r.false,
      ap
          (λ (n : ℕ). leb n c.args.l)
          (sym c.args.records.counted)
          ∙ lt-leb _ _ c.if-records-l.false,
      sym (c.contains.ensures.value ∙ any_contains c.args.l c.args.earlier.now) ∙ c.if-contains.false,
    ) refl
