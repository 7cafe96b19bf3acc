-- By the kind.
use Prim.Native.Nat.{ℕ}
use mathlib.Core.Path.{refl, sym, ap, ◌∙◌}
use mathlib.Core.Bool.{not}
use native.Mathlib.Omega.{arith}
use borrow.Author.Tests.{ne_eqb}
use lib.Dec.{eqb}
use Rattle.input.specs.meaning.Input.{kind_at}
use Rattle.input.specs.meaning.Rows.{holds_slash, bad_name}
use Rattle.input.specs.meaning.GoodName.{good_name}
use Rattle.input.proofs.refusal.bad_name.Goals as goal

pub returns-in-5 : goal.returns-in-5
unfolding bad_name
returns-in-5 c =
    ap not (c.good_name.ensures ∙ ap good_name c.text_at.ensures) ∙ rw (sym c.kind_at.ensures ∙ c.in-5.is) refl

pub returns-then-w_at-eq0 : goal.returns-then-w_at-eq0
unfolding bad_name
returns-then-w_at-eq0 c =
    c.holds_slash.ensures ∙ ap holds_slash c.text_at-then-w_at-eq0.ensures
    ∙ rw (sym c.kind_at.ensures ∙ c.in-8.is, sym c.w_at.ensures ∙ c.if-w_at-eq0.true) refl

pub returns-else-w_at-eq0 : goal.returns-else-w_at-eq0
unfolding bad_name
returns-else-w_at-eq0 c =
    let n = ne_eqb c.w_at.result 0 c.if-w_at-eq0.false in
    n ∙ rw (sym c.kind_at.ensures ∙ c.in-8.is, ap (λ (k : ℕ). eqb k 0) (sym c.w_at.ensures) ∙ n) refl

pub returns-in_default : goal.returns-in_default
unfolding bad_name
returns-in_default c =
    let k = kind_at c.args.words.now c.args.r in
    simp (ne_eqb k 5 (λ e. omega arith), ne_eqb k 8 (λ e. omega arith))
