use Rattle.std.proofs.Common.{◌≡◌, ℕ, ◌-◌, not, eqb, length, get_or, refl, ap, ◌∙◌, arith}
use Rattle.paths_numbers.specs.meaning.Byte.{slash}
use Rattle.paths_numbers.specs.meaning.Path.{components}
use Rattle.paths_numbers.proofs.Texts.{no_byte}
use Rattle.paths_numbers.proofs.Compared.{and_cond}
use Rattle.paths_numbers.proofs.Good.{first_byte, next_byte, were_doubled, at_end}
use Rattle.paths_numbers.proofs.mir.has_components.Goals as goal

pub loop-i-init : goal.loop-i-init
loop-i-init c = first_byte c.args.path.now

pub loop-i-preserved : goal.loop-i-preserved
loop-i-preserved c =
    let l = c.loop-i in
    next_byte c.args.path.now l.i l.doubled _ l.invariant _ (omega arith) (and_cond (eqb (get_or c.args.path.now (l.i - 1) 0) slash) _ _ refl)

pub returns-in-None : goal.returns-in-None
unfolding components
returns-in-None c = let h = c.in-None.ensures.item.3 in rw (no_byte c.args.path.now (omega arith)) refl

pub returns-then-not-doubled : goal.returns-then-not-doubled
returns-then-not-doubled c =
    let l = c.loop-i in
    let p = c.args.path.now in
    let h = c.in-Some.ensures.item.3 in
    let n : length p - 1 ≡ l.i - 1 = omega (arith, h.0, l.auto.i-end) in
    ap (λ (b : ℕ). not (eqb b slash)) (h.1 0 ∙ ap (λ (k : ℕ). get_or p k 0) n)
    ∙ at_end p l.i l.doubled _ l.invariant (omega arith) c.if-not-doubled.true

pub returns-else-not-doubled : goal.returns-else-not-doubled
returns-else-not-doubled c =
    let l = c.loop-i in
    rw c.if-not-doubled.false (were_doubled c.args.path.now l.i l.doubled _ l.invariant c.if-not-doubled.false)
