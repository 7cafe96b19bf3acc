-- What is left of the chain is its next record and those from that one's next (ChainLeft).
use Prim.Native.Nat.{ℕ}
use mathlib.Core.Path.{◌≡◌, sym, ap, ◌∙◌}
use mathlib.Core.List.{◌∷◌}
use native.Mathlib.Omega.{arith}
use lib.ListN.{length}
use Rattle.std.specs.Prelude.{Some}
use Rattle.std.specs.Iterator.{MakesProgress, item_count}
use Rattle.input.specs.machine.ChainLeft.{numbers_from, chain_left}
use Rattle.input.specs.declared.linked.Chain.{Chain}
use Rattle.input.proofs.ChainLeft.{numbers_none, numbers_more}
use Rattle.input.proofs.chain.ChainIterator.next.Goals as goal

pub returns-then-r-eq0-clause-steps : goal.returns-then-r-eq0-clause-steps
returns-then-r-eq0-clause-steps c =
    let e = numbers_none c.args.self.now.input.words.now c.args.self.now.next c.if-r-eq0.true in
    (e, e)

pub returns-clause-steps : goal.returns-clause-steps
returns-clause-steps c =
    let s = c.args.self.now in
    numbers_more s.input.words.now s.input.linked s.next c.if-r-eq0.false (s.at c.if-r-eq0.false)
    ∙ ap (λ (k : ℕ). s.next ∷ numbers_from s.input.words.now k) (sym c.next_at-self.ensures)

-- fewer are left after one
nearer : (s t : Chain) (r : ℕ) → chain_left s ≡ r ∷ chain_left t → MakesProgress (λ _. Unit {0}) (item_count chain_left) s (Some r) t
nearer s t r p = record { on = λ f. (tt, tt, omega (arith, ap length p)); keeps = tt; rests = λ f. tt }

pub returns-clause-goes : goal.returns-clause-goes
returns-clause-goes c =
    let s = c.args.self.now in
    nearer s _ s.next
    (numbers_more s.input.words.now s.input.linked s.next c.if-r-eq0.false (s.at c.if-r-eq0.false)
    ∙ ap (λ (k : ℕ). s.next ∷ numbers_from s.input.words.now k) (sym c.next_at-self.ensures))
