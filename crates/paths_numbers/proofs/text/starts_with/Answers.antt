-- The last byte of `p` decides, or what is in front of it (Compared: begins_last).
use Rattle.std.proofs.Common.{◌≡◌, ℕ, suc, true, false, eqb, length, get_or, sym, refl, ap, ◌∙◌, arith}
use Rattle.paths_numbers.specs.meaning.Text.{begins}
use Rattle.paths_numbers.proofs.Texts.{no_byte}
use Rattle.paths_numbers.proofs.Compared.{starts_pointwise, maybe_byte, begins_last}
use Rattle.paths_numbers.proofs.text.starts_with.Goals as goal

pub returns-in-None : goal.returns-in-None
unfolding begins
returns-in-None c = rw (no_byte c.args.p.now c.in-None.ensures.cases) refl

pub returns-then-eq : goal.returns-then-eq
returns-then-eq c =
    let s = c.args.s.now in
    let p = c.in-Some.front.now in
    let b = c.in-Some.last.now in
    let t = sym (c.get.ensures.lookup.4 (omega arith) (suc b)) in
    let e : eqb (get_or s (length p) (suc b)) b ≡ true = ap (λ (a : ℕ). eqb a b) t ∙ sym (maybe_byte c.get.result c.in-Some.last) ∙ sym c.if-eq.ensures in
    c.starts_with.ensures.value ∙ starts_pointwise s p ∙ sym (ap (begins s) c.in-Some.ensures.cases.0 ∙ begins_last s p b ∙ rw e refl)

pub returns-else-eq : goal.returns-else-eq
returns-else-eq c =
    let s = c.args.s.now in
    let p = c.in-Some.front.now in
    let b = c.in-Some.last.now in
    let t = sym (c.get.ensures.lookup.4 (omega arith) (suc b)) in
    let e : eqb (get_or s (length p) (suc b)) b ≡ false = ap (λ (a : ℕ). eqb a b) t ∙ sym (maybe_byte c.get.result c.in-Some.last) ∙ sym c.if-eq.ensures in
    c.if-eq.false ∙ sym (ap (begins s) c.in-Some.ensures.cases.0 ∙ begins_last s p b ∙ rw e refl)
