-- The code makes the tests that decide (Strip).
use Rattle.std.proofs.Common.{ℕ, eqb, sym, ap, ◌∙◌}
use Rattle.paths_numbers.specs.meaning.Byte.{slash}
use Rattle.paths_numbers.specs.meaning.Path.{root}
use Rattle.paths_numbers.proofs.Compared.{starts_pointwise}
use Rattle.paths_numbers.proofs.Strip.{under_slash, under_no, under_whole, under_next}
use Rattle.paths_numbers.proofs.mir.lies_under.Goals as goal

pub returns-then-is_root : goal.returns-then-is_root
returns-then-is_root c =
    let a = c.args in
    c.starts_with.ensures.value ∙ starts_pointwise a.this.now root ∙ sym (under_slash a.this.now a.base.now (sym c.is_root.ensures ∙ c.if-is_root.true))

pub returns-then-not-starts_with : goal.returns-then-not-starts_with
returns-then-not-starts_with c = let a = c.args in sym (under_no a.this.now a.base.now (sym c.if-not-starts_with.ensures))

pub returns-in-None : goal.returns-in-None
returns-in-None c = let a = c.args in sym (under_whole a.this.now a.base.now (sym c.if-not-starts_with.ensures) c.in-None.ensures.lookup.3)

pub returns-in-Some : goal.returns-in-Some
returns-in-Some c =
    let a = c.args in
    let e = c.in-Some.ensures.lookup.3 in
    ap (λ (b : ℕ). eqb b slash) (e.1 0)
    ∙ sym (under_next a.this.now a.base.now (sym c.if-not-starts_with.ensures) e.0 (sym c.is_root.ensures ∙ c.if-is_root.false))
