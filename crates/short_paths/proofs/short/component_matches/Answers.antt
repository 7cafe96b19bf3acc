-- By whether the other begins with the component, and by what is behind it.
use Rattle.std.proofs.Common.{ℕ, eqb, not, sym, ap, ◌∙◌, arith, ne_eqb}
use Rattle.paths_numbers.specs.meaning.Byte.{at_sign}
use Rattle.paths_numbers.proofs.Texts.{begins_length}
use Rattle.short_paths.proofs.Components.{any_list, no_match, match_same, match_other, match_address}
use Rattle.short_paths.proofs.short.component_matches.Goals as goal

pub returns-then-not-starts_with : goal.returns-then-not-starts_with
returns-then-not-starts_with c = let a = c.args in sym (no_match a.c.now a.d.now (sym c.if-not-starts_with.ensures))

pub returns-in-None : goal.returns-in-None
returns-in-None c =
    let a = c.args in
    let b = sym c.if-not-starts_with.ensures in
    sym (match_same a.c.now a.d.now b (omega (arith, begins_length a.d.now a.c.now b, c.in-None.ensures.lookup.3)))

pub returns-then-next-eq64 : goal.returns-then-next-eq64
returns-then-next-eq64 c =
    let a = c.args in
    let e = c.in-Some.ensures.lookup.3 in
    ap not (c.contains.ensures.value ∙ any_list (λ (x : ℕ). eqb x at_sign) a.c.now)
    ∙ sym (match_address a.c.now a.d.now (sym c.if-not-starts_with.ensures) e.0 (sym (e.1 0) ∙ c.if-next-eq64.true))

pub returns-else-next-eq64 : goal.returns-else-next-eq64
returns-else-next-eq64 c =
    let a = c.args in
    let e = c.in-Some.ensures.lookup.3 in
    ne_eqb _ _ c.if-next-eq64.false
    ∙ sym (match_other a.c.now a.d.now (sym c.if-not-starts_with.ensures) e.0 (λ q. c.if-next-eq64.false (e.1 0 ∙ q)))
