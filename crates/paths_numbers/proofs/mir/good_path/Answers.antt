use Rattle.std.proofs.Common.{sym, ◌∙◌, eq-eqb, ne_eqb, arith}
use Rattle.paths_numbers.specs.meaning.Byte.{slash}
use Rattle.paths_numbers.specs.meaning.Path.{good_path}
use Rattle.paths_numbers.proofs.Texts.{is_empty_lem, not_empty, starts_at}
use Rattle.paths_numbers.proofs.mir.good_path.Goals as goal

pub returns-in-None : goal.returns-in-None
unfolding good_path
returns-in-None c = let h = c.in-None.ensures.item.3 in sym (simp (is_empty_lem c.args.path.now (omega arith)))

pub returns-then-is_root : goal.returns-then-is_root
unfolding good_path
returns-then-is_root c =
    let p = c.args.path.now in
    let h = c.in-Some.ensures.item.3.0 in
    c.if-is_root.true ∙ sym (simp (not_empty p (λ e. omega arith), sym c.if-is_root.ensures))

pub returns-then-first-eq47 : goal.returns-then-first-eq47
unfolding good_path
returns-then-first-eq47 c =
    let p = c.args.path.now in
    let h = c.in-Some.ensures.item.3 in
    let s = starts_at slash p 0 h.0 ∙ eq-eqb _ _ (sym (h.1 0) ∙ c.if-first-eq47.true) in
    c.has_components.ensures ∙ sym (simp (not_empty p (λ e. omega (arith, h.0)), sym c.if-is_root.ensures, s))

pub returns-else-first-eq47 : goal.returns-else-first-eq47
unfolding good_path
returns-else-first-eq47 c =
    let p = c.args.path.now in
    let h = c.in-Some.ensures.item.3 in
    let s = starts_at slash p 0 h.0 ∙ ne_eqb _ _ (λ e. c.if-first-eq47.false (h.1 0 ∙ e)) in
    ne_eqb _ _ c.if-first-eq47.false ∙ sym (simp (not_empty p (λ e. omega (arith, h.0)), sym c.if-is_root.ensures, s))
