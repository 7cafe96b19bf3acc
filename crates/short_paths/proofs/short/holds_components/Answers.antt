-- By the first byte, and then by row 9's test of what has no "/" in front.
use Rattle.std.proofs.Common.{not, ap, sym, ◌∙◌, arith, eq-eqb}
use Rattle.short_paths.proofs.Form.{no_name, slash_ahead, name_ahead}
use Rattle.short_paths.proofs.short.holds_components.Goals as goal

pub returns-in-None : goal.returns-in-None
returns-in-None c = let h = c.in-None.ensures.item.3 in sym (no_name c.args.name.now (omega arith))

pub returns-then-first-ne47 : goal.returns-then-first-ne47
returns-then-first-ne47 c =
    let h = c.in-Some.ensures.item.3 in
    c.has_components.ensures ∙ sym (name_ahead c.args.name.now h.0 (λ e. c.if-first-ne47.true (h.1 0 ∙ e)))

pub returns-else-first-ne47 : goal.returns-else-first-ne47
returns-else-first-ne47 c =
    let h = c.in-Some.ensures.item.3 in
    ap not (eq-eqb _ _ c.if-first-ne47.false) ∙ sym (slash_ahead c.args.name.now h.0 (sym (h.1 0) ∙ c.if-first-ne47.false))
