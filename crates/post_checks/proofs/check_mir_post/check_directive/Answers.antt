-- By whether there is a code (Headers).
use Rattle.std.proofs.Common.{[], ◌∷◌, sym, ◌∙◌}
use Rattle.post_checks.proofs.Headers.{code_none, code_one}
use Rattle.post_checks.proofs.check_mir_post.check_directive.Goals as goal

pub returns-in_default : goal.returns-in_default
returns-in_default c = let a = c.args in
    code_none a.ctx a.out.now a.bytes.now (a.r ∷ []) _ _ (rw (← c.kind_of.ensures) (sym c.header_code.ensures ∙ c.in_default.is))

pub returns : goal.returns
returns c = let a = c.args in
    code_one (a.r ∷ []) c.in-Some.code _ c.name_span_of-span.result _
    (rw (← c.kind_of.ensures) (sym c.header_code.ensures ∙ c.in-Some.is))
    c.name_span_of-span.ensures
    c.emit_copied.ensures.steps c.emit_copied.ensures.keeps
