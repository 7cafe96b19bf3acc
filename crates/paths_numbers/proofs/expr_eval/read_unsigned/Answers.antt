-- Behind a plus: what `read_behind_sign` ensures.
use Rattle.std.proofs.Common.{sym, ◌∙◌, arith}
use Rattle.paths_numbers.proofs.Signs.{unsigned_plus}
use Rattle.paths_numbers.proofs.Texts.{rest}
use Rattle.paths_numbers.proofs.expr_eval.read_unsigned.Goals as goal

pub returns-in-43-clause-told : goal.returns-in-43-clause-told
returns-in-43-clause-told c =
    let s = c.args.s.now in
    c.read_behind_sign.ensures.told ∙ rw (rest s 1) (sym (unsigned_plus _ _ s c.in-43.len_at_least (omega arith)))
