-- Of two texts as long, one begins with the other only if they are the same (Texts: same_lengths, begins_same).
use Rattle.std.proofs.Common.{sym, ◌∙◌, ne_eqb}
use Rattle.paths_numbers.proofs.Texts.{same_lengths, begins_same}
use Rattle.paths_numbers.proofs.text.equals.Goals as goal

pub returns-then-s-t : goal.returns-then-s-t
returns-then-s-t c = c.starts_with.ensures ∙ begins_same c.args.s.now c.args.t.now c.if-s-t.true

pub returns-else-s-t : goal.returns-else-s-t
returns-else-s-t c = ne_eqb _ _ c.if-s-t.false ∙ sym (same_lengths c.args.s.now c.args.t.now c.if-s-t.false)
