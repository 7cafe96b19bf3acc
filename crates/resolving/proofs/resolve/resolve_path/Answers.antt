-- By what the look-up finds (Leading).
use mathlib.Core.Path.{ap, ◌∙◌}
use borrow.Author.Rules.{rules}
use Rattle.std.proofs.Common.{tests}
use Rattle.resolving.specs.declared.resolve.Missing.TheVariants.{NoNode}
use Rattle.resolving.proofs.Leading.{told, told_missing, answers_path}
use Rattle.resolving.proofs.resolve.resolve_path.Goals as goal

pub returns : goal.returns
returns c = answers_path c.lookup_in.result _
    (told NoNode _ c.map_err.ensures.cases (λ e d p. search (rules, tests)) ∙ ap (told_missing NoNode) c.node_found.ensures)
    c.lookup_in.ensures
