-- What the chain is of (References).
use Rattle.post_checks.proofs.References.{cell_parts}
use Rattle.post_checks.proofs.check_phandles.check_value.Given as goal

abbrev pub ghost-check_parts : goal.ghost-check_parts
ghost-check_parts a = cell_parts
