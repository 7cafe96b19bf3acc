-- What the chain is of (References).
use Rattle.post_checks.proofs.References.{value_parts}
use Rattle.post_checks.proofs.check_phandles.check_definition.Given as goal

abbrev pub ghost-check_parts : goal.ghost-check_parts
ghost-check_parts a = value_parts
