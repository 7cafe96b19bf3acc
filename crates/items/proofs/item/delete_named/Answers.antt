-- In a state that ran short nothing; else the bindings out, then the deletion (Deleting).
use Rattle.paths_numbers.specs.meaning.Path.{joined}
use Rattle.definition_log.specs.machine.Parts.{meant}
use Rattle.items.proofs.Deleting.{short_under, delete_grows, deletes_named}
use Rattle.items.proofs.item.delete_named.Goals as goal

pub returns-then-ctx : goal.returns-then-ctx
returns-then-ctx c =
    let a = c.args in
    short_under c.if-ctx.true (λ p. delete_grows (joined p a.below.name.now a.below.unit.now) (meant a.span))

pub returns : goal.returns
returns c = deletes_named
    c.args.span
    c.if-ctx.false
    c.unbind_all-without.ensures
    c.define.ensures
