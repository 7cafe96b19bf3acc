-- The hash of the bytes, one after the other (Fronts: hash_fold).
use mathlib.Core.Path.{◌≡◌, ◌∙◌}
use borrow.Author.Rules.{rules}
use Rattle.std.specs.List.{fold}
use Rattle.queries.specs.machine.Table.{mixed}
use Rattle.queries.proofs.Fronts.{hash_fold}
use Rattle.queries.proofs.later.hash_of.Goals as goal

pub returns : goal.returns
returns c =
    let e : c.fold.result ≡ fold mixed 0 c.args.path.now = search rules in
    e ∙ hash_fold 0 c.args.path.now
