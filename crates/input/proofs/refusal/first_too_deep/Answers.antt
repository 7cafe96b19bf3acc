-- The library's search over the records is the row's.
use mathlib.Core.Path.{ap, ◌∙◌}
use native.Mathlib.Nat.{sub-zero}
use Rattle.std.proofs.Common.{rules, tests}
use Rattle.std.proofs.lemmas.Iterator.{YieldsList-from_range}
use Rattle.std.proofs.lemmas.Iterator.Search.{find_from_yields_List}
use Rattle.input.specs.meaning.Rows.{lowest}
use Rattle.input.specs.machine.RowsPass.{fault_by, first_fault}
use Rattle.input.proofs.RowsLoops.{lowest_search}
use Rattle.input.proofs.refusal.first_too_deep.Goals as goal

pub returns : goal.returns
unfolding first_fault
returns c =
    λ text. let test = fault_by 6 c.args.records.words.now text c.args.stands.now in
    let n = c.args.records.count in
    lowest_search test n _
    (find_from_yields_List test _ _ _ c.find.ensures.ran (YieldsList-from_range 0 n n (cc) (sub-zero n)) (λ x b q k. search (rules, tests)))
    ∙ ap (λ k. lowest test k 0) c.args.records.counted
