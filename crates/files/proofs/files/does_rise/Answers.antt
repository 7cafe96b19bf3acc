-- The closure tests what the definition tests (Starts: rises_by).
use Rattle.std.proofs.Common.{rules, ltb}
use Rattle.std.proofs.lemmas.List.Sorted.{answers_always}
use Rattle.files.proofs.Starts.{rises_by}
use Rattle.files.proofs.files.does_rise.Goals as goal

pub returns : goal.returns
returns c = rises_by c.args.starts.now _ (c.is_sorted_by.ensures.cases ltb (answers_always _ _ _ (λ f a r g h. search rules)))
