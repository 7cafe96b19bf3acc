-- The library's search of the bytes with their places is the comparison (Compared: begins_numbered).
use Rattle.std.proofs.Common.{rules, tests, arith, ℕ, Bool, eqb, get_or, ◌∙◌}
use Rattle.std.proofs.lemmas.Iterator.{YieldsList-from_slice}
use Rattle.std.proofs.lemmas.Iterator.Consumers.{YieldsList-from_enumerate}
use Rattle.std.proofs.lemmas.Iterator.Search.{all_from_yields_List}
use Rattle.paths_numbers.specs.meaning.Path.{joined_path}
use Rattle.paths_numbers.proofs.Compared.{begins_numbered}
use Rattle.paths_numbers.proofs.dt_node.has_front.Goals as goal

pub returns : goal.returns
returns c =
    let a = c.args in
    let p = joined_path a.path in
    let test : ℕ × ℕ → Bool = λ q. eqb q.1 (get_or p q.0 0) in
    all_from_yields_List test _ _ _ c.all.ensures.ran
    (YieldsList-from_enumerate (YieldsList-from_slice a.front.now (cc)) c.enumerate.ensures.count)
    (λ x b q k. search (rules, tests))
    ∙ begins_numbered p a.front.now 0 (omega (arith, c.requires))
