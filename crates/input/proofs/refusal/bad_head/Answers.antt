-- All words but the child.
use Prim.Native.Nat.{ℕ}
use mathlib.Core.Path.{◌∙◌}
use mathlib.Core.Bool.{Bool, not}
use mathlib.Core.List.{List, [], ◌∷◌}
use lib.Dec.{eqb}
use Rattle.std.proofs.Common.{rules, tests}
use Rattle.std.proofs.lemmas.Iterator.{YieldsList-from_slice}
use Rattle.std.proofs.lemmas.Iterator.Search.{any_from_yields_List}
use Rattle.input.specs.meaning.Input.{field}
use Rattle.input.specs.meaning.Rows.{bad_head}
use Rattle.input.proofs.RowsLoops.{any_list}
use Rattle.input.proofs.refusal.bad_head.Goals as goal

pub returns : goal.returns
unfolding bad_head
returns c =
    let test : ℕ → Bool = λ i. not (eqb (field c.args.words.now 0 i) 0) in
    let words : List ℕ = 0 ∷ 1 ∷ 3 ∷ 4 ∷ 5 ∷ 6 ∷ 7 ∷ [] in
    any_from_yields_List test _ _ _ c.any.ensures.ran (YieldsList-from_slice words (cc)) (λ x b q k. search (rules, tests))
    ∙ any_list test words
