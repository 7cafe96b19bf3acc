-- What stands before the name is matched first, then the name (Components: not_meant, short_meant, meant, matched_none, matched_end).
use Rattle.std.proofs.Common.{List, ℕ, ◌∷◌, ◌++◌, sym, ap, ◌∙◌}
use Rattle.paths_numbers.specs.meaning.Byte.{slash}
use Rattle.short_paths.specs.meaning.Short.{may_mean}
use Rattle.short_paths.proofs.Components.{not_meant, short_meant, meant, matched_none, matched_end}
use Rattle.short_paths.proofs.short.may_mean.Goals as goal

pub returns-in_default : goal.returns-in_default
returns-in_default c =
    let a = c.args in
    sym (ap (λ (x : List ℕ). may_mean (x ++ slash ∷ a.name.now) a.full.now) (sym c.front.ensures)
    ∙ not_meant c.front.result.now a.name.now a.full.now c.in_default.ensures)

pub returns-in_default-split_first : goal.returns-in_default-split_first
returns-in_default-split_first c =
    let a = c.args in
    sym (ap (λ (x : List ℕ). may_mean (x ++ slash ∷ a.name.now) a.full.now) (sym c.front.ensures)
    ∙ short_meant c.front.result.now a.name.now a.full.now _ c.in_default-split_first.ensures.cases c.in-Some.ensures)

pub returns-in-None : goal.returns-in-None
returns-in-None c =
    let a = c.args in
    sym (ap (λ (x : List ℕ). may_mean (x ++ slash ∷ a.name.now) a.full.now) (sym c.front.ensures)
    ∙ meant c.front.result.now a.name.now a.full.now _ _ _ c.in-Some-split_first.ensures.cases.0 c.in-Some.ensures
    ∙ matched_none a.name.now _ c.in-None.ensures)

pub returns-in-Some-match_front : goal.returns-in-Some-match_front
returns-in-Some-match_front c =
    let a = c.args in
    c.is_empty.ensures
    ∙ sym (ap (λ (x : List ℕ). may_mean (x ++ slash ∷ a.name.now) a.full.now) (sym c.front.ensures)
    ∙ meant c.front.result.now a.name.now a.full.now _ _ _ c.in-Some-split_first.ensures.cases.0 c.in-Some.ensures
    ∙ sym (matched_end a.name.now _ _ c.in-Some-match_front.ensures))
