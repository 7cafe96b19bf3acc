-- The step at what is left of both paths (Components: first_differs, path_ends, full_ends, both_go_on).
use Rattle.std.proofs.Common.{◌∙◌, arith}
use Rattle.paths_numbers.proofs.Slashes.{before_length}
use Rattle.short_paths.proofs.Components.{cut, first_differs, path_ends, full_ends, both_go_on}
use Rattle.short_paths.proofs.short.match_front.Goals as goal

pub split_at-requires : goal.split_at-requires
split_at-requires c = omega (arith, before_length c.components.left.now, c.first_slash.ensures)

pub split_at-requires-in-components : goal.split_at-requires-in-components
split_at-requires-in-components c = omega (arith, before_length c.components.other.now, c.first_slash-in-components.ensures)

pub returns-then-not-component_matches : goal.returns-then-not-component_matches
returns-then-not-component_matches c =
    let l = c.components in
    let f = c.split_at.ensures in
    let g = c.split_at-in-components.ensures in
    let u = cut l.left.now _ _ _ c.first_slash.ensures f.front f.back in
    let v = cut l.other.now _ _ _ c.first_slash-in-components.ensures g.front g.back in
    λ cs. l.invariant cs ∙ first_differs u v c.component_matches.ensures cs c.if-not-component_matches.true

pub returns-in_default : goal.returns-in_default
returns-in_default c =
    let l = c.components in
    let f = c.split_at.ensures in
    let g = c.split_at-in-components.ensures in
    let u = cut l.left.now _ _ _ c.first_slash.ensures f.front f.back in
    let v = cut l.other.now _ _ _ c.first_slash-in-components.ensures g.front g.back in
    λ cs. l.invariant cs ∙ path_ends u v c.component_matches.ensures cs c.if-not-component_matches.false c.in_default.ensures.cases

pub returns-in_err-other : goal.returns-in_err-other
returns-in_err-other c =
    let l = c.components in
    let f = c.split_at.ensures in
    let g = c.split_at-in-components.ensures in
    let u = cut l.left.now _ _ _ c.first_slash.ensures f.front f.back in
    let v = cut l.other.now _ _ _ c.first_slash-in-components.ensures g.front g.back in
    let m = c.component_matches.ensures in
    rw c.from_residual.ensures
    (λ cs. l.invariant cs
    ∙ full_ends u v m cs c.if-not-component_matches.false c.in-Some.ensures.cases.0 c.in_err-other.ensures.cases)

pub components-preserved : goal.components-preserved
components-preserved c =
    let l = c.components in
    let f = c.split_at.ensures in
    let g = c.split_at-in-components.ensures in
    let u = cut l.left.now _ _ _ c.first_slash.ensures f.front f.back in
    let v = cut l.other.now _ _ _ c.first_slash-in-components.ensures g.front g.back in
    let m = c.component_matches.ensures in
    λ cs. l.invariant cs
    ∙ both_go_on u v m cs c.if-not-component_matches.false c.in-Some.ensures.cases.0 c.in_ok-other.ensures.cases.0
