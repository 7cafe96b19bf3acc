-- The tests decide what is left of the path (Strip: stripped_tests).
use Rattle.std.proofs.Common.{◌≡◌, true, false, sym, ◌∙◌, ⊎_elim, eq-eqb, ne_eqb}
use Rattle.paths_numbers.specs.meaning.Path.{at_or_under}
use Rattle.paths_numbers.proofs.Texts.{rest, no_rest}
use Rattle.paths_numbers.proofs.Strip.{stripped_tests}
use Rattle.paths_numbers.proofs.Under.{under_length}
use Rattle.paths_numbers.proofs.mir.strip_base.Goals as goal

pub returns-then-not-lies_under : goal.returns-then-not-lies_under
returns-then-not-lies_under c =
    let a = c.args in
    let t = stripped_tests a.this.now a.base.now in
    let l = sym c.lies_under.ensures in
    no_rest a.this.now
    ∙ ⊎_elim (λ n. let u : at_or_under a.this.now a.base.now ≡ false = l ∙ n in sym (t ∙ simp u))
    (λ (y, e). let u : at_or_under a.this.now a.base.now ≡ true = l ∙ y in sym (t ∙ simp (u, eq-eqb _ _ e)))
    c.then-not-lies_under.either

pub returns-then-is_root : goal.returns-then-is_root
returns-then-is_root c =
    let a = c.args in
    let u = sym c.lies_under.ensures ∙ c.if-not-lies_under.false in
    sym (stripped_tests a.this.now a.base.now ∙ simp (u, ne_eqb _ _ c.if-end-base.false, sym c.if-is_root.ensures))

pub slice_bounds-result-count-2 : goal.slice_bounds-result-count-2
slice_bounds-result-count-2 c = under_length _ _ (sym c.lies_under.ensures ∙ c.if-not-lies_under.false)

pub slice_bounds-result-start-2 : goal.slice_bounds-result-start-2
slice_bounds-result-start-2 c = under_length _ _ (sym c.lies_under.ensures ∙ c.if-not-lies_under.false)

pub returns : goal.returns
returns c =
    let a = c.args in
    let u = sym c.lies_under.ensures ∙ c.if-not-lies_under.false in
    rest a.this.now _ ∙ sym (stripped_tests a.this.now a.base.now ∙ simp (u, ne_eqb _ _ c.if-end-base.false, sym c.if-is_root.ensures))
