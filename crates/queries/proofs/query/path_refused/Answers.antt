-- Row 9.
use mathlib.Core.Path.{refl, sym, ◌∙◌}
use Rattle.queries.proofs.query.path_refused.Goals as goal

pub returns-then-not-good_path : goal.returns-then-not-good_path
returns-then-not-good_path c = let e = sym c.good_path.ensures ∙ c.if-not-good_path.true in rw e refl

pub returns : goal.returns
returns c = let e = sym c.good_path.ensures ∙ c.if-not-good_path.false in rw e refl
