-- The checks one after the other (PostChecks).
use mathlib.Core.Path.{◌∙◌}
use Rattle.post_checks.proofs.PostChecks.{post_lowers}
use Rattle.post_checks.proofs.check_mir_post.check_mir_post.Goals as goal

pub shape_of-out : goal.shape_of-out
shape_of-out c = c.check_directives.auto.out
    ∙ c.check_phandles-phandles.auto.out
    ∙ c.check_duplicate_labels-labels.auto.out

pub returns : goal.returns
returns c = post_lowers
    c.check_duplicate_labels-labels.ensures
    c.check_phandles-phandles.ensures
    c.check_directives.ensures
