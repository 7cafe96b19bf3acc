-- 02, request 10: "Code 24 never arises at level 2". Nor does 19: it is of a minus in a number's text, which level 2 does not read.
use Rattle.std.specs.Prelude.{ℕ, Bool, true, false, cond, ◌≡◌, List, [], eqb}
use Rattle.paths_numbers.specs.meaning.Code.{outside64_bits, number_too_small}
use Rattle.paths_numbers.specs.meaning.Lists.{any}
use Rattle.levels.specs.meaning.Rules.{unsigned_rules}
use Rattle.definition_log.specs.meaning.Contents.{Diag}
use Rattle.input.specs.meaning.Tree.{Tree}
use Rattle.input.specs.meaning.Expr.{Outcome, value, fails, eval}

-- the two codes, and a diagnostic of one of them
abbrev pub never_given : ℕ → Bool
never_given code = cond (eqb code outside64_bits) true (eqb code number_too_small)

abbrev pub is_never_given : Diag → Bool
is_never_given d = never_given d.code

-- what an outcome reports
abbrev pub reports_in : {N : Type 0} → Outcome N → List Diag
reports_in (value n) = []
reports_in (fails ds) = ds

-- the claim: no expression reports one at level 2
unfoldable pub NeverGiven : Type 0
NeverGiven = (t : Tree) → any is_never_given (reports_in (eval unsigned_rules t)) ≡ false
