-- An expression at level 2, as the code evaluates it: on the signed values of the same bits (logic_at). What it makes of an expression is
-- what the definition makes on numbers below 2 ^ 64.
use Prim.Native.Nat.{ℕ, ◌%◌, ◌^◌, ◌≤◌, ◌<◌}
use mathlib.Core.Path.{◌≡◌, refl, sym, ap, ◌∙◌}
use mathlib.Core.Bool.{Bool, true, false, cond}
use mathlib.Core.List.{List, [], ◌∷◌}
use native.Mathlib.Omega.{arith}
use native.Mathlib.Nat.{mod-eq_of_lt}
use borrow.Author.Tests.{eqb-true}
use lib.Dec.{eqb}
use lib.IntN.{ℤ, pos}
use mir.Syntax.{w64}
use mir.Val.{Fits, to_z, of_z}
use mir.ValLaws.{of_z-to_z, to_z-Fits, to_z_pos}
use Rattle.paths_numbers.specs.meaning.Code.{macro_undefined}
use Rattle.paths_numbers.specs.meaning.Reading.{Reading, no_code}
use Rattle.paths_numbers.specs.meaning.Reading as R
use Rattle.paths_numbers.specs.meaning.Expression.{and_op, or_op, conditional_op, is_true, of_truth}
use Rattle.paths_numbers.specs.declared.dt_property.BitsSize.{BitsSize}
use Rattle.paths_numbers.proofs.Texts.{by_test}
use Rattle.levels.specs.meaning.Rules.{Rules, unsigned_level, signed_rules, unsigned_rules}
use Rattle.levels.specs.meaning.Unsigned as U
use Rattle.levels.specs.machine.Held.{held, rules_at}
use Rattle.levels.proofs.Wrapping.{holds_bits}
use Rattle.levels.proofs.Below.{most, Below, number_within, prefix_below, infix_below}
use Rattle.levels.proofs.Cells.{cell_same}
use Rattle.definition_log.specs.meaning.Contents.{Span, Diag}
use Rattle.input.specs.meaning.Tree.{Tree, Trees, tree, empty, more, macro_kind, number_kind, character_kind, prefix_kind}
use Rattle.input.specs.meaning.Tree.{parenthesis_kind, infix_kind}
use Rattle.input.specs.meaning.Expr.{Outcome, value, fails, missing, evaluated, with_value, first_operand, truth_in, applied}
use Rattle.input.specs.meaning.Expr.{infix_of, prefix_of, combined, eval, evals}
use Rattle.input.specs.meaning.NeverGiven.{reports_in, NeverGiven}
use Rattle.input.specs.meaning.Property.{number_cell, outcome_cell, expression_cell}
use Rattle.input.proofs.NeverGiven.{Quiet, quiet_none, quiet_report, given_quiet}

-- level 2's rules on held values
abbrev held_rules : Rules ℤ
held_rules = rules_at unsigned_level

-- an outcome and how it is held; a failure has none of the codes that level 2 never gives
data Held : Outcome ℕ → Outcome ℤ → Type 0 where
  held_value : (n : ℕ) → n ≤ most → Held (value n) (value (to_z w64 n))
  held_failure : (ds : List Diag) → Quiet ds → Held (fails ds) (fails ds)

data AllHeld : List (Outcome ℕ) → List (Outcome ℤ) → Type 0 where
  none : AllHeld [] []
  next : {x : Outcome ℕ} {y : Outcome ℤ} {l : List (Outcome ℕ)} {m : List (Outcome ℤ)} → Held x y → AllHeld l m → AllHeld (x ∷ l) (y ∷ m)

fits : (n : ℕ) → n ≤ most → Fits w64 n
fits n h = record { fits = omega arith }

bits_held : (n : ℕ) → n ≤ most → of_z w64 (to_z w64 n) ≡ n
bits_held n h = of_z-to_z w64 n (fits n h)

-- one test, two outcomes
tested : (t : Bool) {x u : Outcome ℕ} {y v : Outcome ℤ} → Held x y → Held u v → Held (cond t x u) (cond t y v)
tested true h k = h
tested false h k = k

-- nothing is reported
held_missing : Held missing missing
held_missing = held_failure [] quiet_none

-- a reading
reading_held : (span : Span) (r : Reading ℕ) → Below r → Held (evaluated span r) (evaluated span (held r))
reading_held span (R.value n) h = held_value n h
reading_held span (R.fails code) h = tested (eqb code no_code) held_missing (held_failure _ (quiet_report code [] span (given_quiet code h)))

-- a condition, and a truth
holds_held : (n : ℕ) → n ≤ most → is_true (to_z w64 n) ≡ U.holds n
holds_held n h = holds_bits (to_z w64 n) (to_z-Fits w64 n (fits n h)) ∙ ap U.holds (bits_held n h)

truth_held : (t : Bool) → Held (value (U.truth_of t)) (value (of_truth t))
truth_held true = held_value 1 (omega arith)
truth_held false = held_value 0 (omega arith)

-- an operand that an operation goes on with
with_held : {x : Outcome ℕ} {y : Outcome ℤ} → Held x y → (f : ℕ → Outcome ℕ) (g : ℤ → Outcome ℤ)
    → ((n : ℕ) → n ≤ most → Held (f n) (g (to_z w64 n))) → Held (with_value x f) (with_value y g)
with_held (held_value n h) f g k = k n h
with_held (held_failure ds q) f g k = held_failure ds q

truth_in_held : {x : Outcome ℕ} {y : Outcome ℤ} → Held x y → Held (truth_in unsigned_rules x) (truth_in held_rules y)
unfolding rules_at
truth_in_held h =
    with_held h (λ n. value (U.truth_of (U.holds n))) (λ z. value (of_truth (is_true z)))
    (λ n k. rw (holds_held n k) (truth_held (U.holds n)))

-- operators
module _ (op : ℕ) (span : Span) where
  applied_held : (n : ℕ) → n ≤ most → {x : Outcome ℕ} {y : Outcome ℤ} → Held x y
      → Held (applied unsigned_rules op span n x) (applied held_rules op span (to_z w64 n) y)
  unfolding rules_at
  applied_held n h {x} {y} k =
      let both : Held (cond (U.holds n) (truth_in unsigned_rules x) (value 0))
      (cond (is_true (to_z w64 n)) (truth_in held_rules y) (value (pos 0)))
      = rw (holds_held n h) (tested (U.holds n) (truth_in_held k) (truth_held false)) in
      let either : Held (cond (U.holds n) (value 1) (truth_in unsigned_rules x))
      (cond (is_true (to_z w64 n)) (value (pos 1)) (truth_in held_rules y))
      = rw (holds_held n h) (tested (U.holds n) (truth_held true) (truth_in_held k)) in
      tested (eqb op and_op) both
      (tested (eqb op or_op) either
      (with_held k (λ m. evaluated span (U.unsigned_infix op n m))
      (λ z. evaluated span (held (U.unsigned_infix op (of_z w64 (to_z w64 n)) (of_z w64 z))))
      (λ m l. rw (bits_held n h, bits_held m l) (reading_held span (U.unsigned_infix op n m) (infix_below op n m h l)))))

  two_held : {x y : Outcome ℕ} {u v : Outcome ℤ} → Held x u → Held y v
      → Held (with_value x (λ n. applied unsigned_rules op span n y)) (with_value u (λ z. applied held_rules op span z v))
  two_held {y = y} {v = v} h k =
      with_held h (λ n. applied unsigned_rules op span n y) (λ z. applied held_rules op span z v) (λ n l. applied_held n l k)

  infix_held : {l : List (Outcome ℕ)} {m : List (Outcome ℤ)} → AllHeld l m
      → Held (infix_of unsigned_rules op span l) (infix_of held_rules op span m)
  unfolding rules_at
  infix_held none = held_missing
  infix_held (next x none) = held_missing
  infix_held (next x (next y none)) =
      tested (eqb op 0) held_missing
      (tested (eqb op conditional_op) held_missing (two_held x y))
  infix_held (next x (next y (next z l))) =
      tested (eqb op 0) held_missing
      (tested (eqb op conditional_op)
      (with_held x (λ n. cond (U.holds n) _ _) (λ z. cond (is_true z) _ _) (λ n h. rw (holds_held n h) (tested (U.holds n) y z)))
      (two_held x y))

  prefix_held : {l : List (Outcome ℕ)} {m : List (Outcome ℤ)} → AllHeld l m
      → Held (prefix_of unsigned_rules op span l) (prefix_of held_rules op span m)
  unfolding rules_at
  prefix_held none = held_missing
  prefix_held (next x l) =
      tested (eqb op 0) held_missing
      (with_held x (λ n. evaluated span (U.unsigned_prefix op n)) (λ z. evaluated span (held (U.unsigned_prefix op (of_z w64 z))))
      (λ n h. rw (bits_held n h) (reading_held span (U.unsigned_prefix op n) (prefix_below op n h))))

first_held : {l : List (Outcome ℕ)} {m : List (Outcome ℤ)} → AllHeld l m → Held (first_operand l) (first_operand m)
first_held none = held_missing
first_held (next x l) = x

-- a record, by its kind
combined_held : (k : ℕ) (text : List ℕ) (w : ℕ) (span : Span) {l : List (Outcome ℕ)} {m : List (Outcome ℤ)} → AllHeld l m
    → Held (combined unsigned_rules k text w span l) (combined held_rules k text w span m)
unfolding rules_at
combined_held k text w span h =
    tested (eqb k macro_kind) (held_failure _ (quiet_report macro_undefined text span refl))
    (tested (eqb k number_kind) (reading_held span (unsigned_rules.literal text) (number_within most text))
    (tested (eqb k character_kind) (held_value (w % 2 ^ 64) (omega arith))
    (tested (eqb k prefix_kind) (prefix_held w span h)
    (tested (eqb k parenthesis_kind) (first_held h)
    (tested (eqb k infix_kind) (infix_held w span h)
    held_missing)))))

mutual
  unfolding eval evals

  eval_held : (t : Tree) → Held (eval unsigned_rules t) (eval held_rules t)
  eval_held (tree k text w span operands v) = combined_held k text w span (evals_held operands)

  evals_held : (ts : Trees) → AllHeld (evals unsigned_rules ts) (evals held_rules ts)
  evals_held empty = none
  evals_held (more t ts) = next (eval_held t) (evals_held ts)

-- the cell of an outcome
cell_held : (size : BitsSize) (span : Span) {x : Outcome ℕ} {y : Outcome ℤ} → Held x y
    → outcome_cell signed_rules size span y ≡ outcome_cell unsigned_rules size span x
cell_held size span (held_value n h) = ap (number_cell span) (sym (cell_same size n (omega arith)))
cell_held size span (held_failure ds q) = refl

-- at any other level the rules are 01's
signed_at : (level : ℕ) → eqb level unsigned_level ≡ false → rules_at level ≡ signed_rules
unfolding rules_at
signed_at level t = rw t refl

-- an expression cell, as the code makes it
pub expression_at : (level : ℕ) (size : BitsSize) (span : Span) (ts : Trees)
    → outcome_cell signed_rules size span (first_operand (evals (rules_at level) ts)) ≡ expression_cell level size span ts
unfolding expression_cell
expression_at level size span ts =
    by_test (eqb level unsigned_level)
    (λ t. rw (eqb-true level unsigned_level t) (cell_held size span (first_held (evals_held ts))))
    (λ t. rw (signed_at level t, t) refl)

-- a character, as the code holds it
pub character_at : (level w : ℕ) → w < 2 ^ 63 → pos w ≡ (rules_at level).character w
unfolding rules_at
character_at level w h =
    let l : w < 2 ^ 64 = omega arith in
    by_test (eqb level unsigned_level)
    (λ t. rw (t, mod-eq_of_lt l) (sym (to_z_pos w64 w h)))
    (λ t. rw t refl)

-- no expression reports 19 or 24 at level 2
held_quiet : {x : Outcome ℕ} {y : Outcome ℤ} → Held x y → Quiet (reports_in x)
held_quiet (held_value n h) = quiet_none
held_quiet (held_failure ds q) = q

pub never_given_lem : NeverGiven
unfolding NeverGiven
never_given_lem t = held_quiet (eval_held t)
