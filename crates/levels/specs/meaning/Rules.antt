-- 02, request 10: "Descriptions now carry a level given by the caller: 1 keeps the signed rule, 2 is unsigned". What an expression is
-- reckoned with; the walk over it is the same at both levels.
use Rattle.std.specs.Prelude.{ℕ, ◌-◌, ◌%◌, Bool, true, cond, List, ℤ, pos, ◌==◌}
use Rattle.paths_numbers.specs.meaning.Reading.{Reading}
use Rattle.paths_numbers.specs.meaning.Number.{unsigned_number, signed_number}
use Rattle.paths_numbers.specs.meaning.Expression.{is_true, of_truth, eval_prefix, eval_infix}
use Rattle.paths_numbers.specs.meaning.Cell.{expr_cell}
use Rattle.levels.specs.meaning.Unsigned.{numbers64, truth_of, unsigned_prefix, unsigned_infix, unsigned_cell}
use Rattle.levels.specs.meaning.Unsigned as U

-- the two levels; any other is none
abbrev pub signed_level : ℕ
signed_level = 1

abbrev pub unsigned_level : ℕ
unsigned_level = 2

unfoldable pub is_level : ℕ → Bool
is_level level = cond (level == signed_level) true (level == unsigned_level)

-- what a level reckons with, on values of a type: a literal's text, a character's code point, whether a value holds as a condition, a truth
-- as a value, the operators by 01's numbers, and a value as a cell of so many bits
pub record Rules (N : Type 0) : Type 0 where
  pub literal : List ℕ → Reading N
  pub character : ℕ → N
  pub holds : N → Bool
  pub truth : Bool → N
  pub unary : ℕ → N → Reading N
  pub binary : ℕ → N → N → Reading N
  pub cell : ℕ → N → Reading ℕ

-- level 1: 01's rules
abbrev pub signed_rules : Rules ℤ
signed_rules =
    record {
      literal = signed_number;
      character = pos;
      holds = is_true;
      truth = of_truth;
      unary = eval_prefix;
      binary = eval_infix;
      cell = expr_cell;
    }

-- level 2: "with comparison, division, >> and literals unsigned"
abbrev pub unsigned_rules : Rules ℕ
unsigned_rules =
    record {
      literal = unsigned_number (numbers64 - 1);
      character = λ point. point % numbers64;
      holds = U.holds;
      truth = truth_of;
      unary = unsigned_prefix;
      binary = unsigned_infix;
      cell = unsigned_cell;
    }
