-- The values of level 2 as the code holds them: each as the signed one of the same 64 bits, so that one walk over an expression serves both
-- levels.
use Rattle.std.specs.Prelude.{ℕ, cond, ℤ, ◌==◌}
use Rattle.std.specs.Int.{w64}
use Rattle.std.proofs.Common.{to_z, of_z}
use Rattle.paths_numbers.specs.meaning.Reading.{Reading, value, fails}
use Rattle.paths_numbers.specs.meaning.Expression.{is_true, of_truth}
use Rattle.paths_numbers.specs.meaning.Cell.{expr_cell}
use Rattle.levels.specs.meaning.Rules.{Rules, unsigned_level, signed_rules, unsigned_rules}

-- a number as the signed value of its bits
abbrev pub held : Reading ℕ → Reading ℤ
held (value n) = value (to_z w64 n)
held (fails c) = fails c

-- a level's rules on held values: conditions, truths and cells are the same
unfoldable pub rules_at : ℕ → Rules ℤ
rules_at level =
    record {
      literal = λ text. cond (level == unsigned_level) (held (unsigned_rules.literal text)) (signed_rules.literal text);
      character = λ point. cond (level == unsigned_level) (to_z w64 (unsigned_rules.character point)) (signed_rules.character point);
      holds = is_true;
      truth = of_truth;
      unary = λ op a. cond (level == unsigned_level) (held (unsigned_rules.unary op (of_z w64 a))) (signed_rules.unary op a);
      binary =
          λ op a b.
          cond (level == unsigned_level) (held (unsigned_rules.binary op (of_z w64 a) (of_z w64 b))) (signed_rules.binary op a b);
      cell = expr_cell;
    }
