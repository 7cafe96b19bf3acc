-- 02, request 3, leaves the base's log as it was for a rack of one file: with the list (0) the last three words of every record are zeros,
-- as 01 has them: "kind, next, …, name span, three zeros".
use Rattle.std.specs.Prelude.{ℕ, ◌≤◌, ◌<◌, ◌≡◌, List, [], ◌∷◌}
use Rattle.definition_log.specs.meaning.Record.{record_words, out_field}
use Rattle.definition_log.specs.meaning.ReadBack.{Log}
use Rattle.definition_log.specs.meaning.Written.{Written}

unfoldable pub ThreeZeros : Type 0
ThreeZeros =
    (words bytes : List ℕ) (records used : ℕ) (log : Log) → Written (0 ∷ []) words bytes records used log
    → (r i : ℕ) → 13 ≤ i → i < record_words → out_field words r i ≡ 0
