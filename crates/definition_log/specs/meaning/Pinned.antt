-- 01: "a contract pins every output word and byte …; only what is left open here may be stated by its properties, and it is named: a
-- written log's record numbers and text starts". What two written logs that say and count the same have in common: words w over bytes b,
-- and words v over bytes c.
use Rattle.std.specs.Prelude.{ℕ, ◌/◌, ◌≤◌, ◌<◌, true, false, ◌≡◌, List, get_or}
use Rattle.definition_log.specs.meaning.Record.{record_words, head_words, out_field, text_start, text_length, second_start, second_length}
use Rattle.definition_log.specs.meaning.Record.{records_used, bytes_used}
use Rattle.definition_log.specs.meaning.Sound.{is_reached, heads_out, links_out}
use Rattle.definition_log.specs.meaning.Written.{holders}
use Rattle.definition_log.specs.meaning.Alike.{AlikeWords, AlikeLog}

-- what is zero in a log
pub record Zeros (words bytes : List ℕ) : Type 0 where
  -- "words and bytes no chain reaches"
  pub unreached_words : (i : ℕ) → record_words ≤ i → is_reached words (i / record_words) ≡ false → get_or words i 0 ≡ 0
  pub unreached_bytes : (i : ℕ) → holders words i ≡ 0 → get_or bytes i 0 ≡ 0
  -- "an empty text starts at 0"
  pub empty_text : (r : ℕ) → is_reached words r ≡ true → text_length words r ≡ 0 → text_start words r ≡ 0
  pub empty_second : (r : ℕ) → is_reached words r ≡ true → second_length words r ≡ 0 → second_start words r ≡ 0
  -- a link that leads to no record of the log, since none leads out of it
  pub heads : heads_out words ≡ false
  pub links : (r : ℕ) → is_reached words r ≡ true → links_out words r ≡ false

-- a record of the other that record r is alike
pub record Partner (w b v c : List ℕ) (r : ℕ) : Type 0 where
  pub of : ℕ
  pub reached : is_reached v of ≡ true
  pub alike : AlikeWords w b v c r of

-- every word and byte but record numbers and text starts: those of the records in the chains, which are all that are reached, record 0's,
-- and the zeros of both
pub record Pinned (w b v c : List ℕ) : Type 0 where
  pub records : AlikeLog w b v c
  pub left_all : (r : ℕ) → is_reached w r ≡ true → Partner w b v c r
  pub right_all : (s : ℕ) → is_reached v s ≡ true → Partner v c w b s
  pub counted : records_used w ≡ records_used v
  pub counted_bytes : bytes_used w ≡ bytes_used v
  pub rest_of_head : (i : ℕ) → head_words ≤ i → i < record_words → (out_field w 0 i ≡ 0) × (out_field v 0 i ≡ 0)
  pub left : Zeros w b
  pub right : Zeros v c
