-- 01, "The listing program reads from standard input the record count, records (words low byte first) and text, lowers into 1,024 records
-- and 65,536 bytes, and prints …": what it prints for an input. The count is one word; all behind the records is text.
use Rattle.std.specs.Prelude.{ℕ, zero, suc, ◌+◌, ◌*◌, ◌≤◌, ◌<◌, Bool, cond, ◌≡◌, List, [], ◌∷◌, ltb, length, get_or, take, drop, replicate}
use Rattle.levels.specs.meaning.Rules.{signed_level}
use Rattle.definition_log.specs.meaning.ReadBack.{Log}
use Rattle.input.specs.meaning.Rows.{Verdict, accepted, refused, verdict, most_records, most_text}
use Rattle.lowering.specs.meaning.Lowered.{log_of, fits_in, meaning}
use Rattle.listing.specs.meaning.Listing.{listing, refusal_line}

-- the bytes of a word, the words of a record
abbrev pub word_bytes : ℕ
word_bytes = 4

abbrev pub record_words : ℕ
record_words = 8

abbrev pub record_bytes : ℕ
record_bytes = 32

-- row 1: "8 times 1 to 2,048" words
abbrev pub most_words : ℕ
most_words = 16384

-- the first word, "low byte first"
unfoldable pub word_of : List ℕ → ℕ
word_of s = get_or s 0 0 + 256 * (get_or s 1 0 + 256 * (get_or s 2 0 + 256 * get_or s 3 0))

-- so many words, one behind the other
unfoldable pub words_of : ℕ → List ℕ → List ℕ
words_of zero s = []
words_of (suc n) s = word_of s ∷ words_of n (drop word_bytes s)

-- "the record count": the first word
abbrev pub count_in : List ℕ → ℕ
count_in input = word_of input

-- where the text starts
abbrev pub text_from : List ℕ → ℕ
text_from input = word_bytes + count_in input * record_bytes

abbrev pub words_in : List ℕ → List ℕ
words_in input = words_of (count_in input * record_words) (drop word_bytes input)

abbrev pub text_in : List ℕ → List ℕ
text_in input = drop (text_from input) input

-- "records cut short"
abbrev pub cut_short : List ℕ → Bool
cut_short input = ltb (length input) (text_from input)

-- "1,024 records and 65,536 bytes": 16 words each
abbrev pub out_length : ℕ
out_length = 16384

abbrev pub bytes_length : ℕ
bytes_length = 65536

-- what is printed of words and a text, "the listing program stays at 1" and lends the list (0): by rows 1 to 6, by row 7, and else the log
abbrev pub listed_by : Verdict → Bool → Log → List ℕ
listed_by (refused number returned) fits log = refusal_line number returned
listed_by accepted fits log = cond fits (listing log) (refusal_line 7 0)

unfoldable pub listed : List ℕ → List ℕ → List ℕ
listed words text =
    listed_by (verdict words text) (fits_in (meaning signed_level words text) (replicate out_length 0) (replicate bytes_length 0))
    (log_of (meaning signed_level words text))

-- "records cut short are cause 1"
unfoldable pub printed : List ℕ → List ℕ
printed input = cond (cut_short input) (refusal_line 1 0) (listed (words_in input) (text_in input))

-- the most that is printed: 1,023 records of at most 50 bytes beside their texts, 65,536 bytes of texts, and the last line
abbrev pub most_printed : ℕ
most_printed = 116688

-- the most that is read: the longest input whose size row 1 does not refuse, and one byte, by which a longer one is seen to be longer
abbrev pub most_read : ℕ
most_read = word_bytes + most_records * record_bytes + most_text + 1

-- "reads from standard input": the first n bytes of a buffer were read of an input; the input goes on behind them only where the buffer
-- is full
pub record ReadOf (input buffer : List ℕ) (n : ℕ) : Type 0 where
  pub starts : take n buffer ≡ take n input
  pub ends : n < length buffer → length input ≤ n
