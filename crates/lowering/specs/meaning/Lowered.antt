-- What a lowering answers and leaves for any input, level, starts of files and buffers, by 01's table and 02's numbers: the contract of
-- lowering.
use Rattle.std.specs.Prelude.{ℕ, ◌+◌, Bool, true, false, cond, ◌≡◌, List, leb, length, replicate}
use Rattle.definition_log.specs.meaning.ReadBack.{Log}
use Rattle.definition_log.specs.meaning.Record.{out_count, most_records, most_bytes}
use Rattle.definition_log.specs.meaning.Written.{Written}
use Rattle.definition_log.specs.meaning.Answer.{Answered, success, refused_room, refused_files, refused_level}
use Rattle.levels.specs.meaning.Rules.{is_level}
use Rattle.files.specs.meaning.Files.{good_files}
use Rattle.making.specs.meaning.State.{State, diags_bytes}
use Rattle.items.specs.meaning.Lower.{lowered}
use Rattle.post_checks.specs.meaning.Post.{post_checks}
use Rattle.input.specs.meaning.Input.{description}
use Rattle.input.specs.meaning.Rows.{accepted, refused, verdict}

-- the log of a state after the post checks
unfoldable pub log_of : State → Log
log_of s = record { defs = s.defs; exts = s.exts; binds = s.binds; diags = s.diags; post = post_checks s }

-- row 7's counts, the post checks' diagnostics among them
unfoldable pub records_made : State → ℕ
records_made s = s.records + length (post_checks s)

unfoldable pub bytes_made : State → ℕ
bytes_made s = s.bytes + diags_bytes (post_checks s)

-- "records or bytes made exceed the buffers, or 65,536 records or 2^24 bytes"; a buffer holds its whole records
unfoldable pub fits_in : State → List ℕ → List ℕ → Bool
fits_in s out bytes =
    cond (leb (records_made s) (out_count out))
    (cond (leb (records_made s) most_records)
    (cond (leb (bytes_made s) (length bytes)) (leb (bytes_made s) most_bytes) false)
    false)
    false

-- what the description of an input lowers to at a level
abbrev pub meaning : ℕ → List ℕ → List ℕ → State
meaning level words text = lowered level (description words text)

-- lowering `words` and `text` at `level`, of files that start at `starts`, into buffers that held `out₀` and `bytes₀` answers `answer` and
-- leaves `out` and `bytes`
pub data Lowered (level : ℕ) (starts words text out₀ bytes₀ : List ℕ) (answer : Answered) (out bytes : List ℕ) : Type 0 where
  -- 02, request 10: "A level other than 1 and 2 is refused with 18 and 0, before 1": all is left
  no_level : is_level level ≡ false → answer ≡ record { number = refused_level; returned = 0 } → out ≡ out₀ → bytes ≡ bytes₀
      → Lowered level starts words text out₀ bytes₀ answer out bytes
  -- rows 1 to 6: all is left
  turned_down : {number returned : ℕ} → is_level level ≡ true → verdict words text ≡ refused number returned
      → answer ≡ record { number = number; returned = returned } → out ≡ out₀ → bytes ≡ bytes₀
      → Lowered level starts words text out₀ bytes₀ answer out bytes
  -- 02, request 3: "A list that is empty, has over 16 entries, doesn't begin with 0 or doesn't rise strictly is refused with 14, returning
  -- 0, after 6": all is left
  no_files : is_level level ≡ true → verdict words text ≡ accepted → good_files starts ≡ false
      → answer ≡ record { number = refused_files; returned = 0 } → out ≡ out₀ → bytes ≡ bytes₀
      → Lowered level starts words text out₀ bytes₀ answer out bytes
  -- row 7: zeros, in every word and byte that was lent
  short : is_level level ≡ true → verdict words text ≡ accepted → good_files starts ≡ true
      → fits_in (meaning level words text) out₀ bytes₀ ≡ false
      → answer ≡ record { number = refused_room; returned = 0 } → out ≡ replicate (length out₀) 0 → bytes ≡ replicate (length bytes₀) 0
      → Lowered level starts words text out₀ bytes₀ answer out bytes
  -- number 0: the log is written, with the number of its file at each span
  done : is_level level ≡ true → verdict words text ≡ accepted → good_files starts ≡ true
      → fits_in (meaning level words text) out₀ bytes₀ ≡ true
      → answer ≡ record { number = success; returned = 0 } → length out ≡ length out₀ → length bytes ≡ length bytes₀
      → Written starts out bytes (records_made (meaning level words text)) (bytes_made (meaning level words text))
      (log_of (meaning level words text))
      → Lowered level starts words text out₀ bytes₀ answer out bytes
