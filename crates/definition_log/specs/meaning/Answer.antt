-- 01, "Answers": what a call answers, and the numbers of the table.
use Rattle.std.specs.Prelude.{ℕ, ⊤, Result, Ok, Err}
use Rattle.definition_log.specs.meaning.Sound.{Soundness, sound, broken}
use Rattle.definition_log.specs.declared.answer.Refusal.{Refusal}
use Rattle.definition_log.specs.declared.answer.Refusal.TheVariants as R

-- 01's number and what is returned
pub record Answered : Type 0 where
  pub number : ℕ
  pub returned : ℕ

-- "Success is number 0"
abbrev pub success : ℕ
success = 0

-- rows 1 to 6
abbrev pub refused_size : ℕ
refused_size = 1

abbrev pub refused_link : ℕ
refused_link = 2

abbrev pub refused_text : ℕ
refused_text = 3

abbrev pub refused_kind : ℕ
refused_kind = 4

abbrev pub refused_name : ℕ
refused_name = 5

abbrev pub refused_depth : ℕ
refused_depth = 6

-- row 7
abbrev pub refused_room : ℕ
refused_room = 7

-- rows 8 to 10
abbrev pub refused_log : ℕ
refused_log = 8

abbrev pub refused_path : ℕ
refused_path = 9

abbrev pub refused_list : ℕ
refused_list = 10

-- 02, request 1: "A digit above 9 is refused with 11, a length outside 1 to 8 with 12, a number too large for its length with 13"
abbrev pub refused_digit : ℕ
refused_digit = 11

abbrev pub refused_length : ℕ
refused_length = 12

abbrev pub refused_number : ℕ
refused_number = 13

-- 02, request 3: "A list that is empty, has over 16 entries, doesn't begin with 0 or doesn't rise strictly is refused with 14"
abbrev pub refused_files : ℕ
refused_files = 14

-- 02, request 10: "A level other than 1 and 2 is refused with 18"
abbrev pub refused_level : ℕ
refused_level = 18

-- a refusal's two numbers
abbrev pub refused : Refusal → Answered
refused R.Size = record { number = refused_size; returned = 0 }
refused (R.Link r) = record { number = refused_link; returned = r }
refused (R.Text r) = record { number = refused_text; returned = r }
refused (R.Kind r) = record { number = refused_kind; returned = r }
refused (R.Name r) = record { number = refused_name; returned = r }
refused (R.Depth r) = record { number = refused_depth; returned = r }
refused R.Room = record { number = refused_room; returned = 0 }
refused (R.Log r) = record { number = refused_log; returned = r }
refused R.Path = record { number = refused_path; returned = 0 }
refused (R.List count) = record { number = refused_list; returned = count }
refused R.Digit = record { number = refused_digit; returned = 0 }
refused R.Length = record { number = refused_length; returned = 0 }
refused R.Number = record { number = refused_number; returned = 0 }
refused R.Files = record { number = refused_files; returned = 0 }
refused R.Level = record { number = refused_level; returned = 0 }

-- a success that returns 0, also what the rows that are tried first say where none of them refuses
abbrev pub passed : Answered
passed = record { number = success; returned = 0 }

-- an answer's two numbers: success with what it returns, or a refusal's
abbrev pub told : Result ℕ Refusal → Answered
told (Ok n) = record { number = success; returned = n }
told (Err e) = refused e

-- of an answer that returns nothing but whether it succeeds
abbrev pub told_done : Result ⊤ Refusal → Answered
told_done (Ok n) = passed
told_done (Err e) = refused e

-- row 8, and what comes after it for a log that keeps the output rules
abbrev pub sound_answer : Soundness → Answered → Answered
sound_answer sound a = a
sound_answer (broken r) a = record { number = refused_log; returned = r }
