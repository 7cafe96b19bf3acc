-- 01, "Answers", rows 8 to 10: what the queries answer for any words and bytes that a caller lends, and what they leave in the list.
use Rattle.std.specs.Prelude.{ℕ, Bool, false, cond, List, [], ◌∷◌, ◌++◌, map, leb, length, Result, Ok, Err}
use Rattle.paths_numbers.specs.meaning.Text.{same, written}
use Rattle.paths_numbers.specs.meaning.Path.{good_path}
use Rattle.definition_log.specs.meaning.Contents.{Def}
use Rattle.definition_log.specs.meaning.Record.{first_def}
use Rattle.definition_log.specs.meaning.ReadBack.{chain_of, def_at, read_defs}
use Rattle.definition_log.specs.meaning.Sound.{Soundness, sound, broken, soundness}
use Rattle.definition_log.specs.meaning.Answer.{Answered, success, refused, refused_path, refused_list, passed, sound_answer}
use Rattle.definition_log.specs.declared.answer.Refusal.{Refusal}
use Rattle.queries.specs.meaning.Live.{is_live, deletes, contains_node}
use Rattle.queries.specs.meaning.History.{defined_by}

-- the live definitions of a chain by their record numbers, latest first
unfoldable pub live_numbers : (ℕ → Def) → List ℕ → List ℕ → List ℕ
live_numbers def base [] = []
live_numbers def base (r ∷ later) = live_numbers def base later ++ cond (is_live base (def r) (map def later)) (r ∷ []) []

-- a path's history by record numbers, earliest first
unfoldable pub history_numbers : (ℕ → Def) → Bool → List ℕ → List ℕ → List ℕ
history_numbers def defined path [] = []
history_numbers def defined path (r ∷ later) =
    cond (same (def r).path path) (r ∷ history_numbers def (defined_by (def r) defined) path later)
    (cond (cond defined (deletes path (def r)) false) (r ∷ history_numbers def false path later)
    (history_numbers def defined path later))

-- "Lists hold definitions of the main chain": their numbers
abbrev pub main_chain : List ℕ → List ℕ
main_chain words = chain_of words (first_def words)

-- row 9 and what comes after it, for a log that keeps the output rules: the answer is `value`
abbrev pub good_answer : Bool → Answered → Answered
good_answer good a = cond good a (record { number = refused_path; returned = 0 })

-- rows 8 and 9; number 0 where neither refuses
unfoldable pub refusal : List ℕ → List ℕ → List ℕ → Answered
refusal words bytes path = sound_answer (soundness words bytes) (good_answer (good_path path) passed)

-- row 10: "more answers than the list holds … their count"; else number 0 and the count
abbrev pub count_answer : ℕ → ℕ → Answered
count_answer room count =
    cond (leb count room) (record { number = success; returned = count }) (record { number = refused_list; returned = count })

abbrev pub list_answer : ℕ → List ℕ → Answered
list_answer room answers = count_answer room (length answers)

-- the answer of a query that fills a list of so many places
unfoldable pub query_answer : List ℕ → List ℕ → List ℕ → ℕ → List ℕ → Answered
query_answer words bytes path room answers = sound_answer (soundness words bytes) (good_answer (good_path path) (list_answer room answers))

-- what the list holds afterwards: "A list is not written past its answers", and a refusal leaves it
abbrev pub sound_out : Soundness → List ℕ → List ℕ → List ℕ
sound_out sound out list = out
sound_out (broken r) out list = list

unfoldable pub query_out : List ℕ → List ℕ → List ℕ → List ℕ → List ℕ → List ℕ
query_out words bytes path list answers =
    sound_out (soundness words bytes) (cond (good_path path) (cond (leb (length answers) (length list)) (written list 0 answers) list) list)
    list

-- the answers of iter_live_defs_under and of history
unfoldable pub live_answers : List ℕ → List ℕ → List ℕ → List ℕ
live_answers words bytes base = live_numbers (def_at words bytes) base (main_chain words)

unfoldable pub history_answers : List ℕ → List ℕ → List ℕ → List ℕ
history_answers words bytes path = history_numbers (def_at words bytes) false path (main_chain words)

-- a truth is told as 1 or 0
abbrev pub told_found : Result Bool Refusal → Answered
told_found (Ok found) = record { number = success; returned = cond found 1 0 }
told_found (Err e) = refused e

-- contains_node: "returns 1 or 0"
unfoldable pub contains_answer : List ℕ → List ℕ → List ℕ → Answered
contains_answer words bytes path =
    sound_answer (soundness words bytes)
    (good_answer (good_path path)
    (record { number = success; returned = cond (contains_node path (read_defs words bytes (first_def words))) 1 0 }))
