-- The lists of a chain that starts at any record.
use Rattle.std.specs.Prelude.{ℕ, false, List}
use Rattle.definition_log.specs.meaning.ReadBack.{chain_of, def_at}
use Rattle.queries.specs.meaning.Query.{live_numbers, history_numbers}

-- the live definitions under a base, latest first, and a path's history, earliest first
abbrev pub live_in : List ℕ → List ℕ → ℕ → List ℕ → List ℕ
live_in words bytes first base = live_numbers (def_at words bytes) base (chain_of words first)

abbrev pub history_in : List ℕ → List ℕ → ℕ → List ℕ → List ℕ
history_in words bytes first path = history_numbers (def_at words bytes) false path (chain_of words first)
