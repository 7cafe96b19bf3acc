-- How many records the smaller logs have, for which smaller arrays are set up sooner.
use Rattle.std.specs.Prelude.{ℕ}

abbrev pub few_records : ℕ
few_records = 8192

abbrev pub least_records : ℕ
least_records = 1024
