-- The library's last start not above the place is the only one (LastStart).
use Rattle.std.proofs.Common.{ℕ, ◌≡◌, ◌∙◌, refl, rules}
use Rattle.std.specs.Prelude.{Option, Some, None}
use Rattle.std.specs.Option.{unwrap_or}
use Rattle.files.specs.meaning.Files.{file_of}
use Rattle.files.proofs.LastStart.{found_last, found_none}
use Rattle.files.proofs.files.Files.file_of.Goals as goal

pub returns : goal.returns
returns c = c.unwrap_or.ensures ∙ by_result c.rposition.result refl
  where
    by_result : (r : Option ℕ) → c.rposition.result ≡ r → unwrap_or r 0 ≡ file_of c.args.self.starts.now c.args.place
    by_result (Some i) e = found_last c.args.self.starts.now c.args.place i (search rules) (search rules) (search rules)
    by_result None e = found_none c.args.self.starts.now c.args.place (search rules)
