-- What the parts that code holds stand for.
use Rattle.std.specs.Prelude.{ℕ, List}
use Rattle.paths_numbers.specs.meaning.Reference.{Target, label, label_path, path}
use Rattle.definition_log.specs.meaning.Contents.{Span}
use Rattle.definition_log.specs.declared.parts.Span as declared
use Rattle.paths_numbers.specs.declared.phandle.MirPhandleTarget.{MirPhandleTarget}
use Rattle.paths_numbers.specs.declared.phandle.MirPhandleTarget.TheVariants as T

-- a span
abbrev pub meant : declared.Span → Span
meant s = record { from = s.from; to = s.to }

abbrev pub target_made : MirPhandleTarget → List ℕ → List ℕ → Target
target_made T.Label l p = label l
target_made T.LabelPath l p = label_path l p
target_made T.Path l p = path p
