-- What contracts say of a record of the input, in short.
use Rattle.std.specs.Prelude.{ℕ, List}
use Rattle.paths_numbers.specs.meaning.Reference.{Target}
use Rattle.paths_numbers.specs.declared.phandle.MirPhandleTarget.{MirPhandleTarget}
use Rattle.definition_log.specs.meaning.Contents.{Span}
use Rattle.definition_log.specs.machine.Parts.{target_made}
use Rattle.input.specs.meaning.Name.{node_name_span}
use Rattle.input.specs.machine.PhandleRead.{label_at, path_at}
use Rattle.input.specs.machine.OfRecord.{parts_of, span_in}
use Rattle.input.specs.declared.linked.Record.{Record}

-- of a node, the span of its name
abbrev pub node_name_in : Record → Span
node_name_in r = node_name_span (parts_of r) (span_in r)

-- of a reference, what it names
abbrev pub named_at : MirPhandleTarget → List ℕ → List ℕ → ℕ → Target
named_at kind words text r = target_made kind (label_at words text r) (path_at words text r)

abbrev pub named_in : MirPhandleTarget → Record → Target
named_in kind r = named_at kind r.input.words.now r.input.text.now r.number
