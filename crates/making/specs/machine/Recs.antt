-- What the records that the operations make say.
use Rattle.std.specs.Prelude.{ℕ, ◌≡◌, true, false, List, []}
use Rattle.making.specs.declared.ctx.LowerCtx.{LowerCtx}
use Rattle.making.specs.declared.ctx.Rec.{Rec}
use Rattle.definition_log.specs.declared.parts.Span as declared
use Rattle.making.specs.declared.recs.DefKind.{DefKind}
use Rattle.making.specs.declared.recs.Target.{Target}
use Rattle.making.specs.declared.recs.DefKind.TheVariants as D
use Rattle.paths_numbers.specs.meaning.Reference as Reference
use Rattle.paths_numbers.specs.declared.phandle.MirPhandleTarget.{MirPhandleTarget}
use Rattle.paths_numbers.specs.declared.phandle.MirPhandleTarget.TheVariants as T
use Rattle.definition_log.specs.meaning.Contents.{DefValue, node, property, deleted_node, deleted_property, version, plugin, Def, Binding}
use Rattle.definition_log.specs.meaning.Contents.{Diag}
use Rattle.definition_log.specs.meaning.Contents.{bytestring}
use Rattle.definition_log.specs.machine.Parts.{meant, target_made}
use Rattle.definition_log.specs.meaning.Record.{reference_kind}
use Rattle.definition_log.specs.meaning.Record.{node_kind, property_kind, deleted_node_kind, deleted_property_kind, version_kind}
use Rattle.definition_log.specs.meaning.Record.{plugin_kind}
use Rattle.making.specs.machine.Made.{Told}
use Rattle.making.specs.machine.Adding.{in_property, add_value}
use Rattle.making.specs.machine.Represents.{StepsIn}
use Rattle.paths_numbers.specs.meaning.Bytestring.{bytes_of, is_odd}

-- a definition without labels and values
abbrev pub kind_number : DefKind → ℕ
kind_number D.Node = node_kind
kind_number D.OmittedNode = node_kind
kind_number D.Property = property_kind
kind_number D.DeletedNode = deleted_node_kind
kind_number D.DeletedProperty = deleted_property_kind
kind_number D.Version = version_kind
kind_number D.Plugin = plugin_kind

abbrev pub omit_number : DefKind → ℕ
omit_number D.Node = 0
omit_number D.OmittedNode = 1
omit_number D.Property = 0
omit_number D.DeletedNode = 0
omit_number D.DeletedProperty = 0
omit_number D.Version = 0
omit_number D.Plugin = 0

abbrev pub bare_value : DefKind → DefValue
bare_value D.Node = node [] false
bare_value D.OmittedNode = node [] true
bare_value D.Property = property []
bare_value D.DeletedNode = deleted_node
bare_value D.DeletedProperty = deleted_property
bare_value D.Version = version
bare_value D.Plugin = plugin

abbrev pub bare_def : DefKind → declared.Span → declared.Span → List ℕ → Def
bare_def k span name_span p = record { path = p; value = bare_value k; span = meant span; name_span = meant name_span }

-- the words of a record with these two spans
abbrev pub spanned_rec : ℕ → ℕ → ℕ → declared.Span → declared.Span → Rec
spanned_rec kind n m span name_span =
    record { kind = kind; n = n; m = m; span = span; name_span = name_span }

-- and of one without
abbrev pub no_span : declared.Span
no_span = record { from = 0; to = 0 }

abbrev pub part_rec : ℕ → ℕ → ℕ → Rec
part_rec kind n m = spanned_rec kind n m no_span no_span

-- a binding, a diagnostic
abbrev pub binding_made : List ℕ → List ℕ → declared.Span → Binding
binding_made l p span = record { label = l; path = p; span = meant span }

abbrev pub diag_made : ℕ → List ℕ → declared.Span → declared.Span → Diag
diag_made code text span name_span = record { code = code; text = text; span = meant span; name_span = meant name_span }

-- a reference: N, its two texts, and what it names
abbrev pub target_n : MirPhandleTarget → ℕ
target_n kind = Reference.kind_number kind

abbrev pub label_in : MirPhandleTarget → List ℕ → List ℕ
label_in T.Label l = l
label_in T.LabelPath l = l
label_in T.Path l = []

abbrev pub path_within : MirPhandleTarget → List ℕ → List ℕ
path_within T.Label p = []
path_within T.LabelPath p = p
path_within T.Path p = p

abbrev pub meant_target : Target → Reference.Target
meant_target t = target_made t.kind t.label.now t.path.now

-- and its record
abbrev pub target_rec : MirPhandleTarget → Rec
target_rec kind = part_rec reference_kind (target_n kind) 0

-- a record made below another, as the code answers
pub record ToldPart (c f : LowerCtx) (words bytes w b : List ℕ) (r : Rec) (x y : List ℕ) (link : ℕ) (with : LowerCtx → ℕ → LowerCtx) : Type
    0 where
  pub made : LowerCtx
  pub told : Told c made words bytes w b r x y link
  pub state : f ≡ with made c.records

-- a bytestring's text: a value more, or nothing where a digit is missing
pub record StepsBytes (c d : LowerCtx) (words bytes w b : List ℕ) (text : List ℕ) : Type 0 where
  pub even : is_odd text ≡ false → StepsIn in_property c d words bytes w b (add_value (bytestring (bytes_of text)))
  pub odd : is_odd text ≡ true → (d ≡ c) × (w ≡ words) × (b ≡ bytes)
