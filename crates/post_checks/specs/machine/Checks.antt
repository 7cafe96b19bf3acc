-- What the functions of the post checks do to the log in hand: they add diagnostics, and the records that they walk through stay.
use Rattle.std.specs.Prelude.{ℕ, ◌≡◌, Bool, true, false, not, cond, Option, Some, None, List, [], ◌∷◌, ◌++◌, eqb, leb}
use Rattle.making.specs.declared.ctx.LowerCtx.{LowerCtx}
use Rattle.making.specs.declared.place.PathAt.{PathAt}
use Rattle.making.specs.declared.place.PathAt.TheVariants as P
use Rattle.paths_numbers.specs.meaning.Code.{version_late, plugin_misplaced, before_version}
use Rattle.paths_numbers.specs.meaning.Text.{same}
use Rattle.definition_log.specs.meaning.Contents.{Span, Binding, Diag}
use Rattle.definition_log.specs.meaning.Record.{plugin_kind, deleted_property_kind, n_of, text_start, text_length}
use Rattle.definition_log.specs.meaning.ReadBack.{chain_of, read_defs, read_bindings}
use Rattle.making.specs.meaning.State.{State, emit}
use Rattle.making.specs.machine.Represents.{Context, Represents}
use Rattle.making.specs.machine.Kept.{Still, All, Kept}
use Rattle.input.specs.meaning.Report.{report}
use Rattle.paths_numbers.specs.meaning.Lists.{any}
use Rattle.queries.specs.meaning.Live.{live}
use Rattle.post_checks.specs.meaning.Post.{duplicate, duplicates_of, check_defs, Headers, at_first, defined}
use Rattle.post_checks.specs.declared.check_mir_post.Headers as declared
use Rattle.post_checks.specs.declared.check_mir_post.Headers.TheVariants as H

-- from state c to state d, and from words and bytes to w and b: these diagnostics are added, where the records rs are in the log and no
-- diagnostics
pub record Reports (c d : LowerCtx) (words bytes w b : List ℕ) (rs : List ℕ) (ds : List Diag) : Type 0 where
  pub reports : (k : Context) (s : State) → Represents k c words bytes s → (c.short ≡ false → All (Still words c.records) rs)
      → Represents k d w b (emit ds s)
  pub keeps : (k : Context) (s : State) → Represents k c words bytes s → (c.short ≡ false → All (Still words c.records) rs)
      → Kept c d words bytes w b
  pub stays : c.short ≡ true → (d.short ≡ true) × (w ≡ words) × (b ≡ bytes)

-- directive order by a definition's kind: whether it is no directive
abbrev pub is_plain : ℕ → Bool
is_plain kind = cond (eqb kind 0) false (leb kind deleted_property_kind)

-- what each state says of the headers
abbrev pub headers_of : declared.Headers → Headers
headers_of H.NoVersion = at_first
headers_of H.AfterVersion = record { only = true; allowed = true; seen = true }
headers_of H.AfterPlugin = record { only = true; allowed = false; seen = true }
headers_of H.Ended = defined

-- the code that is reported, if there is one
abbrev pub header_code : ℕ → Headers → Option ℕ
header_code kind h =
    cond (is_plain kind) (cond h.seen None (Some before_version))
    (cond (eqb kind plugin_kind) (cond h.allowed None (Some plugin_misplaced))
    (cond h.only None (Some version_late)))

unfoldable pub code_report : Option ℕ → Span → List Diag
code_report None span = []
code_report (Some code) span = report code [] span ∷ []

-- what is known of the headers after it
abbrev pub headers_after : ℕ → Headers → Headers
headers_after kind h =
    cond (is_plain kind) defined
    (cond (eqb kind plugin_kind) (record { only = h.only; allowed = false; seen = h.seen })
    (cond h.only (record { only = true; allowed = true; seen = true }) h))

-- duplicate labels: whether a binding has the label of c, its path, and both
abbrev pub has_label : Binding → Binding → Bool
has_label c x = same c.label x.label

abbrev pub has_path : Binding → Binding → Bool
has_path c x = same c.path x.path

abbrev pub again : Binding → Binding → Bool
again c x = cond (has_label c x) (has_path c x) false

-- whether there is a report on a binding c of the label whose first binding is b, with these between them
abbrev pub is_reported : Binding → Binding → List Binding → Bool
is_reported b c between = cond (has_label c b) (cond (has_path c b) false (not (any (again c) between))) false

abbrev pub binding_report : Binding → Binding → List Binding → List Diag
binding_report b c between = cond (is_reported b c between) (duplicate b c ∷ []) []

-- the reports on b's label, where b is its first binding
unfoldable pub label_reports : Binding → List Binding → List Binding → List Diag
label_reports b before later = cond (any (has_label b) before) [] (duplicates_of b (b.path ∷ []) later)

-- the place of a text in the bytes
abbrev pub text_place : ℕ → ℕ → PathAt
text_place start size = P.Bytes start size

-- references: the definitions and bindings by which they lead, as words and bytes say them
unfoldable pub said : LowerCtx → List ℕ → List ℕ → State
said c words bytes =
    record {
      defs = read_defs words bytes c.defs.first;
      exts = [];
      binds = read_bindings words bytes c.binds.first;
      diags = [];
      records = 0;
      bytes = 0;
    }

-- the reports on the live definitions
abbrev pub ReportsLive : LowerCtx → LowerCtx → List ℕ → List ℕ → List ℕ → List ℕ → Type 0
ReportsLive c d words bytes w b =
    Reports c d words bytes w b [] (check_defs (said c words bytes) (live [] (read_defs words bytes c.defs.first)))

-- a kind of parts of a chain: what is reported, at a span, on one and on several, which is on the first and then on the others
pub record Parts : Type 0 where
  pub one : State → Span → List ℕ → List ℕ → ℕ → List Diag
  pub all : State → Span → List ℕ → List ℕ → List ℕ → List Diag
  pub none : (s : State) (span : Span) (words bytes : List ℕ) → all s span words bytes [] ≡ []
  pub next : {k : Context} {s : State} {c d : LowerCtx} {words bytes w b : List ℕ} → Represents k c words bytes s → c.short ≡ false
      → Kept c d words bytes w b → (span : Span) (r : ℕ) (later : List ℕ) → Still words c.records r
      → all (said c words bytes) span words bytes (r ∷ later) ≡ one (said d w b) span w b r
      ++ all (said c words bytes) span words bytes later

-- the reports on a chain of parts, with the span of the property's name
abbrev pub ReportsParts : Parts → Span → ℕ → LowerCtx → LowerCtx → List ℕ → List ℕ → List ℕ → List ℕ → Type 0
ReportsParts parts span first c d words bytes w b =
    Reports c d words bytes w b (chain_of words first) (parts.all (said c words bytes) span words bytes (chain_of words first))

-- the place of a reference's label: an empty one where it names none
abbrev pub target_place : List ℕ → ℕ → PathAt
target_place words r =
    cond (eqb (n_of words r) 1) (text_place (text_start words r) (text_length words r))
    (cond (eqb (n_of words r) 2) (text_place (text_start words r) (text_length words r))
    (text_place 0 0))
