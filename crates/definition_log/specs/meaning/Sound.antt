-- 01, row 8: "output rules broken (16 words each, links inside the log in either direction, no record reached twice, texts as in 3, kinds
-- and spans as in 4, definition and binding paths as in 9 but nonempty; a version or plugin path may be empty)", of any words and bytes
-- that a caller lends. Only what stands in these brackets is tested: not record 0's counts, not words that a kind does not name, N or
-- codes, and not whether texts share bytes.
use Rattle.std.specs.Prelude.{ℕ, zero, suc, ◌+◌, ◌-◌, ◌*◌, ◌%◌, Bool, true, false, not, cond, List, [], ◌∷◌, ◌++◌, eqb, leb, ltb, length}
use Rattle.paths_numbers.specs.meaning.Text.{is_empty}
use Rattle.paths_numbers.specs.meaning.Path.{good_path}
use Rattle.definition_log.specs.meaning.Record.{record_words, kind_of, next_of, text_start, text_length, second_start, second_length}
use Rattle.definition_log.specs.meaning.Record.{child_of, m_of}
use Rattle.definition_log.specs.meaning.Record.{span_start, span_end, name_start, name_end, first_def, first_ext, first_bind, first_diag}
use Rattle.definition_log.specs.meaning.Record.{first_post}
use Rattle.definition_log.specs.meaning.Record.{node_kind, property_kind, version_kind, plugin_kind, label_kind, string_kind}
use Rattle.definition_log.specs.meaning.Record.{cell_list_kind}
use Rattle.definition_log.specs.meaning.Record.{bytestring_kind, number_kind, reference_kind, extension_kind, binding_kind, diagnostic_kind}
use Rattle.definition_log.specs.meaning.Record.{one_of}
use Rattle.definition_log.specs.meaning.Record.{def_kinds, has_children, has_span, has_name_span, first_text, second_text, log_count, leads}
use Rattle.definition_log.specs.meaning.Record.{leads_out}

-- where a record stands: the chain that leads to it
pub data Place : Type 0 where
  definitions : Place
  extensions : Place
  bindings : Place
  diagnostics : Place
  labels : Place
  values : Place
  cells : Place
  references : Place
  nowhere : Place

-- the kinds that fit a chain; an extension's body is a chain of definitions, both chains of diagnostics are alike, the chain below an
-- extension, which may be empty, has references, and none fits below a kind without children
abbrev pub kinds_in : Place → List ℕ
kinds_in definitions = def_kinds
kinds_in extensions = extension_kind ∷ []
kinds_in bindings = binding_kind ∷ []
kinds_in diagnostics = diagnostic_kind ∷ []
kinds_in labels = label_kind ∷ []
kinds_in values = string_kind ∷ cell_list_kind ∷ bytestring_kind ∷ reference_kind ∷ []
kinds_in cells = number_kind ∷ reference_kind ∷ []
kinds_in references = reference_kind ∷ []
kinds_in nowhere = []

-- the chain below a record
abbrev pub below : ℕ → Place
below k =
    cond (eqb k node_kind) labels
    (cond (eqb k property_kind) values
    (cond (eqb k cell_list_kind) cells
    (cond (eqb k extension_kind) references
    nowhere)))

-- a link: the record that it leads to, and where that stands
pub record Link : Type 0 where
  pub to : ℕ
  pub place : Place

-- the link that a word is: none where it is 0 or leads out of the log
unfoldable pub link_to : List ℕ → ℕ → Place → List Link
link_to words r place = cond (leads words r) (record { to = r; place = place } ∷ []) []

-- record 0's links
unfoldable pub head_links : List ℕ → List Link
head_links words =
    link_to words (first_def words) definitions
    ++ link_to words (first_ext words) extensions
    ++ link_to words (first_bind words) bindings
    ++ link_to words (first_diag words) diagnostics
    ++ link_to words (first_post words) diagnostics

-- "Links (next, child, … M of output kind 13)": those of the record that a link leads to; next stays in its chain, and child is one
-- whatever the kind
unfoldable pub links_of : List ℕ → Link → List Link
links_of words l =
    link_to words (next_of words l.to) l.place
    ++ link_to words (child_of words l.to) (below (kind_of words l.to))
    ++ cond (eqb (kind_of words l.to) extension_kind) (link_to words (m_of words l.to) definitions) []

-- the records that links lead to
unfoldable pub targets : List Link → List ℕ
targets [] = []
targets (l ∷ ls) = l.to ∷ targets ls

-- how often a number is in a list
unfoldable pub times : ℕ → List ℕ → ℕ
times r [] = 0
times r (a ∷ l) = cond (eqb a r) 1 0 + times r l

-- The links that are followed from those that wait, in order: the links of a record that is met for the first time wait behind the others.
-- `met` has the records that were met before, and `left` bounds the number of links.
unfoldable pub walk : ℕ → List ℕ → List ℕ → List Link → List Link
walk zero words met waiting = []
walk (suc left) words met [] = []
walk (suc left) words met (l ∷ waiting) =
    l ∷ walk left words (l.to ∷ met) (waiting ++ cond (eqb (times l.to met) 0) (links_of words l) [])

-- record 0 has five links and every other record up to three
abbrev pub most_links : List ℕ → ℕ
most_links words = 5 + 3 * log_count words

-- All links of record 0 and of the records that links lead to, each once, also those below records at fault. A record to which two of them
-- lead is at fault; only for what follows it does the order matter: that counts as part of the chain in which the record was met first.
unfoldable pub followed : List ℕ → List Link
followed words = walk (most_links words) words [] (head_links words)

-- how many of the links lead to a record, and whether any does
abbrev pub times_reached : List Link → ℕ → ℕ
times_reached links r = times r (targets links)

abbrev pub is_reached : List ℕ → ℕ → Bool
is_reached words r = leb 1 (times_reached (followed words) r)

-- whether one of several things is so
unfoldable pub any_of : List Bool → Bool
any_of [] = false
any_of (t ∷ ts) = cond t true (any_of ts)

-- "links inside the log in either direction": those of record 0, and those of another record; a child word of a kind that has no children
-- must be 0, and M is a link in extensions only
unfoldable pub heads_out : List ℕ → Bool
heads_out words =
    any_of
    (leads_out words (first_def words)
    ∷ leads_out words (first_ext words)
    ∷ leads_out words (first_bind words)
    ∷ leads_out words (first_diag words)
    ∷ leads_out words (first_post words)
    ∷ [])

unfoldable pub links_out : List ℕ → ℕ → Bool
links_out words r =
    any_of
    (leads_out words (next_of words r)
    ∷ cond (has_children (kind_of words r)) (leads_out words (child_of words r)) (not (eqb (child_of words r) 0))
    ∷ cond (eqb (kind_of words r) extension_kind) (leads_out words (m_of words r)) false
    ∷ [])

-- "no record reached twice"
abbrev pub reached_twice : List Link → ℕ → Bool
reached_twice links r = leb 2 (times_reached links r)

-- "kinds … as in 4": one that does not fit the chain of a link that leads to the record
unfoldable pub unfit : List ℕ → List Link → ℕ → Bool
unfit words [] r = false
unfit words (l ∷ ls) r = cond (cond (eqb l.to r) (not (one_of (kind_of words r) (kinds_in l.place))) false) true (unfit words ls r)

-- "texts as in 3": both texts of every record, whatever its kind, also empty ones
abbrev pub text_out : List ℕ → ℕ → ℕ → Bool
text_out bytes start size = ltb (length bytes) (start + size)

unfoldable pub texts_out : List ℕ → List ℕ → ℕ → Bool
texts_out words bytes r =
    cond (text_out bytes (text_start words r) (text_length words r)) true (text_out bytes (second_start words r) (second_length words r))

-- "spans as in 4": an end before its start, of the spans that the kind has
unfoldable pub spans_reversed : List ℕ → ℕ → Bool
spans_reversed words r =
    cond (cond (has_span (kind_of words r)) (ltb (span_end words r) (span_start words r)) false) true
    (cond (has_name_span (kind_of words r)) (ltb (name_end words r) (name_start words r)) false)

-- "definition and binding paths as in 9 but nonempty; a version or plugin path may be empty", in extension bodies too; a label may be empty
abbrev pub nonempty_path : List ℕ → Bool
nonempty_path p = cond (is_empty p) false (good_path p)

unfoldable pub path_wrong : List ℕ → List ℕ → ℕ → Bool
path_wrong words bytes r =
    cond (one_of (kind_of words r) (version_kind ∷ plugin_kind ∷ [])) (not (good_path (first_text words bytes r)))
    (cond (one_of (kind_of words r) def_kinds) (not (nonempty_path (first_text words bytes r)))
    (cond (eqb (kind_of words r) binding_kind) (not (nonempty_path (second_text words bytes r)))
    false))

-- whether a record that links lead to is at fault
unfoldable pub record_fault : List ℕ → List ℕ → List Link → ℕ → Bool
record_fault words bytes links r =
    any_of
    (links_out words r
    ∷ reached_twice links r
    ∷ texts_out words bytes r
    ∷ unfit words links r
    ∷ spans_reversed words r
    ∷ path_wrong words bytes r
    ∷ [])

-- "look only at records reached from record 0"
unfoldable pub at_fault : List ℕ → List ℕ → List Link → ℕ → Bool
at_fault words bytes links r = cond (leb 1 (times_reached links r)) (record_fault words bytes links r) false

-- the output rules kept, or broken, with the record that is returned
pub data Soundness : Type 0 where
  sound : Soundness
  broken : ℕ → Soundness

-- "First means lowest number": of so many records from r on
unfoldable pub first_fault : ℕ → List ℕ → List ℕ → List Link → ℕ → Soundness
first_fault zero words bytes links r = sound
first_fault (suc left) words bytes links r = cond (at_fault words bytes links r) (broken r) (first_fault left words bytes links (r + 1))

-- the lowest record that is at fault: record 0 for its links alone, then the others
unfoldable pub lowest_fault : List ℕ → List ℕ → Soundness
lowest_fault words bytes = cond (heads_out words) (broken 0) (first_fault (log_count words - 1) words bytes (followed words) 1)

-- "a wrong word count returns 0": none, or no multiple of 16
abbrev pub wrong_count : List ℕ → Bool
wrong_count words = cond (eqb (length words) 0) true (not (eqb (length words % record_words) 0))

unfoldable pub soundness : List ℕ → List ℕ → Soundness
soundness words bytes = cond (wrong_count words) (broken 0) (lowest_fault words bytes)
