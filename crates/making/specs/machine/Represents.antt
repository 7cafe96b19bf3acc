-- How the state and the buffers of a log in the making stand to what the log says (State): the relation that every operation keeps. The
-- numbers of records and the starts of texts are in `es` and are seen by no caller.
use Rattle.std.specs.Prelude.{ℕ, ◌+◌, ◌*◌, ◌≤◌, ◌<◌, ◌≡◌, Bool, true, false, cond, List, [], ◌∷◌, ◌++◌, map, length, get_or}
use Rattle.paths_numbers.specs.meaning.Path.{root}
use Rattle.making.specs.declared.ctx.LowerCtx.{LowerCtx}
use Rattle.making.specs.declared.place.PathAt.{PathAt}
use Rattle.making.specs.declared.place.PathAt.TheVariants as P
use Rattle.definition_log.specs.meaning.Contents.{Span, Def, Ext, Diag}
use Rattle.paths_numbers.specs.meaning.Reference.{Target}
use Rattle.making.specs.meaning.State.{State, apart, dropped, extended}
use Rattle.making.specs.machine.Adding.{unbind_at}
use Rattle.definition_log.specs.meaning.ReadBack.{chain_of, Log}
use Rattle.definition_log.specs.meaning.Record.{record_words, log_count, one_of, def_kinds, extension_kind, binding_kind, diagnostic_kind}
use Rattle.definition_log.specs.meaning.Record.{has_children}
use Rattle.definition_log.specs.meaning.Record.{most_bytes}
use Rattle.definition_log.specs.meaning.Sound as Sound
use Rattle.definition_log.specs.meaning.Sound.{kinds_in}
use Rattle.making.specs.machine.Events.{Event, defs_of, exts_of, bindings, diagnostics, post_diagnostics, children_of, in_chain, first}
use Rattle.making.specs.machine.Events.{last, end_of, members, defs_in, binding_of, diag_of, ext_of}
use Rattle.making.specs.machine.Buffers.{Layout}
use Rattle.making.specs.machine.Holding.{Hand, diags_of, Runs}
use Rattle.making.specs.machine.Whole.{At, Making}
use Rattle.definition_log.specs.machine.Good.{good_log}
use Rattle.definition_log.specs.meaning.Written.{Written}

-- a path that a place in the bytes stands for as long as it is needed
pub record Place : Type 0 where
  pub at : PathAt
  pub path : List ℕ

-- a log that waits while a body is lowered into a log of its own: the number of the body's first record, whether the body is kept as an
-- extension (its extensions then stand in the same chain), and the state and what it said when the body was entered
pub record Waiting : Type 0 where
  pub mark : ℕ
  pub keeps : Bool
  pub ctx : LowerCtx
  pub state : State
  pub places : List Place

-- what goes on around the log in hand; while the post checks run, lowering's diagnostics and their first record
pub record Context : Type 0 where
  pub waiting : List Waiting
  pub places : List Place
  pub post : Bool
  pub reported : List Diag
  pub first_report : ℕ

-- a log is known by the number of its body's first record, the main log by 0
abbrev pub log_of : List Waiting → ℕ
log_of [] = 0
log_of (w ∷ ws) = w.mark

-- the log whose chain has the extensions
unfoldable pub exts_log : List Waiting → ℕ
exts_log [] = 0
exts_log (w ∷ ws) = cond w.keeps (exts_log ws) w.mark

-- and what stands in that chain before those of the log in hand
unfoldable pub before : List Waiting → List Ext
before [] = []
before (w ∷ ws) = cond w.keeps (before ws ++ w.state.exts) []

-- the logs in hand: the main log, and those of the bodies that are being lowered
pub data InHand : List Waiting → ℕ → Type 0 where
  main-log : {ws : List Waiting} {l : ℕ} → l ≡ 0 → InHand ws l
  this_log : {w : Waiting} {ws : List Waiting} {l : ℕ} → l ≡ w.mark → InHand (w ∷ ws) l
  log_around : {w : Waiting} {ws : List Waiting} {l : ℕ} → InHand ws l → InHand (w ∷ ws) l

abbrev pub hand_of : Context → Hand
hand_of k = record { log = log_of k.waiting; exts = exts_log k.waiting; post = k.post }

-- the extensions of a chain
unfoldable pub exts_in : ℕ → List Event → List Ext
exts_in x es = map (ext_of es) (members (exts_of x) 1 es)

-- something is so of each record, in a list whose records are numbered from k on
pub data Each (P : ℕ → Event → Type 0) : ℕ → List Event → Type 0 where
  each_none : {k : ℕ} → Each P k []
  each_next : {k : ℕ} {e : Event} {es : List Event} → P k e → Each P (k + 1) es → Each P k (e ∷ es)

-- a record is not there or in another chain
abbrev pub Out : ℕ → ℕ → Event → Type 0
Out c k e = in_chain c e ≡ false

-- the kinds of a record's parts
abbrev pub part_fits : ℕ → ℕ → Bool
part_fits owner kind = one_of kind (kinds_in (Sound.below owner))

-- what sort of chain a record stands in, by its kind: a log's number is not above those of its records, and a part has an owner
pub data Sort (es : List Event) (k : ℕ) (e : Event) : Type 0 where
  is_def : (l : ℕ) → e.chain ≡ defs_of l → l ≤ k → one_of e.kind def_kinds ≡ true → Sort es k e
  is_ext : (x : ℕ) → e.chain ≡ exts_of x → x ≤ k → e.kind ≡ extension_kind → e.log ≤ k → Sort es k e
  is_binding : e.chain ≡ bindings → e.kind ≡ binding_kind → Sort es k e
  is_diag : (post : Bool) → e.chain ≡ diags_of post → e.kind ≡ diagnostic_kind → Sort es k e
  is_part : (r : ℕ) (o : Event) → e.chain ≡ children_of r → At 1 es r o → has_children o.kind ≡ true → part_fits o.kind e.kind ≡ true
      → Sort es k e

-- an extension's body is not the log of this number
abbrev pub OtherBody : ℕ → ℕ → Event → Type 0
OtherBody log k e = (x : ℕ) → e.chain ≡ exts_of x → e.alive ≡ true → e.log ≡ log → ⊥

-- a log that definitions can be added to: the ends of its chains, and what it says; where its extensions stand in another log's chain, none
-- stands in its own
pub record Open (ws : List Waiting) (c : LowerCtx) (es : List Event) (s : State) : Type 0 where
  pub defs_run : Runs (defs_of (log_of ws)) c.defs es
  pub exts_run : Runs (exts_of (exts_log ws)) c.exts es
  pub part_is : c.part ≡ last (children_of c.defs.last) 1 es
  pub cell_is : c.cell ≡ last (children_of c.part) 1 es
  pub defs_say : defs_in (log_of ws) es ≡ s.defs
  pub exts_say : exts_in (exts_log ws) es ≡ before ws ++ s.exts
  pub others : Each (OtherBody (log_of ws)) 1 es
  pub passed : (log_of ws ≡ exts_log ws → ⊥) → Each (Out (exts_of (log_of ws))) 1 es

-- a record of a body stands in no chain of a log outside it, but for the chain of extensions, whose log is x
pub record Inside (mark x : ℕ) (e : Event) : Type 0 where
  pub of_defs : (l : ℕ) → e.chain ≡ defs_of l → mark ≤ l
  pub of_exts : (l : ℕ) → e.chain ≡ exts_of l → (l < mark → l ≡ x) × (mark ≤ e.log)
  pub of_parts : (r : ℕ) → e.chain ≡ children_of r → mark ≤ r

-- a place stands for a path: "/", the empty path, or the text of a definition
pub data Stands (es : List Event) (p : Place) : Type 0 where
  at_root : p.at ≡ P.Root → p.path ≡ root → Stands es p
  at_top : p.at ≡ P.Bytes 0 0 → p.path ≡ [] → Stands es p
  at_definition : (xs : List Event) (e : Event) (ys : List Event) (l : ℕ) → es ≡ xs ++ e ∷ ys → e.alive ≡ true → e.chain ≡ defs_of l
      → p.at ≡ P.Bytes (end_of 0 xs) (length e.text) → p.path ≡ e.text → Stands es p

pub data AllStand (es : List Event) : List Place → Type 0 where
  no_places : AllStand es []
  more_places : {p : Place} {ps : List Place} → Stands es p → AllStand es ps → AllStand es (p ∷ ps)

-- the logs that wait are as they were: the records before each body
pub data Stack : List Waiting → List Event → Type 0 where
  bottom : {es : List Event} → Stack [] es
  above : {w : Waiting} {ws : List Waiting} {es : List Event} (xs ys : List Event) → es ≡ xs ++ ys → w.mark ≡ 1 + length xs
      → (w.keeps ≡ true → log_of ws < w.mark) → Open ws w.ctx xs w.state → AllStand xs w.places
      → Each (λ k e. Inside w.mark (exts_log (w ∷ ws)) e) w.mark ys
      → Stack ws xs → Making (InHand ws) xs → Stack (w ∷ ws) es

-- bindings and diagnostics, of which there is one chain each for all logs
pub record Common (k : Context) (c : LowerCtx) (es : List Event) (s : State) : Type 0 where
  pub binds_run : Runs bindings c.binds es
  pub diags_run : Runs (diags_of k.post) c.diags es
  pub binds_say : map binding_of (members bindings 1 es) ≡ s.binds
  pub diags_say : map diag_of (members (diags_of k.post) 1 es) ≡ s.diags
  pub reports_say : k.post ≡ true → map diag_of (members diagnostics 1 es) ≡ k.reported
  pub reports_first : k.post ≡ true → first diagnostics 1 es ≡ k.first_report
  pub no_post : k.post ≡ false → Each (Out post_diagnostics) 1 es

-- row 7's need is more than there is
pub data TooMuch (words bytes : List ℕ) (s : State) : Type 0 where
  records_over : log_count words < s.records → TooMuch words bytes s
  bytes_over : length bytes < s.bytes → TooMuch words bytes s
  most_over : most_bytes < s.bytes → TooMuch words bytes s

-- the whole: nothing of this is missing, or the need is more than there is
pub data Represents (k : Context) (c : LowerCtx) (words bytes : List ℕ) (s : State) : Type 0 where
  going : (es : List Event) → c.short ≡ false → Layout words bytes c.records c.bytes es → c.records ≡ s.records
      → c.bytes ≡ s.bytes
      → Open k.waiting c es s → Common k c es s → Stack k.waiting es → AllStand es k.places → Each (Sort es) 1 es
      → Making (InHand k.waiting) es → Represents k c words bytes s
  over : c.short ≡ true → TooMuch words bytes s → Represents k c words bytes s

-- an operation from c to d that does to the log what f does to what it says; a state that ran short stays so, and then nothing is written
pub record Steps (c d : LowerCtx) (words bytes w b : List ℕ) (f : State → State) : Type 0 where
  pub steps : (k : Context) (s : State) → Represents k c words bytes s → c.short ≡ false → Represents k d w b (f s)
  pub stays : c.short ≡ true → (d.short ≡ true) × (w ≡ words) × (b ≡ bytes)

-- the same in a state that passes a test
pub record StepsIn (test : State → Bool) (c d : LowerCtx) (words bytes w b : List ℕ) (f : State → State) : Type 0 where
  pub steps : (k : Context) (s : State) → Represents k c words bytes s → c.short ≡ false → test s ≡ true → Represents k d w b (f s)
  pub stays : c.short ≡ true → (d.short ≡ true) × (w ≡ words) × (b ≡ bytes)

-- the last of some record numbers, 0 where there is none
unfoldable pub last_number : List ℕ → ℕ
last_number [] = 0
last_number (n ∷ []) = n
last_number (n ∷ m ∷ l) = last_number (m ∷ l)

-- an operation that takes binding r out of the chain, before which `previous` stands
pub record Unlinks (c d : LowerCtx) (words bytes w b : List ℕ) (previous r : ℕ) : Type 0 where
  pub steps : (k : Context) (s : State) (ns ms : List ℕ) → Represents k c words bytes s → c.short ≡ false
      → chain_of words c.binds.first ≡ ns ++ r ∷ ms
      → previous ≡ last_number ns → Represents k d w b (unbind_at (length ns) s) × (d.short ≡ false)
      × (chain_of w d.binds.first ≡ ns ++ ms)
  pub stays : c.short ≡ true → (d.short ≡ true) × (w ≡ words) × (b ≡ bytes)

-- what goes on around a body that is entered
abbrev pub in_body : Context → LowerCtx → State → Bool → Context
in_body k c s keeps =
    record {
      waiting = record { mark = c.records; keeps = keeps; ctx = c; state = s; places = k.places } ∷ k.waiting;
      places = [];
      post = k.post;
      reported = k.reported;
      first_report = k.first_report;
    }

-- a place more to keep
abbrev pub with_place : Place → Context → Context
with_place p k =
    record { waiting = k.waiting; places = p ∷ k.places; post = k.post; reported = k.reported; first_report = k.first_report }

-- a body entered, with a log of its own; one that is kept is in a log that says something
pub record Enters (c d : LowerCtx) (keeps : Bool) : Type 0 where
  pub enters : (k : Context) (words bytes : List ℕ) (s : State) → (keeps ≡ true → s.defs ≡ [] → ⊥) → Represents k c words bytes s
      → Represents (in_body k c s keeps) d words bytes (apart s)
  pub short : d.short ≡ c.short

-- and left again: dropped, or kept as an extension
pub record LeavesDropped (c d outer : LowerCtx) (words bytes w b : List ℕ) : Type 0 where
  pub leaves : (k : Context) (s t : State) → Represents (in_body k outer s false) c words bytes t → Represents k d w b (dropped s t)

pub record LeavesKept (c d outer : LowerCtx) (words bytes w b : List ℕ) (target : Target) (span name_span : Span) : Type 0 where
  pub leaves : (k : Context) (s t : State) → Represents (in_body k outer s true) c words bytes t
      → Represents k d w b (extended (record { target = target; body = t.defs; span = span; name_span = name_span }) s t)

-- the place of the newest definition's path
pub record Newest (c : LowerCtx) (words : List ℕ) (p : PathAt) : Type 0 where
  pub stands : (k : Context) (bytes : List ℕ) (s : State) (ds : List Def) (d : Def) → Represents k c words bytes s → c.short ≡ false
      → s.defs ≡ ds ++ d ∷ []
      → Represents (with_place (record { at = p; path = d.path }) k) c words bytes s

-- lowering at its start: both buffers are cleared, and the log is empty
abbrev pub at_start : Context
at_start = record { waiting = []; places = []; post = false; reported = []; first_report = 0 }

-- the post checks: lowering's diagnostics are put aside, and those of the checks start
abbrev pub in_checks : LowerCtx → State → Context
in_checks c s = record { waiting = []; places = []; post = true; reported = s.diags; first_report = c.diags.first }

abbrev pub checking : State → State
checking s = record { defs = s.defs; exts = s.exts; binds = s.binds; diags = []; records = s.records; bytes = s.bytes }

pub record StartsChecks (c d : LowerCtx) : Type 0 where
  pub checks : (words bytes : List ℕ) (s : State) → Represents at_start c words bytes s
      → Represents (in_checks c s) d words bytes (checking s)
  pub short : d.short ≡ c.short

-- the log that is written: what the state says, with lowering's diagnostics
abbrev pub log_said : Context → State → Log
log_said k s = record { defs = s.defs; exts = s.exts; binds = s.binds; diags = k.reported; post = s.diags }

-- the end: record 0 is written, and with it the log of one file; a state that ran short leaves the words
pub record Finishes (c : LowerCtx) (words w : List ℕ) (diags : ℕ) : Type 0 where
  pub finishes : (k : Context) (bytes : List ℕ) (s : State) → k.waiting ≡ [] → k.post ≡ true → diags ≡ k.first_report
      → Represents k c words bytes s → c.short ≡ false
      → good_log (log_said k s) ≡ true → Written (0 ∷ []) w bytes s.records s.bytes (log_said k s)
  -- the records made have room in the words, and behind them are zeros
  pub within : (k : Context) (bytes : List ℕ) (s : State) → Represents k c words bytes s → c.short ≡ false
      → c.records * record_words ≤ length w
  pub behind : (k : Context) (bytes : List ℕ) (s : State) → Represents k c words bytes s → c.short ≡ false → (i : ℕ)
      → c.records * record_words ≤ i → get_or w i 0 ≡ 0
  pub same_length : length w ≡ length words
  pub stays : c.short ≡ true → w ≡ words
