-- A log in the making: every record that is there stands in a chain of its kind, and says what 01's rules for writing let its kind say; and
-- one that is complete, all of whose chains start in record 0, and whose spans and paths keep row 8's rules. Not what a reader must
-- believe: what is written then follows from it (proofs/Finished).
use Rattle.std.specs.Prelude.{ℕ, ◌+◌, ◌≤◌, ◌≡◌, Bool, true, false, cond, List, [], ◌∷◌, map, eqb, length}
use Rattle.paths_numbers.specs.meaning.Path.{good_path}
use Rattle.definition_log.specs.meaning.Record.{version_kind, plugin_kind, extension_kind, binding_kind, diagnostic_kind, one_of, def_kinds}
use Rattle.definition_log.specs.meaning.Record.{has_children}
use Rattle.definition_log.specs.meaning.Record.{has_span, has_name_span}
use Rattle.definition_log.specs.meaning.ReadBack.{Log}
use Rattle.definition_log.specs.meaning.Sound.{kinds_in, nonempty_path, below as place_below}
use Rattle.definition_log.specs.meaning.Written.{has_text, has_second_text, has_n, has_m, largest_n}
use Rattle.making.specs.machine.Events.{Event, defs_of, exts_of, bindings, diagnostics, post_diagnostics, children_of, first, members}
use Rattle.making.specs.machine.Events.{below, defs_in, ext_of, binding_of, diag_of}

-- record r is e, in a list whose records are numbered from k on
pub data At : ℕ → List Event → ℕ → Event → Type 0 where
  at_here : {k : ℕ} {e : Event} {es : List Event} → At k (e ∷ es) k e
  at_later : {k r : ℕ} {x e : Event} {es : List Event} → At (k + 1) es r e → At k (x ∷ es) r e

-- record r is e and is still there
pub record There (es : List Event) (r : ℕ) (e : Event) : Type 0 where
  pub at : At 1 es r e
  pub alive : e.alive ≡ true

-- a log whose definitions are, or will be, read back: one in hand, or that of an extension
pub data Logged (hand : ℕ → Type 0) (es : List Event) : ℕ → Type 0 where
  logged_hand : {l : ℕ} → hand l → Logged hand es l
  logged_body : {r : ℕ} {x : Event} → There es r x → x.kind ≡ extension_kind → Logged hand es x.log

-- where record r stands, with these logs in hand: its chain, with a kind that fits it
pub data Stands (hand : ℕ → Type 0) (es : List Event) (r : ℕ) (e : Event) : Type 0 where
  in_defs : {l : ℕ} → Logged hand es l → e.chain ≡ defs_of l → one_of e.kind def_kinds ≡ true → Stands hand es r e
  -- its body is a log that is no longer in hand, and one reference stands below it
  in_exts : {l : ℕ} → hand l → e.chain ≡ exts_of l → e.kind ≡ extension_kind → (hand e.log → ⊥) → e.m ≡ first (defs_of e.log) 1 es
      → length (below es r) ≡ 1 → Stands hand es r e
  in_bindings : e.chain ≡ bindings → e.kind ≡ binding_kind → Stands hand es r e
  in_diagnostics : e.chain ≡ diagnostics → e.kind ≡ diagnostic_kind → Stands hand es r e
  in_post : e.chain ≡ post_diagnostics → e.kind ≡ diagnostic_kind → Stands hand es r e
  in_children : {o : ℕ} {x : Event} → There es o x → e.chain ≡ children_of o → has_children x.kind ≡ true
      → one_of e.kind (kinds_in (place_below x.kind)) ≡ true → Stands hand es r e

-- what a record says: "Words not named for a kind … are zero", and N is one of 01's numbers
pub record Plain (e : Event) : Type 0 where
  pub text : has_text e.kind e.n ≡ false → e.text ≡ []
  pub second : has_second_text e.kind e.n ≡ false → e.second ≡ []
  pub n : has_n e.kind ≡ false → e.n ≡ 0
  pub most : e.n ≤ largest_n e.kind e.n
  pub m : has_m e.kind ≡ false → e.m ≡ 0
  pub span : has_span e.kind ≡ false → (e.from ≡ 0) × (e.to ≡ 0)
  pub name_span : has_name_span e.kind ≡ false → (e.name_from ≡ 0) × (e.name_to ≡ 0)

-- a log in the making, with these logs in hand: every record that is there, and no two extensions with one body
pub record Making (hand : ℕ → Type 0) (es : List Event) : Type 0 where
  pub stands : (r : ℕ) (e : Event) → There es r e → Stands hand es r e
  pub plain : (r : ℕ) (e : Event) → There es r e → Plain e
  pub apart : (r s : ℕ) (e f : Event) → There es r e → There es s f → e.kind ≡ extension_kind → f.kind ≡ extension_kind → e.log ≡ f.log
      → r ≡ s

-- row 8's rules for a record's spans and path
unfoldable pub path_right : Event → Bool
path_right e =
    cond (one_of e.kind (version_kind ∷ plugin_kind ∷ [])) (good_path e.text)
    (cond (one_of e.kind def_kinds) (nonempty_path e.text)
    (cond (eqb e.kind binding_kind) (nonempty_path e.second)
    true))

pub record Right (e : Event) : Type 0 where
  pub span_order : e.from ≤ e.to
  pub name_order : e.name_from ≤ e.name_to
  pub path : path_right e ≡ true

-- a complete one: the main log alone is in hand, and every record that is there keeps these rules
abbrev pub main_log : ℕ → Type 0
main_log l = l ≡ 0

pub record Whole (es : List Event) : Type 0 where
  pub making : Making main_log es
  pub right : (r : ℕ) (e : Event) → There es r e → Right e

-- what its records say
unfoldable pub log_in : List Event → Log
log_in es =
    record {
      defs = defs_in 0 es;
      exts = map (ext_of es) (members (exts_of 0) 1 es);
      binds = map binding_of (members bindings 1 es);
      diags = map diag_of (members diagnostics 1 es);
      post = map diag_of (members post_diagnostics 1 es);
    }
