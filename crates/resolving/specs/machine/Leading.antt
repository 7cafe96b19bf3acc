-- What the search for where a reference leads answers, as the resolution that it stands for.
use Rattle.std.specs.Prelude.{ℕ, ◌≡◌, Bool, true, false, cond, List, [], ◌∷◌, ◌++◌, eqb, Option as Maybe, Result, Ok, Err, MatchOption}
use Rattle.std.proofs.Math.Option.{Option, some, none}
use Rattle.paths_numbers.specs.meaning.Text.{same}
use Rattle.paths_numbers.specs.meaning.Path.{joined}
use Rattle.paths_numbers.specs.meaning.Reference.{Target}
use Rattle.making.specs.declared.ctx.LowerCtx.{LowerCtx}
use Rattle.definition_log.specs.meaning.Contents.{Span}
use Rattle.making.specs.meaning.State.{State, emit}
use Rattle.definition_log.specs.meaning.Record.{n_of, first_text, second_text}
use Rattle.definition_log.specs.meaning.ReadBack.{chain_of, target_at, read_bindings, read_defs}
use Rattle.making.specs.machine.Represents.{Context, Represents, last_number}
use Rattle.queries.specs.meaning.Kind.{sets_overlay}
use Rattle.paths_numbers.specs.meaning.Lists.{any}
use Rattle.queries.specs.meaning.Live.{contains_node}
use Rattle.input.specs.meaning.Report.{report}
use Rattle.input.specs.machine.PhandleRead.{label_at, path_at, phandle_read}
use Rattle.input.specs.declared.report.Report.{Report}
use Rattle.paths_numbers.specs.declared.phandle.MirPhandleTarget.{MirPhandleTarget}
use Rattle.resolving.specs.meaning.Resolve.{first_binding, Resolution, reaches, missing, live_at, by_label, below_label, resolve}
use Rattle.resolving.specs.declared.resolve.Found.{Found}
use Rattle.resolving.specs.declared.resolve.Leads.{Leads as Led}
use Rattle.resolving.specs.declared.resolve.Leads.TheVariants as R
use Rattle.resolving.specs.declared.resolve.Missing.{Missing}
use Rattle.resolving.specs.declared.resolve.Missing.TheVariants as M
use Rattle.queries.specs.declared.lookup.Lookup.{Lookup}
use Rattle.queries.specs.declared.lookup.Lookup.TheVariants as L
use Rattle.paths_numbers.specs.meaning.Code.{node_not_found, node_ambiguous}

-- where a reference with this label and this path leads
unfoldable pub resolution : List ℕ → List ℕ → List ℕ → List ℕ → Result Led Missing → Resolution
resolution words bytes l p (Ok (R.Bound r)) = reaches (second_text words bytes r)
resolution words bytes l p (Ok (R.BoundPath r)) = reaches (joined (second_text words bytes r) p [])
resolution words bytes l p (Ok R.AtPath) = reaches p
resolution words bytes l p (Ok (R.Node r)) = reaches (first_text words bytes r)
resolution words bytes l p (Err M.NoLabel) = missing 3 l
resolution words bytes l p (Err (M.NoNode code)) = missing code p
resolution words bytes l p (Err (M.NoNodeBelow code r)) = missing code (joined (second_text words bytes r) p [])

-- where a look-up leads, and where it finds its own path; else the code
abbrev pub node_found : Led → Lookup → Result Led ℕ
node_found own L.Exact = Ok own
node_found own (L.Node r) = Ok (R.Node r)
node_found own L.NoNode = Err node_not_found
node_found own L.Several = Err node_ambiguous

-- the label that a reference of a log names, empty where it names none
unfoldable pub target_label : List ℕ → List ℕ → ℕ → List ℕ
target_label words bytes r = cond (eqb (n_of words r) 1) (first_text words bytes r) (cond (eqb (n_of words r) 2) (first_text words bytes r) [])

-- whether a record has this first text: a binding this label, a definition this path
abbrev pub has_text : List ℕ → List ℕ → List ℕ → ℕ → Bool
has_text words bytes t r = same (first_text words bytes r) t

-- the first record of a chain with this first text, and what stands before it
pub record FirstAt (words bytes : List ℕ) (first : ℕ) (t : List ℕ) (number previous : ℕ) : Type 0 where
  pub before : List ℕ
  pub after : List ℕ
  pub chain : chain_of words first ≡ before ++ number ∷ after
  pub previous_is : previous ≡ last_number before
  pub others : any (has_text words bytes t) before ≡ false
  pub has : first_text words bytes number ≡ t

-- what the search for it answers
abbrev pub FirstWith : List ℕ → List ℕ → ℕ → List ℕ → Maybe Found → Type 0
FirstWith words bytes first t o =
    MatchOption o (any (has_text words bytes t) (chain_of words first) ≡ false) (λ f. FirstAt words bytes first t f.number f.previous)

-- a record of a chain
pub record InChain (words : List ℕ) (first r : ℕ) : Type 0 where
  pub before : List ℕ
  pub after : List ℕ
  pub chain : chain_of words first ≡ before ++ r ∷ after

-- the binding by which a reference leads or would lead
abbrev pub bound_by : Result Led Missing → Option ℕ
bound_by (Ok (R.Bound r)) = some r
bound_by (Ok (R.BoundPath r)) = some r
bound_by (Ok R.AtPath) = none
bound_by (Ok (R.Node r)) = none
bound_by (Err M.NoLabel) = none
bound_by (Err (M.NoNode code)) = none
bound_by (Err (M.NoNodeBelow code r)) = some r

-- is one of the log's, the label's first; and at the path by which a reference leads there is a live node, which a definition of the log
-- names where it is another path than the reference's
pub record Leads (words bytes : List ℕ) (binds defs : ℕ) (l p : List ℕ) (v : Result Led Missing) : Type 0 where
  pub there : (r : ℕ) → bound_by v ≡ some r → InChain words binds r
  pub first : (r : ℕ) → bound_by v ≡ some r → first_binding l (read_bindings words bytes binds) ≡ some (second_text words bytes r)
  pub alive : v ≡ Ok R.AtPath → contains_node p (read_defs words bytes defs) ≡ true
  pub named : (r : ℕ) → v ≡ Ok (R.Node r) → InChain words defs r

-- What the functions of resolve.rt answer of a log, by the heads of its chains of bindings and definitions: v stands for where the
-- reference leads, and leads there as above.

-- of a label, whatever path stands beside it
abbrev pub AnswersLabel : List ℕ → List ℕ → ℕ → List ℕ → Result Led Missing → Type 0
AnswersLabel words bytes binds l v =
    ((p : List ℕ) → resolution words bytes l p v ≡ by_label l (first_binding l (read_bindings words bytes binds)))
    × ((p : List ℕ) (defs : ℕ) → Leads words bytes binds defs l p v)

-- of a path below a label
abbrev pub AnswersBelow : List ℕ → List ℕ → ℕ → ℕ → List ℕ → List ℕ → Result Led Missing → Type 0
AnswersBelow words bytes binds defs l p v =
    (resolution words bytes l p v ≡ below_label l p (first_binding l (read_bindings words bytes binds)) (read_defs words bytes defs))
    × Leads words bytes binds defs l p v

-- of a path, whatever label stands beside it
abbrev pub AnswersPath : List ℕ → List ℕ → ℕ → List ℕ → Result Led Missing → Type 0
AnswersPath words bytes defs p v =
    ((l : List ℕ) → resolution words bytes l p v ≡ live_at p (read_defs words bytes defs))
    × ((l : List ℕ) (binds : ℕ) → Leads words bytes binds defs l p v)

-- of the log's reference r
abbrev pub AnswersTarget : List ℕ → List ℕ → ℕ → ℕ → ℕ → Result Led Missing → Type 0
AnswersTarget words bytes binds defs r v =
    (resolution words bytes (target_label words bytes r) (second_text words bytes r) v
    ≡ resolve (target_at words bytes r) (read_bindings words bytes binds) (read_defs words bytes defs))
    × Leads words bytes binds defs (target_label words bytes r) (second_text words bytes r) v

-- of the input's reference r, if it can be read
abbrev pub AnswersPhandle : List ℕ → List ℕ → ℕ → Result MirPhandleTarget Report → List ℕ → List ℕ → ℕ → ℕ → Result Led Missing → Type 0
AnswersPhandle input text r read words bytes binds defs v =
    ((t : Target) → (phandle_read input text r read).result ≡ some t
    → resolution words bytes (label_at input text r) (path_at input text r) v
    ≡ resolve t (read_bindings words bytes binds) (read_defs words bytes defs))
    × Leads words bytes binds defs (label_at input text r) (path_at input text r) v

-- a reference that leads nowhere reported, but in an overlay
pub record ReportsMissing (v : Result Led Missing) (l p : List ℕ) (span : Span) (c d : LowerCtx) (words bytes w b : List ℕ) : Type 0 where
  pub reports : (k : Context) (s : State) (code : ℕ) (text : List ℕ) → Represents k c words bytes s → c.short ≡ false
      → Leads words bytes c.binds.first c.defs.first l p v
      → resolution words bytes l p v ≡ missing code text → Represents k d w b
      (emit (cond (sets_overlay s.defs) [] (report code text span ∷ [])) s)
