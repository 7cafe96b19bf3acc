-- What lowering makes of a part of the tree: results, and the diagnostics that it reports on the way, in order.
use Rattle.std.specs.Prelude.{ℕ, List, [], ◌∷◌, ◌++◌}
use Rattle.std.proofs.Math.Option.{Option, some, none}
use Rattle.definition_log.specs.meaning.Contents.{Span, Diag}
use Rattle.input.specs.meaning.Tree.{Tree, text_of, span_of}
use Rattle.paths_numbers.specs.meaning.Code.{macro_undefined}

-- no name span
abbrev pub no_span : Span
no_span = record { from = 0; to = 0 }

-- a diagnostic of lowering
abbrev pub report : ℕ → List ℕ → Span → Diag
report code text span = record { code = code; text = text; span = span; name_span = no_span }

-- code 10: a macro that is not defined, with the macro's text
abbrev pub undefined_macro : Tree → Diag
undefined_macro m = report macro_undefined (text_of m) (span_of m)

-- one result or none
pub record Got (A : Type 0) : Type 0 where
  pub result : Option A
  pub reports : List Diag

abbrev pub found : {A : Type 0} → A → Got A
found a = record { result = some a; reports = [] }

abbrev pub failed : {A : Type 0} → List Diag → Got A
failed ds = record { result = none; reports = ds }

-- any number of results
pub record Made (A : Type 0) : Type 0 where
  pub made : List A
  pub reports : List Diag

abbrev pub one : {A : Type 0} → A → Made A
one a = record { made = a ∷ []; reports = [] }

abbrev pub nothing : {A : Type 0} → List Diag → Made A
nothing ds = record { made = []; reports = ds }

-- one after the other
abbrev pub and_then : {A : Type 0} → Made A → Made A → Made A
and_then x y = record { made = x.made ++ y.made; reports = x.reports ++ y.reports }
