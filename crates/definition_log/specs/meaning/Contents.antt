-- 01, "Records", output: what a log says, with texts as byte lists and no record numbers. The Rust's names are in mir.rs.
use Rattle.std.specs.Prelude.{ℕ, Bool, List}
use Rattle.paths_numbers.specs.meaning.Reference.{Target}

-- a span: where it starts and where it ends
pub record Span : Type 0 where
  pub from : ℕ
  pub to : ℕ

-- output kinds 11 and 12, in a cell list
pub data Cell : Type 0 where
  number : ℕ → Cell
  reference : Target → Cell

-- output kinds 8, 9 (its width and its cells), 10 and 12
pub data Value : Type 0 where
  string : List ℕ → Value
  cell_list : ℕ → List Cell → Value
  bytestring : List ℕ → Value
  phandle : Target → Value

-- output kinds 1 (its labels, and whether it has an omit mark) to 6
pub data DefValue : Type 0 where
  node : List (List ℕ) → Bool → DefValue
  property : List Value → DefValue
  deleted_node : DefValue
  deleted_property : DefValue
  version : DefValue
  plugin : DefValue

-- a definition
pub record Def : Type 0 where
  pub path : List ℕ
  pub value : DefValue
  pub span : Span
  pub name_span : Span

-- output kind 13: an extension that did not resolve, and its body
pub record Ext : Type 0 where
  pub target : Target
  pub body : List Def
  pub span : Span
  pub name_span : Span

-- output kind 14: a label bound to a node's path
pub record Binding : Type 0 where
  pub label : List ℕ
  pub path : List ℕ
  pub span : Span

-- output kind 15
pub record Diag : Type 0 where
  pub code : ℕ
  pub text : List ℕ
  pub span : Span
  pub name_span : Span
