-- Logs as words and bytes, computed by the checker: 01's worked listing, a log with a record of every other kind, and one broken log for
-- each rule of row 8, with the record that is returned.
use Rattle.std.specs.Prelude.{ℕ, ◌+◌, ◌*◌, false, ◌≡◌, refl, List, [], ◌∷◌, ◌++◌, set}
use Rattle.paths_numbers.specs.meaning.Text.{same, is_empty, starts_with}
use Rattle.paths_numbers.specs.meaning.Path.{good_path, components}
use Rattle.paths_numbers.specs.meaning.Reference.{label, label_path, path}
use Rattle.definition_log.specs.meaning.Contents.{Span, number, reference, string, cell_list, bytestring, phandle, node, property}
use Rattle.definition_log.specs.meaning.Contents.{deleted_node}
use Rattle.definition_log.specs.meaning.Contents.{deleted_property, version, plugin}
use Rattle.definition_log.specs.meaning.Record.{record_words, out_field, one_of, log_count}
use Rattle.definition_log.specs.meaning.ReadBack.{read_log, chain_from, chain_of, target_at, read_labels, cell_at, read_cells, value_at}
use Rattle.definition_log.specs.meaning.ReadBack.{read_values}
use Rattle.definition_log.specs.meaning.ReadBack.{def_value_at, def_at, read_defs, ext_at, read_exts, binding_at, read_bindings, diag_at}
use Rattle.definition_log.specs.meaning.ReadBack.{read_diags}
use Rattle.definition_log.specs.meaning.Sound.{link_to, head_links, links_of, targets, times, walk, followed, any_of, heads_out, links_out}
use Rattle.definition_log.specs.meaning.Sound.{unfit}
use Rattle.definition_log.specs.meaning.Sound.{texts_out, spans_reversed, path_wrong, record_fault, at_fault, first_fault, lowest_fault}
use Rattle.definition_log.specs.meaning.Sound.{Soundness}
use Rattle.definition_log.specs.meaning.Sound.{sound, broken, soundness}

abbrev pub span : ℕ → ℕ → Span
span a b = record { from = a; to = b }

-- 01's worked listing: the version directive, "/", "/b" with its label a, and the binding of a
abbrev pub listing : List ℕ
listing =
    6 ∷ 1 ∷ 0 ∷ 5 ∷ 0 ∷ 7 ∷ 0 ∷ 0 ∷ 0 ∷ 0 ∷ 0 ∷ 0 ∷ 0 ∷ 0 ∷ 0 ∷ 0
    ∷ 5 ∷ 2 ∷ 0 ∷ 0 ∷ 0 ∷ 0 ∷ 0 ∷ 0 ∷ 0 ∷ 0 ∷ 9 ∷ 0 ∷ 9 ∷ 0 ∷ 0 ∷ 0
    ∷ 1 ∷ 3 ∷ 0 ∷ 1 ∷ 0 ∷ 0 ∷ 0 ∷ 0 ∷ 0 ∷ 10 ∷ 26 ∷ 10 ∷ 11 ∷ 0 ∷ 0 ∷ 0
    ∷ 1 ∷ 0 ∷ 1 ∷ 2 ∷ 0 ∷ 0 ∷ 4 ∷ 0 ∷ 0 ∷ 14 ∷ 23 ∷ 17 ∷ 18 ∷ 0 ∷ 0 ∷ 0
    ∷ 7 ∷ 0 ∷ 3 ∷ 1 ∷ 0 ∷ 0 ∷ 0 ∷ 0 ∷ 0 ∷ 0 ∷ 0 ∷ 0 ∷ 0 ∷ 0 ∷ 0 ∷ 0
    ∷ 14 ∷ 0 ∷ 4 ∷ 1 ∷ 5 ∷ 2 ∷ 0 ∷ 0 ∷ 0 ∷ 14 ∷ 16 ∷ 0 ∷ 0 ∷ 0 ∷ 0 ∷ 0
    ∷ []

abbrev pub listing_bytes : List ℕ
listing_bytes = 47 ∷ 47 ∷ 98 ∷ 97 ∷ 97 ∷ 47 ∷ 98 ∷ 0 ∷ []

-- it says what lowering makes of the description
pub listing_reads : read_log listing listing_bytes ≡
    record {
      defs =
          record { path = []; value = version; span = span 0 9; name_span = span 0 9 }
          ∷ record { path = 47 ∷ []; value = node [] false; span = span 10 26; name_span = span 10 11 }
          ∷ record { path = 47 ∷ 98 ∷ []; value = node ((97 ∷ []) ∷ []) false; span = span 14 23; name_span = span 17 18 }
          ∷ [];
      exts = [];
      binds = record { label = 97 ∷ []; path = 47 ∷ 98 ∷ []; span = span 14 16 } ∷ [];
      diags = [];
      post = [];
    }
unfolding read_log read_defs read_exts read_bindings read_diags def_at def_value_at read_labels read_values value_at read_cells cell_at
    target_at ext_at
    binding_at diag_at chain_of chain_from log_count out_field
listing_reads = refl

-- a log with the other kinds: record 1 is a property with the values 2, 3, 6 and 7, of which 3 has the cells 4 and 5; 8 and 9 are
-- deletions; 10 is an extension with the reference 11 and the body 12; 13 is a binding, 14 and 15 are diagnostics of lowering and of the
-- post checks, and no link leads to 16
abbrev pub kinds : List ℕ
kinds =
    16 ∷ 1 ∷ 10 ∷ 13 ∷ 14 ∷ 19 ∷ 15 ∷ 0 ∷ 0 ∷ 0 ∷ 0 ∷ 0 ∷ 0 ∷ 0 ∷ 0 ∷ 0
    ∷ 2 ∷ 8 ∷ 0 ∷ 2 ∷ 0 ∷ 0 ∷ 2 ∷ 0 ∷ 0 ∷ 1 ∷ 9 ∷ 1 ∷ 3 ∷ 0 ∷ 0 ∷ 0
    ∷ 8 ∷ 3 ∷ 2 ∷ 1 ∷ 0 ∷ 0 ∷ 0 ∷ 0 ∷ 0 ∷ 0 ∷ 0 ∷ 0 ∷ 0 ∷ 0 ∷ 0 ∷ 0
    ∷ 9 ∷ 6 ∷ 0 ∷ 0 ∷ 0 ∷ 0 ∷ 4 ∷ 32 ∷ 0 ∷ 0 ∷ 0 ∷ 0 ∷ 0 ∷ 0 ∷ 0 ∷ 0
    ∷ 11 ∷ 5 ∷ 0 ∷ 0 ∷ 0 ∷ 0 ∷ 0 ∷ 5 ∷ 1 ∷ 0 ∷ 0 ∷ 0 ∷ 0 ∷ 0 ∷ 0 ∷ 0
    ∷ 12 ∷ 0 ∷ 3 ∷ 1 ∷ 4 ∷ 1 ∷ 0 ∷ 2 ∷ 0 ∷ 0 ∷ 0 ∷ 0 ∷ 0 ∷ 0 ∷ 0 ∷ 0
    ∷ 10 ∷ 7 ∷ 5 ∷ 2 ∷ 0 ∷ 0 ∷ 0 ∷ 0 ∷ 0 ∷ 0 ∷ 0 ∷ 0 ∷ 0 ∷ 0 ∷ 0 ∷ 0
    ∷ 12 ∷ 0 ∷ 7 ∷ 1 ∷ 0 ∷ 0 ∷ 0 ∷ 1 ∷ 0 ∷ 0 ∷ 0 ∷ 0 ∷ 0 ∷ 0 ∷ 0 ∷ 0
    ∷ 4 ∷ 9 ∷ 8 ∷ 2 ∷ 0 ∷ 0 ∷ 0 ∷ 0 ∷ 0 ∷ 10 ∷ 19 ∷ 10 ∷ 19 ∷ 0 ∷ 0 ∷ 0
    ∷ 3 ∷ 0 ∷ 10 ∷ 1 ∷ 0 ∷ 0 ∷ 0 ∷ 0 ∷ 0 ∷ 20 ∷ 29 ∷ 20 ∷ 29 ∷ 0 ∷ 0 ∷ 0
    ∷ 13 ∷ 0 ∷ 0 ∷ 0 ∷ 0 ∷ 0 ∷ 11 ∷ 0 ∷ 12 ∷ 30 ∷ 49 ∷ 31 ∷ 36 ∷ 0 ∷ 0 ∷ 0
    ∷ 12 ∷ 0 ∷ 0 ∷ 0 ∷ 11 ∷ 2 ∷ 0 ∷ 3 ∷ 0 ∷ 0 ∷ 0 ∷ 0 ∷ 0 ∷ 0 ∷ 0 ∷ 0
    ∷ 6 ∷ 0 ∷ 13 ∷ 1 ∷ 0 ∷ 0 ∷ 0 ∷ 0 ∷ 0 ∷ 40 ∷ 45 ∷ 40 ∷ 45 ∷ 0 ∷ 0 ∷ 0
    ∷ 14 ∷ 0 ∷ 14 ∷ 1 ∷ 15 ∷ 2 ∷ 0 ∷ 0 ∷ 0 ∷ 50 ∷ 52 ∷ 0 ∷ 0 ∷ 0 ∷ 0 ∷ 0
    ∷ 15 ∷ 0 ∷ 17 ∷ 1 ∷ 0 ∷ 0 ∷ 0 ∷ 3 ∷ 0 ∷ 60 ∷ 62 ∷ 0 ∷ 0 ∷ 0 ∷ 0 ∷ 0
    ∷ 15 ∷ 0 ∷ 18 ∷ 1 ∷ 0 ∷ 0 ∷ 0 ∷ 20 ∷ 0 ∷ 60 ∷ 62 ∷ 50 ∷ 52 ∷ 0 ∷ 0 ∷ 0
    ∷ 0 ∷ 0 ∷ 0 ∷ 0 ∷ 0 ∷ 0 ∷ 0 ∷ 0 ∷ 0 ∷ 0 ∷ 0 ∷ 0 ∷ 0 ∷ 0 ∷ 0 ∷ 0
    ∷ []

abbrev pub kinds_bytes : List ℕ
kinds_bytes = 47 ∷ 112 ∷ 115 ∷ 108 ∷ 112 ∷ 1 ∷ 2 ∷ 108 ∷ 47 ∷ 112 ∷ 47 ∷ 47 ∷ 120 ∷ 47 ∷ 108 ∷ 47 ∷ 112 ∷ 108 ∷ 108 ∷ []

pub kinds_reads : read_log kinds kinds_bytes ≡
    record {
      defs =
          record {
            path = 47 ∷ 112 ∷ [];
            value =
                property
                (string (115 ∷ [])
                ∷ cell_list 32 (number 4294967301 ∷ reference (label_path (108 ∷ []) (112 ∷ [])) ∷ [])
                ∷ bytestring (1 ∷ 2 ∷ [])
                ∷ phandle (label (108 ∷ []))
                ∷ []);
            span = span 1 9;
            name_span = span 1 3;
          }
          ∷ record { path = 47 ∷ 112 ∷ []; value = deleted_property; span = span 10 19; name_span = span 10 19 }
          ∷ record { path = 47 ∷ []; value = deleted_node; span = span 20 29; name_span = span 20 29 }
          ∷ [];
      exts =
          record {
            target = path (47 ∷ 120 ∷ []);
            body = record { path = 47 ∷ []; value = plugin; span = span 40 45; name_span = span 40 45 } ∷ [];
            span = span 30 49;
            name_span = span 31 36;
          }
          ∷ [];
      binds = record { label = 108 ∷ []; path = 47 ∷ 112 ∷ []; span = span 50 52 } ∷ [];
      diags = record { code = 3; text = 108 ∷ []; span = span 60 62; name_span = span 0 0 } ∷ [];
      post = record { code = 20; text = 108 ∷ []; span = span 60 62; name_span = span 50 52 } ∷ [];
    }
unfolding read_log read_defs read_exts read_bindings read_diags def_at def_value_at read_labels read_values value_at read_cells cell_at
    target_at ext_at
    binding_at diag_at chain_of chain_from log_count out_field
kinds_reads = refl

-- a log with another value in word i of record r
abbrev pub but : ℕ → ℕ → ℕ → List ℕ → List ℕ
but r i v words = set words (r * record_words + i) v

-- what row 8 says of a log over the bytes above
abbrev pub of_listing : List ℕ → Soundness
of_listing words = soundness words listing_bytes

abbrev pub of_kinds : List ℕ → Soundness
of_kinds words = soundness words kinds_bytes

-- the listing with its definitions in the order 3, 2, 1
abbrev pub downward : List ℕ
downward = but 0 1 3 (but 3 1 2 (but 2 1 1 (but 1 1 0 listing)))

-- record 2 is a deleted property "/p", whose child is record 1, of no kind
abbrev pub stray_child : List ℕ
stray_child =
    3 ∷ 2 ∷ 0 ∷ 0 ∷ 0 ∷ 2 ∷ 0 ∷ 0 ∷ 0 ∷ 0 ∷ 0 ∷ 0 ∷ 0 ∷ 0 ∷ 0 ∷ 0
    ∷ 16 ∷ 0 ∷ 0 ∷ 0 ∷ 0 ∷ 0 ∷ 0 ∷ 0 ∷ 0 ∷ 0 ∷ 0 ∷ 0 ∷ 0 ∷ 0 ∷ 0 ∷ 0
    ∷ 4 ∷ 0 ∷ 0 ∷ 2 ∷ 0 ∷ 0 ∷ 1 ∷ 0 ∷ 0 ∷ 0 ∷ 0 ∷ 0 ∷ 0 ∷ 0 ∷ 0 ∷ 0
    ∷ []

pub record Row8 : Type 0 where
  -- both logs keep the rules
  pub listing_sound : of_listing listing ≡ sound
  pub kinds_sound : of_kinds kinds ≡ sound
  -- "a wrong word count returns 0": no words, a word too many
  pub no_words : of_listing [] ≡ broken 0
  pub odd_words : of_listing (listing ++ 0 ∷ []) ≡ broken 0
  -- a link out of the log faults the record that it is in: a next, a child, the body of an extension, a head in record 0
  pub next_out : of_listing (but 3 1 6 listing) ≡ broken 3
  pub child_out : of_listing (but 3 6 6 listing) ≡ broken 3
  pub body_out : of_kinds (but 10 8 17 kinds) ≡ broken 10
  pub head_out : of_listing (but 0 2 6 listing) ≡ broken 0
  pub post_head_out : of_listing (but 0 6 6 listing) ≡ broken 0
  -- links may lead down
  pub links_down : of_listing downward ≡ sound
  -- a record to which two links lead is at fault: a label of two nodes, a chain with two heads, a loop, a record that is next to itself
  pub shared_label : of_listing (but 2 6 4 listing) ≡ broken 4
  pub two_heads : of_kinds (but 0 4 15 kinds) ≡ broken 15
  pub loop : of_listing (but 3 1 2 listing) ≡ broken 2
  pub own_next : of_listing (but 5 1 5 listing) ≡ broken 5
  -- a child of a kind without children faults its owner and what it leads to, which fits nowhere: the lower of both is returned
  pub childless : of_listing (but 1 6 5 listing) ≡ broken 1
  pub below_childless : of_listing (but 5 6 2 listing) ≡ broken 2
  pub only_below : soundness stray_child (47 ∷ 112 ∷ []) ≡ broken 1
  -- a kind that does not fit its chain: definitions, extensions, bindings, both chains of diagnostics
  pub unfit_def : of_kinds (but 8 0 7 kinds) ≡ broken 8
  pub unfit_ext : of_kinds (but 10 0 1 kinds) ≡ broken 10
  pub unfit_bind : of_kinds (but 13 0 15 kinds) ≡ broken 13
  pub unfit_diag : of_kinds (but 14 0 8 kinds) ≡ broken 14
  pub unfit_post : of_kinds (but 15 0 8 kinds) ≡ broken 15
  -- labels, values, cells, an extension's reference and its body
  pub unfit_label : of_listing (but 4 0 8 listing) ≡ broken 4
  pub unfit_value : of_kinds (but 2 0 11 kinds) ≡ broken 2
  pub unfit_cell : of_kinds (but 4 0 8 kinds) ≡ broken 4
  pub unfit_reference : of_kinds (but 11 0 8 kinds) ≡ broken 11
  pub unfit_body : of_kinds (but 12 0 13 kinds) ≡ broken 12
  -- no kind at all
  pub kind_zero : of_kinds (but 8 0 0 kinds) ≡ broken 8
  pub kind_sixteen : of_kinds (but 8 0 16 kinds) ≡ broken 8
  -- a text out of the bytes, the first and the second, and an empty one of a kind that has none; one that starts at the end is not out
  pub text_out : of_kinds (but 2 3 18 kinds) ≡ broken 2
  pub second_out : of_kinds (but 13 5 5 kinds) ≡ broken 13
  pub empty_out : of_kinds (but 4 2 20 kinds) ≡ broken 4
  pub empty_at_end : of_kinds (but 4 2 19 kinds) ≡ sound
  -- a span that ends before it starts, and a name span; not in kinds that have none
  pub span_reversed : of_kinds (but 13 9 53 kinds) ≡ broken 13
  pub name_reversed : of_kinds (but 1 11 4 kinds) ≡ broken 1
  pub no_name_span : of_kinds (but 13 11 1 kinds) ≡ sound
  pub no_span : of_kinds (but 2 9 1 kinds) ≡ sound
  -- a path that is none of row 9's, of a definition, of one in a body, of a binding
  pub path_bad : of_kinds (but 1 2 1 kinds) ≡ broken 1
  pub body_path_bad : of_kinds (but 12 2 12 kinds) ≡ broken 12
  pub binding_path_bad : of_kinds (but 13 4 14 kinds) ≡ broken 13
  -- an empty path, of a node and of a binding; not of a plugin directive (or of the listing's version directive), and not a binding's label
  pub path_empty : of_listing (but 2 3 0 listing) ≡ broken 2
  pub binding_path_empty : of_kinds (but 13 5 0 kinds) ≡ broken 13
  pub plugin_path_empty : of_kinds (but 12 3 0 kinds) ≡ sound
  pub label_empty : of_kinds (but 13 3 0 kinds) ≡ sound
  -- an extension may have no reference; M is no link of a number, and N is not looked at
  pub no_reference : of_kinds (but 10 6 0 kinds) ≡ sound
  pub any_m : of_kinds (but 4 8 99 kinds) ≡ sound
  pub any_n : of_kinds (but 5 7 99 kinds) ≡ sound
  -- a record that no link leads to is not looked at
  pub not_reached : of_kinds (but 16 0 99 kinds) ≡ sound
  -- of two records at fault the lower, also where it stands below the other
  pub lowest : of_listing (but 3 3 0 (but 1 0 0 downward)) ≡ broken 1

pub row8 : Row8
unfolding soundness lowest_fault first_fault at_fault record_fault path_wrong spans_reversed texts_out unfit links_out heads_out any_of
    followed walk
    times targets links_of head_links link_to log_count one_of out_field good_path components is_empty same starts_with
row8 =
    record {
      listing_sound = refl;
      kinds_sound = refl;
      no_words = refl;
      odd_words = refl;
      next_out = refl;
      child_out = refl;
      body_out = refl;
      head_out = refl;
      post_head_out = refl;
      links_down = refl;
      shared_label = refl;
      two_heads = refl;
      loop = refl;
      own_next = refl;
      childless = refl;
      below_childless = refl;
      only_below = refl;
      unfit_def = refl;
      unfit_ext = refl;
      unfit_bind = refl;
      unfit_diag = refl;
      unfit_post = refl;
      unfit_label = refl;
      unfit_value = refl;
      unfit_cell = refl;
      unfit_reference = refl;
      unfit_body = refl;
      kind_zero = refl;
      kind_sixteen = refl;
      text_out = refl;
      second_out = refl;
      empty_out = refl;
      empty_at_end = refl;
      span_reversed = refl;
      name_reversed = refl;
      no_name_span = refl;
      no_span = refl;
      path_bad = refl;
      body_path_bad = refl;
      binding_path_bad = refl;
      path_empty = refl;
      binding_path_empty = refl;
      plugin_path_empty = refl;
      label_empty = refl;
      no_reference = refl;
      any_m = refl;
      any_n = refl;
      not_reached = refl;
      lowest = refl;
    }
