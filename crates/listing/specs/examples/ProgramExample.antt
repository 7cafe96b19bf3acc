-- 01's worked listing from the bytes of its input to the lines that are printed, computed by the checker; and inputs that are cut short.
use Rattle.std.specs.Prelude.{ℕ, ◌≡◌, refl, take}
use mathlib.Core.List.{List, [], ◌∷◌, ◌++◌, flat_map}
use Rattle.paths_numbers.specs.meaning.Text.{same, is_empty, begins, starts_with}
use Rattle.paths_numbers.specs.meaning.Path.{join, at_or_under, strip}
use Rattle.making.specs.meaning.State.{define, bind, emit, bindings_bytes, diags_bytes, texts_bytes}
use Rattle.queries.specs.meaning.Kind.{sets_overlay}
use Rattle.paths_numbers.specs.meaning.Lists.{any}
use Rattle.queries.specs.meaning.Live.{live, is_live, gone}
use Rattle.input.specs.meaning.Tree.{first_of, has}
use Rattle.input.specs.meaning.Name.{name_or_macro, full_name, node_name_span, labels_of}
use Rattle.items.specs.meaning.Lower.{lowered, lower_item, lower_items, lower_node, lower_directive, place_of, opened, label_texts}
use Rattle.post_checks.specs.meaning.Post.{post_checks, check_directives, directives_from, check_references, check_defs, duplicate_labels}
use Rattle.post_checks.specs.meaning.Post.{duplicates_of}
use Rattle.input.specs.meaning.Input.{text_at, second_at, number_at, trees_at, chain_at, description}
use Rattle.lowering.specs.examples.InputExample.{listing_words, listing_text, computed}
use Rattle.lowering.specs.meaning.Lowered.{log_of, records_made, bytes_made, fits_in}
use Rattle.listing.specs.meaning.Listing.{ascii, decimal_of, decimal, span_field, definition_line, label_line, definition_lines}
use Rattle.listing.specs.meaning.Listing.{binding_line, diagnostic_line, listing, refusal_line}
use Rattle.listing.specs.meaning.Program.{word_of, words_of, listed, printed}

-- the bytes of a word below 256
abbrev bytes_of : ℕ → List ℕ
bytes_of w = w ∷ 0 ∷ 0 ∷ 0 ∷ []

-- eight records and two bytes of text
unfoldable pub input : List ℕ
unfolding flat_map
input = bytes_of 8 ++ flat_map bytes_of listing_words ++ listing_text

pub worked : printed input ≡ ascii "D V - 0-9 0-9\nD N / 10-26 10-11\nD N /b 14-23 17-18\nl a\nB a /b 14-16\n.\n"
unfolding input printed listed words_of word_of computed description chain_at trees_at text_at second_at number_at lowered lower_item
    lower_items
    lower_node lower_directive place_of opened label_texts define bind emit labels_of name_or_macro full_name node_name_span first_of has join same
    is_empty post_checks check_directives directives_from check_references check_defs duplicate_labels duplicates_of any sets_overlay live is_live
    gone at_or_under strip begins starts_with log_of records_made bytes_made fits_in bindings_bytes diags_bytes texts_bytes listing flat_map
    definition_lines definition_line label_line binding_line diagnostic_line span_field decimal decimal_of ascii
worked = refl

-- a byte of the records is missing, and there is no count
pub cut : printed (take 259 input) ≡ ascii "R 1 0\n"
unfolding input printed word_of refusal_line decimal decimal_of ascii
cut = refl

pub nothing : printed [] ≡ ascii "R 1 0\n"
unfolding printed word_of refusal_line decimal decimal_of ascii
nothing = refl
