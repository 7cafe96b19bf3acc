-- 01's worked listing meets the contract of lowering: the predicate is not empty. Its input, the log that is written for it, of one file
-- and of three, and number 0; and number 14 behind rows 1 to 6.
use mathlib.Core.Bool.{true}
use mathlib.Core.Path.{◌≡◌, refl, sym}
use mathlib.Core.List.{[], ◌∷◌, ◌++◌}
use Rattle.paths_numbers.specs.meaning.Text.{same, is_empty, begins, starts_with}
use Rattle.paths_numbers.specs.meaning.Path.{join, at_or_under, strip}
use Rattle.levels.specs.meaning.Rules.{signed_level, is_level}
use Rattle.files.specs.meaning.Files.{rises, good_files}
use Rattle.definition_log.specs.meaning.ReadBack.{read_log}
use Rattle.definition_log.specs.examples.RecordExample.{listing, listing_bytes, listing_reads}
use Rattle.definition_log.proofs.WrittenExample.{listing_written}
use Rattle.file_words.proofs.FilesExample.{three_files, listing_of_three, three_written, three_reads}
use Rattle.queries.specs.meaning.Kind.{sets_overlay}
use Rattle.paths_numbers.specs.meaning.Lists.{any}
use Rattle.queries.specs.meaning.Live.{live, is_live, gone}
use Rattle.input.specs.meaning.Tree.{first_of, has}
use Rattle.input.specs.meaning.Name.{name_or_macro, full_name, node_name_span, labels_of}
use Rattle.making.specs.meaning.State.{define, bind, emit, bindings_bytes, diags_bytes, texts_bytes}
use Rattle.items.specs.meaning.Lower.{lowered, lower_item, lower_items, lower_node, lower_directive, place_of, opened, label_texts}
use Rattle.post_checks.specs.meaning.Post.{post_checks, check_directives, directives_from, check_references, check_defs, duplicate_labels}
use Rattle.post_checks.specs.meaning.Post.{duplicates_of}
use Rattle.lowering.specs.meaning.Lowered.{log_of, records_made, bytes_made, fits_in, Lowered, turned_down, no_files, done}
use Rattle.lowering.specs.examples.Example.{items}
use Rattle.lowering.specs.examples.InputExample.{listing_words, listing_text, listing_accepted, listing_read, head, linked, link_own}

-- what the definitions make of the tree, all that is written among it
made_log : log_of (lowered signed_level items) ≡ read_log listing listing_bytes
unfolding log_of lowered lower_item lower_items lower_node lower_directive place_of opened label_texts define bind emit labels_of
    name_or_macro
    full_name node_name_span first_of has join same is_empty post_checks check_directives directives_from check_references check_defs duplicate_labels
    duplicates_of any sets_overlay live is_live gone at_or_under strip begins starts_with
made_log = sym listing_reads

made_records : records_made (lowered signed_level items) ≡ 6
unfolding records_made lowered lower_item lower_items lower_node lower_directive place_of opened label_texts define bind emit labels_of
    name_or_macro
    full_name node_name_span first_of has join same is_empty post_checks check_directives directives_from check_references check_defs duplicate_labels
    duplicates_of any sets_overlay live is_live gone at_or_under strip begins starts_with
made_records = refl

made_bytes_lem : bytes_made (lowered signed_level items) ≡ 7
unfolding bytes_made lowered lower_item lower_items lower_node lower_directive place_of opened label_texts define bind emit bindings_bytes
    diags_bytes texts_bytes labels_of name_or_macro full_name node_name_span first_of has join same is_empty post_checks check_directives directives_from
    check_references check_defs duplicate_labels duplicates_of any sets_overlay live is_live gone at_or_under strip begins starts_with
made_bytes_lem = refl

fits : fits_in (lowered signed_level items) listing listing_bytes ≡ true
unfolding fits_in
fits = rw (made_records, made_bytes_lem) refl

-- lowered into buffers that held the same before
pub listing_lowered : Lowered signed_level (0 ∷ []) listing_words listing_text listing listing_bytes (record { number = 0; returned = 0 })
    listing listing_bytes
unfolding is_level good_files rises
listing_lowered =
    done refl listing_accepted refl (rw listing_read fits) refl refl refl
    (rw (listing_read, made_records, made_bytes_lem, made_log) listing_written)

-- the same of three files, which start at 0, 11 and 17 (FilesExample)
pub listing_of_three_lem : Lowered signed_level three_files listing_words listing_text listing_of_three listing_bytes
    (record { number = 0; returned = 0 })
    listing_of_three listing_bytes
unfolding is_level good_files rises fits_in
listing_of_three_lem =
    done refl listing_accepted refl (rw (listing_read, made_records, made_bytes_lem) refl) refl refl refl
    (rw (listing_read, made_records, made_bytes_lem, made_log, ← three_reads) three_written)

-- no file: 14, and all is left
pub no_files_lem : Lowered signed_level [] listing_words listing_text listing listing_bytes (record { number = 14; returned = 0 }) listing
    listing_bytes
unfolding is_level good_files
no_files_lem = no_files refl listing_accepted refl refl refl refl

-- a broken link and no file: 2 comes first
pub links_first : Lowered signed_level [] (head ++ linked 4 1 0 0) [] listing listing_bytes (record { number = 2; returned = 1 }) listing
    listing_bytes
unfolding is_level
links_first = turned_down refl link_own refl refl refl
