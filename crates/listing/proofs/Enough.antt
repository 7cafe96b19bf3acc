-- No listing of the program is longer than its page.
use Prim.Native.Nat.{ℕ, zero, suc, ◌+◌, ◌*◌, ◌/◌, ◌≤◌}
use mathlib.Core.Path.{◌≡◌, refl}
use mathlib.Core.Bool.{Bool, true, false}
use mathlib.Core.List.{List, [], ◌∷◌, flat_map}
use native.Mathlib.Omega.{arith}
use borrow.Author.Tests.{leb-true}
use lib.Dec.{leb, ltb}
use lib.ListN.{length, replicate, length-append, length-replicate}
use Rattle.paths_numbers.proofs.Texts.{by_test, both}
use Rattle.levels.specs.meaning.Rules.{signed_level}
use Rattle.definition_log.specs.meaning.Contents.{Span, DefValue, node, property, deleted_node, deleted_property, version, plugin, Def}
use Rattle.definition_log.specs.meaning.Contents.{Binding, Diag}
use Rattle.definition_log.specs.meaning.Record.{out_count}
use Rattle.making.specs.meaning.State.{State, part_records, part_bytes, texts_bytes, bindings_bytes}
use Rattle.queries.specs.meaning.Labels.{labels_in}
use Rattle.input.specs.meaning.Input.{description}
use Rattle.input.specs.meaning.Rows.{Verdict, accepted, refused, verdict}
use Rattle.post_checks.specs.meaning.Post.{post_checks}
use Rattle.lowering.specs.meaning.Lowered.{log_of, records_made, bytes_made, fits_in, meaning}
use Rattle.listing.specs.meaning.Listing.{ascii, decimal_of, decimal, span_field, path_field, definition_line, label_line, definition_lines}
use Rattle.listing.specs.meaning.Listing.{binding_line, diagnostic_line, listing, refusal_line}
use Rattle.listing.specs.meaning.Program.{out_length, bytes_length, listed_by, cut_short, words_in, text_in, listed, printed, most_printed}
use Rattle.listing.proofs.Counted.{defs_records, defs_bytes, held_records, held_bytes, lowered_records, lowered_bytes}

-- the fields
digits_most : (k n : ℕ) → length (decimal_of k n) ≤ k
unfolding decimal_of
digits_most zero n = omega arith
digits_most (suc k) n =
    by_test (ltb n 10)
    (λ t. rw t (omega arith))
    (λ t. rw (t, length-append) (omega (arith, digits_most k (n / 10))))

decimal_most : (n : ℕ) → length (decimal n) ≤ 10
unfolding decimal
decimal_most n = digits_most 10 n

span_most : (s : Span) → length (span_field s) ≤ 22
unfolding span_field
span_most s = simp length-append (omega (arith, decimal_most s.from, decimal_most s.to))

path_most : (p : List ℕ) → length (path_field p) ≤ 1 + length p
path_most [] = omega arith
path_most (b ∷ p) = omega arith

-- the lines
label_most : (l : List ℕ) → length (label_line l) ≤ 50 + length l
unfolding label_line ascii
label_most l = simp length-append (omega arith)

labels_most : (ls : List (List ℕ)) → length (flat_map label_line ls) ≤ 50 * length ls + texts_bytes ls
unfolding flat_map texts_bytes
labels_most [] = omega arith
labels_most (l ∷ ls) = simp length-append (omega (arith, label_most l, labels_most ls))

parts_most : (v : DefValue) → length (flat_map label_line (labels_in v)) ≤ 50 * part_records v + part_bytes v
unfolding flat_map
parts_most (node ls o) = labels_most ls
parts_most (property vs) = omega arith
parts_most deleted_node = omega arith
parts_most deleted_property = omega arith
parts_most version = omega arith
parts_most plugin = omega arith

definition_most : (d : Def) → length (definition_lines d) ≤ 50 * (1 + part_records d.value) + (length d.path + part_bytes d.value)
unfolding definition_lines definition_line
definition_most d =
    simp length-append
    (omega (arith, path_most d.path, span_most d.span, span_most d.name_span, parts_most d.value))

definitions_most : (ds : List Def) → length (flat_map definition_lines ds) ≤ 50 * defs_records ds + defs_bytes ds
unfolding flat_map defs_records defs_bytes
definitions_most [] = omega arith
definitions_most (d ∷ ds) = simp length-append (omega (arith, definition_most d, definitions_most ds))

binding_most : (b : Binding) → length (binding_line b) ≤ 50 + (length b.label + length b.path)
unfolding binding_line ascii
binding_most b = simp length-append (omega (arith, span_most b.span))

bindings_most : (bs : List Binding) → length (flat_map binding_line bs) ≤ 50 * length bs + bindings_bytes bs
unfolding flat_map bindings_bytes
bindings_most [] = omega arith
bindings_most (b ∷ bs) = simp length-append (omega (arith, binding_most b, bindings_most bs))

diagnostic_most : (d : Diag) → length (diagnostic_line d) ≤ 50
unfolding diagnostic_line ascii
diagnostic_most d = simp length-append (omega (arith, decimal_most d.code, span_most d.span))

diagnostics_most : (ds : List Diag) → length (flat_map diagnostic_line ds) ≤ 50 * length ds
unfolding flat_map
diagnostics_most [] = omega arith
diagnostics_most (d ∷ ds) = simp length-append (omega (arith, diagnostic_most d, diagnostics_most ds))

refusal_most : (n r : ℕ) → length (refusal_line n r) ≤ 24
unfolding refusal_line ascii
refusal_most n r = simp length-append (omega (arith, decimal_most n, decimal_most r))

-- the log of a state
listing_most : (s : State) → length (listing (log_of s)) ≤ 50 * (held_records s + length (post_checks s)) + held_bytes s + 2
unfolding listing log_of ascii
listing_most s =
    simp length-append
    (omega (arith, definitions_most s.defs, bindings_most s.binds, diagnostics_most s.diags, diagnostics_most (post_checks s)))

-- row 7's limits
fits_limits : (s : State) (o b : List ℕ) → fits_in s o b ≡ true → (records_made s ≤ out_count o) × (bytes_made s ≤ length b)
unfolding fits_in
fits_limits s o b e =
    let h = both (leb (records_made s) (out_count o)) _ e in
    let k = both (leb (records_made s) 65536) _ h.1 in
    (leb-true _ _ h.0, leb-true _ _ (both (leb (bytes_made s) (length b)) _ k.1).0)

fits_most : (s : State) (o b : List ℕ) → length o ≡ out_length → length b ≡ bytes_length → fits_in s o b ≡ true
    → (records_made s ≤ 1024) × (bytes_made s ≤ bytes_length)
fits_most s o b e f h =
    let k = fits_limits s o b h in
    (rw e at k.0, rw f at k.1)

-- words and a text
listed_most : (w t : List ℕ) → length (listed w t) ≤ most_printed
unfolding listed records_made bytes_made
listed_most w t = go (verdict w t) (fits_in (meaning signed_level w t) (replicate out_length 0) (replicate bytes_length 0)) refl
  where
    go : (v : Verdict) (f : Bool) → fits_in (meaning signed_level w t) (replicate out_length 0) (replicate bytes_length 0) ≡ f
        → length (listed_by v f (log_of (meaning signed_level w t))) ≤ most_printed
    go (refused n r) f e = omega (arith, refusal_most n r)
    go accepted true e =
        let h = fits_most (meaning signed_level w t) (replicate out_length 0) (replicate bytes_length 0) (length-replicate {A = ℕ} out_length 0)
        (length-replicate {A = ℕ} bytes_length 0) e in
        omega (
          arith,
          h.0,
          h.1,
          listing_most (meaning signed_level w t),
          lowered_records signed_level (description w t),
          lowered_bytes
              signed_level (description w t),
        )
    go accepted false e = omega (arith, refusal_most 7 0)

-- an input
pub printed_most : (input : List ℕ) → length (printed input) ≤ most_printed
unfolding printed
printed_most input =
    by_test (cut_short input)
    (λ t. rw t (omega (arith, refusal_most 1 0)))
    (λ t. rw t (listed_most (words_in input) (text_in input)))
