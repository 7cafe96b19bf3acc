-- 01, "Records", output: how a log lies in words, 16 to a record, and in bytes, where its texts are.
use Rattle.std.specs.Prelude.{ℕ, ◌+◌, ◌*◌, ◌/◌, ◌^◌, Bool, true, false, cond, List, [], ◌∷◌, eqb, leb, ltb, length, get_or, take, drop}

-- "16 words each"
abbrev pub record_words : ℕ
record_words = 16

-- word i of record r
unfoldable pub out_field : List ℕ → ℕ → ℕ → ℕ
out_field words r i = get_or words (r * record_words + i) 0

-- "kind, next, text start and length, second text start and length, child, N, M, span, name span, three zeros"
abbrev pub kind_of : List ℕ → ℕ → ℕ
kind_of words r = out_field words r 0

abbrev pub next_of : List ℕ → ℕ → ℕ
next_of words r = out_field words r 1

abbrev pub text_start : List ℕ → ℕ → ℕ
text_start words r = out_field words r 2

abbrev pub text_length : List ℕ → ℕ → ℕ
text_length words r = out_field words r 3

abbrev pub second_start : List ℕ → ℕ → ℕ
second_start words r = out_field words r 4

abbrev pub second_length : List ℕ → ℕ → ℕ
second_length words r = out_field words r 5

abbrev pub child_of : List ℕ → ℕ → ℕ
child_of words r = out_field words r 6

abbrev pub n_of : List ℕ → ℕ → ℕ
n_of words r = out_field words r 7

abbrev pub m_of : List ℕ → ℕ → ℕ
m_of words r = out_field words r 8

abbrev pub span_start : List ℕ → ℕ → ℕ
span_start words r = out_field words r 9

abbrev pub span_end : List ℕ → ℕ → ℕ
span_end words r = out_field words r 10

abbrev pub name_start : List ℕ → ℕ → ℕ
name_start words r = out_field words r 11

abbrev pub name_end : List ℕ → ℕ → ℕ
name_end words r = out_field words r 12

-- 02, request 3: of the three, word 13 has the number of the span's file, and word 14 that of the name span's
abbrev pub span_file : List ℕ → ℕ → ℕ
span_file words r = out_field words r 13

abbrev pub name_file : List ℕ → ℕ → ℕ
name_file words r = out_field words r 14

-- "Record 0: records used …, then first definition, extension, binding, lowering diagnostic, then bytes used, first post-check diagnostic"
abbrev pub records_used : List ℕ → ℕ
records_used words = out_field words 0 0

abbrev pub first_def : List ℕ → ℕ
first_def words = out_field words 0 1

abbrev pub first_ext : List ℕ → ℕ
first_ext words = out_field words 0 2

abbrev pub first_bind : List ℕ → ℕ
first_bind words = out_field words 0 3

abbrev pub first_diag : List ℕ → ℕ
first_diag words = out_field words 0 4

abbrev pub bytes_used : List ℕ → ℕ
bytes_used words = out_field words 0 5

abbrev pub first_post : List ℕ → ℕ
first_post words = out_field words 0 6

-- how many words of record 0 are named; "words not named … are zero"
abbrev pub head_words : ℕ
head_words = 7

-- the kinds by 01's numbers
abbrev pub node_kind : ℕ
node_kind = 1

abbrev pub property_kind : ℕ
property_kind = 2

abbrev pub deleted_node_kind : ℕ
deleted_node_kind = 3

abbrev pub deleted_property_kind : ℕ
deleted_property_kind = 4

abbrev pub version_kind : ℕ
version_kind = 5

abbrev pub plugin_kind : ℕ
plugin_kind = 6

abbrev pub label_kind : ℕ
label_kind = 7

abbrev pub string_kind : ℕ
string_kind = 8

abbrev pub cell_list_kind : ℕ
cell_list_kind = 9

abbrev pub bytestring_kind : ℕ
bytestring_kind = 10

abbrev pub number_kind : ℕ
number_kind = 11

abbrev pub reference_kind : ℕ
reference_kind = 12

abbrev pub extension_kind : ℕ
extension_kind = 13

abbrev pub binding_kind : ℕ
binding_kind = 14

abbrev pub diagnostic_kind : ℕ
diagnostic_kind = 15

-- whether a number is in a list
unfoldable pub one_of : ℕ → List ℕ → Bool
one_of k [] = false
one_of k (a ∷ l) = cond (eqb k a) true (one_of k l)

-- the kinds of definitions
abbrev pub def_kinds : List ℕ
def_kinds = node_kind ∷ property_kind ∷ deleted_node_kind ∷ deleted_property_kind ∷ version_kind ∷ plugin_kind ∷ []

-- "1 node (child labels …), 2 property (child values), … 9 cell list (… child cells), … 13 extension (child reference …)"
abbrev pub has_children : ℕ → Bool
has_children k = one_of k (node_kind ∷ property_kind ∷ cell_list_kind ∷ extension_kind ∷ [])

-- "7 to 12 have no spans, 14 no name span"
abbrev pub has_span : ℕ → Bool
has_span k = cond (one_of k def_kinds) true (one_of k (extension_kind ∷ binding_kind ∷ diagnostic_kind ∷ []))

abbrev pub has_name_span : ℕ → Bool
has_name_span k = cond (one_of k def_kinds) true (one_of k (extension_kind ∷ diagnostic_kind ∷ []))

-- the bytes of a text
abbrev pub text_in : List ℕ → ℕ → ℕ → List ℕ
text_in bytes start size = take size (drop start bytes)

abbrev pub first_text : List ℕ → List ℕ → ℕ → List ℕ
first_text words bytes r = text_in bytes (text_start words r) (text_length words r)

abbrev pub second_text : List ℕ → List ℕ → ℕ → List ℕ
second_text words bytes r = text_in bytes (second_start words r) (second_length words r)

-- how many records the words hold: whole ones only
abbrev pub out_count : List ℕ → ℕ
out_count words = length words / record_words

-- row 7: "65,536 records or 2^24 bytes"
abbrev pub most_records : ℕ
most_records = 65536

abbrev pub most_bytes : ℕ
most_bytes = 2 ^ 24

-- how many of them belong to the log. A larger buffer may be lent, but row 7's limit holds in every log: a link to record 65,536 or above
-- leads out of it, and so does one to a record that is not there.
unfoldable pub log_count : List ℕ → ℕ
log_count words = cond (leb (out_count words) most_records) (out_count words) most_records

-- whether a link leads to a record of the log: "zero ends it", and one at or above the count leads out
abbrev pub leads : List ℕ → ℕ → Bool
leads words r = cond (eqb r 0) false (ltb r (log_count words))

abbrev pub leads_out : List ℕ → ℕ → Bool
leads_out words r = leb (log_count words) r
