-- Inputs and what is said of them, computed by the checker: 01's worked listing, and for each of rows 1 to 6 refusals with what they
-- return, beside inputs that just pass.
use Rattle.std.specs.Prelude.{ℕ, zero, suc, ◌*◌, true, false, ◌≡◌, refl, List, [], ◌∷◌, ◌++◌, replicate}
use Rattle.paths_numbers.specs.meaning.Text.{is_empty}
use Rattle.paths_numbers.specs.meaning.Lists.{any}
use Rattle.input.specs.meaning.Input.{text_at, second_at, number_at, trees_at, chain_at, description}
use Rattle.input.specs.meaning.Place.{fits, child_place, second_place, has_children, w_fits, fits_alone}
use Rattle.input.specs.meaning.Rows.{Verdict, accepted, refused, verdict, lowest, wrong_size, linked_below, bad_link, bad_links, row_two}
use Rattle.input.specs.meaning.Rows.{bad_text, row_three, visits, visits_from, reached, lowest_of, unfit, bad_head, row_four, bad_name}
use Rattle.input.specs.meaning.Rows.{row_five}
use Rattle.input.specs.meaning.Rows.{too_deep, row_six}
use Rattle.lowering.specs.examples.Example.{items}

-- a record's eight words
abbrev pub words8 : ℕ → ℕ → ℕ → ℕ → ℕ → ℕ → ℕ → ℕ → List ℕ
words8 kind next child start size w from to = kind ∷ next ∷ child ∷ start ∷ size ∷ w ∷ from ∷ to ∷ []

-- record 0, with the first top item
abbrev pub head : List ℕ
head = words8 0 0 1 0 0 0 0 0

-- a record with nothing but a kind, and its next, child and W
abbrev pub linked : ℕ → ℕ → ℕ → ℕ → List ℕ
linked kind next child w = words8 kind next child 0 0 w 0 0

-- a record with a kind, its text and its W
abbrev pub worded : ℕ → ℕ → ℕ → ℕ → List ℕ
worded kind start size w = words8 kind 0 0 start size w 0 0

-- the verdict with all that it computes through: the examples unfold this one
unfoldable pub computed : List ℕ → List ℕ → Verdict
unfolding verdict wrong_size lowest row_two bad_links bad_link linked_below row_three bad_text reached visits_from visits lowest_of row_four
    bad_head
    unfit has_children fits_alone fits w_fits child_place second_place row_five bad_name row_six too_deep text_at second_at number_at any is_empty
computed words text = verdict words text

-- 01's worked listing: a version directive; a root node with a slash, and in it the node b with the label a
abbrev pub listing_words : List ℕ
listing_words =
    head
    ++ words8 3 2 0 0 0 1 0 9
    ++ words8 1 0 3 0 0 4 10 26
    ++ words8 10 0 0 0 0 0 10 11
    ++ words8 1 0 5 0 0 0 14 23
    ++ words8 7 7 6 0 0 0 14 16
    ++ words8 5 0 0 0 1 0 14 15
    ++ words8 5 0 0 1 1 0 17 18

abbrev pub listing_text : List ℕ
listing_text = 97 ∷ 98 ∷ []

pub listing_accepted : verdict listing_words listing_text ≡ accepted
unfolding computed
listing_accepted = refl

pub listing_read : description listing_words listing_text ≡ items
unfolding description chain_at trees_at text_at second_at number_at
listing_read = refl

-- Row 1

pub no_words_lem : verdict [] [] ≡ refused 1 0
unfolding computed
no_words_lem = refl

pub words_over : verdict (words8 0 0 0 0 0 0 0 0 ++ 0 ∷ []) [] ≡ refused 1 0
unfolding computed
words_over = refl

pub largest : wrong_size (replicate (2048 * 8) 0) (replicate 65536 0) ≡ false
unfolding computed
largest = refl

pub record_more : wrong_size (replicate (2049 * 8) 0) [] ≡ true
unfolding computed
record_more = refl

pub byte_more : wrong_size (replicate 8 0) (replicate 65537 0) ≡ true
unfolding computed
byte_more = refl

-- Row 2

-- a link downwards, and one to its own record
pub link_down : verdict (head ++ linked 4 2 0 0 ++ linked 4 1 0 0) [] ≡ refused 2 2
unfolding computed
link_down = refl

pub link_own : verdict (head ++ linked 4 1 0 0) [] ≡ refused 2 1
unfolding computed
link_own = refl

-- a link past the end
pub link_past : verdict (head ++ linked 4 2 0 0) [] ≡ refused 2 1
unfolding computed
link_past = refl

-- records 1 and 2 both lead to 3: the fault is the later one's
pub linked_twice : verdict (head ++ linked 1 3 0 2 ++ linked 1 3 0 0 ++ linked 4 0 0 0) [] ≡ refused 2 2
unfolding computed
linked_twice = refl

-- two links of one record
pub linked_twice_at_once : verdict (head ++ linked 1 2 0 2 ++ linked 4 0 0 0) [] ≡ refused 2 1
unfolding computed
linked_twice_at_once = refl

-- a record that none leads to
pub link_unreached : verdict (head ++ linked 4 0 0 0 ++ linked 1 0 0 1) [] ≡ refused 2 2
unfolding computed
link_unreached = refl

-- Row 3: a text up to the end, one byte past it, an empty one that starts at the end and past it, and no sum that wraps

pub text_to_end : verdict (head ++ worded 4 1 1 0) listing_text ≡ accepted
unfolding computed
text_to_end = refl

pub text_past_end : verdict (head ++ worded 4 1 2 0) listing_text ≡ refused 3 1
unfolding computed
text_past_end = refl

pub empty_at_end_lem : verdict (head ++ worded 4 2 0 0) listing_text ≡ accepted
unfolding computed
empty_at_end_lem = refl

pub empty_past_end : verdict (head ++ worded 4 3 0 0) listing_text ≡ refused 3 1
unfolding computed
empty_past_end = refl

pub text_no_wrap : verdict (head ++ worded 4 4294967295 1 0) listing_text ≡ refused 3 1
unfolding computed
text_no_wrap = refl

-- Row 4

-- record 0 with a span
pub head_span : verdict (words8 0 0 1 0 0 0 0 1 ++ linked 4 0 0 0) [] ≡ refused 4 0
unfolding computed
head_span = refl

-- a name among the items, and a kind that there is not
pub name_as_item : verdict (head ++ worded 5 0 1 0) listing_text ≡ refused 4 1
unfolding computed
name_as_item = refl

pub kind_21 : verdict (head ++ linked 21 0 0 0) [] ≡ refused 4 1
unfolding computed
kind_21 = refl

-- and one that none leads to
pub kind_unreached : verdict (head ++ linked 4 0 0 0 ++ linked 21 0 0 0) [] ≡ accepted
unfolding computed
kind_unreached = refl

-- a directive's W, at both ends of its list; a W that is not named
pub directive_0 : verdict (head ++ linked 3 0 0 0) [] ≡ refused 4 1
unfolding computed
directive_0 = refl

pub directive_6 : verdict (head ++ linked 3 0 0 6) [] ≡ accepted
unfolding computed
directive_6 = refl

pub directive_7 : verdict (head ++ linked 3 0 0 7) [] ≡ refused 4 1
unfolding computed
directive_7 = refl

pub unnamed_w : verdict (head ++ linked 4 0 0 1) [] ≡ refused 4 1
unfolding computed
unnamed_w = refl

-- a slash with a child: the fault is the slash's
pub slash_child : verdict (head ++ linked 1 0 2 0 ++ linked 10 0 3 0 ++ linked 10 0 0 0) [] ≡ refused 4 2
unfolding computed
slash_child = refl

-- a character of this code point, in a property's cell list
abbrev pub character : ℕ → List ℕ
character w = head ++ linked 2 0 0 2 ++ linked 13 0 3 0 ++ linked 16 0 0 w

pub before_surrogates : verdict (character 55295) [] ≡ accepted
unfolding computed
before_surrogates = refl

pub first_surrogate_lem : verdict (character 55296) [] ≡ refused 4 3
unfolding computed
first_surrogate_lem = refl

pub last_surrogate_lem : verdict (character 57343) [] ≡ refused 4 3
unfolding computed
last_surrogate_lem = refl

pub largest_character : verdict (character 1114111) [] ≡ accepted
unfolding computed
largest_character = refl

pub past_characters : verdict (character 1114112) [] ≡ refused 4 3
unfolding computed
past_characters = refl

-- a span that ends before it starts
pub span_back : verdict (head ++ words8 4 0 0 0 0 0 2 1) [] ≡ refused 4 1
unfolding computed
span_back = refl

-- two unfit records: the lower one, though the node's parts come before its items
pub lower_unfit : verdict (head ++ linked 1 0 3 2 ++ linked 21 0 0 0 ++ linked 21 0 0 0) [] ≡ refused 4 2
unfolding computed
lower_unfit = refl

-- Row 5

-- a node with one part, over the text "a/b"
abbrev pub part : ℕ → ℕ → ℕ → List ℕ
part kind size w = head ++ linked 1 0 2 0 ++ worded kind 0 size w

abbrev pub slashed : List ℕ
slashed = 97 ∷ 47 ∷ 98 ∷ []

pub name_plain : verdict (part 5 1 0) slashed ≡ accepted
unfolding computed
name_plain = refl

pub name_slashed : verdict (part 5 3 0) slashed ≡ refused 5 2
unfolding computed
name_slashed = refl

pub name_empty : verdict (part 5 0 0) slashed ≡ refused 5 2
unfolding computed
name_empty = refl

pub reference_slashed : verdict (part 8 3 0) slashed ≡ refused 5 2
unfolding computed
reference_slashed = refl

pub reference_missing : verdict (part 8 0 0) slashed ≡ accepted
unfolding computed
reference_missing = refl

pub reference_raw : verdict (part 8 3 1) slashed ≡ accepted
unfolding computed
reference_raw = refl

-- Row 6

-- nodes in nodes, n of them from record r on, the last with these parts and items
unfoldable pub nest : ℕ → ℕ → ℕ → ℕ → List ℕ
nest zero r parts first = linked 1 0 parts first
nest (suc n) r parts first = linked 1 0 0 (suc r) ++ nest n (suc r) parts first

pub depth_64 : verdict (head ++ nest 63 1 0 0) [] ≡ accepted
unfolding computed nest
depth_64 = refl

pub depth_65 : verdict (head ++ nest 64 1 0 0) [] ≡ refused 6 65
unfolding computed nest
depth_65 = refl

-- two records at 65: the lower one, though the part comes before the item
pub depth_lower : verdict (head ++ nest 63 1 66 65 ++ linked 4 0 0 0 ++ linked 10 0 0 0) [] ≡ refused 6 65
unfolding computed nest
depth_lower = refl

-- next links count none
unfoldable pub row : ℕ → ℕ → List ℕ
row zero r = linked 4 0 0 0
row (suc n) r = linked 4 (suc r) 0 0 ++ row n (suc r)

pub row_of_70 : verdict (head ++ row 69 1) [] ≡ accepted
unfolding computed row
row_of_70 = refl

-- "Each cause is tried over all records before the next": the later record's is the earlier cause

pub row_2_first : verdict (head ++ linked 21 2 0 0 ++ linked 4 1 0 0) [] ≡ refused 2 2
unfolding computed
row_2_first = refl

pub row_3_first : verdict (head ++ linked 21 2 0 0 ++ worded 4 1 0 0) [] ≡ refused 3 2
unfolding computed
row_3_first = refl

pub row_4_first : verdict (head ++ linked 1 3 2 0 ++ worded 5 0 0 0 ++ linked 21 0 0 0) [] ≡ refused 4 3
unfolding computed
row_4_first = refl
