-- 01, "Answers", rows 1 to 6: the refusals of an input, each with its number and the record that it returns.
use Rattle.std.specs.Prelude.{ℕ, zero, suc, ◌+◌, ◌*◌, Bool, true, false, not, cond, List, [], ◌∷◌, ◌++◌, eqb, leb, ltb, length}
use Rattle.std.proofs.Math.Option.{Option, some, none}
use Rattle.definition_log.specs.meaning.Answer.{refused_size, refused_link, refused_text, refused_kind, refused_name, refused_depth}
use Rattle.paths_numbers.specs.meaning.Byte.{slash}
use Rattle.paths_numbers.specs.meaning.Lists.{any}
use Rattle.input.specs.meaning.Tree.{name_kind, reference_kind}
use Rattle.input.specs.meaning.Input.{record_words, record_count, field, kind_at, next_at, child_at, text_start_at, text_length_at, w_at}
use Rattle.input.specs.meaning.Input.{span_at, text_at, second_at, number_at}
use Rattle.input.specs.meaning.Place.{InputPlace, items, has_children, child_place, second_place, fits_alone}
use Rattle.input.specs.meaning.GoodName.{good_name}

-- what is said of an input: it is accepted, or refused with a number and what is returned
pub data Verdict : Type 0 where
  accepted : Verdict
  refused : ℕ → ℕ → Verdict

-- "First means lowest number": the lowest of n numbers from r on that a test finds
unfoldable pub lowest : (ℕ → Bool) → ℕ → ℕ → Option ℕ
lowest test zero r = none
lowest test (suc n) r = cond (test r) (some r) (lowest test n (suc r))

-- Row 1: "words not 8 times 1 to 2,048, or text over 65,536 bytes"

abbrev pub most_records : ℕ
most_records = 2048

abbrev pub most_text : ℕ
most_text = 65536

unfoldable pub wrong_size : List ℕ → List ℕ → Bool
wrong_size words text =
    cond (eqb (length words) (record_count words * record_words))
    (cond (leb 1 (record_count words)) (cond (leb (record_count words) most_records) (ltb most_text (length text)) true) true)
    true

-- Row 2: "link not above its own record, past the end, or to one already linked", of every record, reached or not

-- a record's links in order, 0 for one that it does not have
abbrev pub links_of : List ℕ → ℕ → List ℕ
links_of words r = next_at words r ∷ child_at words r ∷ second_at words r ∷ []

-- whether a link of a record below r leads to l
unfoldable pub linked_below : List ℕ → ℕ → ℕ → Bool
linked_below words zero l = false
linked_below words (suc r) l = cond (any (eqb l) (links_of words r)) true (linked_below words r l)

-- "already linked", by a link of a record below r or by an earlier one of r's own
abbrev pub already_linked : List ℕ → ℕ → List ℕ → ℕ → Bool
already_linked words r earlier l = cond (any (eqb l) earlier) true (linked_below words r l)

-- a link l of record r at fault, where r's links before it are `earlier`
unfoldable pub bad_link : List ℕ → ℕ → List ℕ → ℕ → Bool
bad_link words r earlier l =
    cond (eqb l 0) false
    (cond (leb l r) true (cond (leb (record_count words) l) true (already_linked words r earlier l)))

-- a record with a link at fault: "first linking record"
unfoldable pub bad_links : List ℕ → ℕ → Bool
bad_links words r =
    cond (bad_link words r [] (next_at words r)) true
    (cond (bad_link words r (next_at words r ∷ []) (child_at words r)) true
    (bad_link words r (next_at words r ∷ child_at words r ∷ []) (second_at words r)))

unfoldable pub row_two : List ℕ → Option ℕ
row_two words = lowest (bad_links words) (record_count words) 0

-- Row 3: "text past its end", of every record and kind; an empty text has a start too

unfoldable pub bad_text : List ℕ → List ℕ → ℕ → Bool
bad_text words text r = ltb (length text) (text_start_at words r + text_length_at words r)

unfoldable pub row_three : List ℕ → List ℕ → Option ℕ
row_three words text = lowest (bad_text words text) (record_count words) 0

-- Rows 4 to 6 "look only at records reached from record 0"

-- a record come to: its number, where it stands, and how many child, item and value links led to it
pub record Visit : Type 0 where
  pub number : ℕ
  pub place : InputPlace
  pub depth : ℕ

-- the records of a chain with all below them, as their tree is read
unfoldable pub visits : ℕ → List ℕ → InputPlace → ℕ → ℕ → List Visit
visits zero words place depth r = []
visits (suc f) words place depth zero = []
visits (suc f) words place depth (suc r) =
    record { number = suc r; place = place; depth = depth }
    ∷ (visits f words (child_place (kind_at words (suc r))) (suc depth) (child_at words (suc r))
    ++ (visits f words (second_place (kind_at words (suc r))) (suc depth) (second_at words (suc r))
    ++ visits f words place depth (next_at words (suc r))))

-- by row 2 no more links are followed in a row than there are records
unfoldable pub visits_from : List ℕ → InputPlace → ℕ → ℕ → List Visit
visits_from words place depth r = visits (record_count words) words place depth r

-- "reached from record 0", whose child link is the first
unfoldable pub reached : List ℕ → List Visit
reached words = visits_from words items 1 (child_at words 0)

-- the smaller of two numbers, where there are any
abbrev pub smaller : Option ℕ → Option ℕ → Option ℕ
smaller none b = b
smaller (some m) none = some m
smaller (some m) (some n) = cond (leb m n) (some m) (some n)

-- the lowest record that a test finds among the visits
unfoldable pub lowest_of : (Visit → Bool) → List Visit → Option ℕ
lowest_of test [] = none
lowest_of test (v ∷ vs) = smaller (cond (test v) (some v.number) none) (lowest_of test vs)

-- Row 4: "kind unfit for its place, W outside its list, surrogate or above 0x10FFFF, span end before start"; and "A kind with no children …
-- has 0 there, else cause 4"

unfoldable pub unfit : List ℕ → Visit → Bool
unfit words v =
    not
    (cond (fits_alone v.place (kind_at words v.number) (number_at words v.number) (span_at words v.number))
    (cond (has_children (kind_at words v.number)) true (eqb (child_at words v.number) 0))
    false)

-- record 0: "any other word there not zero is cause 4"
unfoldable pub bad_head : List ℕ → Bool
bad_head words = any (λ (i : ℕ). not (eqb (field words 0 i) 0)) (0 ∷ 1 ∷ 3 ∷ 4 ∷ 5 ∷ 6 ∷ 7 ∷ [])

unfoldable pub row_four : List ℕ → Option ℕ
row_four words = cond (bad_head words) (some 0) (lowest_of (unfit words) (reached words))

-- Row 5: "name (5) empty, or it or a name reference holding "/"", whether or not the name counts

abbrev pub holds_slash : List ℕ → Bool
holds_slash s = any (λ (c : ℕ). eqb c slash) s

unfoldable pub bad_name : List ℕ → List ℕ → Visit → Bool
bad_name words text v =
    cond (eqb (kind_at words v.number) name_kind) (not (good_name (text_at words text v.number)))
    (cond (eqb (kind_at words v.number) reference_kind)
    (cond (eqb (w_at words v.number) 0) (holds_slash (text_at words text v.number)) false)
    false)

unfoldable pub row_five : List ℕ → List ℕ → Option ℕ
row_five words text = lowest_of (bad_name words text) (reached words)

-- Row 6: "more than 64 child, item or value links from record 0"

abbrev pub most_links : ℕ
most_links = 64

unfoldable pub too_deep : Visit → Bool
too_deep v = ltb most_links v.depth

unfoldable pub row_six : List ℕ → Option ℕ
row_six words = lowest_of too_deep (reached words)

-- "Each cause is tried over all records before the next"

-- a cause by its number and the record that it found, else what the later causes say
abbrev pub or_else : ℕ → Option ℕ → Verdict → Verdict
or_else cause (some r) later = refused cause r
or_else cause none later = later

unfoldable pub verdict : List ℕ → List ℕ → Verdict
verdict words text =
    cond (wrong_size words text) (refused refused_size 0)
    (or_else refused_link (row_two words)
    (or_else refused_text (row_three words text)
    (or_else refused_kind (row_four words)
    (or_else refused_name (row_five words text)
    (or_else refused_depth (row_six words)
    accepted)))))
