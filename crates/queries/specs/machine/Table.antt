-- The later definitions that can take away what is live, held by the hash of their path: in each slot of a table the head of a list, and
-- for each definition a link to the next one of its list. These are the steps of the code, and no part of what the queries mean.
use Rattle.std.specs.Prelude.{ℕ, suc, ◌+◌, ◌*◌, ◌%◌, ◌≤◌, ◌<◌, ◌≡◌, Bool, true, false, cond, List, [], ◌∷◌, eqb, leb, ltb, length, get_or}
use Rattle.paths_numbers.specs.meaning.Text.{same, written}
use Rattle.paths_numbers.specs.meaning.Path.{at_or_under}
use Rattle.definition_log.specs.meaning.Contents.{Def}
use Rattle.definition_log.specs.meaning.Record.{most_records}
use Rattle.definition_log.specs.machine.Limits.{few_records, least_records}
use Rattle.queries.specs.meaning.Kind.{is_deleted_node, is_of_property}
use Rattle.queries.specs.meaning.Live.{overwrites}
use Rattle.queries.specs.declared.later.Taken.{Taken}
use Rattle.queries.specs.declared.later.Taken.TheVariants as T

-- a hash with one byte more
unfoldable pub mixed : ℕ → ℕ → ℕ
mixed h b = h % 16777216 * 33 + b

-- the hash of a text, behind what has the hash h
unfoldable pub hash_from : ℕ → List ℕ → ℕ
hash_from h [] = h
hash_from h (b ∷ s) = hash_from (mixed h b) s

-- how many heads the three tables have
abbrev pub least_heads : ℕ
least_heads = least_records

abbrev pub few_heads : ℕ
few_heads = few_records

abbrev pub many_heads : ℕ
many_heads = most_records

-- the place of a hash in either half of so many heads, and its slot: the odd ones are for deleted nodes
unfoldable pub place_of : ℕ → ℕ → ℕ
place_of room h = cond (ltb room few_heads) (h % 512) (cond (ltb room many_heads) (h % 4096) (h % 32768))

unfoldable pub slot_of : ℕ → Bool → ℕ → ℕ
slot_of room deleted h = place_of room h * 2 + cond deleted 1 0

-- a definition that can take away what is live under a base
unfoldable pub can_take : List ℕ → Def → Bool
can_take base d = cond (is_deleted_node d.value) true (cond (is_of_property d.value) (at_or_under d.path base) false)

-- the slot of a definition, and whether it is in the list of a slot
unfoldable pub slot_at : ℕ → Def → ℕ
slot_at room d = slot_of room (is_deleted_node d.value) (hash_from 0 d.path)

unfoldable pub in_list : List ℕ → ℕ → ℕ → Def → Bool
in_list base room slot d = cond (can_take base d) (eqb (slot_at room d) slot) false

-- the first definition that passes a test, by how many there are from it on; 0 where none passes
unfoldable pub first_of : (ℕ → Def) → (Def → Bool) → List ℕ → ℕ
first_of def test [] = 0
first_of def test (r ∷ later) = cond (test (def r)) (suc (length later)) (first_of def test later)

-- that links lead through the definitions that pass a test: the link of the one with n behind it is at n
pub data Linked (def : ℕ → Def) (test : Def → Bool) (links : List ℕ) : List ℕ → Type 0 where
  ended : Linked def test links []
  more : {r : ℕ} {later : List ℕ} → (test (def r) ≡ true → get_or links (length later) 0 ≡ first_of def test later)
      → Linked def test links later
      → Linked def test links (r ∷ later)

-- that a list holds the definitions that are looked for
pub record Holds (def : ℕ → Def) (wanted : Def → Bool) (links later : List ℕ) (first : ℕ) : Type 0 where
  pub test : Def → Bool
  pub all : (d : Def) → wanted d ≡ true → test d ≡ true
  pub head : first ≡ first_of def test later
  pub linked : Linked def test links later

-- the same as a fact: that there is such a list
abbrev pub Held : (ℕ → Def) → (Def → Bool) → List ℕ → List ℕ → ℕ → Type 0
Held def wanted links later first = ∥ Holds def wanted links later first ∥₁

-- that a table has its heads and links
pub record Table (def : ℕ → Def) (base : List ℕ) (room : ℕ) (heads links later : List ℕ) : Type 0 where
  pub headed : (slot : ℕ) → slot < room → get_or heads slot 0 ≡ first_of def (in_list base room slot) later
  pub linked : (slot : ℕ) → Linked def (in_list base room slot) links later

-- a deleted node with a path
abbrev pub deleted_at : List ℕ → Def → Bool
deleted_at path d = cond (is_deleted_node d.value) (same d.path path) false

-- whether what is taken away is a node
abbrev pub of_node : Taken → Bool
of_node T.Node = true
of_node T.Property = false

-- what takes a node away: a deleted node with its path; and a property: a property or deleted property with its path
abbrev pub takes_at : Taken → List ℕ → Def → Bool
takes_at T.Node path d = deleted_at path d
takes_at T.Property path d = overwrites path d

-- that a table finds every deleted node by its path
pub record Deleted (def : ℕ → Def) (heads links later : List ℕ) : Type 0 where
  pub at : (path : List ℕ) → Held def (deleted_at path) links later (get_or heads (slot_of (length heads) true (hash_from 0 path)) 0)

-- that a table has its heads, and a link for each definition
abbrev pub Sized : List ℕ → List ℕ → List ℕ → Type 0
Sized heads links later = (least_heads ≤ length heads) × (length later ≤ length links)

-- and room for one more, behind which so many are later
abbrev pub RoomForOne : List ℕ → List ℕ → ℕ → Type 0
RoomForOne heads links later = (least_heads ≤ length heads) × (later < length links) × (length links ≤ most_records)

-- that there is room for n definitions in order, for a table of zeros and for the answers
pub record Room (n : ℕ) (order heads links live : List ℕ) : Type 0 where
  pub for_order : n ≤ length order
  pub for_heads : least_heads ≤ length heads
  pub for_links : n ≤ length links
  pub for_live : n ≤ length live
  pub most : length links ≤ most_records
  pub zeros : (slot : ℕ) → slot < length heads → get_or heads slot 0 ≡ 0

-- a list with the answers at its start, if it has room for them
unfoldable pub fitted : List ℕ → List ℕ → List ℕ
fitted list answers = cond (leb (length answers) (length list)) (written list 0 answers) list

-- what is returned and left in the list for these answers: their count, and the list with them
abbrev pub Listed : List ℕ → List ℕ → ℕ → List ℕ → Type 0
Listed before after count answers = (count ≡ length answers) × (after ≡ fitted before answers)
