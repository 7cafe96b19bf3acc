-- Rows 4 to 6 by one pass over the records in rising order: what it knows of a record. No public contract cites this; proofs/Rising.antt
-- has that the rows find the same record by it.
use Rattle.std.specs.Prelude.{ℕ, zero, suc, Bool, false, cond, List, eqb}
use Rattle.std.proofs.Math.Option.{Option, some, none}
use Rattle.input.specs.meaning.Input.{kind_at, next_at, child_at, second_at}
use Rattle.input.specs.meaning.Place.{InputPlace, items, child_place, second_place}
use Rattle.input.specs.meaning.Rows.{Visit}

abbrev pub visit : ℕ → InputPlace → ℕ → Visit
visit k place depth = record { number = k; place = place; depth = depth }

-- what is known of record k once record r is looked at, by what was known of r and of k before
unfoldable pub looked : List ℕ → ℕ → ℕ → Option Visit → Option Visit → Option Visit
looked words zero k here before = cond (eqb k (child_at words 0)) (some (visit k items 1)) before
looked words (suc r) k none before = before
looked words (suc r) k (some v) before =
    cond (eqb k (next_at words (suc r))) (some (visit k v.place v.depth))
    (cond (eqb k (child_at words (suc r))) (some (visit k (child_place (kind_at words (suc r))) (suc v.depth)))
    (cond (eqb k (second_at words (suc r))) (some (visit k (second_place (kind_at words (suc r))) (suc v.depth)))
    before))

-- what is known of record k once all records below r are looked at; nothing of a record that no link has led to
unfoldable pub known : List ℕ → ℕ → ℕ → Option Visit
known words zero k = none
known words (suc r) k = looked words r k (known words r r) (known words r k)

-- a test of what is known
abbrev pub finds : (Visit → Bool) → Option Visit → Bool
finds test none = false
finds test (some v) = test v
