-- A chain's records: how many there are, and a test of some of them.
use Prim.Native.Nat.{ℕ, zero, suc, ◌≤◌}
use mathlib.Core.Path.{◌≡◌, refl, ap, ◌∙◌}
use mathlib.Core.Bool.{Bool, true, false, cond, ◌||◌}
use mathlib.Core.List.{List, [], ◌∷◌, map}
use native.Mathlib.Omega.{arith}
use lib.ListN.{length}
use Rattle.std.specs.List.{list_any}
use Rattle.paths_numbers.proofs.Texts.{by_test}
use Rattle.definition_log.specs.meaning.Record.{next_of, leads, log_count, most_records}
use Rattle.definition_log.specs.meaning.ReadBack.{chain_from, chain_of}
use Rattle.paths_numbers.specs.meaning.Lists.{any}
use Rattle.definition_log.proofs.Reached.{count_most as counted_most}

-- a log has at most 65,536 records
pub count_most : (words : List ℕ) → log_count words ≤ most_records
count_most words = counted_most words

-- a chain has no more records than may be left
chain_length : (words : List ℕ) (left r : ℕ) → length (chain_from left words r) ≤ left
unfolding chain_from
chain_length words zero r = omega arith
chain_length words (suc left) r =
    by_test (leads words r)
    (λ t. rw t (omega (arith, chain_length words left (next_of words r))))
    (λ t. rw t (omega arith))

pub chain_most : (words : List ℕ) (r : ℕ) → length (chain_of words r) ≤ log_count words
unfolding chain_of
chain_most words r = chain_length words (log_count words) r

-- a test of some element, as the library has it and as our definitions have it
or_cond : (a b : Bool) → (a || b) ≡ cond a true b
or_cond true b = refl
or_cond false b = refl

pub any_map : {A B : Type 0} (f : B → Bool) (g : A → B) (xs : List A) → list_any (λ x. f (g x)) xs ≡ any f (map g xs)
unfolding any
any_map f g [] = refl
any_map f g (x ∷ xs) = or_cond (f (g x)) (list_any (λ x. f (g x)) xs) ∙ ap (cond (f (g x)) true) (any_map f g xs)
