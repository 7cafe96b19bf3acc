-- Plain names, as demand 3 has them: each gives a name, and no reference stands beside it.
use Prim.Native.Nat.{ℕ}
use mathlib.Core.Path.{◌≡◌, refl}
use mathlib.Core.Bool.{true, false}
use mathlib.Core.List.{List, ◌∷◌, ◌++◌}
use mathlib.Core.Option.{Option, some, none}
use borrow.Author.Tests.{not-true}
use Rattle.paths_numbers.specs.meaning.Byte.{at_sign}
use Rattle.paths_numbers.proofs.Texts.{by_test, not_both, both}
use Rattle.input.specs.meaning.Tree.{Tree, Trees, text_of, children_of, first_of, has, name_kind, unit_address_kind, reference_kind}
use Rattle.input.specs.meaning.Tree.{slash_kind}
use Rattle.input.specs.meaning.Name.{name_or_macro, addressed, full_name}
use Rattle.two_runs.specs.meaning.TwoRuns.{address_named, plain_name}
use Rattle.input.proofs.GoodNames.{first_none, first_some}

-- a plain name is a name, and no reference stands beside it
pub plain_named : (parts : Trees) → plain_name parts ≡ true → (name : List ℕ) × ((full_name parts).result ≡ some name)
unfolding plain_name full_name name_or_macro
plain_named parts e =
    let h = both (has name_kind parts) _ e in
    let n = first_some name_kind parts h.0 in
    let a = (both (address_named (first_of unit_address_kind parts)) _ h.1).0 in
    go n.0 n.1 (first_of unit_address_kind parts) a
  where
    named : (ts : Trees) (n : Tree) → first_of name_kind ts ≡ some n → (name_or_macro ts).result ≡ some (text_of n)
    named ts n q = rw q refl

    go : (n : Tree) → first_of name_kind parts ≡ some n → (o : Option Tree) → address_named o ≡ true
        → (name : List ℕ) × ((addressed (name_or_macro parts) o).result ≡ some name)
    go n q none a = (text_of n, named parts n q)
    go n q (some u) a =
        let m = first_some name_kind (children_of u) a in
        (text_of n ++ at_sign ∷ text_of m.0, rw (named parts n q, named (children_of u) m.0 m.1) refl)

pub plain_unreferenced : (parts : Trees) → plain_name parts ≡ true → first_of reference_kind parts ≡ none
unfolding plain_name
plain_unreferenced parts e =
    let h = (both (has name_kind parts) _ e).1 in
    let k = (both (address_named (first_of unit_address_kind parts)) _ h).1 in
    first_none reference_kind parts
    (by_test (has slash_kind parts)
    (λ q. absurd (not_both {t = false} (rw q at k) refl))
    (λ q. not-true (has reference_kind parts) (rw q at k)))
