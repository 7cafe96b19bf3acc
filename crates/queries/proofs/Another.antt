-- Whether a definition is another node that is taken, test by test.
use Prim.Native.Nat.{ℕ}
use mathlib.Core.Path.{◌≡◌, refl}
use mathlib.Core.Bool.{Bool, true, false, cond}
use mathlib.Core.List.{List, []}
use lib.Dec.{eqb}
use Rattle.std.specs.Prelude.{Option}
use Rattle.paths_numbers.specs.meaning.Path.{at_or_under}
use Rattle.short_paths.specs.meaning.Short.{may_mean}
use Rattle.definition_log.specs.meaning.Contents.{Def}
use Rattle.definition_log.specs.meaning.Record.{kind_of, first_text, node_kind}
use Rattle.definition_log.specs.meaning.ReadBack.{def_at}
use Rattle.queries.specs.meaning.Live.{contains_node}
use Rattle.queries.specs.machine.Looked.{another, elsewhere}
use Rattle.queries.proofs.Records.{node_kind_lem}

swapped : (a e : Bool) → cond a e false ≡ cond e a false
swapped true true = refl
swapped true false = refl
swapped false true = refl
swapped false false = refl

-- the tests in the order of the code: the last is a pass over the chain
reordered : (k a e : Bool) → cond k (cond a e false) false ≡ cond k (cond e a false) false
reordered true a e = swapped a e
reordered false a e = refl

pub by_tests_lem : (words bytes : List ℕ) (defs : List Def) (p : List ℕ) (before : Option ℕ) (r : ℕ)
    → another (def_at words bytes) defs p before r
    ≡ cond (eqb (kind_of words r) node_kind)
    (cond (elsewhere (first_text words bytes) before (first_text words bytes r))
    (cond (may_mean p (first_text words bytes r))
    (cond (at_or_under (first_text words bytes r) []) (contains_node (first_text words bytes r) defs) false)
    false)
    false)
    false
unfolding another def_at
by_tests_lem words bytes defs p before r = rw (node_kind_lem words bytes r)
    (reordered (eqb (kind_of words r) node_kind)
    (cond (may_mean p (first_text words bytes r))
    (cond (at_or_under (first_text words bytes r) []) (contains_node (first_text words bytes r) defs) false)
    false)
    (elsewhere (first_text words bytes) before (first_text words bytes r)))
