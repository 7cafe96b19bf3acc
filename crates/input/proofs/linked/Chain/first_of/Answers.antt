-- By the library's search over the records of the chain (Read: first_in).
use mathlib.Core.Path.{refl}
use lib.Dec.{eqb}
use Prim.Native.Nat.{ℕ}
use Rattle.std.proofs.Common.{rules, tests}
use Rattle.std.proofs.lemmas.Iterator.Consumers.{YieldsList-from_first}
use Rattle.std.proofs.lemmas.Iterator.Search.{find_from_yields_List}
use Rattle.input.specs.meaning.Input.{kind_at}
use Rattle.input.specs.machine.ChainLeft.{chain_left}
use Rattle.input.proofs.Read.{first_in}
use Rattle.input.proofs.linked.Chain.first_of.Goals as goal

pub returns : goal.returns
returns c =
    let s = c.args.self in
    let test = λ (n : ℕ). eqb (kind_at s.input.words.now n) c.args.kind in
    first_in s c.args.kind _
    (find_from_yields_List test c.find.new.self _ _ c.find.ensures.ran
    (YieldsList-from_first (λ x. x) chain_left (chain_left s) refl)
    (λ x b q k. search (rules, tests)))
