-- An array of zeros has room for as many as a chain has.
use mathlib.Core.Path.{ap}
use mathlib.Core.Bool.{false}
use native.Mathlib.Omega.{arith}
use Prim.Native.Nat.{ℕ}
use lib.ListN.{length, length-replicate}
use Rattle.definition_log.specs.meaning.ReadBack.{chain_of, def_at}
use Rattle.queries.proofs.Chain.{chain_most}
use Rattle.queries.proofs.Numbers.{history_most}
use Rattle.queries.proofs.history.history_within.Goals as goal

pub history_of-history-requires : goal.history_of-history-requires
history_of-history-requires g c =
    let a = c.args in
    omega (
      arith,
      history_most (def_at a.log.words.now a.log.bytes.now) false a.path.now (chain_of a.log.words.now a.first),
      chain_most a.log.words.now a.first,
      c.requires.room,
      length-replicate {A = ℕ} g.row.N 0,
    )

pub overflow_cast-result : goal.overflow_cast-result
overflow_cast-result g c =
    let a = c.args in
    omega (
      arith,
      history_most (def_at a.log.words.now a.log.bytes.now) false a.path.now (chain_of a.log.words.now a.first),
      chain_most a.log.words.now a.first,
      c.requires.room,
      c.requires.size,
      ap length c.history_of-history.ensures,
    )
