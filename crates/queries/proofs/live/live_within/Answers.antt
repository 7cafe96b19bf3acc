-- Arrays of zeros have room for as many as a chain has (Table: room_zeros).
use mathlib.Core.Path.{ap}
use native.Mathlib.Omega.{arith}
use lib.ListN.{length}
use Rattle.definition_log.specs.meaning.ReadBack.{def_at}
use Rattle.queries.proofs.Chain.{chain_most}
use Rattle.queries.proofs.Numbers.{live_most}
use Rattle.queries.proofs.Table.{room_zeros}
use Rattle.queries.proofs.live.live_within.Goals as goal

pub live_of-live-requires : goal.live_of-live-requires
live_of-live-requires g c =
    let a = c.args in
    room_zeros g.row.N c.chain_order-order.result.now c.requires.table_size.0 c.requires.table_size.1
    (omega (arith, ap length c.chain_order-order.ensures, chain_most a.log.words.now a.first, c.requires.room))

pub overflow_cast-result : goal.overflow_cast-result
overflow_cast-result g c =
    let a = c.args in
    omega (
      arith,
      ap length c.live_of-live.ensures,
      live_most (def_at a.log.words.now a.log.bytes.now) a.base.now c.chain_order-order.result.now,
      ap length c.chain_order-order.ensures,
      chain_most a.log.words.now a.first,
      c.requires.room,
      c.requires.table_size.1,
    )
