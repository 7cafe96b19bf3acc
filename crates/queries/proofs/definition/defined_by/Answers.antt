-- By which range of kinds the kind is in.
use native.Mathlib.Omega.{arith}
use Rattle.queries.proofs.Records.{defines_it, undefines_it, leaves_it}
use Rattle.queries.proofs.definition.defined_by.Goals as goal

pub returns-in-1 : goal.returns-in-1
returns-in-1 c =
    let a = c.args in
    defines_it a.log.words.now a.log.bytes.now a.r a.defined _ c.kind_of.ensures (omega arith) (omega arith)

pub returns-in-3 : goal.returns-in-3
returns-in-3 c =
    let a = c.args in
    undefines_it a.log.words.now a.log.bytes.now a.r a.defined _ c.kind_of.ensures (omega arith)
    (omega arith)

pub returns-in_default : goal.returns-in_default
returns-in_default c =
    let a = c.args in
    leaves_it a.log.words.now a.log.bytes.now a.r a.defined _ c.kind_of.ensures (λ h k. omega arith)

pub returns-in_default-2 : goal.returns-in_default-2
returns-in_default-2 c =
    let a = c.args in
    leaves_it a.log.words.now a.log.bytes.now a.r a.defined _ c.kind_of.ensures (λ h k. omega arith)
