-- By the path's first byte (Fronts: first_none, first_other, first_slash).
use mathlib.Core.Path.{refl, sym}
use native.Mathlib.Omega.{arith}
use Rattle.std.proofs.lemmas.Bool.Decides.{nat_tests}
use Rattle.queries.proofs.Fronts.{first_none, first_other, first_slash, root_hash}
use Rattle.queries.proofs.later.LaterDefs.root_deleted.Goals as goal

pub or_deleted-requires : goal.or_deleted-requires
or_deleted-requires c = sym root_hash

pub returns-in-47 : goal.returns-in-47
returns-in-47 c =
    let f = first_slash c.args.path.now (λ z. omega (arith, z, c.in-47.len_at_least)) (grind (arith, nat_tests)) in
    rw f.0 c.or_deleted.ensures

pub returns-in_default : goal.returns-in_default
returns-in_default c = rw (first_none c.args.path.now (omega (arith, c.in_default.len_below))) refl

pub returns-in_default-2 : goal.returns-in_default-2
returns-in_default-2 c = rw (first_other c.args.path.now (λ e. grind (arith, nat_tests))) refl
