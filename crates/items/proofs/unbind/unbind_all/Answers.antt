-- A walk along all bindings (Unbinding).
use mathlib.Core.List.{[]}
use Rattle.items.proofs.Unbinding.{walk_start, unbinds_all, to_the_end}
use Rattle.items.proofs.unbind.unbind_all.Goals as goal

pub returns : goal.returns
returns c =
    let u = c.unbind-all.ensures in
    record {
      unbinds = λ k s p h n at.
          let o = u.walks k s [] p (walk_start h n c.new-binds.ensures at) in
          (unbinds_all o (to_the_end u), o.going);
    }
