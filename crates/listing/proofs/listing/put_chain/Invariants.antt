-- Loop invariant: what is left of the chain gives the page with all of it (Walks: lines_next, lines_end).
use mathlib.Core.Path.{◌≡◌}
use mathlib.Core.List.{flat_map}
use Rattle.definition_log.specs.machine.ChainLeft.{chain_left}
use Rattle.listing.specs.machine.Page.{put}
use Rattle.listing.specs.machine.Chains.{chain_lines}
use Rattle.listing.proofs.listing.put_chain.Given as goal

abbrev pub invariant-loop-r : goal.invariant-loop-r
invariant-loop-r g l =
    put (chain_lines g.lines l.place l.log.words.now l.log.bytes.now) l.initial.page
    ≡ put (flat_map (g.lines l.log.words.now l.log.bytes.now) (chain_left l.r-iterator)) l.page
