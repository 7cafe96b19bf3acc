-- Loop invariant: what is left of the text gives the page with all of it (Pages: put_next).
use mathlib.Core.Path.{◌≡◌}
use lib.ListN.{drop}
use Rattle.listing.specs.machine.Page.{put}
use Rattle.listing.proofs.page.Page.put_text.Given as goal

abbrev pub invariant-loop-b : goal.invariant-loop-b
invariant-loop-b l = put l.text l.initial.self ≡ put (drop l.b-index l.text) l.self
