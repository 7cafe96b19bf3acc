-- Loop invariant: what is left of the chain gives the page with all of it (Walks: lines_next, lines_end).
use Prim.Native.Nat.{ℕ}
use mathlib.Core.Path.{◌≡◌}
use mathlib.Core.List.{List, flat_map}
use Rattle.definition_log.specs.meaning.Record.{first_text}
use Rattle.definition_log.specs.meaning.ReadBack.{read_labels}
use Rattle.definition_log.specs.machine.ChainLeft.{chain_left}
use Rattle.listing.specs.meaning.Listing.{label_line}
use Rattle.listing.specs.machine.Page.{put}
use Rattle.listing.proofs.lines.put_labels.Given as goal

-- the line of a label's record
abbrev pub label : List ℕ → List ℕ → ℕ → List ℕ
label words bytes r = label_line (first_text words bytes r)

abbrev pub invariant-loop-r : goal.invariant-loop-r
invariant-loop-r l =
    put (flat_map label_line (read_labels l.log.words.now l.log.bytes.now l.first)) l.initial.page
    ≡ put (flat_map (label l.log.words.now l.log.bytes.now) (chain_left l.r-iterator)) l.page
