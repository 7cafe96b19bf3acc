-- What was read gives what the whole input gives (Sizes: first_read), and no text is longer than the page (Enough: printed_most).
use lib.Seq.{length-take-le}
use mathlib.Core.Path.{sym, ◌∙◌}
use native.Mathlib.Omega.{arith}
use Prim.Native.Nat.{ℕ}
use lib.ListN.{take, length-take, replicate, length-replicate}
use Rattle.listing.specs.meaning.Program.{printed, most_printed}
use Rattle.listing.proofs.Pages.{puts_filled, filled_whole}
use Rattle.listing.proofs.Enough.{printed_most}
use Rattle.listing.proofs.Sizes.{first_read}
use Rattle.listing.proofs.list_whole.Goals as goal

pub slice_bounds-list_input-end : goal.slice_bounds-list_input-end
slice_bounds-list_input-end c = simp length-take (omega arith)

pub returns : goal.returns
returns c = let a = c.args in
    let w = filled_whole (replicate most_printed 0) (printed (take a.n a.buffer.now)) _
    (puts_filled (rw c.requires.empty at c.list_input.ensures))
    (omega (arith, printed_most (take a.n a.buffer.now), length-replicate {A = ℕ} most_printed 0)) in
    record {
      in_bounds = omega (arith, w.0, length-replicate {A = ℕ} most_printed 0);
      prefix_len_2 = (w.1, sym (length-take-le _ _ w.1));
      by_index = λ input r. w.2 ∙ first_read input a.buffer.now a.n (omega arith) (omega arith) r;
    }
