-- Row 7 by the log in hand: where it did not run short, all that is made fits in the buffers, and where it did, it does not.
use Prim.Native.Nat.{ℕ, ◌≤◌}
use mathlib.Core.Path.{◌≡◌, refl}
use mathlib.Core.Bool.{true, false}
use mathlib.Core.List.{List}
use native.Mathlib.Omega.{arith}
use borrow.Author.Tests.{leb-true, leb-false, le-leb}
use lib.Dec.{leb}
use lib.ListN.{length}
use Rattle.paths_numbers.proofs.Texts.{by_test, not_both, is_false, both}
use Rattle.making.specs.declared.ctx.LowerCtx.{LowerCtx}
use Rattle.making.specs.meaning.State.{State, emit}
use Rattle.definition_log.specs.meaning.Record.{out_count, log_count, most_records, most_bytes}
use Rattle.making.specs.machine.Represents.{Context, TooMuch, records_over, bytes_over, most_over, Represents, going, over, checking}
use Rattle.making.proofs.Layouts.{count_most}
use Rattle.post_checks.specs.meaning.Post.{post_checks}
use Rattle.lowering.specs.meaning.Lowered.{records_made, bytes_made, fits_in}
use Rattle.resolving.proofs.Lowers.{need_of}

-- a log's records: no more than the words hold, and no more than 65,536
count_whole : (w : List ℕ) → log_count w ≤ out_count w
unfolding log_count
count_whole w =
    by_test (leb (out_count w) most_records) (λ t. rw t (omega arith)) (λ t. rw t (omega (arith, leb-false (out_count w) most_records t)))

count_least : (w : List ℕ) (n : ℕ) → n ≤ out_count w → n ≤ most_records → n ≤ log_count w
unfolding log_count
count_least w n a b = by_test (leb (out_count w) most_records) (λ t. rw t a) (λ t. rw t b)

-- what row 7 asks, by its numbers
record Room (s : State) (out bytes : List ℕ) : Type 0 where
  records : records_made s ≤ out_count out
  records_most : records_made s ≤ most_records
  bytes_fit : bytes_made s ≤ length bytes
  bytes_most : bytes_made s ≤ most_bytes

room_fits : {s : State} {out bytes : List ℕ} → Room s out bytes → fits_in s out bytes ≡ true
unfolding fits_in
room_fits r = rw (le-leb _ _ r.records, le-leb _ _ r.records_most, le-leb _ _ r.bytes_fit, le-leb _ _ r.bytes_most) refl

fits_room : {s : State} {out bytes : List ℕ} → fits_in s out bytes ≡ true → Room s out bytes
unfolding fits_in
fits_room {s} {out} {bytes} t =
    let a = both (leb (records_made s) (out_count out)) _ t in
    let b = both (leb (records_made s) most_records) _ a.1 in
    let c = both (leb (bytes_made s) (length bytes)) _ b.1 in
    record {
      records = leb-true _ _ a.0;
      records_most = leb-true _ _ b.0;
      bytes_fit = leb-true _ _ c.0;
      bytes_most = leb-true _ _ c.1;
    }

-- the log after the post checks, in buffers as long as those that were lent
module _ (s : State) (out₀ bytes₀ : List ℕ) {k : Context} {c : LowerCtx} {out bytes : List ℕ} (words : length out ≡ length out₀)
    (size : length bytes ≡ length bytes₀)
    (h : Represents k c out bytes (emit (post_checks s) (checking s))) where
  pub fits : c.short ≡ false → fits_in s out₀ bytes₀ ≡ true
  unfolding emit records_made bytes_made
  fits n = room_fits (go h)
    where
      go : Represents k c out bytes (emit (post_checks s) (checking s)) → Room s out₀ bytes₀
      go (over z m) = absurd (not_both z n)
      go (going es z l cr cb o m st ps ss mk) =
          let r : records_made s ≤ log_count out = omega (arith, cr, l.records_are, l.records_fit) in
          let b : bytes_made s ≤ length bytes = omega (arith, cb, l.used_are, l.bytes_fit) in
          record {
            records = omega (arith, r, count_whole out, words);
            records_most = omega (arith, r, count_most out);
            bytes_fit = omega (arith, b, size);
            bytes_most = omega (arith, cb, l.used_are, l.bytes_most);
          }

  pub fits_not : c.short ≡ true → fits_in s out₀ bytes₀ ≡ false
  unfolding emit records_made bytes_made
  fits_not n = is_false (fits_in s out₀ bytes₀) (λ t. clash (fits_room t) (need_of h n))
    where
      clash : Room s out₀ bytes₀ → TooMuch out bytes (emit (post_checks s) (checking s)) → ⊥
      clash r (records_over m) = omega (arith, m, count_least out (records_made s) (omega (arith, r.records, words)) r.records_most)
      clash r (bytes_over m) = omega (arith, m, r.bytes_fit, size)
      clash r (most_over m) = omega (arith, m, r.bytes_most)
