-- The steps of the whole lowering one after the other: the empty log, the top items, the post checks, and record 0 and the files'
-- numbers, or cleared buffers.
use Prim.Native.Nat.{ℕ, ◌*◌, ◌≤◌}
use mathlib.Core.Path.{◌≡◌, refl, ap, subst, ◌∙◌}
use mathlib.Core.Bool.{true, false}
use mathlib.Core.List.{List, []}
use lib.ListN.{length, replicate}
use Rattle.making.specs.declared.ctx.LowerCtx.{LowerCtx}
use Rattle.making.specs.declared.place.PathAt.{PathAt}
use Rattle.making.specs.declared.place.PathAt.TheVariants as P
use Rattle.levels.specs.meaning.Rules.{is_level}
use Rattle.files.specs.meaning.Files.{good_files}
use Rattle.file_words.specs.machine.Put.{FilesPut}
use Rattle.file_words.proofs.FilesWritten.{files_written}
use Rattle.definition_log.specs.meaning.Record.{record_words}
use Rattle.definition_log.specs.meaning.Contents.{Diag}
use Rattle.making.specs.meaning.State.{State, start, emit}
use Rattle.making.specs.machine.Represents.{Place, Represents, at_start, in_checks, checking, StartsChecks, Finishes}
use Rattle.making.proofs.InHand.{top_place, forget_place}
use Rattle.definition_log.specs.meaning.Answer.{Answered}
use Rattle.input.specs.meaning.Input.{child_at, chain_at, description}
use Rattle.items.specs.meaning.Lower.{lower_items, lowered}
use Rattle.post_checks.specs.meaning.Post.{post_checks}
use Rattle.resolving.specs.machine.Lowers.{Lowers, LowersAt}
use Rattle.input.specs.meaning.Rows.{accepted, verdict}
use Rattle.lowering.specs.meaning.Lowered.{log_of, records_made, bytes_made, meaning, Lowered, short, done}
use Rattle.post_checks.proofs.PostChecks.{references_alike}
use Rattle.lowering.proofs.GoodLowered.{accepted_good}
use Rattle.lowering.proofs.Fits.{fits, fits_not}

-- the top items, whose parent path is empty
abbrev top : PathAt
top = P.Bytes 0 0

pub top_lowered : (level : ℕ) (words text : List ℕ) {c d : LowerCtx} {out bytes w b : List ℕ} → Represents at_start c out bytes start
    → LowersAt top c d out bytes w b (λ p s. lower_items level (chain_at words text (child_at words 0)) p s)
    → Represents at_start d w b (meaning level words text)
unfolding description lowered
top_lowered level words text h l =
    let p : Place = record { at = top; path = [] } in
    forget_place (l.lowers at_start [] start (top_place p refl refl h))

-- the post checks read no diagnostic
checks_alike : (s : State) → post_checks (checking s) ≡ post_checks s
unfolding post_checks
checks_alike s = rw (references_alike (checking s) s refl refl) refl

module _ (level : ℕ) (files words text : List ℕ) {c d e : LowerCtx} {out bytes w b : List ℕ}
    (made : Represents at_start c out bytes (meaning level words text))
    (starts : StartsChecks c d)
    (checks : Lowers d e out bytes w b (λ (s : State). emit (post_checks s) s)) where
  abbrev all : State
  all = meaning level words text

  checked : Represents (in_checks c all) e w b (emit (post_checks all) (checking all))
  checked =
      subst (λ (ds : List Diag). Represents (in_checks c all) e w b (emit ds (checking all))) (checks_alike all)
      (checks.lowers (in_checks c all) (checking all) (starts.checks out bytes all made))

  -- the records made have room in what `finish` leaves
  pub made_within : {x : List ℕ} → e.short ≡ false → Finishes e w x c.diags.first → e.records * record_words ≤ length x
  made_within n f = f.within (in_checks c all) b (emit (post_checks all) (checking all)) checked n

  -- the end, in buffers as long as those that were lent
  module _ (l₀ : is_level level ≡ true) (v : verdict words text ≡ accepted) (g : good_files files ≡ true) {out₀ bytes₀ : List ℕ}
      (lo : length w ≡ length out₀)
      (lb : length b ≡ length bytes₀)
      (answer : Answered) where
    -- zeros, where the log ran short
    pub lowered_short : {x y : List ℕ} → e.short ≡ true → answer ≡ record { number = 7; returned = 0 } → x ≡ replicate (length w) 0
        → y ≡ replicate (length b) 0
        → Lowered level files words text out₀ bytes₀ answer x y
    lowered_short n q x y =
        short l₀ v g (fits_not all out₀ bytes₀ lo lb checked n) q (x ∙ ap (λ (i : ℕ). replicate i 0) lo)
        (y ∙ ap (λ (i : ℕ). replicate i 0) lb)

    -- the log, where it did not
    pub lowered_done : {x y : List ℕ} → e.short ≡ false → answer ≡ record { number = 0; returned = 0 } → Finishes e w x c.diags.first
        → FilesPut files x y e.records
        → Lowered level files words text out₀ bytes₀ answer y b
    unfolding emit log_of records_made bytes_made
    lowered_done n q f p =
        let k = in_checks c all in
        let s = emit (post_checks all) (checking all) in
        done l₀ v g (fits all out₀ bytes₀ lo lb checked n) q (p.same_length ∙ f.same_length ∙ lo) lb
        (files_written g p (f.behind k b s checked n)
        (f.finishes k b s refl refl refl checked n (accepted_good level words text v)))
