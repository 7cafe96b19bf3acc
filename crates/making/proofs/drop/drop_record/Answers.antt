-- By whether the record stays.
use mathlib.Core.Path.{◌≡◌, refl, sym, ap, ◌∙◌}
use mathlib.Core.Bool.{true, false}
use Prim.Native.Nat.{ℕ}
use Rattle.definition_log.specs.meaning.Record.{kind_of}
use Rattle.making.specs.machine.Dropped.{stays_kind, dropped_words, dropped_bytes}
use Rattle.making.proofs.drop.drop_record.Goals as goal

pub returns-else-not-stays : goal.returns-else-not-stays
unfolding dropped_words dropped_bytes
returns-else-not-stays c =
    let a = c.args in
    let t : stays_kind (kind_of a.words.now a.r) ≡ true = ap (λ (k : ℕ). stays_kind k) (sym c.kind_of.ensures)
    ∙ sym c.stays.ensures ∙ c.if-not-stays.false in
    record { words_after = rw t refl; bytes_after = rw t refl }

pub returns-then-not-stays : goal.returns-then-not-stays
unfolding dropped_words dropped_bytes
returns-then-not-stays c =
    let a = c.args
    in
    let t : stays_kind (kind_of a.words.now a.r) ≡ false = ap (λ (k : ℕ). stays_kind k)
    (sym c.kind_of.ensures)
    ∙ sym c.stays.ensures
    ∙ c.if-not-stays.true in
    record { words_after = rw t c.clear_words.ensures; bytes_after = rw t c.clear_texts.ensures }
