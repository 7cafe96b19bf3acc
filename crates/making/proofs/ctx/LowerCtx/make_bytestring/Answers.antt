-- By whether the record is made (Told).
use Prim.Native.Nat.{ℕ}
use mathlib.Core.Path.{refl, sym, ap, ◌∙◌}
use mathlib.Core.List.{[], append-nil}
use native.Mathlib.Nat.{add-zero}
use native.Mathlib.Omega.{arith}
use lib.ListN.{length}
use Rattle.paths_numbers.specs.meaning.Bytestring.{bytes_of}
use Rattle.paths_numbers.proofs.Bytestring.{count_bytes, lowered_room}
use Rattle.making.specs.machine.Made.{makes}
use Rattle.making.proofs.Told.{tested_none, tested_room, tested_made}
use Rattle.making.proofs.ctx.LowerCtx.make_bytestring.Goals as goal

pub returns-then-not-admits : goal.returns-then-not-admits
returns-then-not-admits c =
    let a = c.args in
    let x = bytes_of a.text.now in
    let n = count_bytes a.text.now _ c.requires in
    let same = ap (λ (i : ℕ). makes a.self a.words.now a.bytes.now i a.link) (sym (add-zero (length x) ∙ n.1)) in
    tested_none a.self a.words.now a.bytes.now a.rec x [] a.link _ same _
    c.admits.ensures _ c.if-not-admits.true-raw c.run_short.ensures

pub overflow_cast-size : goal.overflow_cast-size
overflow_cast-size c =
    let a = c.args in
    let x = bytes_of a.text.now in
    let n = count_bytes a.text.now _ c.requires in
    let same = ap (λ (i : ℕ). makes a.self a.words.now a.bytes.now i a.link) (sym (add-zero (length x) ∙ n.1)) in
    let r = tested_room a.self a.words.now a.bytes.now a.rec x [] a.link _ same _ c.admits.ensures c.if-not-admits.false-raw in
    omega (arith, r.bytes_most, n.1)

pub put-requires : goal.put-requires
put-requires c =
    let a = c.args in
    let x = bytes_of a.text.now in
    let n = count_bytes a.text.now _ c.requires in
    let same = ap (λ (i : ℕ). makes a.self a.words.now a.bytes.now i a.link) (sym (add-zero (length x) ∙ n.1)) in
    let r = tested_room a.self a.words.now a.bytes.now a.rec x [] a.link _ same _ c.admits.ensures c.if-not-admits.false-raw in
    (r.records_fit, r.link_fits, omega (arith, r.bytes_most, n.1))

pub returns : goal.returns
returns c =
    let a = c.args in
    let x = bytes_of a.text.now in
    let n = count_bytes a.text.now _ c.requires in
    let same = ap (λ (i : ℕ). makes a.self a.words.now a.bytes.now i a.link) (sym (add-zero (length x) ∙ n.1)) in
    let r = tested_room a.self a.words.now a.bytes.now a.rec x [] a.link _ same _ c.admits.ensures c.if-not-admits.false-raw in
    let w = (lowered_room a.text.now a.bytes.now a.self.bytes _ c.requires (omega (arith, r.bytes_fit, n.1))).1 in
    tested_made a.self a.words.now a.bytes.now a.rec x [] a.link _ same _
    c.admits.ensures _ _ _ _ 0
    c.if-not-admits.false-raw (sym n.1) refl
    c.put.ensures.value c.put.ensures.words_after
    (c.lower_bytestring.ensures.out_after ∙ sym w ∙ rw append-nil refl)
