-- The signed reading: behind a minus, and else the unsigned one; what was read is within the limit it was read at.
use Rattle.std.proofs.Common.{◌≡◌, Err, get_or, sym, ap, ◌∙◌, arith, rules, w64, to_z, of_z}
use mir.ValLaws.{to_z-of_z}
use Rattle.paths_numbers.specs.meaning.Byte.{minus}
use Rattle.paths_numbers.specs.meaning.Reading.{value}
use Rattle.paths_numbers.specs.meaning.Number.{i64_told, positive, negative}
use Rattle.paths_numbers.proofs.Casts.{negated, signed_is}
use Rattle.paths_numbers.proofs.Prefix.{zero_past}
use Rattle.paths_numbers.proofs.Signs.{signed_minus, signed_plain}
use Rattle.paths_numbers.proofs.Texts.{rest}
use Rattle.paths_numbers.proofs.expr_eval.read_signed.Goals as goal
use Rattle.paths_numbers.proofs.expr_eval.read_signed.Goals.{then-s-lt1, else-s-lt1+in_default-1}

pub returns-in_err-n : goal.returns-in_err-n
returns-in_err-n c =
    let s = c.args.s.now in
    let e : c.from_residual.result ≡ Err c.in_err-n.field-0.0 = search rules in
    let m = signed_minus c.args.base.radix s c.in-45.len_at_least (omega arith) in
    ap i64_told e ∙ ap negative (rw (rest s 1) at c.in_err-n.ensures.told) ∙ sym m

pub returns-in-45 : goal.returns-in-45
returns-in-45 c =
    let s = c.args.s.now in
    let n = negated c.in_ok-n.n c.wrapping_neg.result (omega (arith, c.in_ok-n.ensures.within)) c.wrapping_neg.type_inv c.wrapping_neg.ensures in
    let z : to_z w64 (of_z w64 c.cast_signed.result) ≡ c.cast_signed.result = to_z-of_z w64 _ (record { sfits = c.cast_signed.type_inv }) in
    let m = signed_minus c.args.base.radix s c.in-45.len_at_least (omega arith) in
    ap value (z ∙ c.cast_signed.ensures ∙ n) ∙ ap negative (rw (rest s 1) at c.in_ok-n.ensures.told) ∙ sym m

pub returns-in_err-n-2 : goal.returns-in_err-n-2
returns-in_err-n-2 c =
    let s = c.args.s.now in
    let e : c.from_residual-in_err-n-2.result ≡ Err c.in_err-n-2.field-0.0 = search rules in
    let no : get_or s 0 0 ≡ minus → ⊥ = elim c.if-s-lt1.branch [
      | then-s-lt1 w ↦ λ h. search (rules, zero_past)
      | else-s-lt1+in_default-1 w ↦ search rules
    ] in
    ap i64_told e ∙ ap positive c.in_err-n-2.ensures.told ∙ sym (signed_plain c.args.base.radix s no)

pub returns : goal.returns
returns c =
    let s = c.args.s.now in
    let no : get_or s 0 0 ≡ minus → ⊥ = elim c.if-s-lt1.branch [
      | then-s-lt1 w ↦ λ h. search (rules, zero_past)
      | else-s-lt1+in_default-1 w ↦ search rules
    ] in
    ap value (signed_is c.in_ok-n-2.n (omega (arith, c.in_ok-n-2.ensures.within))) ∙ ap positive c.in_ok-n-2.ensures.told
    ∙ sym (signed_plain c.args.base.radix s no)
