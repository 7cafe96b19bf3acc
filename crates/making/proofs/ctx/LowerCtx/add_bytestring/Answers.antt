-- By the count of the bytes (Typed).
use mathlib.Core.Path.{refl, sym, ap, ◌∙◌}
use Rattle.paths_numbers.specs.meaning.Bytestring.{count_told}
use Rattle.paths_numbers.proofs.Texts.{not_both}
use Rattle.paths_numbers.proofs.Bytestring.{count_missing, count_bytes}
use Rattle.making.proofs.Typed.{makes_bytestring}
use Rattle.making.proofs.ctx.LowerCtx.add_bytestring.Goals as goal

pub returns-in-Err : goal.returns-in-Err
returns-in-Err c =
    let o = count_missing c.args.text.now
    (sym c.bytestring_len.ensures ∙ ap count_told c.in-Err.is) in
    record { even = λ e. absurd (not_both o e); odd = λ e. (refl, refl, refl) }

pub returns-in-Ok : goal.returns-in-Ok
returns-in-Ok c =
    let n = count_bytes
    c.args.text.now _ (sym
    c.bytestring_len.ensures
    ∙ ap count_told c.in-Ok.is) in
    record {
      even = λ e. makes_bytestring
          c.args.text.now e c.make_bytestring-made.ensures
          c.part.ensures
          c.child_link-link.ensures c.with_part.ensures;
      odd = λ e. absurd (not_both e n.0);
    }
