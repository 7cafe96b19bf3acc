-- Rests on what the count tells of the text: a digit is missing, or how many bytes there are to be written.
use Rattle.std.proofs.Common.{◌≡◌, Err, sym, ap, ◌∙◌, arith, rules}
use Rattle.paths_numbers.specs.declared.dt_property.BytesError.TheVariants.{MissingDigit}
use Rattle.paths_numbers.specs.meaning.Bytestring.{written_told}
use Rattle.paths_numbers.proofs.Bytestring.{count_bytes, lowered_missing, lowered_room, lowered_none}
use Rattle.paths_numbers.proofs.dt_property.lower_bytestring.Goals as goal

pub returns-in_err-n : goal.returns-in_err-n
returns-in_err-n c =
    let a = c.args in
    let e : c.from_residual.result ≡ Err MissingDigit = search rules in
    let told = lowered_missing a.text.now a.out.now a.at (sym c.in_err-n.ensures) in
    record { result_value = ap written_told e ∙ told.0; out_after = told.1 }

pub returns-in_default : goal.returns-in_default
returns-in_default c =
    let a = c.args in
    let told = lowered_none a.text.now a.out.now a.at _ (sym c.in_ok-n.ensures) (omega (arith, c.in_default.ensures)) in
    record { result_value = told.0; out_after = told.1 }

pub returns-then-room-n : goal.returns-then-room-n
returns-then-room-n c =
    let a = c.args in
    let told = lowered_none a.text.now a.out.now a.at _ (sym c.in_ok-n.ensures) (omega (arith, c.in-Some.ensures)) in
    record { result_value = told.0; out_after = told.1 }

pub write_nibbles-requires : goal.write_nibbles-requires
write_nibbles-requires c = omega (arith, c.in-Some.ensures, (count_bytes c.args.text.now _ (sym c.in_ok-n.ensures)).1)

pub returns : goal.returns
returns c =
    let a = c.args in
    let told = lowered_room a.text.now a.out.now a.at _ (sym c.in_ok-n.ensures) (omega (arith, c.in-Some.ensures)) in
    record { result_value = told.0; out_after = c.write_nibbles.ensures ∙ told.1 }
