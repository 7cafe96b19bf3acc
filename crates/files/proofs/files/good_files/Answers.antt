-- Test by test; 1 stands for a first entry that is not there.
use Rattle.std.proofs.Common.{◌≡◌, ℕ, true, false, eqb, get_or, sym, ap, ◌∙◌, arith}
use Rattle.paths_numbers.proofs.Compared.{maybe_byte}
use Rattle.files.proofs.Starts.{too_many, not_from_0, from_0}
use Rattle.files.proofs.files.good_files.Goals as goal

pub returns-then-starts-gt-MOST_FILES : goal.returns-then-starts-gt-MOST_FILES
returns-then-starts-gt-MOST_FILES c = sym (too_many c.args.starts.now c.if-starts-gt-MOST_FILES.true)

pub returns-then-eq : goal.returns-then-eq
returns-then-eq c =
    let s = c.args.starts.now in
    let f = c.first.ensures.item.4 (omega arith) 1 in
    let e : true ≡ eqb (get_or s 0 1) 0 = c.if-eq.ensures ∙ maybe_byte c.first.result _ ∙ ap (λ (a : ℕ). eqb a 0) f in
    c.does_rise.ensures ∙ from_0 s (omega arith) (sym e)

pub returns-else-eq : goal.returns-else-eq
returns-else-eq c =
    let s = c.args.starts.now in
    let f = c.first.ensures.item.4 (omega arith) 1 in
    let e : false ≡ eqb (get_or s 0 1) 0 = c.if-eq.ensures ∙ maybe_byte c.first.result _ ∙ ap (λ (a : ℕ). eqb a 0) f in
    c.if-eq.false ∙ sym (not_from_0 s (sym e))
