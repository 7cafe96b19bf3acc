-- A value more, where it is kept (Filled).
use Rattle.paths_numbers.specs.meaning.Reference.{Target}
use Rattle.std.proofs.Common.{rules}
use Rattle.input.proofs.ValueRead.{plain_reports}
use Rattle.items.proofs.Filled.{adding_values, value_one, fills_dropped, fills_one, same_fills, bytes_fill}
use Rattle.resolving.proofs.Lowers.{part_grows}
use Rattle.input.specs.machine.ValueRead.{plain_made}
use Rattle.input.specs.meaning.Report.{one}
use Rattle.definition_log.specs.meaning.Contents.{string, phandle}
use mathlib.Core.List.{List}
use Prim.Native.Nat.{ℕ}
use mathlib.Core.Path.{refl, sym, ap, ◌∙◌}
use Rattle.items.proofs.dt_property.Filling.push_value.Goals as goal

pub returns-then-not-self : goal.returns-then-not-self
returns-then-not-self c = let a = c.args in
    fills_dropped adding_values a.self.keep (plain_made a.value.input.words.now a.value.input.text.now a.value.number a.plain) (search rules)
    (plain_reports a.value.input.words.now a.value.input.text.now a.value.number a.plain)

pub returns-in-String : goal.returns-in-String
returns-in-String c = let a = c.args in
    same_fills
    (ap (λ (t : List ℕ). one (string t)) c.text.ensures
    ∙ sym (ap (plain_made a.value.input.words.now a.value.input.text.now a.value.number)
    c.in-String.is))
    (fills_one adding_values a.self.keep _ _ (search rules) (part_grows _ _)
    (value_one (string _) refl) c.add_string.ensures)

pub returns-in-Bytestring : goal.returns-in-Bytestring
returns-in-Bytestring c = let a = c.args in
    same_fills (sym (ap (plain_made a.value.input.words.now a.value.input.text.now a.value.number)
    c.in-Bytestring.is))
    (bytes_fill a.self.keep _ (search rules)
    (rw c.text-in-Bytestring.ensures at c.add_bytestring.ensures))

pub returns-in-Phandle : goal.returns-in-Phandle
returns-in-Phandle c = let a = c.args in
    same_fills
    (ap (λ (t : Target). one (phandle t)) c.target_of.ensures
    ∙ sym (ap (plain_made a.value.input.words.now a.value.input.text.now a.value.number)
    c.in-Phandle.is))
    (fills_one adding_values a.self.keep _ _ (search rules) (part_grows _ _)
    (value_one (phandle _) refl) c.add_phandle.ensures)
