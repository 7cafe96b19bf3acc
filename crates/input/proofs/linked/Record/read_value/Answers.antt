-- By the kind of the record (ValueRead).
use Rattle.std.proofs.Common.{arith}
use Rattle.input.proofs.ValueRead.{value_kind_lem, value_reference, value_other}
use Rattle.input.specs.meaning.Property.{lower_value}
use Rattle.input.specs.machine.At.{record_at}
use mathlib.Core.Path.{sym, ◌∙◌}
use Rattle.input.proofs.linked.Record.read_value.Goals as goal

pub returns-in-12 : goal.returns-in-12
unfolding lower_value
returns-in-12 c = let a = c.args in λ level. value_kind_lem a.self.input.words.now a.self.input.text.now a.self.number level 12
    (sym c.kind.ensures ∙ c.in-12.is)

pub returns-in-13 : goal.returns-in-13
unfolding lower_value
returns-in-13 c = let a = c.args in λ level.
    c.sized_list.ensures level a.self.input.words.now a.self.input.text.now
    ∙ rw (c.from_token.ensures, c.text.ensures)
    (value_kind_lem a.self.input.words.now a.self.input.text.now a.self.number level 13 (sym c.kind.ensures
    ∙ c.in-13.is))

pub returns-in-14 : goal.returns-in-14
unfolding lower_value
returns-in-14 c = let a = c.args in λ level.
    let h = rw c.text-in-14.ensures at c.bytestring_len.ensures in
    c.counted_bytes.ensures level a.self.input.words.now a.self.input.text.now h
    ∙ rw h (value_kind_lem a.self.input.words.now a.self.input.text.now a.self.number level 14
    (sym c.kind.ensures ∙ c.in-14.is))

pub returns-in-8 : goal.returns-in-8
returns-in-8 c = let a = c.args in λ level.
    c.reference_value.ensures level
    ∙ value_reference a.self.input.words.now a.self.input.text.now a.self.number level (sym c.kind.ensures
    ∙ c.in-8.is)

pub returns-in-9 : goal.returns-in-9
unfolding lower_value record_at
returns-in-9 c = let a = c.args in λ level. value_kind_lem a.self.input.words.now a.self.input.text.now a.self.number level 9
    (sym c.kind.ensures ∙ c.in-9.is)

pub returns-in-3 : goal.returns-in-3
unfolding lower_value
returns-in-3 c = let a = c.args in λ level. value_kind_lem a.self.input.words.now a.self.input.text.now a.self.number level 3
    (sym c.kind.ensures ∙ c.in-3.is)

pub returns-in-4 : goal.returns-in-4
unfolding lower_value
returns-in-4 c = let a = c.args in λ level. value_kind_lem a.self.input.words.now a.self.input.text.now a.self.number level 4
    (sym c.kind.ensures ∙ c.in-4.is)

pub returns-in_default : goal.returns-in_default
returns-in_default c = let a = c.args in λ level.
    value_other a.self.input.words.now a.self.input.text.now a.self.number level (λ e. omega arith) (λ e. omega arith)
    (λ e. omega arith)
    (λ e. omega arith) (λ e. omega arith) (λ e. omega arith) (λ e. omega arith)
