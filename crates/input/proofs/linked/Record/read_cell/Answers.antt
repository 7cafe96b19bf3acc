-- By the kind of the record (ValueRead).
use Rattle.std.proofs.Common.{arith}
use Rattle.input.proofs.ValueRead.{cell_kind_lem, cell_reference, cell_other}
use Rattle.input.specs.meaning.Property.{lower_cell}
use Rattle.input.specs.machine.At.{record_at}
use mathlib.Core.Path.{sym, ◌∙◌}
use Rattle.input.proofs.linked.Record.read_cell.Goals as goal

pub returns-in-15 : goal.returns-in-15
unfolding lower_cell
returns-in-15 c = let a = c.args in
    c.number_cell.ensures a.self.input.words.now a.self.input.text.now
    ∙ rw (c.parse_int_tok.ensures, c.text.ensures)
    (cell_kind_lem a.self.input.words.now a.self.input.text.now a.self.number a.level a.size 15
    (sym c.kind.ensures ∙ c.in-15.is))

pub returns-in-16 : goal.returns-in-16
unfolding lower_cell
returns-in-16 c = let a = c.args in
    c.number_cell-in-16.ensures a.self.input.words.now a.self.input.text.now
    ∙ rw (c.char_cell.ensures, c.number_at.ensures)
    (cell_kind_lem a.self.input.words.now a.self.input.text.now a.self.number a.level a.size 16
    (sym c.kind.ensures ∙ c.in-16.is))

pub returns-in-17 : goal.returns-in-17
unfolding lower_cell
returns-in-17 c = let a = c.args in
    c.expression_cell.ensures ∙ cell_kind_lem a.self.input.words.now a.self.input.text.now a.self.number a.level a.size 17
    (sym c.kind.ensures ∙ c.in-17.is)

pub returns-in-8 : goal.returns-in-8
returns-in-8 c = let a = c.args in
    c.reference_cell.ensures
    ∙ cell_reference a.self.input.words.now a.self.input.text.now a.self.number a.level a.size
    (sym c.kind.ensures ∙ c.in-8.is)

pub returns-in-9 : goal.returns-in-9
unfolding lower_cell record_at
returns-in-9 c = let a = c.args in cell_kind_lem a.self.input.words.now a.self.input.text.now a.self.number a.level a.size 9
    (sym c.kind.ensures ∙ c.in-9.is)

pub returns-in-3 : goal.returns-in-3
unfolding lower_cell
returns-in-3 c = let a = c.args in cell_kind_lem a.self.input.words.now a.self.input.text.now a.self.number a.level a.size 3
    (sym c.kind.ensures ∙ c.in-3.is)

pub returns-in-4 : goal.returns-in-4
unfolding lower_cell
returns-in-4 c = let a = c.args in cell_kind_lem a.self.input.words.now a.self.input.text.now a.self.number a.level a.size 4
    (sym c.kind.ensures ∙ c.in-4.is)

pub returns-in_default : goal.returns-in_default
returns-in_default c = let a = c.args in
    cell_other a.self.input.words.now a.self.input.text.now a.self.number a.level a.size (λ e. omega arith)
    (λ e. omega arith)
    (λ e. omega arith)
    (λ e. omega arith) (λ e. omega arith) (λ e. omega arith) (λ e. omega arith)
