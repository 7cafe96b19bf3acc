-- By which of the two parts is there (NameRead).
use Rattle.std.specs.Prelude.{None}
use Rattle.input.proofs.NameRead.{name_there, macro_there, nothing_there}
use Rattle.input.proofs.linked.Chain.name_or_macro.Goals as goal

pub returns-in-Some : goal.returns-in-Some
returns-in-Some c = λ text. name_there _ _ None c.first_of.ensures text _ c.in-Some.is

pub returns-in-Some-first_of : goal.returns-in-Some-first_of
returns-in-Some-first_of c = λ text. macro_there _ _ _ c.first_of.ensures text c.in_default.is
    c.first_of-2.ensures _ c.in-Some-first_of.is

pub returns-in-None : goal.returns-in-None
returns-in-None c = λ text. nothing_there _ _ _ c.first_of.ensures text c.in_default.is
    c.first_of-2.ensures c.in-None.is
