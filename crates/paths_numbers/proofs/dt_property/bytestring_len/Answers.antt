-- Rests on the count of the digits: its parity tells whether one is missing, its half is the count of bytes.
use Rattle.std.proofs.Common.{arith}
use Rattle.paths_numbers.proofs.Bytestring.{count_odd, count_even}
use Rattle.paths_numbers.proofs.dt_property.bytestring_len.Goals as goal

pub returns-then-n-eq1 : goal.returns-then-n-eq1
returns-then-n-eq1 c = count_odd _ _ c.bytestring_len_digits-n.ensures (omega arith)

pub returns : goal.returns
returns c = count_even _ _ c.bytestring_len_digits-n.ensures (omega arith)
