-- Writing the bytes of the digits that are left, from `to` on, makes the buffer that is asked for, and they have room.
use Rattle.std.proofs.Common.{◌<◌, IfSome}
use Rattle.paths_numbers.specs.meaning.Bytestring.{bytes_of}
use Rattle.paths_numbers.specs.meaning.Text.{written}
use Rattle.paths_numbers.proofs.Bytestring.{digits_left, ToWrite}
use Rattle.paths_numbers.proofs.dt_property.write_nibbles.Given as goal

abbrev pub invariant-loop-b : goal.invariant-loop-b
invariant-loop-b l =
    IfSome l.first (λ h. h < 16)
    × ToWrite (written l.initial.out l.at (bytes_of l.text)) (digits_left l.text l.b-index l.first) l.out l.to
