-- The marks are those of each byte by itself.
use Rattle.slashes.proofs.Marks.{marks_word}
use Rattle.slashes.proofs.slash.slash_marks.Goals as goal

pub returns : goal.returns
returns c = marks_word c.args.w
