-- Behind its last byte a text is empty.
use Rattle.paths_numbers.proofs.Texts.{no_rest}
use Rattle.input.proofs.record.no_text.Goals as goal

pub returns : goal.returns
returns c = no_rest c.args.text.now
