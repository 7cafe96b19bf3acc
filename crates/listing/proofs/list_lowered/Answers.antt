-- What lowering answered and left is listed as its input is (Answers: answer_listed).
use Rattle.listing.proofs.Answers.{answer_listed}
use Rattle.listing.proofs.Pages.{puts_same}
use Rattle.listing.proofs.list_lowered.Goals as goal

pub returns : goal.returns
returns c = puts_same (answer_listed c.lower-answer.ensures.lowered c.requires.out_len c.requires.bytes_len) c.list_answer.ensures
