-- Where there is room, and where there is none.
use native.Mathlib.Omega.{arith}
use Rattle.listing.proofs.Pages.{puts_byte, puts_nothing}
use Rattle.listing.proofs.page.Page.put_byte.Goals as goal

pub returns-then-self-lt-MOST_PAGE : goal.returns-then-self-lt-MOST_PAGE
returns-then-self-lt-MOST_PAGE c = puts_byte c.args.b (omega arith)

pub returns-else-self-lt-MOST_PAGE : goal.returns-else-self-lt-MOST_PAGE
returns-else-self-lt-MOST_PAGE c = puts_nothing c.args.b (omega arith)
