-- The digits of std are the decimal ones (Decimals: decimal_digits).
use Rattle.listing.proofs.Pages.{puts_same}
use Rattle.listing.proofs.Decimals.{decimal_digits}
use native.Mathlib.Omega.{arith}
use mathlib.Core.Path.{◌∙◌}
use Rattle.listing.proofs.page.Page.put_number.Goals as goal

pub returns : goal.returns
returns c = puts_same (c.as_bytes.ensures.value ∙ c.format.ensures.text ∙ decimal_digits c.args.n (omega arith)) c.put_text.ensures
