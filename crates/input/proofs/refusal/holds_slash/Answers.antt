-- A text holds a "/" where the search finds one.
use Prim.Native.Nat.{ℕ, suc}
use mathlib.Core.Path.{◌≡◌, refl, ap, ◌∙◌}
use mathlib.Core.List.{List, [], ◌∷◌}
use lib.Dec.{eqb}
use Rattle.std.specs.Prelude.{is_some}
use Rattle.slashes.specs.meaning.Slash.{first_from, next_slash}
use Rattle.paths_numbers.specs.meaning.Byte.{slash}
use Rattle.paths_numbers.specs.meaning.Lists.{any}
use Rattle.paths_numbers.proofs.Texts.{by_test}
use Rattle.input.specs.meaning.Rows.{holds_slash}
use Rattle.input.proofs.refusal.holds_slash.Goals as goal

found : (s : List ℕ) (i : ℕ) → is_some (first_from i s) ≡ holds_slash s
unfolding first_from any
found [] i = refl
found (b ∷ s) i = by_test (eqb b slash) (λ q. rw q refl) (λ q. rw q (found s (suc i)))

pub returns : goal.returns
unfolding next_slash
returns c = c.is_some.ensures ∙ ap is_some c.next_slash.ensures ∙ found c.args.text.now 0
