-- The length stands for no place in both (Slashes: place_or).
use Rattle.std.proofs.Common.{ℕ, length, ap, ◌∙◌}
use Rattle.std.specs.Prelude.{Option, Some, None, ◌≡◌, refl, unwrap_or}
use Rattle.paths_numbers.proofs.Slashes.{place_or, next_before}
use Rattle.paths_numbers.proofs.phandle.first_slash.Goals as goal

or_place : (n : ℕ) (f : Option ℕ) → unwrap_or f n ≡ place_or n f
or_place n (Some k) = refl
or_place n None = refl

pub returns : goal.returns
returns c =
    let s = c.args.s.now in
    c.unwrap_or.ensures ∙ or_place (length s) c.next_slash.result ∙ ap (place_or (length s)) c.next_slash.ensures ∙ next_before s
