-- A record as the code writes it: sixteen words, and a link.
use Prim.Native.Nat.{ℕ, ◌+◌, ◌*◌}
use mathlib.Core.Path.{◌≡◌}
use mathlib.Core.List.{List, [], ◌∷◌}
use borrow.Author.Tests.{eq-eqb, ne_eqb}
use lib.ListN.{set}
use Rattle.paths_numbers.specs.meaning.Text.{written}
use Rattle.making.specs.declared.ctx.Rec.{Rec}
use Rattle.making.specs.machine.Made.{start_at, sixteen, set_link}

-- the words with both texts' starts worked out
abbrev laid : ℕ → ℕ → ℕ → ℕ → Rec → List ℕ
laid s first t second r =
    r.kind ∷ 0 ∷ s ∷ first ∷ t ∷ second ∷ 0 ∷ r.n ∷ r.m ∷ r.span.from ∷ r.span.to ∷ r.name_span.from ∷ r.name_span.to ∷ 0 ∷ 0 ∷ 0 ∷ []

module _ (d o : List ℕ) (number at first second link : ℕ) (r : Rec) (s t : ℕ) (w : o ≡ written d (number * 16) (laid s first t second r))
    (es : s ≡ start_at at first) (et : t ≡ start_at (at + first) second) where
  pub record_linked : (link ≡ 0 → ⊥) → set o link number ≡ set_link link number (written d (number * 16) (sixteen at first second r))
  unfolding set_link sixteen
  record_linked n = rw (w, es, et) (simp (ne_eqb link 0 n))

  pub record_alone : link ≡ 0 → o ≡ set_link link number (written d (number * 16) (sixteen at first second r))
  unfolding set_link sixteen
  record_alone z = rw (w, es, et) (simp (eq-eqb link 0 z))
