-- 01, words of demand 3, "Alike: the same records in the same order, equal in every word but next, where a text's bytes are compared in
-- place of its start, and the chain that a child or body link leads to, likewise, in place of the link". Two logs: words w over bytes b,
-- and words v over bytes c.
use Rattle.std.specs.Prelude.{ℕ, ◌^◌, ◌≤◌, ◌<◌, get_or, false, ◌≡◌, List, [], ◌∷◌}
use Rattle.definition_log.specs.meaning.Record.{record_words, out_field, kind_of, text_length, second_length, child_of, n_of, m_of}
use Rattle.definition_log.specs.meaning.Record.{span_start, span_end}
use Rattle.definition_log.specs.meaning.Record.{name_start, name_end, first_def, first_ext, first_bind, first_diag, first_post}
use Rattle.definition_log.specs.meaning.Record.{extension_kind}
use Rattle.definition_log.specs.meaning.Record.{has_children, first_text, second_text}
use Rattle.definition_log.specs.meaning.ReadBack.{chain_of}

-- "All words are u32."
pub record Words32 (w : List ℕ) : Type 0 where
  pub below : (i : ℕ) → get_or w i 0 < 2 ^ 32

-- record r of the one and record s of the other, but for what their links lead to: child is one in kinds with children, M in extensions
pub record AlikeWords (w b v c : List ℕ) (r s : ℕ) : Type 0 where
  pub kind : kind_of w r ≡ kind_of v s
  pub text : first_text w b r ≡ first_text v c s
  pub size : text_length w r ≡ text_length v s
  pub second : second_text w b r ≡ second_text v c s
  pub second_size : second_length w r ≡ second_length v s
  pub child : has_children (kind_of w r) ≡ false → child_of w r ≡ child_of v s
  pub n : n_of w r ≡ n_of v s
  pub m : (kind_of w r ≡ extension_kind → ⊥) → m_of w r ≡ m_of v s
  pub start : span_start w r ≡ span_start v s
  pub end : span_end w r ≡ span_end v s
  pub name_from : name_start w r ≡ name_start v s
  pub name_to : name_end w r ≡ name_end v s
  pub last : (i : ℕ) → 13 ≤ i → i < record_words → out_field w r i ≡ out_field v s i

-- records of two chains, in order
pub data AlikeAll (R : ℕ → ℕ → Type 0) : List ℕ → List ℕ → Type 0 where
  none : AlikeAll R [] []
  more : {r s : ℕ} {rs ss : List ℕ} → R r s → AlikeAll R rs ss → AlikeAll R (r ∷ rs) (s ∷ ss)

-- with the chain below: cells of a value (a label has none), labels or values of a definition
pub record AlikeValue (w b v c : List ℕ) (r s : ℕ) : Type 0 where
  pub own : AlikeWords w b v c r s
  pub below : AlikeAll (AlikeWords w b v c) (chain_of w (child_of w r)) (chain_of v (child_of v s))

pub record AlikeDef (w b v c : List ℕ) (r s : ℕ) : Type 0 where
  pub own : AlikeWords w b v c r s
  pub below : AlikeAll (AlikeValue w b v c) (chain_of w (child_of w r)) (chain_of v (child_of v s))

-- of an extension the reference and the body
pub record AlikeExt (w b v c : List ℕ) (r s : ℕ) : Type 0 where
  pub own : AlikeWords w b v c r s
  pub reference : AlikeAll (AlikeWords w b v c) (chain_of w (child_of w r)) (chain_of v (child_of v s))
  pub body : AlikeAll (AlikeDef w b v c) (chain_of w (m_of w r)) (chain_of v (m_of v s))

-- whole logs
pub record AlikeLog (w b v c : List ℕ) : Type 0 where
  pub defs : AlikeAll (AlikeDef w b v c) (chain_of w (first_def w)) (chain_of v (first_def v))
  pub exts : AlikeAll (AlikeExt w b v c) (chain_of w (first_ext w)) (chain_of v (first_ext v))
  pub binds : AlikeAll (AlikeWords w b v c) (chain_of w (first_bind w)) (chain_of v (first_bind v))
  pub diags : AlikeAll (AlikeWords w b v c) (chain_of w (first_diag w)) (chain_of v (first_diag v))
  pub post : AlikeAll (AlikeWords w b v c) (chain_of w (first_post w)) (chain_of v (first_post v))
