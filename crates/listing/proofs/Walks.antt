-- A chain walked, each of its records put on a page as a line, and the chains of a log as they are walked.
use Prim.Native.Nat.{ℕ}
use mathlib.Core.Path.{◌≡◌, refl, sym, ap, ◌∙◌}
use mathlib.Core.List.{List, [], ◌∷◌, ◌++◌, map, flat_map}
use Rattle.definition_log.specs.meaning.Record.{first_def, first_bind, first_diag, first_post}
use Rattle.definition_log.specs.meaning.ReadBack.{chain_of, read_defs, read_bindings, read_diags, read_log, def_at, binding_at, diag_at}
use Rattle.listing.specs.declared.page.Page.{Page}
use Rattle.listing.specs.meaning.Listing.{definition_lines, binding_line, diagnostic_line, last_line, listing}
use Rattle.listing.specs.machine.Page.{put, Puts}
use Rattle.listing.specs.machine.Chains.{definition_record, binding_record, diagnostic_record, chain_lines}
use Rattle.listing.proofs.Pages.{put_append}

-- w is the page with the whole chain, and the invariant says that what is left of the chain, rest, gives it
module _ (lines : ℕ → List ℕ) (rest : List ℕ) (p w : Page) (inv : w ≡ put (flat_map lines rest) p) where
  pub lines_next : (r : ℕ) (rs : List ℕ) → rest ≡ r ∷ rs → (q : Page) → Puts (lines r) p q → w ≡ put (flat_map lines rs) q
  unfolding flat_map
  lines_next r rs t q e = inv ∙ rw (t, put_append (lines r), e.gives) refl

  pub lines_end : rest ≡ [] → p ≡ w
  unfolding flat_map put
  lines_end t = sym (inv ∙ rw t refl)

-- lines of what records have, record by record
pub lines_of : {A : Type 0} (line : A → List ℕ) (rec : ℕ → A) (rs : List ℕ) → flat_map line (map rec rs) ≡ flat_map (λ r. line (rec r)) rs
unfolding flat_map
lines_of line rec [] = refl
lines_of line rec (r ∷ rs) = ap (λ (s : List ℕ). line (rec r) ++ s) (lines_of line rec rs)

-- the four chains and the last line are the listing of a log
pub chains_listed : (words bytes : List ℕ) → chain_lines definition_record 1 words bytes ++ chain_lines binding_record 3 words bytes
    ++ chain_lines diagnostic_record 4 words bytes ++ chain_lines diagnostic_record 6 words bytes ++ last_line ≡ listing (read_log words bytes)
unfolding chain_lines listing read_log read_defs read_bindings read_diags
chains_listed words bytes =
    rw (
      lines_of definition_lines (def_at words bytes) (chain_of words (first_def words)),
      lines_of binding_line (binding_at words bytes) (chain_of words (first_bind words)),
      lines_of diagnostic_line (diag_at words bytes) (chain_of words (first_diag words)),
      lines_of diagnostic_line (diag_at words bytes) (chain_of words (first_post words)),
    ) refl
