-- Words that agree but for words 13 to 15 of their records say the same, keep the same rules of row 8, and have the same texts.
use Prim.Native.Nat.{ℕ, zero, suc, ◌+◌, ◌-◌, ◌<◌}
use mathlib.Core.Path.{◌≡◌, refl, ap, ◌∙◌}
use mathlib.Core.List.{List, [], ◌∷◌, map}
use native.Mathlib.Omega.{arith}
use lib.ListN.{length}
use Rattle.definition_log.specs.meaning.Record.{out_field, kind_of, next_of, child_of, m_of, first_text, second_text, log_count}
use Rattle.definition_log.specs.meaning.ReadBack.{chain_from, chain_of, target_at, read_labels, cell_at, read_cells, value_at, read_values}
use Rattle.definition_log.specs.meaning.ReadBack.{def_value_at}
use Rattle.definition_log.specs.meaning.ReadBack.{def_at, read_defs, ext_at, read_exts, binding_at, read_bindings, diag_at, read_diags}
use Rattle.definition_log.specs.meaning.ReadBack.{read_log}
use Rattle.definition_log.specs.meaning.Sound.{Link, link_to, head_links, links_of, walk, followed, is_reached, heads_out, links_out, unfit}
use Rattle.definition_log.specs.meaning.Sound.{texts_out, spans_reversed, path_wrong, record_fault, at_fault, first_fault, lowest_fault}
use Rattle.definition_log.specs.meaning.Written.{holders_in, holders}

pub record Agrees (w v : List ℕ) : Type 0 where
  pub same_length : length v ≡ length w
  pub fields : (r i : ℕ) → i < 13 → out_field v r i ≡ out_field w r i

map_same : {A B : Type 0} (f g : A → B) (l : List A) → ((x : A) → f x ≡ g x) → map f l ≡ map g l
map_same f g [] e = refl
map_same f g (x ∷ l) e = rw (e x, map_same f g l e) refl

module _ {w v : List ℕ} (a : Agrees w v) where
  pub count_same : log_count v ≡ log_count w
  unfolding log_count
  count_same = rw a.same_length refl

  pub at_same : (r : ℕ) → (kind_of v r ≡ kind_of w r) × (next_of v r ≡ next_of w r) × (child_of v r ≡ child_of w r) × (m_of v r ≡ m_of w r)
  at_same r =
      (a.fields r 0 (omega arith), a.fields r 1 (omega arith), a.fields r 6 (omega arith), a.fields r 8 (omega arith))

  -- what is read back
  chain_from_lem : (n r : ℕ) → chain_from n v r ≡ chain_from n w r
  unfolding chain_from
  chain_from_lem zero r = refl
  chain_from_lem (suc n) r = rw (count_same, (at_same r).1, chain_from_lem n (next_of w r)) refl

  pub chain_same : (r : ℕ) → chain_of v r ≡ chain_of w r
  unfolding chain_of
  chain_same r = rw count_same (chain_from_lem (log_count w) r)

  module _ (b : List ℕ) where
    pub first_same : (r : ℕ) → first_text v b r ≡ first_text w b r
    first_same r = rw (a.fields r 2 (omega arith), a.fields r 3 (omega arith)) refl

    pub second_same : (r : ℕ) → second_text v b r ≡ second_text w b r
    second_same r = rw (a.fields r 4 (omega arith), a.fields r 5 (omega arith)) refl

    target_same : (r : ℕ) → target_at v b r ≡ target_at w b r
    unfolding target_at
    target_same r = rw (a.fields r 7 (omega arith), first_same r, second_same r) refl

    mapped : {A : Type 0} (f g : ℕ → A) → ((r : ℕ) → f r ≡ g r) → (r : ℕ) → map f (chain_of v r) ≡ map g (chain_of w r)
    mapped f g e r = ap (map f) (chain_same r) ∙ map_same f g (chain_of w r) e

    labels_same : (r : ℕ) → read_labels v b r ≡ read_labels w b r
    unfolding read_labels
    labels_same r = mapped (first_text v b) (first_text w b) first_same r

    cell_same : (r : ℕ) → cell_at v b r ≡ cell_at w b r
    unfolding cell_at
    cell_same r = rw ((at_same r).0, target_same r, a.fields r 7 (omega arith), (at_same r).3) refl

    cells_same : (r : ℕ) → read_cells v b r ≡ read_cells w b r
    unfolding read_cells
    cells_same r = mapped (cell_at v b) (cell_at w b) cell_same r

    value_same : (r : ℕ) → value_at v b r ≡ value_at w b r
    unfolding value_at
    value_same r =
        rw ((at_same r).0, a.fields r 7 (omega arith), (at_same r).2, cells_same (child_of w r), first_same r, target_same r) refl

    values_same : (r : ℕ) → read_values v b r ≡ read_values w b r
    unfolding read_values
    values_same r = mapped (value_at v b) (value_at w b) value_same r

    def_value : (r : ℕ) → def_value_at v b r ≡ def_value_at w b r
    unfolding def_value_at
    def_value r =
        rw ((at_same r).0, a.fields r 7 (omega arith), (at_same r).2, labels_same (child_of w r), values_same (child_of w r)) refl

    def_same : (r : ℕ) → def_at v b r ≡ def_at w b r
    unfolding def_at
    def_same r =
        rw (
          first_same r,
          def_value r,
          a.fields r 9 (omega arith),
          a.fields r 10 (omega arith),
          a.fields r 11 (omega arith),
          a.fields r 12 (omega arith),
        ) refl

    pub defs_same : (r : ℕ) → read_defs v b r ≡ read_defs w b r
    unfolding read_defs
    defs_same r = mapped (def_at v b) (def_at w b) def_same r

    ext_same : (r : ℕ) → ext_at v b r ≡ ext_at w b r
    unfolding ext_at
    ext_same r =
        rw (
          (at_same r).2,
          (at_same r).3,
          count_same,
          target_same (child_of w r),
          defs_same (m_of w r),
          a.fields r 9 (omega arith),
          a.fields r 10 (omega arith),
          a.fields r 11 (omega arith),
          a.fields r 12 (omega arith),
        ) refl

    exts_same : (r : ℕ) → read_exts v b r ≡ read_exts w b r
    unfolding read_exts
    exts_same r = mapped (ext_at v b) (ext_at w b) ext_same r

    binding_same : (r : ℕ) → binding_at v b r ≡ binding_at w b r
    unfolding binding_at
    binding_same r = rw (first_same r, second_same r, a.fields r 9 (omega arith), a.fields r 10 (omega arith)) refl

    bindings_same : (r : ℕ) → read_bindings v b r ≡ read_bindings w b r
    unfolding read_bindings
    bindings_same r = mapped (binding_at v b) (binding_at w b) binding_same r

    diag_same : (r : ℕ) → diag_at v b r ≡ diag_at w b r
    unfolding diag_at
    diag_same r =
        rw (
          a.fields r 7 (omega arith),
          first_same r,
          a.fields r 9 (omega arith),
          a.fields r 10 (omega arith),
          a.fields r 11 (omega arith),
          a.fields r 12 (omega arith),
        ) refl

    diags_same : (r : ℕ) → read_diags v b r ≡ read_diags w b r
    unfolding read_diags
    diags_same r = mapped (diag_at v b) (diag_at w b) diag_same r

    pub log_same : read_log v b ≡ read_log w b
    unfolding read_log
    log_same =
        rw (
          a.fields 0 1 (omega arith),
          a.fields 0 2 (omega arith),
          a.fields 0 3 (omega arith),
          a.fields 0 4 (omega arith),
          a.fields 0 6 (omega arith),
          defs_same (out_field w 0 1),
          exts_same (out_field w 0 2),
          bindings_same (out_field w 0 3),
          diags_same (out_field w 0 4),
          diags_same (out_field w 0 6),
        ) refl

  -- links
  heads_same : head_links v ≡ head_links w
  unfolding head_links link_to
  heads_same =
      rw (
        count_same,
        a.fields 0 1 (omega arith),
        a.fields 0 2 (omega arith),
        a.fields 0 3 (omega arith),
        a.fields 0 4 (omega arith),
        a.fields 0 6 (omega arith),
      ) refl

  links_same : (l : Link) → links_of v l ≡ links_of w l
  unfolding links_of link_to
  links_same l =
      let e = at_same l.to in
      rw (count_same, e.0, e.1, e.2, e.3) refl

  walk_same : (n : ℕ) (met : List ℕ) (waiting : List Link) → walk n v met waiting ≡ walk n w met waiting
  unfolding walk
  walk_same zero met waiting = refl
  walk_same (suc n) met [] = refl
  walk_same (suc n) met (l ∷ waiting) = rw (links_same l) (ap (λ (ls : List Link). l ∷ ls) (walk_same n (l.to ∷ met) _))

  pub followed_same : followed v ≡ followed w
  unfolding followed
  followed_same = rw (count_same, heads_same) (walk_same _ [] (head_links w))

  pub reached_same : (r : ℕ) → is_reached v r ≡ is_reached w r
  reached_same r = rw followed_same refl

  -- row 8's rules
  heads_out_lem : heads_out v ≡ heads_out w
  unfolding heads_out
  heads_out_lem =
      rw (
        count_same,
        a.fields 0 1 (omega arith),
        a.fields 0 2 (omega arith),
        a.fields 0 3 (omega arith),
        a.fields 0 4 (omega arith),
        a.fields 0 6 (omega arith),
      ) refl

  links_out_lem : (r : ℕ) → links_out v r ≡ links_out w r
  unfolding links_out
  links_out_lem r = let e = at_same r in rw (count_same, e.0, e.1, e.2, e.3) refl

  unfit_same : (ls : List Link) (r : ℕ) → unfit v ls r ≡ unfit w ls r
  unfolding unfit
  unfit_same [] r = refl
  unfit_same (l ∷ ls) r = rw ((at_same r).0, unfit_same ls r) refl

  fault_same : (b : List ℕ) (ls : List Link) (r : ℕ) → record_fault v b ls r ≡ record_fault w b ls r
  unfolding record_fault texts_out spans_reversed path_wrong
  fault_same b ls r =
      rw (
        links_out_lem r,
        unfit_same ls r,
        first_same b r,
        second_same b r,
        (at_same r).0,
        a.fields r 2 (omega arith),
        a.fields r 3 (omega arith),
        a.fields r 4 (omega arith),
        a.fields r 5 (omega arith),
        a.fields r 9 (omega arith),
        a.fields r 10 (omega arith),
        a.fields r 11 (omega arith),
        a.fields r 12 (omega arith),
      ) refl

  first_fault_lem : (b : List ℕ) (ls : List Link) (n r : ℕ) → first_fault n v b ls r ≡ first_fault n w b ls r
  unfolding first_fault at_fault
  first_fault_lem b ls zero r = refl
  first_fault_lem b ls (suc n) r = rw (fault_same b ls r, first_fault_lem b ls n (r + 1)) refl

  pub lowest_same : (b : List ℕ) → lowest_fault v b ≡ lowest_fault w b
  unfolding lowest_fault
  lowest_same b = rw (heads_out_lem, count_same, followed_same, first_fault_lem b (followed w) (log_count w - 1) 1) refl

  -- texts
  holders_in_lem : (ls : List Link) (i : ℕ) → holders_in v ls i ≡ holders_in w ls i
  unfolding holders_in
  holders_in_lem [] i = refl
  holders_in_lem (l ∷ ls) i =
      rw (
        a.fields l.to 2 (omega arith),
        a.fields l.to 3 (omega arith),
        a.fields l.to 4 (omega arith),
        a.fields l.to 5 (omega arith),
        holders_in_lem ls i,
      ) refl

  pub holders_same : (i : ℕ) → holders v i ≡ holders w i
  holders_same i = rw followed_same (holders_in_lem (followed w) i)
