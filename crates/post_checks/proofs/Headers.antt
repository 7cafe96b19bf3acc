-- Directive order by the kinds of definitions (Checks: header_code, headers_after).
use Prim.Native.Nat.{ℕ}
use mathlib.Core.Path.{◌≡◌, refl, ap}
use mathlib.Core.Bool.{Bool, false, cond}
use mathlib.Core.List.{List, [], ◌∷◌, ◌++◌, map}
use native.Mathlib.Omega.{arith}
use borrow.Author.Tests.{eqb-false, lt-leb}
use lib.Dec.{eqb}
use Rattle.std.specs.Prelude.{Option, Some, None}
use Rattle.paths_numbers.proofs.Texts.{by_test}
use Rattle.making.specs.declared.ctx.LowerCtx.{LowerCtx}
use Rattle.definition_log.specs.meaning.Contents.{Span, Value, Def}
use Rattle.making.specs.declared.place.PathAt.TheVariants as P
use Rattle.definition_log.specs.declared.parts.Span as declared
use Rattle.definition_log.specs.meaning.Record.{kind_of, name_start, name_end, log_count}
use Rattle.definition_log.specs.meaning.ReadBack.{chain_from, chain_of, name_span_at, def_value_at, def_at, read_defs}
use Rattle.making.specs.machine.PathPlaces.{path_of, stands, settled, path_in}
use Rattle.making.specs.machine.Recs.{diag_made}
use Rattle.definition_log.specs.machine.Parts.{meant}
use Rattle.making.specs.meaning.State.{State, emit}
use Rattle.making.specs.machine.Represents.{Steps}
use Rattle.making.specs.machine.Kept.{Still, Kept, Keeps}
use Rattle.making.proofs.InHand.{represents_defs}
use Rattle.making.proofs.Keeping.{defs_still}
use Rattle.queries.proofs.Records.{by_kind, value_of}
use Rattle.post_checks.specs.meaning.Post.{Headers, at_first, header_report, next_headers, directives_from, check_directives}
use Rattle.resolving.specs.machine.Lowers.{Lowers}
use Rattle.post_checks.specs.machine.Checks.{Reports, is_plain, header_code, code_report, headers_after}
use Rattle.post_checks.proofs.Checks.{reports_none, reports_one, reports_lower}

-- a kind that is none of a definition's but for the version directive's
other_plain : (k : ℕ) → eqb k 1 ≡ false → eqb k 2 ≡ false → eqb k 3 ≡ false → eqb k 4 ≡ false → is_plain k ≡ false
other_plain k a b c d =
    by_test (eqb k 0)
    (λ t. rw t refl)
    (λ t. rw t (lt-leb k 4 (omega (arith, eqb-false k 0 t, eqb-false k 1 a, eqb-false k 2 b, eqb-false k 3 c, eqb-false k 4 d))))

module _ (ls : List (List ℕ)) (o : Bool) (vs : List Value) (h : Headers) (span : Span) where
  report_kind : (k : ℕ) → header_report (value_of ls o vs k) h span ≡ code_report (header_code k h) span
  unfolding code_report
  report_kind k =
      by_kind (λ (k : ℕ). header_report (value_of ls o vs k) h span ≡ code_report (header_code k h) span) k plain plain plain plain
      (by_test h.allowed (λ t. rw t refl) (λ t. rw t refl))
      (λ a b c d e. rw (a, b, c, d, e, other_plain k a b c d) (by_test h.only (λ t. rw t refl) (λ t. rw t refl)))
    where
      plain : cond h.seen [] (header_report (value_of ls o vs 1) (record { only = h.only; allowed = h.allowed; seen = false })
          span) ≡ code_report (cond h.seen None (Some 23)) span
      plain = by_test h.seen (λ t. rw t refl) (λ t. rw t refl)

  next_kind : (k : ℕ) → next_headers (value_of ls o vs k) h ≡ headers_after k h
  next_kind k =
      by_kind (λ (k : ℕ). next_headers (value_of ls o vs k) h ≡ headers_after k h) k refl refl refl refl refl
      (λ a b c d e. rw (a, b, c, d, e, other_plain k a b c d) refl)

-- the first of a list of definitions
module _ (words bytes : List ℕ) (h : Headers) (r : ℕ) (later : List ℕ) where
  pub directives_first : directives_from h (map (def_at words bytes) (r ∷ later))
      ≡ code_report (header_code (kind_of words r) h) (name_span_at words r) ++ directives_from (headers_after (kind_of words r) h)
      (map (def_at words bytes) later)
  unfolding directives_from def_at def_value_at
  directives_first = rw (report_kind _ _ _ h (name_span_at words r) (kind_of words r), next_kind _ _ _ h (name_span_at words r) (kind_of words r))
      refl

-- the same where the record was kept
module _ {c d : LowerCtx} {words bytes w b : List ℕ} (kept : Kept c d words bytes w b) (h h' : Headers) {r : ℕ}
    (s : Still words c.records r) (later : List ℕ) where
  pub directives_kept : h' ≡ headers_after (kind_of w r) h
      → directives_from h (map (def_at words bytes) (r ∷ later)) ≡ code_report (header_code (kind_of w r) h) (name_span_at w r) ++ directives_from
      h' (map (def_at words bytes) later)
  directives_kept e =
      let k : kind_of w r ≡ kind_of words r = kept.field r 0 s (omega arith) in
      let x : name_start w r ≡ name_start words r = kept.field r 11 s (omega arith) in
      let y : name_end w r ≡ name_end words r = kept.field r 12 s (omega arith) in
      rw (e, k, x, y) (directives_first words bytes h r later)

-- no diagnostic where there is no code, and one without a text for a code
pub code_none : (c : LowerCtx) (words bytes : List ℕ) (rs : List ℕ) (n : Option ℕ) (span : Span) → n ≡ None
    → Reports c c words bytes words bytes rs (code_report n span)
unfolding code_report
code_none c words bytes rs n span e = rw e (reports_none c words bytes rs)

pub no_text : (used : ℕ) (bytes : List ℕ) → path_in used bytes (P.Bytes 0 0) ≡ []
unfolding path_of settled
no_text used bytes = by_test (stands used bytes 0 0) (λ t. rw t refl) (λ t. rw t refl)

pub code_one : {c d : LowerCtx} {words bytes w b : List ℕ} (rs : List ℕ) (code : ℕ) (n : Option ℕ) (sp : declared.Span) (span : Span)
    → n ≡ Some code → meant sp ≡ span
    → Steps c d words bytes w b (emit (diag_made code (path_in c.bytes bytes (P.Bytes 0 0)) sp
    (record { from = 0; to = 0 }) ∷ []))
    → Keeps c d words bytes w b → Reports c d words bytes w b rs (code_report n span)
unfolding code_report
code_one {c} {bytes = bytes} rs code n sp span e q t h =
    rw (e, ← q) (reports_one h (rw (no_text c.bytes bytes) at t))

-- as what lowering does to the log
pub directives_lower : {c d : LowerCtx} {words bytes w b : List ℕ}
    → Reports c d words bytes w b (chain_from (log_count words) words c.defs.first)
    (directives_from at_first (map (def_at words bytes) (chain_from (log_count words) words c.defs.first)))
    → Lowers c d words bytes w b (λ (s : State). emit (check_directives s.defs) s)
unfolding check_directives read_defs chain_of
directives_lower h = reports_lower (λ (s : State). check_directives s.defs) h
    (λ k s r z. (defs_still r z, ap (λ (ds : List Def). directives_from at_first ds) (represents_defs r z)))
