-- What row 8's rules give for each record that is reached: it is reached once, its links and texts stay inside, and what its links lead to
-- is reached.
use Prim.Native.Nat.{ℕ, zero, suc, ◌+◌, ◌-◌, ◌*◌, ◌≤◌, ◌<◌}
use mathlib.Core.Path.{◌≡◌, refl, ◌∙◌}
use mathlib.Core.Logic.{◌⊎◌, inl, inr}
use mathlib.Core.Bool.{Bool, true, false, not, cond}
use mathlib.Core.List.{List, [], ◌∷◌, ◌++◌}
use native.Mathlib.Omega.{arith}
use borrow.Author.Tests.{eq-eqb, eqb-true, eqb-false, lt-ltb, ltb-false, le-leb, leb-true, leb-false, not-false}
use lib.Dec.{eqb, leb, ltb}
use lib.ListN.{length, drop, length-drop}
use lib.Seq.{length-take-le}
use Rattle.paths_numbers.proofs.Texts.{by_test, not_both}
use Rattle.definition_log.specs.meaning.Record.{record_words, kind_of, next_of, text_start, text_length, second_start, second_length}
use Rattle.definition_log.specs.meaning.Record.{child_of, m_of}
use Rattle.definition_log.specs.meaning.Record.{first_def, first_ext, first_bind, first_diag, first_post, extension_kind, has_children}
use Rattle.definition_log.specs.meaning.Record.{first_text}
use Rattle.definition_log.specs.meaning.Record.{second_text, out_count, most_records, log_count, leads, leads_out}
use Rattle.definition_log.specs.meaning.Sound.{Place, definitions, extensions, bindings, diagnostics, Link, link_to, targets, times}
use Rattle.definition_log.specs.meaning.Sound.{head_links}
use Rattle.definition_log.specs.meaning.Sound.{followed, times_reached, any_of, heads_out, links_out, reached_twice, unfit, texts_out}
use Rattle.definition_log.specs.meaning.Sound.{spans_reversed}
use Rattle.definition_log.specs.meaning.Sound.{path_wrong, record_fault, at_fault, Soundness, sound, broken, first_fault, lowest_fault}
use Rattle.definition_log.specs.meaning.Sound.{wrong_count}
use Rattle.definition_log.specs.meaning.Sound.{soundness}
use Rattle.definition_log.proofs.Counts.{times_append}
use Rattle.definition_log.proofs.Walk.{targets_to, reached_append, to_of, outs, Inside, none, one, inside_followed, leads_below}
use Rattle.definition_log.proofs.Walk.{heads_followed}
use Rattle.definition_log.proofs.Walk.{outs_followed}

-- a record that some link leads to
abbrev pub Reached : List ℕ → ℕ → Type 0
Reached words r = 1 ≤ times_reached (followed words) r

-- the count of records by the count of words
pub count_most : (words : List ℕ) → log_count words ≤ most_records
unfolding log_count
count_most words =
    by_test (leb (out_count words) most_records)
    (λ e. rw e (leb-true (out_count words) most_records e))
    (λ e. rw e (omega arith))

pub count_words : (words : List ℕ) → log_count words ≤ out_count words
unfolding log_count
count_words words =
    by_test (leb (out_count words) most_records)
    (λ e. rw e (omega arith))
    (λ e. rw e (omega (arith, leb-false (out_count words) most_records e)))

-- record 65,536 and those above are out of every log
pub far_out : (words : List ℕ) (r : ℕ) → most_records ≤ r → leads_out words r ≡ true
far_out words r h = le-leb (log_count words) r (omega (arith, count_most words))

-- every word of a record of the log is there
pub word_inside : (words : List ℕ) (r i : ℕ) → r < log_count words → i < record_words → r * record_words + i < length words
word_inside words r i h k = omega (arith, count_words words)

-- the rules without the word count
pub sound_rules : (words bytes : List ℕ) → soundness words bytes ≡ sound → lowest_fault words bytes ≡ sound
unfolding soundness
sound_rules words bytes e =
    by_test (wrong_count words)
    (λ t. let z : ◌≡◌ {A = Soundness} (broken 0) sound = rw t at e in let n : ◌≡◌ {A = ℕ} 0 1 = cc in absurd (omega arith))
    (λ t. rw t at e)

-- record 0 is not at fault, nor is another
others_sound : (words bytes : List ℕ) → lowest_fault words bytes ≡ sound
    → (heads_out words ≡ false) × (first_fault (log_count words - 1) words bytes (followed words) 1 ≡ sound)
unfolding lowest_fault
others_sound words bytes e =
    by_test (heads_out words)
    (λ t. let z : ◌≡◌ {A = Soundness} (broken 0) sound = rw t at e in let n : ◌≡◌ {A = ℕ} 0 1 = cc in absurd (omega arith))
    (λ t. (t, rw t at e))

pub heads_inside : (words bytes : List ℕ) → lowest_fault words bytes ≡ sound → heads_out words ≡ false
heads_inside words bytes ok = (others_sound words bytes ok).0

no_fault : (left : ℕ) (words bytes : List ℕ) (links : List Link) (r : ℕ) → first_fault left words bytes links r ≡ sound
    → (s : ℕ) → r ≤ s → s < r + left → at_fault words bytes links s ≡ false
unfolding first_fault
no_fault zero words bytes links r e s h k = absurd (omega arith)
no_fault (suc left) words bytes links r e s h k =
    by_test (at_fault words bytes links r)
    (λ t. let z : ◌≡◌ {A = Soundness} (broken r) sound = rw t at e in let n : ◌≡◌ {A = ℕ} 0 1 = cc in absurd (omega arith))
    (λ t.
    by_test (eqb r s)
    (λ q. rw (eqb-true r s q) at t)
    (λ q. let n = eqb-false r s q in no_fault left words bytes links (r + 1) (rw t at e) s (omega arith) (omega arith)))

-- none of several things is so
none_of : (t : Bool) (ts : List Bool) → any_of (t ∷ ts) ≡ false → (t ≡ false) × (any_of ts ≡ false)
unfolding any_of
none_of true ts e = absurd (not_both {t = true} refl e)
none_of false ts e = (refl, e)

-- a record that a list of links leads to
inside_in : {words : List ℕ} {ls : List Link} → Inside words ls → (r : ℕ) → 1 ≤ times_reached ls r → leads words r ≡ true
unfolding targets times
inside_in none r h = absurd (omega arith)
inside_in (one {l} e k) r h =
    by_test (eqb l.to r) (λ t. rw (eqb-true l.to r t) at e) (λ t. inside_in k r (omega (arith, rw t at h)))

-- it is a record of the log, and not record 0
pub reached_leads : (words : List ℕ) (r : ℕ) → Reached words r → leads words r ≡ true
reached_leads words r h = inside_in (inside_followed words) r h

pub reached_inside : (words : List ℕ) (r : ℕ) → Reached words r → (0 < r) × (r < log_count words)
reached_inside words r h = leads_below words r (reached_leads words r h)

-- what the rules say of a record that is reached
pub record Good (words bytes : List ℕ) (r : ℕ) : Type 0 where
  pub links : links_out words r ≡ false
  pub once : reached_twice (followed words) r ≡ false
  pub texts : texts_out words bytes r ≡ false
  pub fits : unfit words (followed words) r ≡ false
  pub spans : spans_reversed words r ≡ false
  pub paths : path_wrong words bytes r ≡ false

pub good : (words bytes : List ℕ) → lowest_fault words bytes ≡ sound → (r : ℕ) → Reached words r → Good words bytes r
unfolding at_fault record_fault
good words bytes ok r h =
    let i = reached_inside words r h in
    let f = no_fault (log_count words - 1) words bytes (followed words) 1 (others_sound words bytes ok).1 r (omega arith) (omega arith) in
    let a = none_of _ _ (rw (le-leb 1 (times_reached (followed words) r) h) at f) in
    let b = none_of _ _ a.1 in
    let c = none_of _ _ b.1 in
    let d = none_of _ _ c.1 in
    let e = none_of _ _ d.1 in
    record { links = a.0; once = b.0; texts = c.0; fits = d.0; spans = e.0; paths = (none_of _ _ e.1).0 }

-- the end of a chain, or a record that is reached
abbrev pub EndOrReached : List ℕ → ℕ → Type 0
EndOrReached words t = (t ≡ 0) ⊎ Reached words t

-- a link inside the log is 0 or leads to a record of it
leads_or : (words : List ℕ) (t : ℕ) → leads_out words t ≡ false → (t ≡ 0) ⊎ (leads words t ≡ true)
leads_or words t e =
    by_test (eqb t 0)
    (λ z. inl (eqb-true t 0 z))
    (λ z. inr (rw (z, lt-ltb t (log_count words) (leb-false (log_count words) t e)) refl))

-- a record that a word leads to is once among what it leads to
pub times_to : (words : List ℕ) (t : ℕ) → leads words t ≡ true → times t (to_of words t) ≡ 1
unfolding times
times_to words t e = rw (e, eq-eqb t t refl) refl

-- how often t is among what the links of a record lead to
pub times_outs : (words : List ℕ) (r t : ℕ) → times t (outs words r) ≡
    times t (to_of words (next_of words r))
    + times t (to_of words (child_of words r))
    + times t (cond (eqb (kind_of words r) extension_kind) (to_of words (m_of words r)) [])
unfolding outs
times_outs words r t =
    times_append t (to_of words (next_of words r) ++ to_of words (child_of words r))
    (cond (eqb (kind_of words r) extension_kind) (to_of words (m_of words r)) [])
    ∙ rw (times_append t (to_of words (next_of words r)) (to_of words (child_of words r))) refl

-- what is once among the links of a record that is reached is reached
pub out_reached : (words : List ℕ) (r t : ℕ) → Reached words r → 1 ≤ times t (outs words r) → Reached words t
out_reached words r t h k = omega (arith, outs_followed words r t h)

module _ (words bytes : List ℕ) (ok : lowest_fault words bytes ≡ sound) (r : ℕ) (h : Reached words r) where
  -- it is reached once
  pub reached_once : times_reached (followed words) r ≡ 1
  reached_once = let o = (good words bytes ok r h).once in omega (arith, leb-false)

  -- its texts lie in the bytes
  pub texts_inside : (text_start words r + text_length words r ≤ length bytes) × (second_start words r + second_length words r ≤ length bytes)
  unfolding texts_out
  texts_inside =
      let t = (good words bytes ok r h).texts in
      by_test (ltb (length bytes) (text_start words r + text_length words r))
      (λ e. absurd (not_both {t = true} refl (rw e at t)))
      (λ e. (
        ltb-false (length bytes) (text_start words r + text_length words r) e,
        ltb-false (length bytes)
            (second_start words r + second_length words r) (rw e at t),
      ))

  -- so that they are as long as their words say
  pub text_length_lem : (length (first_text words bytes r) ≡ text_length words r) × (length (second_text words bytes r) ≡ second_length words r)
  text_length_lem =
      let t = texts_inside in (
        length-take-le (text_length words r) (drop (text_start words r) bytes) (omega (arith, length-drop (text_start words r) bytes)),
        length-take-le (second_length words r) (drop (second_start words r) bytes) (omega (arith, length-drop (second_start words r) bytes)),
      )

  -- its links are 0 or lead to records that are reached
  parts : (leads_out words (next_of words r) ≡ false)
      × (cond (has_children (kind_of words r)) (leads_out words (child_of words r)) (not (eqb (child_of words r) 0)) ≡ false)
      × (cond (eqb (kind_of words r) extension_kind) (leads_out words (m_of words r)) false ≡ false)
  unfolding links_out
  parts =
      let a = none_of _ _ (good words bytes ok r h).links in
      let b = none_of _ _ a.1 in
      (a.0, b.0, (none_of _ _ b.1).0)

  pub next_reached : EndOrReached words (next_of words r)
  next_reached = go (leads_or words (next_of words r) parts.0)
    where
      go : (next_of words r ≡ 0) ⊎ (leads words (next_of words r) ≡ true) → EndOrReached words (next_of words r)
      go (inl z) = inl z
      go (inr l) =
          inr (out_reached words r (next_of words r) h (omega (
            arith,
            times_outs words r (next_of words r),
            times_to words (next_of words r)
                l,
          )))

  pub child_reached : has_children (kind_of words r) ≡ true → EndOrReached words (child_of words r)
  child_reached c = go (leads_or words (child_of words r) (rw c at parts.1))
    where
      go : (child_of words r ≡ 0) ⊎ (leads words (child_of words r) ≡ true) → EndOrReached words (child_of words r)
      go (inl z) = inl z
      go (inr l) =
          inr (out_reached words r (child_of words r) h (omega (
            arith,
            times_outs words r (child_of words r),
            times_to words (child_of words r) l,
          )))

  pub childless : has_children (kind_of words r) ≡ false → child_of words r ≡ 0
  childless c = eqb-true (child_of words r) 0 (not-false (eqb (child_of words r) 0) (rw c at parts.1))

  pub body_reached : kind_of words r ≡ extension_kind → EndOrReached words (m_of words r)
  body_reached k = go (leads_or words (m_of words r) (rw c at parts.2))
    where
      c : eqb (kind_of words r) extension_kind ≡ true
      c = eq-eqb (kind_of words r) extension_kind k

      go : (m_of words r ≡ 0) ⊎ (leads words (m_of words r) ≡ true) → EndOrReached words (m_of words r)
      go (inl z) = inl z
      go (inr l) =
          inr (out_reached words r (m_of words r) h (omega (
            arith,
            rw c at (times_outs words r (m_of words r)),
            times_to words (m_of words r)
                l,
          )))

-- how often t is among what record 0's links lead to
pub times_heads : (words : List ℕ) (t : ℕ) → times_reached (head_links words) t ≡
    times t (to_of words (first_def words))
    + times t (to_of words (first_ext words))
    + times t (to_of words (first_bind words))
    + times t (to_of words (first_diag words))
    + times t (to_of words (first_post words))
unfolding head_links
times_heads words t =
    let a = link_to words (first_def words) definitions in
    let b = link_to words (first_ext words) extensions in
    let c = link_to words (first_bind words) bindings in
    let d = link_to words (first_diag words) diagnostics in
    let e = link_to words (first_post words) diagnostics in
    reached_append (a ++ b ++ c ++ d) e t
    ∙ rw (
      reached_append (a ++ b ++ c) d t,
      reached_append (a ++ b) c t,
      reached_append a b t,
      targets_to words (first_def words)
          definitions,
      targets_to words (first_ext words) extensions,
      targets_to words (first_bind words) bindings,
      targets_to words
          (first_diag words) diagnostics,
      targets_to words (first_post words) diagnostics,
    )
    refl

-- the first records of record 0's five chains
pub data Head (words : List ℕ) : ℕ → Place → Type 0 where
  defs : Head words (first_def words) definitions
  exts : Head words (first_ext words) extensions
  binds : Head words (first_bind words) bindings
  diags : Head words (first_diag words) diagnostics
  post : Head words (first_post words) diagnostics

-- record 0's links lead to them
pub head_led : {words : List ℕ} {t : ℕ} {p : Place} → Head words t p → leads words t ≡ true → 1 ≤ times_reached (head_links words) t
head_led {words} defs l = omega (arith, times_heads words (first_def words), times_to words (first_def words) l)
head_led {words} exts l = omega (arith, times_heads words (first_ext words), times_to words (first_ext words) l)
head_led {words} binds l = omega (arith, times_heads words (first_bind words), times_to words (first_bind words) l)
head_led {words} diags l = omega (arith, times_heads words (first_diag words), times_to words (first_diag words) l)
head_led {words} post l = omega (arith, times_heads words (first_post words), times_to words (first_post words) l)

-- and so they are 0 or reached
head_inside : {words : List ℕ} {t : ℕ} {p : Place} → Head words t p → heads_out words ≡ false → leads_out words t ≡ false
unfolding heads_out
head_inside defs f = (none_of _ _ f).0
head_inside exts f = (none_of _ _ (none_of _ _ f).1).0
head_inside binds f = (none_of _ _ (none_of _ _ (none_of _ _ f).1).1).0
head_inside diags f = (none_of _ _ (none_of _ _ (none_of _ _ (none_of _ _ f).1).1).1).0
head_inside post f = (none_of _ _ (none_of _ _ (none_of _ _ (none_of _ _ (none_of _ _ f).1).1).1).1).0

pub head_reached : (words bytes : List ℕ) → lowest_fault words bytes ≡ sound → {t : ℕ} {p : Place} → Head words t p → EndOrReached words t
head_reached words bytes ok {t} x = go (leads_or words t (head_inside x (heads_inside words bytes ok)))
  where
    go : (t ≡ 0) ⊎ (leads words t ≡ true) → EndOrReached words t
    go (inl z) = inl z
    go (inr l) = inr (omega (arith, head_led x l, heads_followed words t))
