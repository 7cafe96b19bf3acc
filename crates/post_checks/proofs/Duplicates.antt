-- Duplicate labels: what was seen, by the bindings passed (again), and the steps of both walks.
use Prim.Native.Nat.{ℕ, ◌+◌, ◌-◌}
use mathlib.Core.Path.{◌≡◌, refl, sym, ap, subst, ◌∙◌}
use mathlib.Core.Bool.{Bool, true, false, cond}
use mathlib.Core.List.{List, [], ◌∷◌, ◌++◌, map, map-append}
use native.Mathlib.Omega.{arith}
use lib.ListN.{length}
use Rattle.paths_numbers.specs.meaning.Text.{same}
use Rattle.paths_numbers.proofs.Texts.{by_test, same_true, same_refl, same_ne, same_false}
use Rattle.making.specs.declared.ctx.LowerCtx.{LowerCtx}
use Rattle.making.specs.declared.place.PathAt.{PathAt}
use Rattle.definition_log.specs.declared.parts.Span as declared
use Rattle.definition_log.specs.declared.chain.Walk.{Walk}
use Rattle.definition_log.specs.machine.ChainLeft.{Stepped}
use Rattle.definition_log.proofs.ChainLeft.{goes_left}
use Rattle.definition_log.specs.meaning.Contents.{Binding}
use Rattle.definition_log.specs.meaning.Record.{next_of, span_start, span_end, text_start, text_length, log_count}
use Rattle.definition_log.specs.meaning.ReadBack.{chain_from, chain_of, span_at, binding_at, read_bindings}
use Rattle.making.specs.machine.PathPlaces.{path_in}
use Rattle.making.specs.machine.Recs.{diag_made}
use Rattle.definition_log.specs.machine.Parts.{meant}
use Rattle.making.specs.meaning.State.{State, emit}
use Rattle.making.specs.machine.Represents.{Steps}
use Rattle.making.specs.machine.Kept.{Still, All, all_none, all_more, Kept, Keeps}
use Rattle.making.proofs.InHand.{represents_bindings}
use Rattle.making.proofs.Keeping.{still_kept, binds_still, first_place}
use Rattle.paths_numbers.specs.meaning.Lists.{any}
use Rattle.post_checks.specs.meaning.Post.{duplicates_of, duplicate_labels}
use Rattle.resolving.specs.machine.Lowers.{Lowers}
use Rattle.post_checks.specs.machine.Checks.{Reports, has_label, again, is_reported, binding_report, label_reports, text_place}
use Rattle.post_checks.proofs.Checks.{all_behind, all_before, all_first, chain_front, chain_kept, all_kept, reports_none}
use Rattle.post_checks.proofs.Checks.{reports_one, reports_as, reports_lower}

same_turned : (s t : List ℕ) → same s t ≡ same t s
same_turned s t =
    by_test (same t s)
    (λ e. rw (e, same_true t s e) (same_refl s))
    (λ e. rw e (same_ne s t (λ q. same_false t s e (sym q))))

any_alike : {A : Type 0} (f g : A → Bool) (l : List A) → ((x : A) → f x ≡ g x) → any f l ≡ any g l
unfolding any
any_alike f g [] h = refl
any_alike f g (x ∷ l) h = rw (h x, any_alike f g l h) refl

-- what has been seen after a list: the keys of those that count, each once
module _ (counts : Binding → Bool) (key : Binding → List ℕ) where
  unfoldable pub seen_next : List (List ℕ) → Binding → List (List ℕ)
  seen_next ls b = cond (counts b) (cond (any (same (key b)) ls) ls (key b ∷ ls)) ls

  unfoldable pub seen : List (List ℕ) → List Binding → List (List ℕ)
  seen ls [] = ls
  seen ls (b ∷ bs) = seen (seen_next ls b) bs

  seen_more : (ls : List (List ℕ)) (xs : List Binding) (b : Binding) → seen ls (xs ++ b ∷ []) ≡ seen_next (seen ls xs) b
  unfolding seen
  seen_more ls [] b = refl
  seen_more ls (x ∷ xs) b = seen_more (seen_next ls x) xs b

  abbrev hit : List ℕ → Binding → Bool
  hit p x = cond (counts x) (same p (key x)) false

  next_any : (p : List ℕ) (ls : List (List ℕ)) (b : Binding) → any (same p) (seen_next ls b) ≡ cond (any (same p) ls) true (hit p b)
  unfolding seen_next any
  next_any p ls b =
      by_test (counts b)
      (λ t.
      by_test (any (same (key b)) ls)
      (λ u.
      by_test (same p (key b))
      (λ v. let e : any (same p) ls ≡ true = rw (same_true p (key b) v) u in rw (t, u, e) refl)
      (λ v. rw (t, u, v) (by_test (any (same p) ls) (λ x. rw x refl) (λ x. rw x refl))))
      (λ u.
      by_test (same p (key b))
      (λ v. rw (t, u, v) (by_test (any (same p) ls) (λ x. rw x refl) (λ x. rw x refl)))
      (λ v. rw (t, u, v) (by_test (any (same p) ls) (λ x. rw x refl) (λ x. rw x refl)))))
      (λ t. rw t (by_test (any (same p) ls) (λ x. rw x refl) (λ x. rw x refl)))

  seen_any : (p : List ℕ) (ls : List (List ℕ)) (xs : List Binding)
      → any (same p) (seen ls xs) ≡ cond (any (same p) ls) true (any (hit p) xs)
  unfolding seen any
  seen_any p ls [] = by_test (any (same p) ls) (λ x. rw x refl) (λ x. rw x refl)
  seen_any p ls (b ∷ bs) =
      seen_any p (seen_next ls b) bs
      ∙ rw (next_any p ls b)
      (by_test (any (same p) ls) (λ x. rw x refl) (λ x. rw x refl))

-- the paths seen among a label's bindings, and the labels seen
abbrev pub paths_seen : Binding → List Binding → List (List ℕ)
paths_seen b xs = seen (λ (x : Binding). same x.label b.label) (λ (x : Binding). x.path) (b.path ∷ []) xs

abbrev pub labels_seen : List Binding → List (List ℕ)
labels_seen xs = seen (λ (x : Binding). true) (λ (x : Binding). x.label) [] xs

-- one binding more of a label's
pub duplicates_next : (b c : Binding) (xs later : List Binding)
    → duplicates_of b (paths_seen b xs) (c ∷ later) ≡ binding_report b c xs ++ duplicates_of b (paths_seen b (xs ++ c ∷ [])) later
unfolding duplicates_of seen_next any
duplicates_next b c xs later =
    let more = seen_more (λ (x : Binding). same x.label b.label) (λ (x : Binding). x.path) (b.path ∷ []) xs c in
    by_test (same c.label b.label)
    (λ t.
    let e : c.label ≡ b.label = same_true c.label b.label t in
    let alike : any (λ (x : Binding). cond (same x.label b.label) (same c.path x.path) false) xs ≡ any (again c) xs
    = any_alike _ (again c) xs (λ x. rw (same_turned x.label b.label, ← e) refl) in
    let q = seen_any (λ (x : Binding). same x.label b.label) (λ (x : Binding). x.path) c.path (b.path ∷ []) xs in
    by_test (same c.path b.path)
    (λ u.
    let s : any (same c.path) (paths_seen b xs) ≡ true = q ∙ rw u refl in
    rw (more, t, u, s) refl)
    (λ u.
    let s : any (same c.path) (paths_seen b xs) ≡ any (again c) xs = q ∙ rw u alike in
    by_test (any (again c) xs)
    (λ v. rw (more, t, u, s, v) refl)
    (λ v. rw (more, t, u, s, v) refl)))
    (λ t. rw (more, t) refl)

-- one binding more
pub labels_next : (b : Binding) (xs later : List Binding)
    → duplicate_labels (labels_seen xs) (b ∷ later) ≡ label_reports b xs later ++ duplicate_labels (labels_seen (xs ++ b ∷ [])) later
unfolding duplicate_labels label_reports seen_next any
labels_next b xs later =
    let more = seen_more (λ (x : Binding). true) (λ (x : Binding). x.label) [] xs b in
    let s : any (same b.label) (labels_seen xs) ≡ any (has_label b) xs = seen_any (λ (x : Binding). true) (λ (x : Binding). x.label)
    b.label [] xs in
    by_test (any (has_label b) xs)
    (λ t. rw (more, s, t) refl)
    (λ t. rw (more, s, t) refl)

-- bindings that are kept
module _ {c d : LowerCtx} {words bytes w b : List ℕ} (h : Kept c d words bytes w b) where
  pub binding_kept : {r : ℕ} → Still words c.records r → binding_at w b r ≡ binding_at words bytes r
  unfolding binding_at
  binding_kept {r} s =
      let x : span_start w r ≡ span_start words r = h.field r 9 s (omega arith) in
      let y : span_end w r ≡ span_end words r = h.field r 10 s (omega arith) in
      rw (h.first r s, h.second r s, x, y) refl

  pub bindings_kept : {l : List ℕ} → All (Still words c.records) l → map (binding_at w b) l ≡ map (binding_at words bytes) l
  bindings_kept all_none = refl
  bindings_kept (all_more {r} {l} s a) = cc (binding_kept s, bindings_kept a)

abbrev left_of : Walk → ℕ → Walk
left_of whole n = record { next = whole.next; left = n }

-- what was passed before the record that a step came to
pub passed_before : {words : List ℕ} {s t q : Walk} {r : ℕ} (whole : Walk) → Stepped words s t r
    → q ≡ record { next = whole.next; left = whole.left - t.left - 1 }
    → q ≡ record { next = whole.next; left = whole.left - s.left }
passed_before {words} {s} {t} {r = r} whole p e =
    e ∙ ap (left_of whole) (omega (arith, p.left, goes_left words r s.left p.going))

-- what is left of the bindings behind a label's first one, at r: the step of check_bindings
module _ {c d : LowerCtx} {words bytes w b : List ℕ} (kept : Kept c d words bytes w b) where
  -- what was passed, read after the reports
  passed_kept : (most after left r : ℕ) (passed later : List ℕ) → All (Still words c.records) (chain_from most words after)
      → chain_from most words after ≡ passed ++ r ∷ later → length passed + left ≡ most
      → map (binding_at w b) (chain_from (most - left) w after) ≡ map (binding_at words bytes) passed
  passed_kept most after left r passed later a ch st =
      let n : most - left ≡ length passed = omega arith in
      let front = chain_front most words after passed (r ∷ later) ch in
      let p : All (Still words c.records) passed = all_before passed (r ∷ later)
      (subst (λ (l : List ℕ). All (Still words c.records) l) ch a) in
      let k : chain_from (length passed) w after ≡ passed = chain_kept kept (length passed) after
      (subst (λ (l : List ℕ). All (Still words c.records) l) (sym front) p) ∙ front in
      rw (n, k) (bindings_kept kept p)

  pub duplicates_kept : (most first after left r : ℕ) (passed later : List ℕ)
      → All (Still words c.records) (first ∷ chain_from most words after)
      → Still words c.records r → chain_from most words after ≡ passed ++ r ∷ later → length passed + left ≡ most
      → duplicates_of (binding_at words bytes first) (paths_seen (binding_at words bytes first) (map (binding_at words bytes) passed))
      (map (binding_at words bytes) (r ∷ later))
      ≡ binding_report (binding_at w b first) (binding_at w b r) (map (binding_at w b) (chain_from (most - left) w after))
      ++ duplicates_of (binding_at words bytes first) (paths_seen (binding_at words bytes first)
      (map (binding_at words bytes) (passed ++ r ∷ []))) (map (binding_at words bytes) later)
  duplicates_kept most first after left r passed later a s ch st =
      let x = passed_kept most after left r passed later (all_behind (first ∷ []) a) ch st in
      rw (x, binding_kept kept (all_first a), binding_kept kept s, map-append (binding_at words bytes) passed (r ∷ []))
      (duplicates_next (binding_at words bytes first) (binding_at words bytes r) (map (binding_at words bytes) passed)
      (map (binding_at words bytes) later))

  -- and of all bindings: the step of check_duplicate_labels
  module _ (most first left r : ℕ) (passed : List ℕ) (a : All (Still words c.records) (chain_from most words first))
      (s : Still words c.records r)
      (ch : chain_from most words first ≡ passed ++ r ∷ chain_from (left - 1) words (next_of words r)) (st : length passed + left ≡ most) where
    later_still : All (Still words c.records) (chain_from (left - 1) words (next_of words r))
    later_still = all_behind (r ∷ []) (all_behind passed (subst (λ (l : List ℕ). All (Still words c.records) l) ch a))

    later_kept : chain_from (left - 1) w (next_of w r) ≡ chain_from (left - 1) words (next_of words r)
    later_kept =
        let ne : next_of w r ≡ next_of words r = kept.field r 1 s (omega arith) in
        rw ne (chain_kept kept (left - 1) (next_of words r) later_still)

    pub label_still : All (Still w d.records) (r ∷ chain_from (left - 1) w (next_of w r))
    label_still = all_more (still_kept kept s) (subst (λ (l : List ℕ). All (Still w d.records) l) (sym later_kept)
        (all_kept kept later_still))

    pub labels_kept : duplicate_labels (labels_seen (map (binding_at words bytes) passed))
        (map (binding_at words bytes) (r ∷ chain_from (left - 1) words (next_of words r)))
        ≡ label_reports (binding_at w b r) (map (binding_at w b) (chain_from (most - left) w first))
        (map (binding_at w b) (chain_from (left - 1) w (next_of w r)))
        ++ duplicate_labels (labels_seen (map (binding_at words bytes) (passed ++ r ∷ [])))
        (map (binding_at words bytes) (chain_from (left - 1) words (next_of words r)))
    labels_kept =
        let x = passed_kept most first left r passed (chain_from (left - 1) words (next_of words r)) a ch st in
        rw (x, later_kept, bindings_kept kept later_still, binding_kept kept s, map-append (binding_at words bytes) passed (r ∷ []))
        (labels_next (binding_at words bytes r) (map (binding_at words bytes) passed)
        (map (binding_at words bytes) (chain_from (left - 1) words (next_of words r))))

-- where the walks start
pub paths_start : (b : Binding) (later : List Binding) → duplicates_of b (b.path ∷ []) later ≡ duplicates_of b (paths_seen b []) later
unfolding seen
paths_start b later = refl

pub labels_start : (later : List Binding) → duplicate_labels [] later ≡ duplicate_labels (labels_seen []) later
unfolding seen
labels_start later = refl

-- the report on a binding, or none
module _ {c : LowerCtx} {words bytes : List ℕ} (first r : ℕ) (between : List Binding) (t : Bool)
    (e : t ≡ is_reported (binding_at words bytes first) (binding_at words bytes r) between) where
  pub binding_none : t ≡ false → Reports c c words bytes words bytes (r ∷ [])
      (binding_report (binding_at words bytes first) (binding_at words bytes r) between)
  binding_none f =
      let q : is_reported (binding_at words bytes first) (binding_at words bytes r) between ≡ false = sym e ∙ f in
      rw q (reports_none c words bytes (r ∷ []))

  pub binding_one : {d : LowerCtx} {w b : List ℕ} (sp ep : declared.Span) (p : PathAt) → t ≡ true → meant sp ≡ span_at words r
      → meant ep ≡ span_at words first
      → p ≡ text_place (text_start words r) (text_length words r) → Steps c d words bytes w b
      (emit (diag_made 20 (path_in c.bytes bytes p) sp ep ∷ [])) → Keeps c d words bytes w b
      → Reports c d words bytes w b (r ∷ []) (binding_report (binding_at words bytes first) (binding_at words bytes r) between)
  unfolding binding_at
  binding_one sp ep p f x y z st h =
      let q : is_reported (binding_at words bytes first) (binding_at words bytes r) between ≡ true = sym e ∙ f in
      rw q (reports_as (reports_one h st) (λ k s rep n a. rw (z, first_place rep n (all_first a), x, y) refl))

-- the reports on a label, or none where it was bound before
module _ {c : LowerCtx} {words bytes : List ℕ} (rs : List ℕ) (b : Binding) (before later : List Binding) (t : Bool)
    (e : t ≡ any (has_label b) before) where
  pub label_none : t ≡ true → Reports c c words bytes words bytes rs (label_reports b before later)
  unfolding label_reports
  label_none f =
      let q : any (has_label b) before ≡ true = sym e ∙ f in
      rw q (reports_none c words bytes rs)

  pub label_some : {d : LowerCtx} {w u : List ℕ} → t ≡ false → Reports c d words bytes w u rs (duplicates_of b (b.path ∷ []) later)
      → Reports c d words bytes w u rs (label_reports b before later)
  unfolding label_reports
  label_some f h =
      let q : any (has_label b) before ≡ false = sym e ∙ f in
      rw q h

-- as what lowering does to the log
pub labels_lower : {c d : LowerCtx} {words bytes w b : List ℕ}
    → Reports c d words bytes w b (chain_from (log_count words) words c.binds.first)
    (duplicate_labels [] (map (binding_at words bytes) (chain_from (log_count words) words c.binds.first)))
    → Lowers c d words bytes w b (λ (s : State). emit (duplicate_labels [] s.binds) s)
unfolding read_bindings chain_of
labels_lower h = reports_lower (λ (s : State). duplicate_labels [] s.binds) h
    (λ k s r z. (binds_still r z, ap (λ (bs : List Binding). duplicate_labels [] bs) (represents_bindings r z)))
