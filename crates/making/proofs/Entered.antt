-- A body entered: its log is empty, and the log around it waits.
use Prim.Native.Nat.{ℕ, ◌+◌, ◌≤◌, ◌<◌}
use mathlib.Core.Path.{◌≡◌, refl, sym, ap, ◌∙◌}
use mathlib.Core.Bool.{Bool, true, false}
use mathlib.Core.List.{List, [], ◌∷◌, ◌++◌, append-nil}
use native.Mathlib.Omega.{arith}
use lib.ListN.{length}
use Rattle.paths_numbers.proofs.Texts.{by_test}
use Rattle.making.specs.declared.ctx.LowerCtx.{LowerCtx}
use Rattle.making.specs.meaning.State.{State, apart}
use Rattle.making.specs.machine.Events.{Event, defs_of, exts_of, first, last, members, defs_in}
use Rattle.making.specs.machine.Made.{no_chain, entered}
use Rattle.making.specs.machine.Holding.{Runs}
use Rattle.making.specs.machine.Represents.{Out, Waiting, Context, log_of, exts_log, before, Each, each_none, each_next, Sort, is_def}
use Rattle.making.specs.machine.Represents.{is_ext, is_binding, is_diag, is_part, exts_in, OtherBody, Open, no_places, above, TooMuch}
use Rattle.making.specs.machine.Represents.{records_over, bytes_over, most_over, Represents, going, over, in_body, Enters, InHand}
use Rattle.making.specs.machine.Represents.{main-log, this_log, log_around}
use Rattle.making.specs.machine.Whole.{There}
use Rattle.definition_log.specs.meaning.Record.{extension_kind}
use Rattle.making.proofs.Append.{chain_other}
use Rattle.making.proofs.Members.{first_before, last_before, members_before}
use Rattle.making.proofs.Growing.{each_at, no_child_lem}
use Rattle.making.proofs.Below.{last_at, none_last}
use Rattle.making.proofs.Represented.{common_as}
use Rattle.making.proofs.PartSteps.{low}
use Rattle.making.proofs.FirstOf.{at_to}
use Rattle.making.proofs.MakingMore.{making_hand}
use Rattle.making.proofs.Standing.{extends}

-- a log's number is not above those of its extensions
pub low_ext : {es : List Event} {k : ℕ} {e : Event} (l : ℕ) → Sort es k e → e.chain ≡ exts_of l → l ≤ k
low_ext l (is_def j c h k) q = absurd (omega (arith, sym c ∙ q))
low_ext l (is_ext j c h k b) q = omega (arith, sym c ∙ q)
low_ext l (is_binding c k) q = absurd (omega (arith, sym c ∙ q))
low_ext l (is_diag true c k) q = absurd (omega (arith, sym c ∙ q))
low_ext l (is_diag false c k) q = absurd (omega (arith, sym c ∙ q))
low_ext l (is_part r o c a h k) q = absurd (omega (arith, sym c ∙ q))

low_body : {es : List Event} {k : ℕ} {e : Event} (x : ℕ) → Sort es k e → e.chain ≡ exts_of x → e.log ≤ k
low_body l (is_def j c h k) q = absurd (omega (arith, sym c ∙ q))
low_body l (is_ext j c h k b) q = b
low_body l (is_binding c k) q = absurd (omega (arith, sym c ∙ q))
low_body l (is_diag true c k) q = absurd (omega (arith, sym c ∙ q))
low_body l (is_diag false c k) q = absurd (omega (arith, sym c ∙ q))
low_body l (is_part r o c a h k) q = absurd (omega (arith, sym c ∙ q))

-- before its first record no record is in a log
no_defs : {gs : List Event} (l k : ℕ) (es : List Event) → Each (Sort gs) k es → k + length es ≤ l → Each (Out (defs_of l)) k es
no_defs l k [] each_none h = each_none
no_defs l k (e ∷ es) (each_next s q) h = each_next (chain_other e.chain (defs_of l) e refl (λ z. omega (arith, low l s z)))
    (no_defs l (k + 1) es q (omega arith))

no_exts : {gs : List Event} (l k : ℕ) (es : List Event) → Each (Sort gs) k es → k + length es ≤ l → Each (Out (exts_of l)) k es
no_exts l k [] each_none h = each_none
no_exts l k (e ∷ es) (each_next s q) h = each_next (chain_other e.chain (exts_of l) e refl (λ z. omega (arith, low_ext l s z)))
    (no_exts l (k + 1) es q (omega arith))

other_bodies : {gs : List Event} (l k : ℕ) (es : List Event) → Each (Sort gs) k es → k + length es ≤ l → Each (OtherBody l) k es
other_bodies l k [] each_none h = each_none
other_bodies l k (e ∷ es) (each_next s q) h =
    let p : OtherBody l k e = λ x c t z. omega (arith, low_body x s c, z) in
    each_next p (other_bodies l (k + 1) es q (omega arith))

pub no_runs : (c : ℕ) (es : List Event) → Each (Out c) 1 es → Runs c no_chain es
unfolding first last
no_runs c es h =
    record { first_is = sym (first_before c 1 [] es h); last_is = sym (last_before c 1 [] es h) }

pub no_members : (c : ℕ) (es : List Event) → Each (Out c) 1 es → members c 1 es ≡ []
unfolding members
no_members c es h = members_before c 1 [] es h

-- a log that says something has a lower number than the next record
numbered : {ws : List Waiting} {c : LowerCtx} {es : List Event} {s : State} → Open ws c es s → Each (Sort es) 1 es → (s.defs ≡ [] → ⊥)
    → log_of ws < 1 + length es
unfolding defs_in
numbered {ws} {es = es} o ss n =
    let l = log_of ws in
    let full : last (defs_of l) 1 es ≡ 0 → ⊥ = λ z. n (sym o.defs_say ∙ rw (none_last (defs_of l) 1 es (omega arith) z) refl) in
    let f = last_at (defs_of l) 1 es full in
    omega (arith, low l (each_at ss f.at) f.chain, at_to f.at)

-- what is too much stays so
pub same_need : {words bytes : List ℕ} {s t : State} → t.records ≡ s.records → t.bytes ≡ s.bytes → TooMuch words bytes s
    → TooMuch words bytes t
same_need r b (records_over h) = records_over (rw r h)
same_need r b (bytes_over h) = bytes_over (rw b h)
same_need r b (most_over h) = most_over (rw b h)

pub enters : {k : Context} {c d : LowerCtx} {words bytes : List ℕ} {s : State} (keeps : Bool) → d ≡ entered c keeps
    → (keeps ≡ true → s.defs ≡ [] → ⊥)
    → Represents k c words bytes s → Represents (in_body k c s keeps) d words bytes (apart s)
unfolding apart entered exts_log defs_in before exts_in
enters keeps q n (over h m) = over (ap (λ (a : LowerCtx). a.short) q ∙ h) (same_need refl refl m)
enters {k} {c} {d} {s = s} keeps q n (going es h l cr cb o m st ps ss mk) =
    rw q
    (going es h l cr cb (opened keeps) (common_as refl refl refl refl refl refl refl m)
    (above {w = record { mark = c.records; keeps = keeps; ctx = c; state = s; places = k.places }} {ws = k.waiting} es []
    (sym (append-nil es)) l.records_are (λ t. rw l.records_are (numbered o ss (n t))) o ps each_none st mk) no_places ss
    (making_hand (λ j y. log_around y) mk fresh))
  where
    -- no extension's body is in hand
    fresh : (r : ℕ) (e : Event) → There es r e → e.kind ≡ extension_kind
        → InHand (record { mark = c.records; keeps = keeps; ctx = c; state = s; places = k.places } ∷ k.waiting) e.log → ⊥
    fresh r e y z (main-log i) = (extends (mk.stands r e y) z).own (main-log i)
    fresh r e y z (this_log i) =
        let x = extends (mk.stands r e y) z in
        omega (arith, low_body x.log (each_at ss y.at) x.chain, at_to y.at, l.records_are, i)
    fresh r e y z (log_around i) = (extends (mk.stands r e y) z).own i

    opened : (keeps : Bool) → Open (record { mark = c.records; keeps = keeps; ctx = c; state = s; places = k.places } ∷ k.waiting)
        (entered c keeps) es (apart s)
    opened keeps =
        let low₀ : 1 + length es ≤ c.records = omega (arith, l.records_are) in
        let d₀ = no_defs c.records 1 es ss low₀ in
        record {
          defs_run = no_runs (defs_of c.records) es d₀;
          exts_run = by_test keeps (λ t. rw t o.exts_run) (λ t. rw t
              (no_runs (exts_of c.records) es (no_exts c.records 1 es ss low₀)));
          part_is = sym (no_child_lem ss);
          cell_is = sym (no_child_lem ss);
          defs_say = rw (no_members (defs_of c.records) es d₀) refl;
          exts_say = by_test keeps (λ t. rw t (o.exts_say ∙ sym (append-nil (before k.waiting ++ s.exts))))
              (λ t. rw (t, no_members (exts_of c.records) es (no_exts c.records 1 es ss low₀)) refl);
          others = other_bodies c.records 1 es ss low₀;
          passed = λ p. no_exts c.records 1 es ss low₀;
        }

pub enters_body : {c d : LowerCtx} (keeps : Bool) → d ≡ entered c keeps → Enters c d keeps
unfolding entered
enters_body keeps q = record { enters = λ k words bytes s n h. enters keeps q n h; short = ap (λ (a : LowerCtx). a.short) q }
