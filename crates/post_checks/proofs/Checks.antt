-- Walks through a chain that report on the way: what each step adds, and that the chain stays (Walks).
use Prim.Native.Nat.{ℕ, zero, suc, ◌+◌, ◌-◌, ◌<◌}
use mathlib.Core.Path.{◌≡◌, refl, sym, ap, subst, ◌∙◌}
use mathlib.Core.Bool.{true, false}
use mathlib.Core.List.{List, [], ◌∷◌, ◌++◌, append_assoc, append-nil}
use native.Mathlib.Omega.{arith}
use lib.ListN.{length, get_or, length-append}
use Rattle.paths_numbers.proofs.Texts.{by_test, not_both}
use Rattle.making.specs.declared.ctx.LowerCtx.{LowerCtx}
use Rattle.definition_log.specs.meaning.Contents.{Diag}
use Rattle.definition_log.specs.meaning.Record.{next_of, leads, log_count}
use Rattle.definition_log.specs.meaning.ReadBack.{chain_from}
use Rattle.making.specs.meaning.State.{State, emit, diags_bytes}
use Rattle.making.specs.machine.Represents.{Context, Represents, Steps}
use Rattle.making.specs.machine.Kept.{Still, All, all_none, all_more, Kept, Keeps}
use Rattle.making.proofs.Keeping.{kept_none, kept_then, still_kept}
use Rattle.definition_log.specs.declared.chain.Walk as chain
use Rattle.definition_log.specs.machine.ChainLeft.{goes_on, Stopped, Stepped}
use Rattle.definition_log.proofs.ChainLeft.{goes, goes_left, stops}
use Rattle.resolving.specs.machine.Lowers.{Lowers}
use Rattle.post_checks.specs.machine.Checks.{Reports}
use Rattle.resolving.proofs.Lowers.{emit_grows, stays_over}

-- diagnostics made in two steps, and none
bytes_both : (ds es : List Diag) → diags_bytes (ds ++ es) ≡ diags_bytes ds + diags_bytes es
unfolding diags_bytes
bytes_both [] es = omega arith
bytes_both (d ∷ ds) es = rw (bytes_both ds es) (omega arith)

pub emit_then : (ds es : List Diag) (s : State) → emit es (emit ds s) ≡ emit (ds ++ es) s
unfolding emit
emit_then ds es s =
    let n : s.records + length ds + length es ≡ s.records + length (ds ++ es) = rw (length-append ds es) (omega arith) in
    let m : s.bytes + diags_bytes ds + diags_bytes es ≡ s.bytes + diags_bytes (ds ++ es) = rw (bytes_both ds es) (omega arith) in
    rw (append_assoc s.diags ds es, n, m) refl

pub emit_none : (s : State) → emit [] s ≡ s
unfolding emit diags_bytes
emit_none s =
    let n : s.records + 0 ≡ s.records = omega arith in
    let m : s.bytes + 0 ≡ s.bytes = omega arith in
    rw (append-nil s.diags, n, m) refl

-- parts of what is so of each
pub all_behind : {P : ℕ → Type 0} (xs : List ℕ) {ys : List ℕ} → All P (xs ++ ys) → All P ys
all_behind [] h = h
all_behind (x ∷ xs) (all_more p h) = all_behind xs h

pub all_before : {P : ℕ → Type 0} (xs ys : List ℕ) → All P (xs ++ ys) → All P xs
all_before [] ys h = all_none
all_before (x ∷ xs) ys (all_more p h) = all_more p (all_before xs ys h)

pub all_first : {P : ℕ → Type 0} {r : ℕ} {l : List ℕ} → All P (r ∷ l) → P r
all_first (all_more p h) = p

pub all_at : {P : ℕ → Type 0} {l : List ℕ} → All P l → (i : ℕ) → i < length l → P (get_or l i 0)
all_at all_none i h = absurd (omega arith)
all_at (all_more p a) zero h = p
all_at (all_more p a) (suc i) h = all_at a i (omega arith)

pub all_map : {P Q : ℕ → Type 0} {l : List ℕ} → ((r : ℕ) → P r → Q r) → All P l → All Q l
all_map f all_none = all_none
all_map f (all_more p h) = all_more (f _ p) (all_map f h)

-- the front of a chain is a chain
pub chain_front : (n : ℕ) (words : List ℕ) (f : ℕ) (xs ys : List ℕ) → chain_from n words f ≡ xs ++ ys → chain_from (length xs) words f ≡ xs
unfolding chain_from
chain_front n words f [] ys e = refl
chain_front zero words f (x ∷ xs) ys e = let z : ◌≡◌ {A = ℕ} 0 1 = cc in absurd (omega arith)
chain_front (suc n) words f (x ∷ xs) ys e =
    by_test (leads words f)
    (λ t.
    let q : f ∷ chain_from n words (next_of words f) ≡ x ∷ (xs ++ ys) = rw t at e in
    let h : f ≡ x = cc in
    let i : chain_from n words (next_of words f) ≡ xs ++ ys = cc in
    rw (t, chain_front n words (next_of words f) xs ys i, h) refl)
    (λ t. let q : [] ≡ x ∷ (xs ++ ys) = rw t at e in let z : ◌≡◌ {A = ℕ} 0 1 = cc in absurd (omega arith))

-- a chain goes on by the count of the log's records
pub goes_alike : (words w : List ℕ) (r left : ℕ) → log_count w ≡ log_count words → goes_on words r left ≡ goes_on w r left
unfolding goes_on
goes_alike words w r left e = rw e refl

-- a chain of records that stay is the same
module _ {c d : LowerCtx} {words bytes w b : List ℕ} (h : Kept c d words bytes w b) where
  pub chain_kept : (n r : ℕ) → All (Still words c.records) (chain_from n words r) → chain_from n w r ≡ chain_from n words r
  unfolding chain_from
  chain_kept zero r a = refl
  chain_kept (suc n) r a =
      let e : leads w r ≡ leads words r = rw h.count refl in
      by_test (leads words r)
      (λ t.
      let q : All (Still words c.records) (r ∷ chain_from n words (next_of words r)) = rw t at a in
      let z : next_of w r ≡ next_of words r = h.field r 1 (all_first q) (omega arith) in
      rw (e, t, z) (ap (λ (l : List ℕ). r ∷ l) (chain_kept n (next_of words r) (all_behind (r ∷ []) q))))
      (λ t. rw (e, t) refl)

  pub all_kept : {l : List ℕ} → All (Still words c.records) l → All (Still w d.records) l
  all_kept a = all_map (λ r s. still_kept h s) a

-- nothing reported, and a diagnostic that the log makes
pub reports_none : (c : LowerCtx) (words bytes : List ℕ) (rs : List ℕ) → Reports c c words bytes words bytes rs []
reports_none c words bytes rs =
    record { reports = λ k s r a. rw (emit_none s) r; keeps = λ k s r a. kept_none c words bytes; stays = λ z. (z, refl, refl) }

pub reports_one : {c d : LowerCtx} {words bytes w b : List ℕ} {ds : List Diag} {rs : List ℕ} → Keeps c d words bytes w b
    → Steps c d words bytes w b (emit ds)
    → Reports c d words bytes w b rs ds
reports_one {c} {ds = ds} h t =
    record {
      reports = λ k s r a. by_test c.short (λ z. stays_over (emit ds s) t.stays z ((emit_grows ds).records s) ((emit_grows ds).bytes s)
          r) (λ z. t.steps k s r z);
      keeps = λ k s r a. h.keeps k s r;
      stays = t.stays;
    }

-- the same diagnostics, as they are told where the records stand
pub reports_as : {c d : LowerCtx} {words bytes w b : List ℕ} {ds es : List Diag} {rs : List ℕ} → Reports c d words bytes w b rs ds
    → ((k : Context) (s : State) → Represents k c words bytes s → c.short ≡ false → All (Still words c.records) rs → ds ≡ es)
    → Reports c d words bytes w b rs es
reports_as {c} {d} {words} {bytes} {w} {b} {es = es} h e =
    record {
      reports = λ k s r a.
          by_test c.short
          (λ z. stays_over (emit es s) h.stays z ((emit_grows es).records s) ((emit_grows es).bytes s) r)
          (λ z. subst (λ (l : List Diag). Represents k d w b (emit l s)) (e k s r z (a z)) (h.reports k s r a));
      keeps = h.keeps;
      stays = h.stays;
    }

-- the same where other records stay, and with them these
pub reports_under : {c d : LowerCtx} {words bytes w b : List ℕ} {ds : List Diag} {rs qs : List ℕ} → Reports c d words bytes w b rs ds
    → ((k : Context) (s : State) → Represents k c words bytes s → c.short ≡ false → All (Still words c.records) qs
    → All (Still words c.records) rs)
    → Reports c d words bytes w b qs ds
reports_under h f =
    record {
      reports = λ k s r a. h.reports k s r (λ z. f k s r z (a z));
      keeps = λ k s r a. h.keeps k s r (λ z. f k s r z (a z));
      stays = h.stays;
    }

-- two steps: what the second reports, as it was told before the first
pub reports_then : {c d e : LowerCtx} {words bytes w b v u : List ℕ} {ds fs : List Diag} {rs qs : List ℕ} (es : List Diag)
    → Reports c d words bytes w b rs ds → Reports d e w b v u qs fs
    → ((k : Context) (s : State) → Represents k c words bytes s → c.short ≡ false → Kept c d words bytes w b
    → All (Still words c.records) rs
    → All (Still w d.records) qs × (fs ≡ es))
    → Reports c e words bytes v u rs (ds ++ es)
reports_then {c} {d} {e} {words} {bytes} {w} {b} {v} {u} {ds} {fs} {rs} {qs} es h g f =
    record {
      reports = λ k s r a.
          by_test c.short
          (λ z. stays_over (emit (ds ++ es) s) stay z ((emit_grows (ds ++ es)).records s) ((emit_grows (ds ++ es)).bytes s) r)
          (λ z.
          let i = f k s r z (h.keeps k s r a) (a z) in
          subst (λ (t : State). Represents k e v u t) (ap (λ (l : List Diag). emit l (emit ds s)) i.1 ∙ emit_then ds es s)
          (g.reports k (emit ds s) (h.reports k s r a) (λ n. i.0)));
      keeps = λ k s r a.
          let x = h.keeps k s r a in
          by_test c.short
          (λ z. kept_then x (g.keeps k (emit ds s) (h.reports k s r a) (λ n. absurd (not_both (h.stays z).0 n))))
          (λ z. kept_then x (g.keeps k (emit ds s) (h.reports k s r a) (λ n. (f k s r z x (a z)).0)));
      stays = stay;
    }
  where
    stay : c.short ≡ true → (e.short ≡ true) × (v ≡ words) × (u ≡ bytes)
    stay z = let x = h.stays z in let y = g.stays x.0 in (y.0, y.1 ∙ x.1, y.2 ∙ x.2)

-- as what lowering does to the log
pub reports_lower : {c d : LowerCtx} {words bytes w b : List ℕ} {ds : List Diag} {rs : List ℕ} (f : State → List Diag)
    → Reports c d words bytes w b rs ds
    → ((k : Context) (s : State) → Represents k c words bytes s → c.short ≡ false → All (Still words c.records) rs × (ds ≡ f s))
    → Lowers c d words bytes w b (λ (s : State). emit (f s) s)
reports_lower {c} {d} {words} {bytes} {w} {b} f h e =
    record {
      lowers = λ k s r.
          by_test c.short
          (λ z. stays_over (emit (f s) s) h.stays z ((emit_grows (f s)).records s) ((emit_grows (f s)).bytes s) r)
          (λ z.
          let q = e k s r z in
          subst (λ (l : List Diag). Represents k d w b (emit l s)) q.1 (h.reports k s r (λ y. q.0)));
    }

-- Where a walk through the chain from `first`, of at most so many records, is: at r, with so many left; what is reported and what is left
-- to report
pub record Walk (k : Context) (s : State) (c d : LowerCtx) (words bytes w b : List ℕ) (first most r left : ℕ) (whole : List Diag)
    (rest : List ℕ → List ℕ → List Diag) : Type 0 where
  pub done : List Diag
  pub says : Represents k d w b (emit done s)
  pub kept : Kept c d words bytes w b
  pub passed : List ℕ
  pub chain : chain_from most words first ≡ passed ++ chain_from left words r
  pub steps : length passed + left ≡ most
  pub adds : whole ≡ done ++ rest passed (chain_from left words r)

pub record Walks (c d : LowerCtx) (words bytes w b : List ℕ) (rs : List ℕ) (first most r left : ℕ) (whole : List Diag)
    (rest : List ℕ → List ℕ → List Diag) : Type 0 where
  pub walks : (k : Context) (s : State) → Represents k c words bytes s → c.short ≡ false → All (Still words c.records) rs
      → Walk k s c d words bytes w b first most r left whole rest
  pub idle : (k : Context) (s : State) → Represents k c words bytes s → c.short ≡ true → Kept c d words bytes w b
  pub stays : c.short ≡ true → (d.short ≡ true) × (w ≡ words) × (b ≡ bytes)

pub walks_start : (c : LowerCtx) (words bytes : List ℕ) (rs : List ℕ) (first most : ℕ) (whole : List Diag)
    (rest : List ℕ → List ℕ → List Diag)
    → whole ≡ rest [] (chain_from most words first) → Walks c c words bytes words bytes rs first most first most whole rest
walks_start c words bytes rs first most whole rest e =
    record {
      walks = λ k s r z a. record {
        done = [];
        says = rw (emit_none s) r;
        kept = kept_none c words bytes;
        passed = [];
        chain = refl;
        steps = omega arith;
        adds = e;
      };
      idle = λ k s r z. kept_none c words bytes;
      stays = λ z. (z, refl, refl);
    }

module _ {c d : LowerCtx} {words bytes w b : List ℕ} {rs : List ℕ} {first most r left : ℕ} {whole : List Diag}
    {rest : List ℕ → List ℕ → List Diag}
    (walk : Walks c d words bytes w b rs first most r left whole rest) where
  -- one record on: f's diagnostics are added, and what is left to report is what was left but for these
  pub walks_step : {f : LowerCtx} {v u : List ℕ} {qs : List ℕ} {ds : List Diag} (rest' : List ℕ → List ℕ → List Diag)
      → goes_on w r left ≡ true → Reports d f w b v u qs ds
      → (next : ℕ) → next ≡ next_of w r
      → (All (Still words c.records) rs → All (Still words c.records) (chain_from most words first))
      → ((k : Context) (s : State) → Represents k c words bytes s → c.short ≡ false → Kept c d words bytes w b
      → All (Still words c.records) rs → Still words c.records r → (passed : List ℕ)
      → chain_from most words first ≡ passed ++ r ∷ chain_from (left - 1) words (next_of words r) → length passed + left ≡ most
      → All (Still w d.records) qs × (rest passed (r ∷ chain_from (left - 1) words (next_of words r)) ≡ ds ++ rest' (passed ++ r ∷ [])
      (chain_from (left - 1) words (next_of words r))))
      → Walks c f words bytes v u rs first most next (left - 1) whole rest'
  walks_step {f} {v} {u} {qs} {ds} rest' g h next en sub each =
      record {
        walks = λ k s q z a. onward k s q z (walk.walks k s q z a) a;
        idle = λ k s q z.
            let y = walk.stays z in
            kept_then (walk.idle k s q z) (h.keeps k s (stays_over s walk.stays z (omega arith) (omega arith) q)
            (λ n. absurd (not_both y.0 n)));
        stays = λ z. let x = walk.stays z in let y = h.stays x.0 in (y.0, y.1 ∙ x.1, y.2 ∙ x.2);
      }
    where
      onward : (k : Context) (s : State) → Represents k c words bytes s → c.short ≡ false
          → Walk k s c d words bytes w b first most r left whole rest → All (Still words c.records) rs
          → Walk k s c f words bytes v u first most next (left - 1) whole rest'
      onward k s q z x a =
          let g' : goes_on words r left ≡ true = goes_alike words w r left x.kept.count ∙ g in
          let e : chain_from left words r ≡ r ∷ chain_from (left - 1) words (next_of words r) = goes words r left g' in
          let ch : chain_from most words first ≡ x.passed ++ r ∷ chain_from (left - 1) words (next_of words r) = x.chain
          ∙ ap (λ (l : List ℕ). x.passed ++ l) e in
          let st : Still words c.records r = all_first (all_behind x.passed
          (subst (λ (l : List ℕ). All (Still words c.records) l) ch (sub a))) in
          let i = each k s q z x.kept a st x.passed ch x.steps in
          let kp : Kept c f words bytes v u = kept_then x.kept (h.keeps k (emit x.done s) x.says (λ n. i.0)) in
          let ne : next ≡ next_of words r = en ∙ x.kept.field r 1 st (omega arith) in
          record {
            done = x.done ++ ds;
            says = subst (λ (t : State). Represents k f v u t) (emit_then x.done ds s)
                (h.reports k (emit x.done s) x.says (λ n. i.0));
            kept = kp;
            passed = x.passed ++ r ∷ [];
            chain = ch ∙ rw ne (sym (append_assoc x.passed (r ∷ []) (chain_from (left - 1) words (next_of words r))));
            steps = rw (length-append x.passed (r ∷ [])) (omega (arith, x.steps, goes_left words r left g'));
            adds = x.adds ∙ ap (λ (l : List ℕ). x.done ++ rest x.passed l) e ∙ ap (λ (l : List Diag). x.done ++ l) i.1
                ∙ sym (append_assoc x.done ds _) ∙ rw ne refl;
          }

  -- at the end all is reported
  pub walks_end : goes_on w r left ≡ false → ((passed : List ℕ) → rest passed [] ≡ []) → Reports c d words bytes w b rs whole
  walks_end g e =
      record {
        reports = λ k s q a.
            by_test c.short
            (λ z. stays_over (emit whole s) walk.stays z ((emit_grows whole).records s) ((emit_grows whole).bytes s) q)
            (λ z. let x = walk.walks k s q z (a z) in subst (λ (l : List Diag). Represents k d w b (emit l s)) (sym (all x)) x.says);
        keeps = λ k s q a. by_test c.short (λ z. walk.idle k s q z) (λ z. (walk.walks k s q z (a z)).kept);
        stays = walk.stays;
      }
    where
      all : {k : Context} {s : State} (x : Walk k s c d words bytes w b first most r left whole rest) → whole ≡ x.done
      all x =
          x.adds
          ∙ ap (λ (l : List ℕ). x.done ++ rest x.passed l) (stops words r left (goes_alike words w r left x.kept.count ∙ g))
          ∙ ap (λ (l : List Diag). x.done ++ l) (e x.passed)
          ∙ append-nil x.done

-- the same of a walk's step, and at its end
module _ {c d : LowerCtx} {words bytes w b : List ℕ} {rs : List ℕ} {first most : ℕ} {whole : List Diag}
    {rest : List ℕ → List ℕ → List Diag} {i j : chain.Walk}
    (walk : Walks c d words bytes w b rs first most i.next i.left whole rest) where
  pub walks_stepped : {f : LowerCtx} {v u : List ℕ} {qs : List ℕ} {ds : List Diag} {r : ℕ} (rest' : List ℕ → List ℕ → List Diag)
      → Stepped w i j r → Reports d f w b v u qs ds
      → (All (Still words c.records) rs → All (Still words c.records) (chain_from most words first))
      → ((k : Context) (s : State) → Represents k c words bytes s → c.short ≡ false → Kept c d words bytes w b
      → All (Still words c.records) rs → Still words c.records r → (passed : List ℕ)
      → chain_from most words first ≡ passed ++ r ∷ chain_from (i.left - 1) words (next_of words r) → length passed + i.left ≡ most
      → All (Still w d.records) qs × (rest passed (r ∷ chain_from (i.left - 1) words (next_of words r)) ≡ ds ++ rest' (passed ++ r ∷ [])
      (chain_from (i.left - 1) words (next_of words r))))
      → Walks c f words bytes v u rs first most j.next j.left whole rest'
  walks_stepped {f} {v} {u} {r = r} rest' p h sub each =
      subst (λ (n : ℕ). Walks c f words bytes v u rs first most j.next n whole rest') (sym p.left)
      (walks_step (subst (λ (n : ℕ). Walks c d words bytes w b rs first most n i.left whole rest) p.here walk)
      rest' p.going h j.next p.next sub each)

  pub walks_stopped : Stopped w i j → ((passed : List ℕ) → rest passed [] ≡ []) → Reports c d words bytes w b rs whole
  walks_stopped p = walks_end walk p.stops
