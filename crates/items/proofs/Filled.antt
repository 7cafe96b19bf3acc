-- Values and cells added to the newest definition: one after the other, whatever is reported between, they are those of the whole.
use Prim.Native.Nat.{ℕ, ◌+◌}
use mathlib.Core.Path.{◌≡◌, refl, sym, ap, subst, ◌∙◌}
use mathlib.Core.Bool.{Bool, true, false, cond}
use mathlib.Core.List.{List, [], ◌∷◌, ◌++◌, append_assoc, append-nil}
use lib.ListN.{length-append}
use native.Mathlib.Omega.{arith}
use Rattle.paths_numbers.proofs.Texts.{by_test, not_both}
use Rattle.making.specs.declared.ctx.LowerCtx.{LowerCtx}
use Rattle.definition_log.specs.meaning.Contents.{Span, Cell, Value, string, cell_list, bytestring, phandle, DefValue, node, property}
use Rattle.definition_log.specs.meaning.Contents.{deleted_node}
use Rattle.definition_log.specs.meaning.Contents.{deleted_property, version, plugin, Def, Diag}
use Rattle.making.specs.meaning.State.{State, define, emit, value_records, values_records, values_bytes, cells_bytes}
use Rattle.making.specs.machine.Adding.{on_last, changed, on_values, with_cell, last_is, is_property_with, is_cell_list, newest_is}
use Rattle.making.specs.machine.Adding.{add_part}
use Rattle.making.specs.machine.Adding.{add_value, add_cell, in_property, in_cell_list}
use Rattle.making.specs.machine.Represents.{StepsIn}
use Rattle.making.specs.machine.Recs.{StepsBytes}
use Rattle.paths_numbers.specs.meaning.Bytestring.{is_odd, bytes_of}
use Rattle.input.specs.meaning.Report.{Made, one, nothing, and_then}
use Rattle.resolving.specs.machine.Lowers.{Lowers}
use Rattle.items.specs.machine.Filled.{with_cells, add_parts, add_values, add_cells, filled, Fills}
use Rattle.resolving.proofs.Lowers.{Grows, part_grows, stays_over}
use Rattle.items.proofs.Reported.{same_states, emit_none, emit_then}

-- the last of a list changed by what changes it alike, by nothing, and twice
last_same : {A : Type 0} (f g : A → A) → ((a : A) → f a ≡ g a) → (l : List A) → on_last f l ≡ on_last g l
unfolding on_last
last_same f g e [] = refl
last_same f g e (a ∷ []) = ap (λ x. x ∷ []) (e a)
last_same f g e (a ∷ b ∷ l) = ap (λ x. a ∷ x) (last_same f g e (b ∷ l))

last_none : {A : Type 0} (f : A → A) → ((a : A) → f a ≡ a) → (l : List A) → on_last f l ≡ l
unfolding on_last
last_none f e [] = refl
last_none f e (a ∷ []) = ap (λ x. x ∷ []) (e a)
last_none f e (a ∷ b ∷ l) = ap (λ x. a ∷ x) (last_none f e (b ∷ l))

last_twice : {A : Type 0} (f g : A → A) (l : List A) → on_last g (on_last f l) ≡ on_last (λ a. g (f a)) l
unfolding on_last
last_twice f g [] = refl
last_twice f g (a ∷ []) = refl
last_twice f g (a ∷ b ∷ []) = refl
last_twice f g (a ∷ b ∷ d ∷ l) = ap (λ x. a ∷ x) (last_twice f g (b ∷ d ∷ l))

-- of a list that ends so
pub last_end : {A : Type 0} (f : A → A) (l : List A) (a : A) → on_last f (l ++ a ∷ []) ≡ l ++ f a ∷ []
unfolding on_last
last_end f [] a = refl
last_end f (b ∷ []) a = refl
last_end f (b ∷ d ∷ l) a = ap (λ x. b ∷ x) (last_end f (d ∷ l) a)

-- the values of a property changed alike, by nothing, and twice
values_same : (f g : List Value → List Value) → ((l : List Value) → f l ≡ g l) → (v : DefValue) → on_values f v ≡ on_values g v
values_same f g e (node ls o) = refl
values_same f g e (property vs) = ap property (e vs)
values_same f g e deleted_node = refl
values_same f g e deleted_property = refl
values_same f g e version = refl
values_same f g e plugin = refl

values_none : (f : List Value → List Value) → ((l : List Value) → f l ≡ l) → (v : DefValue) → on_values f v ≡ v
values_none f e (node ls o) = refl
values_none f e (property vs) = ap property (e vs)
values_none f e deleted_node = refl
values_none f e deleted_property = refl
values_none f e version = refl
values_none f e plugin = refl

values_twice : (f g : List Value → List Value) (v : DefValue) → on_values g (on_values f v) ≡ on_values (λ l. g (f l)) v
values_twice f g (node ls o) = refl
values_twice f g (property vs) = refl
values_twice f g deleted_node = refl
values_twice f g deleted_property = refl
values_twice f g version = refl
values_twice f g plugin = refl

-- the cells of a cell list
cells_same : (cs ds : List Cell) (v : Value) → with_cells ds (with_cells cs v) ≡ with_cells (cs ++ ds) v
cells_same cs ds (string s) = refl
cells_same cs ds (cell_list w xs) = ap (cell_list w) (append_assoc xs cs ds)
cells_same cs ds (bytestring b) = refl
cells_same cs ds (phandle t) = refl

cells_none : (v : Value) → with_cells [] v ≡ v
cells_none (string s) = refl
cells_none (cell_list w xs) = ap (cell_list w) (append-nil xs)
cells_none (bytestring b) = refl
cells_none (phandle t) = refl

cell_one : (c : Cell) (v : Value) → with_cell c v ≡ with_cells (c ∷ []) v
cell_one c (string s) = refl
cell_one c (cell_list w xs) = refl
cell_one c (bytestring b) = refl
cell_one c (phandle t) = refl

-- the newest definition changed
changed_as : (f g : DefValue → DefValue) → ((v : DefValue) → f v ≡ g v) → (d : Def) → changed f d ≡ changed g d
changed_as f g e d = ap (λ (v : DefValue). record { path = d.path; value = v; span = d.span; name_span = d.name_span }) (e d.value)

changed_none : (f : DefValue → DefValue) → ((v : DefValue) → f v ≡ v) → (d : Def) → changed f d ≡ d
changed_none f e d = ap (λ (v : DefValue). record { path = d.path; value = v; span = d.span; name_span = d.name_span }) (e d.value)

module _ (f g : DefValue → DefValue) where
  -- parts added alike, and none
  parts_same : (m n a b : ℕ) → ((v : DefValue) → f v ≡ g v) → m ≡ n → a ≡ b → (s : State) → add_parts f m a s ≡ add_parts g n b s
  unfolding add_parts
  parts_same m n a b e p q s =
      same_states s.exts s.binds (last_same (changed f) (changed g) (changed_as f g e) s.defs) refl (ap (◌+◌ s.records) p)
      (ap (◌+◌ s.bytes) q)

  -- one after the other
  parts_then : (m n a b : ℕ) (s : State) → add_parts g n b (add_parts f m a s) ≡ add_parts (λ v. g (f v)) (m + n) (a + b) s
  unfolding add_parts
  parts_then m n a b s = same_states s.exts s.binds (last_twice (changed f) (changed g) s.defs) refl (omega arith) (omega arith)

parts_none : (f : DefValue → DefValue) → ((v : DefValue) → f v ≡ v) → (s : State) → add_parts f 0 0 s ≡ s
unfolding add_parts
parts_none f e s = same_states s.exts s.binds (last_none (changed f) (changed_none f e) s.defs) refl (omega arith) (omega arith)

part_one : (f : DefValue → DefValue) (a : ℕ) (s : State) → add_part f a s ≡ add_parts f 1 a s
unfolding add_part add_parts
part_one f a s = refl

-- what is reported and what is added do not meet
parts_emit : (f : DefValue → DefValue) (m a : ℕ) (ds : List Diag) (s : State) → add_parts f m a (emit ds s) ≡ emit ds (add_parts f m a s)
unfolding add_parts emit
parts_emit f m a ds s = same_states s.exts s.binds refl refl (omega arith) (omega arith)

-- counts of lists
values_records_lem : (a b : List Value) → values_records (a ++ b) ≡ values_records a + values_records b
unfolding values_records
values_records_lem [] b = omega arith
values_records_lem (v ∷ a) b = omega (arith, values_records_lem a b)

values_bytes_lem : (a b : List Value) → values_bytes (a ++ b) ≡ values_bytes a + values_bytes b
unfolding values_bytes
values_bytes_lem [] b = omega arith
values_bytes_lem (v ∷ a) b = omega (arith, values_bytes_lem a b)

cells_bytes_lem : (a b : List Cell) → cells_bytes (a ++ b) ≡ cells_bytes a + cells_bytes b
unfolding cells_bytes
cells_bytes_lem [] b = omega arith
cells_bytes_lem (v ∷ a) b = omega (arith, cells_bytes_lem a b)

-- what adding to a definition keeps to
pub record Adding {A : Type 0} (test : State → Bool) (add : List A → State → State) : Type 0 where
  pub none : (s : State) → add [] s ≡ s
  pub then : (a b : List A) (s : State) → add b (add a s) ≡ add (a ++ b) s
  pub emits : (a : List A) (ds : List Diag) (s : State) → add a (emit ds s) ≡ emit ds (add a s)
  pub still : (a : List A) (s : State) → test s ≡ true → test (add a s) ≡ true
  pub reported : (ds : List Diag) (s : State) → test s ≡ true → test (emit ds s) ≡ true

-- the last of a list passes a test after it is changed
last_is_lem : {A : Type 0} (p q : A → Bool) (f : A → A) → ((a : A) → p a ≡ true → q (f a) ≡ true) → (l : List A) → last_is p l ≡ true
    → last_is q (on_last f l) ≡ true
unfolding last_is on_last
last_is_lem p q f e [] h = h
last_is_lem p q f e (a ∷ []) h = e a h
last_is_lem p q f e (a ∷ b ∷ []) h = last_is_lem p q f e (b ∷ []) h
last_is_lem p q f e (a ∷ b ∷ d ∷ l) h = last_is_lem p q f e (b ∷ d ∷ l) h

-- the last of a longer list
last_added : {A : Type 0} (p : A → Bool) (l : List A) (a : A) → last_is p (l ++ a ∷ []) ≡ p a
unfolding last_is
last_added p [] a = refl
last_added p (b ∷ []) a = refl
last_added p (b ∷ d ∷ l) a = last_added p (d ∷ l) a

still_property : (p q : List Value → Bool) (f : List Value → List Value) → ((l : List Value) → p l ≡ true → q (f l) ≡ true) → (v : DefValue)
    → is_property_with p v ≡ true
    → is_property_with q (on_values f v) ≡ true
still_property p q f e (node ls o) h = absurd (not_both {t = false} h refl)
still_property p q f e (property vs) h = e vs h
still_property p q f e deleted_node h = absurd (not_both {t = false} h refl)
still_property p q f e deleted_property h = absurd (not_both {t = false} h refl)
still_property p q f e version h = absurd (not_both {t = false} h refl)
still_property p q f e plugin h = absurd (not_both {t = false} h refl)

still_list : (cs : List Cell) (v : Value) → is_cell_list v ≡ true → is_cell_list (with_cells cs v) ≡ true
still_list cs (string s) h = h
still_list cs (cell_list w xs) h = h
still_list cs (bytestring b) h = h
still_list cs (phandle t) h = h

-- parts added to a definition of which this is so
parts_test : (p q : List Value → Bool) (f : List Value → List Value) (m a : ℕ) (s : State)
    → ((l : List Value) → p l ≡ true → q (f l) ≡ true)
    → newest_is (is_property_with p) s ≡ true → newest_is (is_property_with q) (add_parts (on_values f) m a s) ≡ true
unfolding add_parts
parts_test p q f m a s e h =
    last_is_lem (λ (d : Def). is_property_with p d.value) (λ (d : Def). is_property_with q d.value) (changed (on_values f))
    (λ d. still_property p q f e d.value) s.defs h

emit_test : (p : DefValue → Bool) (ds : List Diag) (s : State) → newest_is p s ≡ true → newest_is p (emit ds s) ≡ true
unfolding emit
emit_test p ds s h = h

pub adding_values : Adding in_property add_values
unfolding values_records values_bytes
adding_values =
    record {
      none = λ s. parts_none _ (values_none _ append-nil) s;
      then = λ a b s.
          parts_then _ _ _ _ _ _ s
          ∙ parts_same _ _ _ _ _ _ (λ v. values_twice _ _ v ∙ values_same _ (λ l. l ++ (a ++ b)) (λ l. append_assoc l a b) v)
          (sym (values_records_lem a b)) (sym (values_bytes_lem a b)) s;
      emits = λ a ds s. parts_emit _ _ _ ds s;
      still = λ a s h. parts_test (λ vs. true) (λ vs. true) _ _ _ s (λ l k. refl) h;
      reported = λ ds s h. emit_test _ ds s h;
    }

pub adding_cells : Adding in_cell_list add_cells
unfolding cells_bytes
adding_cells =
    record {
      none = λ s. parts_none _ (values_none _ (last_none _ cells_none)) s;
      then = λ a b s.
          parts_then _ _ _ _ _ _ s
          ∙ parts_same _ _ _ _ _ _ (λ v. values_twice _ _ v ∙ values_same _ (on_last (with_cells (a ++ b)))
          (λ l. last_twice (with_cells a) (with_cells b) l ∙ last_same _ _ (cells_same a b) l) v)
          (sym (length-append a b)) (sym (cells_bytes_lem a b)) s;
      emits = λ a ds s. parts_emit _ _ _ ds s;
      still = λ a s h. parts_test (last_is is_cell_list) (last_is is_cell_list) _ _ _ s
          (last_is_lem is_cell_list is_cell_list (with_cells a) (still_list a)) h;
      reported = λ ds s h. emit_test _ ds s h;
    }

-- one value without cells, and one cell
pub value_one : (v : Value) → value_records v ≡ 1 → (s : State) → add_value v s ≡ add_values (v ∷ []) s
unfolding values_records values_bytes
value_one v e s = part_one _ _ s ∙ parts_same _ _ _ _ _ _ (λ x. refl) (omega (arith, e)) (omega arith) s

pub cell_added : (c : Cell) (s : State) → add_cell c s ≡ add_cells (c ∷ []) s
unfolding cells_bytes
cell_added c s =
    part_one _ _ s
    ∙ parts_same _ _ _ _ _ _ (values_same (on_last (with_cell c)) (on_last (with_cells (c ∷ [])))
    (last_same (with_cell c) (with_cells (c ∷ [])) (cell_one c))) refl (omega arith) s

module _ {A : Type 0} {test : State → Bool} {add : List A → State → State} (x : Adding test add) where
  -- what is not kept is only reported
  reports_only : (keep : Bool) (ds : List Diag) (s : State) → filled add keep (nothing ds) s ≡ emit ds s
  unfolding filled
  reports_only true ds s = x.none (emit ds s)
  reports_only false ds s = refl

  filled_then : (keep : Bool) (m n : Made A) (s : State) → filled add keep n (filled add keep m s) ≡ filled add keep (and_then m n) s
  unfolding filled
  filled_then true m n s =
      ap (add n.made) (sym (x.emits m.made n.reports (emit m.reports s))
      ∙ ap (add m.made) (emit_then m.reports n.reports s))
      ∙ x.then m.made n.made (emit (m.reports ++ n.reports) s)
  filled_then false m n s = emit_then m.reports n.reports s

  filled_test : (keep : Bool) (m : Made A) (s : State) → (keep ≡ true → test s ≡ true) → keep ≡ true → test (filled add keep m s) ≡ true
  unfolding filled
  filled_test true m s h e = x.still m.made (emit m.reports s) (x.reported m.reports s (h e))
  filled_test false m s h e = absurd (not_both {t = false} e refl)

  -- nothing, reports alone, one after the other
  pub fills_none : (keep : Bool) {c : LowerCtx} {words bytes : List ℕ} → Fills test add keep c c words bytes words bytes (nothing [])
  fills_none keep = record { fills = λ k s h t. rw (reports_only keep [] s, emit_none s) h }

  pub fills_reports : (keep : Bool) (ds : List Diag) {c d : LowerCtx} {words bytes w b : List ℕ} → Lowers c d words bytes w b (emit ds)
      → Fills test add keep c d words bytes w b (nothing ds)
  fills_reports keep ds l = record { fills = λ k s h t. rw (reports_only keep ds s) (l.lowers k s h) }

  pub fills_then : (keep : Bool) (m n : Made A) {c d e : LowerCtx} {words bytes w b v u : List ℕ}
      → Fills test add keep c d words bytes w b m → Fills test add keep d e w b v u n
      → Fills test add keep c e words bytes v u (and_then m n)
  fills_then keep m n f g =
      record {
        fills = λ k s h t. rw (sym (filled_then keep m n s))
            (g.fills k (filled add keep m s) (f.fills k s h t) (filled_test keep m s t));
      }

  -- one, where it is kept and where it is not
  pub fills_dropped : (keep : Bool) (m : Made A) {c : LowerCtx} {words bytes : List ℕ} → keep ≡ false → m.reports ≡ []
      → Fills test add keep c c words bytes words bytes m
  unfolding filled
  fills_dropped keep m e q = record { fills = λ k s h t. rw (e, q, emit_none s) h }

  pub fills_one : (keep : Bool) (a : A) (f : State → State) {c d : LowerCtx} {words bytes w b : List ℕ} → keep ≡ true → Grows f
      → ((s : State) → f s ≡ add (a ∷ []) s)
      → StepsIn test c d words bytes w b f → Fills test add keep c d words bytes w b (one a)
  unfolding filled
  fills_one keep a f {c} e g same h =
      record {
        fills = λ k s r t.
            rw (e, emit_none s, sym (same s))
            (by_test c.short (λ z. stays_over (f s) h.stays z (g.records s) (g.bytes s) r) (λ z. h.steps k s r z (t e)));
      }

-- the same makes
pub same_fills : {A : Type 0} {test : State → Bool} {add : List A → State → State} {keep : Bool} {c d : LowerCtx} {words bytes w b : List ℕ}
    {m n : Made A} → m ≡ n
    → Fills test add keep c d words bytes w b m → Fills test add keep c d words bytes w b n
same_fills {test = test} {add = add} {keep = keep} {c = c} {d = d} {words = words} {bytes = bytes} {w = w} {b = b} e h = subst
    (λ m. Fills test add keep c d words bytes w b m) e h

-- a bytestring, where its text lacks no digit
pub bytes_fill : (keep : Bool) (text : List ℕ) {c d : LowerCtx} {words bytes w b : List ℕ} → keep ≡ true
    → StepsBytes c d words bytes w b text
    → Fills in_property add_values keep c d words bytes w b (cond (is_odd text) (nothing []) (one (bytestring (bytes_of text))))
bytes_fill keep text e h =
    by_test (is_odd text)
    (λ q. let z = h.odd q in rw (q, z.0, z.1, z.2) (fills_none adding_values keep))
    (λ q. rw q (fills_one adding_values keep (bytestring (bytes_of text)) _ e (part_grows _ _) (value_one (bytestring (bytes_of text)) refl)
    (h.even q)))

-- a cell list made before its cells
module _ (n : ℕ) (cs : List Cell) where
  list_filled : (s : State) → add_cells cs (add_values (cell_list n [] ∷ []) s) ≡ add_values (cell_list n cs ∷ []) s
  unfolding values_records values_bytes cells_bytes
  list_filled s =
      parts_then _ _ _ _ _ _ s
      ∙ parts_same _ _ _ _ _ _ (λ v. values_twice _ _ v ∙ values_same _ (λ l. l ++ cell_list n cs ∷ [])
      (λ l. last_end (with_cells cs) l (cell_list n [])) v) (omega arith) (omega arith) s

  list_made : (keep : Bool) (ds : List Diag) (s : State)
      → filled add_cells keep (record { made = cs; reports = ds }) (filled add_values keep (one (cell_list n [])) s)
      ≡ filled add_values keep (record { made = cell_list n cs ∷ []; reports = ds }) s
  unfolding filled
  list_made true ds s =
      rw (emit_none s) (ap (add_cells cs) (sym (adding_values.emits (cell_list n [] ∷ []) ds s)) ∙ list_filled (emit ds s))
  list_made false ds s = rw (emit_none s) refl

list_test : (n : ℕ) (keep : Bool) (s : State) → (keep ≡ true → in_property s ≡ true) → keep ≡ true
    → in_cell_list (filled add_values keep (one (cell_list n [])) s) ≡ true
unfolding filled
list_test n true s h e =
    parts_test (λ vs. true) (last_is is_cell_list) _ _ _ (emit [] s) (λ l k. last_added is_cell_list l (cell_list n [])) (emit_test _ [] s (h e))
list_test n false s h e = absurd (not_both {t = false} e refl)

pub list_then : (keep : Bool) (n : ℕ) (m : Made Cell) {c d e : LowerCtx} {words bytes w b v u : List ℕ}
    → Fills in_property add_values keep c d words bytes w b (one (cell_list n []))
    → Fills in_cell_list add_cells keep d e w b v u m → Fills in_property add_values keep c e words bytes v u
    (record { made = cell_list n m.made ∷ []; reports = m.reports })
list_then keep n m f g =
    record {
      fills = λ k s h t. rw (sym (list_made n m.made keep m.reports s))
          (g.fills k (filled add_values keep (one (cell_list n [])) s) (f.fills k s h t) (list_test n keep s t));
    }

-- a property made before its values, and what is reported after it
module _ (path : List ℕ) (span name_span : Span) where
  abbrev pub property_def : List Value → Def
  property_def vs = record { path = path; value = property vs; span = span; name_span = name_span }

  property_made : (vs : List Value) (s : State) → add_values vs (define (property_def []) s) ≡ define (property_def vs) s
  unfolding add_parts define values_records values_bytes
  property_made vs s = same_states s.exts s.binds (last_end _ s.defs (property_def [])) refl (omega arith) (omega arith)

  define_emit : (d : Def) (ds : List Diag) (s : State) → define d (emit ds s) ≡ emit ds (define d s)
  unfolding define emit
  define_emit d ds s = same_states s.exts s.binds refl refl (omega arith) (omega arith)

  pub property_filled : (m : Made Value) (ds : List Diag) (s : State)
      → emit ds (filled add_values true m (define (property_def []) s)) ≡ define (property_def m.made) (emit (m.reports ++ ds) s)
  unfolding filled
  property_filled m ds s =
      ap (emit ds) (adding_values.emits m.made m.reports (define (property_def []) s)
      ∙ ap (emit m.reports) (property_made m.made s))
      ∙ emit_then m.reports ds _ ∙ sym (define_emit (property_def m.made) (m.reports ++ ds) s)

  -- the newest definition is then a property
  pub property_newest : (s : State) → in_property (define (property_def []) s) ≡ true
  unfolding define
  property_newest s = last_added _ s.defs (property_def [])
