-- A property from its parts: the definition made first, then its values, then what its name reports.
use Prim.Native.Nat.{ℕ}
use mathlib.Core.Path.{◌≡◌, refl, sym, ap, subst, ◌∙◌}
use mathlib.Core.Bool.{true, false}
use mathlib.Core.List.{List, [], ◌∷◌, ◌++◌}
use mathlib.Core.Option.{Option, some, none}
use native.Mathlib.Omega.{arith}
use borrow.Author.Tests.{eq-eqb, ne_eqb}
use lib.Dec.{eqb}
use lib.ListN.{length}
use Rattle.paths_numbers.specs.meaning.Text.{is_empty}
use Rattle.paths_numbers.specs.meaning.Path.{joined}
use Rattle.paths_numbers.proofs.Texts.{by_test, not_both}
use Rattle.making.specs.declared.ctx.LowerCtx.{LowerCtx}
use Rattle.making.specs.declared.place.PathAt.{PathAt}
use Rattle.making.specs.declared.place.PathAt.TheVariants as P
use Rattle.definition_log.specs.declared.parts.Span.{Span as SpanRead}
use Rattle.making.specs.declared.recs.DefKind.TheVariants as D
use Rattle.definition_log.specs.meaning.Contents.{Span, Value, property, Def, Diag}
use Rattle.making.specs.machine.PathPlaces.{path_in, place_len}
use Rattle.making.specs.machine.Recs.{bare_def}
use Rattle.definition_log.specs.machine.Parts.{meant}
use Rattle.making.specs.meaning.State.{State, define, emit}
use Rattle.making.specs.machine.Adding.{in_property}
use Rattle.making.specs.machine.Represents.{Context, with_place, Represents, Steps}
use Rattle.making.proofs.InHand.{place_reads, place_length}
use Rattle.input.specs.meaning.Tree.{Trees}
use Rattle.input.specs.meaning.Report.{Made, Got, report}
use Rattle.input.specs.meaning.Name.{full_name, property_name_span}
use Rattle.input.specs.meaning.Property.{lower_values}
use Rattle.items.specs.meaning.Lower.{named_property, lower_property}
use Rattle.input.specs.meaning.Input.{child_at}
use Rattle.input.specs.meaning.GoodName.{good_names_in}
use Rattle.input.specs.machine.NameRead.{is_there, full_read, FullNameRead}
use Rattle.resolving.specs.machine.Lowers.{Lowers, LowersAt}
use Rattle.items.specs.machine.Filled.{add_values, filled, Fills}
use Rattle.items.specs.machine.PropertyMade.{is_top, property_at, property_begun, NamesBelow}
use Rattle.input.specs.machine.OfRecord.{parts_of, contents_of, span_in}
use Rattle.input.specs.declared.linked.Record.{Record}
use Rattle.input.specs.declared.name.FullName.{FullName}
use Rattle.items.specs.declared.unbind.Below.{Below}
use Rattle.std.specs.Prelude.{Option as Maybe, Some, None, is_some}
use Rattle.input.proofs.NameRead.{full_joined}
use Rattle.resolving.proofs.Lowers.{Grows, define_grows, emit_grows, stays_over}
use Rattle.items.proofs.Reported.{emit_then}
use Rattle.items.proofs.Filled.{property_def, property_filled, property_newest}

-- an operation at a place is one under the path that the place stands for
pub steps_at : {parent : PathAt} {c d : LowerCtx} {words bytes w b : List ℕ} (f : List ℕ → State → State) → ((p : List ℕ) → Grows (f p))
    → Steps c d words bytes w b (f (path_in c.bytes bytes parent)) → LowersAt parent c d words bytes w b f
steps_at {parent} {c = c} {d = d} {w = w} {b = b} f g h =
    record {
      lowers = λ k p s r.
          by_test c.short
          (λ z. stays_over (f p s) h.stays z ((g p).records s) ((g p).bytes s) r)
          (λ z. subst (λ (q : List ℕ). Represents (with_place (record { at = parent; path = p }) k) d w b (f q s)) (place_reads r z)
          (h.steps _ s r z));
    }

-- a place is that of the empty path if it says so
empty_length : (p : List ℕ) (n : ℕ) → n ≡ length p → is_empty p ≡ eqb n 0
unfolding is_empty
empty_length [] n e = sym (eq-eqb n 0 e)
empty_length (a ∷ p) n e = sym (ne_eqb n 0 (λ z. omega arith))

pub top_empty : {k : Context} {c : LowerCtx} {words bytes : List ℕ} {s : State} {at : PathAt} {p : List ℕ}
    → Represents (with_place (record { at = at; path = p }) k) c words bytes s → c.short ≡ false → is_empty p ≡ is_top at
top_empty {at = at} {p = p} r z = empty_length p (place_len at) (place_length r z) ∙ go at
  where
    go : (q : PathAt) → eqb (place_len q) 0 ≡ is_top q
    go P.Root = refl
    go (P.Bytes start size) = refl

-- the definition as the log makes it
pub property_at_lem : (r : Record) (n : Below) {span name_span : SpanRead} → meant span ≡ span_in r
    → meant name_span ≡ property_name_span (parts_of r) (meant span)
    → (p : List ℕ) → bare_def D.Property span name_span (joined p n.name.now n.unit.now) ≡ property_at r n p
unfolding property_at
property_at_lem r n {span} a b p =
    ap (λ (q : Span). record { path = joined p n.name.now n.unit.now; value = property []; span = meant span; name_span = q }) b
    ∙ ap (λ (q : Span). record {
      path = joined p n.name.now n.unit.now;
      value = property [];
      span = q;
      name_span = property_name_span
          (parts_of r) q;
    }) a

-- and made, where there is a name
pub property_kept_at : (r : Record) (n : Below) (o : Maybe Below) {parent : PathAt} {c d : LowerCtx} {ws bs w b : List ℕ}
    {span name_span : SpanRead}
    → o ≡ Some n → meant span ≡ span_in r → meant name_span ≡ property_name_span (parts_of r) (meant span)
    → Steps c d ws bs w b (define (bare_def D.Property span name_span (joined (path_in c.bytes bs parent) n.name.now n.unit.now)))
    → LowersAt parent c d ws bs w b (λ p s. property_begun r o p s)
property_kept_at r n o {parent} {c} {d} {ws} {bs} {w} {b} e i j h =
    let g =
    steps_at (λ p. define (property_at r n p)) (λ p. define_grows (property_at r n p))
    (subst (λ (q : Def). Steps c d ws bs w b (define q)) (property_at_lem r n i j (path_in c.bytes bs parent)) h)
    in
    record { lowers = λ k p s q. rw e (g.lowers k p s q) }

pub property_dropped_at : (r : Record) (o : Maybe Below) {parent : PathAt} {c : LowerCtx} {ws bs : List ℕ} → o ≡ None
    → LowersAt parent c c ws bs ws bs (λ p s. property_begun r o p s)
property_dropped_at r o e = record { lowers = λ k p s q. rw e q }

-- counts never fall
named_grows : (level : ℕ) (p : List ℕ) (parts values : Trees) (span : Span) (o : Option (List ℕ))
    → Grows (named_property level p parts values span o)
named_grows level p parts values span none = record { records = λ s. omega arith; bytes = λ s. omega arith }
named_grows level p parts values span (some n) = define_grows _

pub property_grows : (level : ℕ) (p : List ℕ) (parts values : Trees) (span : Span) → Grows (lower_property level p parts values span)
unfolding lower_property
property_grows level p parts values span =
    record {
      records = λ s.
          by_test (is_empty p) (λ e. rw e ((emit_grows _).records s))
          (λ e. rw e (omega (
            arith,
            (emit_grows (reports)).records s,
            (named_grows level p parts values span (full_name parts).result).records
                (emit reports s),
          )));
      bytes = λ s.
          by_test (is_empty p) (λ e. rw e ((emit_grows _).bytes s))
          (λ e. rw e (omega (
            arith,
            (emit_grows (reports)).bytes s,
            (named_grows level p parts values span (full_name parts).result).bytes
                (emit reports s),
          )));
    }
  where
    reports : List Diag
    reports = (lower_values level values).reports ++ (full_name parts).reports

-- outside a node
pub property_outside_lem : (level : ℕ) (p : List ℕ) (parts values : Trees) (span : Span) (s : State) → is_empty p ≡ true
    → emit (report 7 [] span ∷ []) s ≡ lower_property level p parts values span s
unfolding lower_property
property_outside_lem level p parts values span s e = rw e refl

-- of a property that is not kept only reports are made
dropped_as : (m : Made Value) (ds : List Diag) (s : State) → emit ds (filled add_values false m s) ≡ emit (m.reports ++ ds) s
unfolding filled
dropped_as m ds s = emit_then m.reports ds s

module _ (level : ℕ) (parts values : Trees) (span : Span) {parent : PathAt} {c : LowerCtx} {ws bs : List ℕ} where
  pub property_top : {d : LowerCtx} {w b : List ℕ} → c.short ≡ false → is_top parent ≡ true
      → Lowers c d ws bs w b (emit (report 7 [] span ∷ []))
      → LowersAt parent c d ws bs w b (λ p s. lower_property level p parts values span s)
  property_top z t h = record {
    lowers = λ k p s q. rw (sym (property_outside_lem level p parts values span s (top_empty q z ∙ t)))
        (h.lowers _ s q);
  }

  -- in a state that ran short
  pub property_short : c.short ≡ true → LowersAt parent c c ws bs ws bs (λ p s. lower_property level p parts values span s)
  property_short z =
      record {
        lowers = λ k p s q.
            let g = property_grows level p parts values span in
            stays_over (lower_property level p parts values span s) (λ e. (e, refl, refl)) z (g.records s) (g.bytes s) q;
      }

module _ (level : ℕ) (r : Record) (f : FullName) (h : FullNameRead r.input.words.now (child_at r.input.words.now r.number) f)
    (good : good_names_in (parts_of r) ≡ true) where
  abbrev parts : Trees
  parts = parts_of r

  abbrev values : Trees
  values = contents_of r

  same_name : full_read r.input.words.now r.input.text.now f ≡ full_name parts
  same_name = h.read r.input.text.now

  -- whether a name is there, by what its parts say
  there_is : (o : Option (List ℕ)) → (full_name parts).result ≡ o
      → is_there (full_read r.input.words.now r.input.text.now f).result ≡ is_there o
  there_is o e = ap (λ (g : Got (List ℕ)). is_there g.result) same_name ∙ ap is_there e

  kept_as : (named : Maybe Below) → NamesBelow r.input.words.now r.input.text.now f named
      → (o : Option (List ℕ)) → (full_name parts).result ≡ o → (p : List ℕ) (s : State)
      → emit (full_name parts).reports
      (filled add_values (is_some named) (lower_values level values) (property_begun r named p s))
      ≡ named_property level p parts values (span_in r) o (emit ((lower_values level values).reports ++ (full_name parts).reports) s)
  unfolding property_at
  kept_as (Some b) k (some n) e p s =
      property_filled (joined p b.name.now b.unit.now) (span_in r)
      (property_name_span parts (span_in r)) (lower_values level values) (full_name parts).reports s
      ∙ ap (λ (q : List ℕ). define
      (property_def q (span_in r) (property_name_span parts (span_in r)) (lower_values level values).made)
      (emit ((lower_values level values).reports ++ (full_name parts).reports) s))
      (rw (k.1, k.2) (sym (full_joined r.input.words.now r.input.text.now (child_at r.input.words.now r.number) f h good p n e)))
  kept_as (Some b) k none e p s = absurd (not_both k.0 (there_is none e))
  kept_as None k (some n) e p s = absurd (not_both (there_is (some n) e) k)
  kept_as None k none e p s = dropped_as (lower_values level values) (full_name parts).reports s

  -- inside a node
  pub property_is : (named : Maybe Below) → NamesBelow r.input.words.now r.input.text.now f named
      → (p : List ℕ) → is_empty p ≡ false → (s : State)
      → emit (full_read r.input.words.now r.input.text.now f).reports (filled add_values (is_some named) (lower_values level values)
      (property_begun r named p s))
      ≡ lower_property level p parts values (span_in r) s
  unfolding lower_property
  property_is named k p e s = rw (e, same_name) (kept_as named k (full_name parts).result refl p s)

  pub property_kept : (named : Maybe Below) (p : List ℕ) (s : State) → is_some named ≡ true
      → in_property (property_begun r named p s) ≡ true
  unfolding property_at
  property_kept (Some b) p s e = property_newest _ (span_in r) (property_name_span parts (span_in r)) s
  property_kept None p s e = absurd (not_both e refl)

-- the whole, from its steps
module _ {c d e g : LowerCtx} {ws bs w b v u x y : List ℕ} {parent : PathAt} (level : ℕ) (r : Record) (f : FullName)
    (h : FullNameRead r.input.words.now (child_at r.input.words.now r.number) f)
    (good : good_names_in (parts_of r) ≡ true) (named : Maybe Below) (known : NamesBelow r.input.words.now r.input.text.now f named)
  where
    pub property_lowers : LowersAt parent c d ws bs w b (λ p s. property_begun r named p s)
        → Fills in_property add_values (is_some named) d e w b v u (lower_values level (contents_of r))
        → Lowers e g v u x y (emit (full_read r.input.words.now r.input.text.now f).reports)
        → c.short ≡ false → is_top parent ≡ false
        → LowersAt parent c g ws bs x y (λ p s. lower_property level p (parts_of r)
        (contents_of r) (span_in r) s)
    property_lowers a m n z t =
        record {
          lowers = λ k₀ p s q.
              subst (λ (o : State). Represents (with_place (record { at = parent; path = p }) k₀) g x y o)
              (property_is level r f h good named known p (top_empty q z ∙ t) s)
              (n.lowers _ _ (m.fills _ _ (a.lowers k₀ p s q) (property_kept level r f h good named p s)));
        }
