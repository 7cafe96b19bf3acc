-- The chains of two written logs that say the same are alike, in every word but record numbers and text starts.
use Prim.Native.Nat.{ℕ, ◌+◌, ◌*◌, ◌^◌, ◌≤◌, ◌<◌}
use mathlib.Core.Path.{◌≡◌, refl, sym, ap, ◌∙◌}
use mathlib.Core.Logic.{◌⊎◌, inl, inr, ⊎_elim}
use mathlib.Core.Bool.{true, false, not}
use mathlib.Core.List.{List, [], ◌∷◌, map}
use native.Mathlib.Omega.{arith}
use borrow.Author.Tests.{ne_eqb, eqb-true, eqb-false, le-leb, lt-leb}
use lib.Dec.{eqb}
use lib.ListN.{length, take, drop}
use Rattle.paths_numbers.specs.meaning.Reference.{Target, label, label_path, path, unreadable, label_of, path_of}
use Rattle.paths_numbers.proofs.Texts.{by_test, not_both}
use Rattle.definition_log.specs.meaning.Contents.{Span, Cell, number, reference, Value, string, cell_list, bytestring, phandle, DefValue}
use Rattle.definition_log.specs.meaning.Contents.{node}
use Rattle.definition_log.specs.meaning.Contents.{property, deleted_node, deleted_property, version, plugin, Def, Ext, Binding, Diag}
use Rattle.definition_log.specs.meaning.Record.{record_words, out_field, kind_of, next_of, text_start, text_length, second_start}
use Rattle.definition_log.specs.meaning.Record.{second_length, child_of}
use Rattle.definition_log.specs.meaning.Record.{n_of, m_of, extension_kind, reference_kind, one_of, def_kinds, has_children, has_span}
use Rattle.definition_log.specs.meaning.Record.{has_name_span}
use Rattle.definition_log.specs.meaning.Record.{first_text, second_text}
use Rattle.definition_log.specs.meaning.ReadBack.{chain_of, span_at, name_span_at, target_at, read_labels, cell_at, read_cells, value_at}
use Rattle.definition_log.specs.meaning.ReadBack.{read_values}
use Rattle.definition_log.specs.meaning.ReadBack.{def_value_at, def_at, read_defs, ext_target, ext_at, read_exts, binding_at, read_bindings}
use Rattle.definition_log.specs.meaning.ReadBack.{diag_at}
use Rattle.definition_log.specs.meaning.ReadBack.{read_diags, Log, read_log}
use Rattle.definition_log.specs.meaning.Sound.{Place, definitions, extensions, bindings, diagnostics, labels, values, cells, references}
use Rattle.definition_log.specs.meaning.Sound.{kinds_in}
use Rattle.definition_log.specs.meaning.Sound.{followed, times_reached, sound, lowest_fault}
use Rattle.files.specs.meaning.Files.{file_of}
use Rattle.definition_log.specs.meaning.Record.{span_start, name_start}
use Rattle.definition_log.specs.meaning.Written.{has_text, has_second_text, has_n, has_m, named, Kept, Written}
use Rattle.definition_log.specs.meaning.Alike.{AlikeWords, AlikeAll, none, more, AlikeValue, AlikeDef, AlikeExt, AlikeLog, Words32}
use Rattle.definition_log.proofs.Reached.{Reached, reached_leads, reached_inside, text_length_lem, childless, Head, defs, exts, binds}
use Rattle.definition_log.proofs.Reached.{diags, post}
use Rattle.definition_log.proofs.Chains.{Chain, ends, goes_on_lem, Starts, chain_list, chain_end, along_start, along_chain, head_starts}
use Rattle.definition_log.proofs.Chains.{child_starts, body_starts}
use Rattle.definition_log.proofs.Places.{Stands, EndOrStands, stands_reached, stands_kind, next_stands, child_stands, body_stands}
use Rattle.definition_log.proofs.Places.{head_stands}

-- one of several kinds
one_kind : (k a : ℕ) (l : List ℕ) → one_of k (a ∷ l) ≡ true → (k ≡ a) ⊎ (one_of k l ≡ true)
unfolding one_of
one_kind k a l e = by_test (eqb k a) (λ t. inl (eqb-true k a t)) (λ t. inr (rw t at e))

no_kind : (k : ℕ) → one_of k [] ≡ true → ⊥
unfolding one_of
no_kind k e = not_both e refl

only_kind : (k a : ℕ) → one_of k (a ∷ []) ≡ true → k ≡ a
only_kind k a e = ⊎_elim (λ z. z) (λ n. absurd (no_kind k n)) (one_kind k a [] e)

-- what holds of each kind of a list holds of one in it
pub data Every (P : ℕ → Type 0) : List ℕ → Type 0 where
  done : Every P []
  also : {a : ℕ} {l : List ℕ} → P a → Every P l → Every P (a ∷ l)

pub by_kind : (P : ℕ → Type 0) {l : List ℕ} → Every P l → (k : ℕ) → one_of k l ≡ true → P k
by_kind P done k e = absurd (no_kind k e)
by_kind P (also {a} {l} p q) k e = go (one_kind k a l e) (λ h. by_kind P q k h)
  where
    go : (k ≡ a) ⊎ (one_of k l ≡ true) → (one_of k l ≡ true → P k) → P k
    go (inl z) f = rw z p
    go (inr h) f = f h

-- the records of a chain stand where the first does
pub data AllStand (w : List ℕ) (p : Place) : List ℕ → Type 0 where
  no_record : AllStand w p []
  one_record : {r : ℕ} {rs : List ℕ} → Stands w r p → AllStand w p rs → AllStand w p (r ∷ rs)

pub chain_stands : (w b : List ℕ) → lowest_fault w b ≡ sound → (p : Place) {t : ℕ} {rs : List ℕ} → Chain w t rs → EndOrStands w t p
    → AllStand w p rs
chain_stands w b ok p (ends z) e = no_record
chain_stands w b ok p (goes_on_lem {r} h c) (inl z) = absurd (omega (arith, reached_inside w r h))
chain_stands w b ok p (goes_on_lem {r} h c) (inr i) = one_record i (chain_stands w b ok p c (next_stands w b ok r p i))

-- a list with an element is not the empty one
nonempty : {A : Type 0} {a : A} {l : List A} → a ∷ l ≡ [] → ⊥
nonempty e = let z : ◌≡◌ {A = ℕ} 0 1 = cc in omega arith

-- two lists of records that read the same are alike, where one record is
pub zip : {A : Type 0} (f g : ℕ → A) (R : ℕ → ℕ → Type 0) {w v : List ℕ} {p : Place} {rs ss : List ℕ} → AllStand w p rs → AllStand v p ss
    → ((r s : ℕ) → Stands w r p → Stands v s p → f r ≡ g s → R r s) → map f rs ≡ map g ss → AlikeAll R rs ss
zip f g R no_record no_record h e = none
zip f g R no_record (one_record j k) h e = absurd (nonempty (sym e))
zip f g R (one_record i q) no_record h e = absurd (nonempty e)
zip f g R (one_record {r} {rs} i q) (one_record {r = s} {rs = ss} j k) h e =
    let a : f r ≡ g s = cc in
    let t : map f rs ≡ map g ss = cc in
    more (h r s i j a) (zip f g R q k h t)

-- what a reference says of its N and its texts
target_n : Target → ℕ
target_n (label t) = 1
target_n (label_path t p) = 2
target_n (path p) = 3
target_n unreadable = 0

module _ (w b : List ℕ) (r : ℕ) where
  target_n_lem : n_of w r ≤ 3 → target_n (target_at w b r) ≡ n_of w r
  unfolding target_n target_at
  target_n_lem h =
      by_test (eqb (n_of w r) 1)
      (λ e. rw e (sym (eqb-true (n_of w r) 1 e)))
      (λ e.
      by_test (eqb (n_of w r) 2)
      (λ f. rw (e, f) (sym (eqb-true (n_of w r) 2 f)))
      (λ f.
      by_test (eqb (n_of w r) 3)
      (λ g. rw (e, f, g) (sym (eqb-true (n_of w r) 3 g)))
      (λ g. rw (e, f, g) (omega (arith, eqb-false (n_of w r) 1 e, eqb-false (n_of w r) 2 f, eqb-false (n_of w r) 3 g)))))

  target_label_lem : one_of (n_of w r) (1 ∷ 2 ∷ []) ≡ true → label_of (target_at w b r) ≡ first_text w b r
  unfolding target_at
  target_label_lem h =
      by_kind (λ k. n_of w r ≡ k → label_of (target_at w b r) ≡ first_text w b r) (also (λ e. rw e refl) (also (λ e. rw e refl) done)) (n_of w r)
      h refl

  target_path : one_of (n_of w r) (2 ∷ 3 ∷ []) ≡ true → path_of (target_at w b r) ≡ second_text w b r
  unfolding target_at
  target_path h =
      by_kind (λ k. n_of w r ≡ k → path_of (target_at w b r) ≡ second_text w b r) (also (λ e. rw e refl) (also (λ e. rw e refl) done)) (n_of w r)
      h refl

-- the kind of what is read
cell_kind : Cell → ℕ
cell_kind (number n) = 11
cell_kind (reference t) = 12

value_kind : Value → ℕ
value_kind (string t) = 8
value_kind (cell_list n cs) = 9
value_kind (bytestring t) = 10
value_kind (phandle t) = 12

def_kind : DefValue → ℕ
def_kind (node ls o) = 1
def_kind (property vs) = 2
def_kind deleted_node = 3
def_kind deleted_property = 4
def_kind version = 5
def_kind plugin = 6

module _ (w b : List ℕ) (r : ℕ) where
  cell_kind_lem : one_of (kind_of w r) (kinds_in cells) ≡ true → cell_kind (cell_at w b r) ≡ kind_of w r
  unfolding cell_kind cell_at
  cell_kind_lem h =
      by_kind (λ k. kind_of w r ≡ k → cell_kind (cell_at w b r) ≡ k) (also (λ e. rw e refl) (also (λ e. rw e refl) done)) (kind_of w r) h refl

  value_kind_lem : one_of (kind_of w r) (kinds_in values) ≡ true → value_kind (value_at w b r) ≡ kind_of w r
  unfolding value_kind value_at
  value_kind_lem h =
      by_kind (λ k. kind_of w r ≡ k → value_kind (value_at w b r) ≡ k)
      (also (λ e. rw e refl) (also (λ e. rw e refl) (also (λ e. rw e refl) (also (λ e. rw e refl) done)))) (kind_of w r) h refl

  def_kind_lem : one_of (kind_of w r) def_kinds ≡ true → def_kind (def_value_at w b r) ≡ kind_of w r
  unfolding def_kind def_value_at
  def_kind_lem h =
      by_kind (λ k. kind_of w r ≡ k → def_kind (def_value_at w b r) ≡ k)
      (also (λ e. rw e refl) (also (λ e. rw e refl) (also (λ e. rw e refl)
      (also (λ e. rw e refl) (also (λ e. rw e refl) (also (λ e. rw e refl) done))))))
      (kind_of w r) h refl

  -- what is read of a record of a known kind
  cell_number : kind_of w r ≡ 11 → cell_at w b r ≡ number (n_of w r + m_of w r * 2 ^ 32)
  unfolding cell_at
  cell_number e = rw e refl

  cell_reference : kind_of w r ≡ 12 → cell_at w b r ≡ reference (target_at w b r)
  unfolding cell_at
  cell_reference e = rw e refl

  value_string : kind_of w r ≡ 8 → value_at w b r ≡ string (first_text w b r)
  unfolding value_at
  value_string e = rw e refl

  value_cells : kind_of w r ≡ 9 → value_at w b r ≡ cell_list (n_of w r) (map (cell_at w b) (chain_of w (child_of w r)))
  unfolding value_at read_cells
  value_cells e = rw e refl

  value_bytes_lem : kind_of w r ≡ 10 → value_at w b r ≡ bytestring (first_text w b r)
  unfolding value_at
  value_bytes_lem e = rw e refl

  value_reference : kind_of w r ≡ 12 → value_at w b r ≡ phandle (target_at w b r)
  unfolding value_at
  value_reference e = rw e refl

  def_node : kind_of w r ≡ 1 → def_value_at w b r ≡ node (map (first_text w b) (chain_of w (child_of w r))) (not (eqb (n_of w r) 0))
  unfolding def_value_at read_labels
  def_node e = rw e refl

  def_property : kind_of w r ≡ 2 → def_value_at w b r ≡ property (map (value_at w b) (chain_of w (child_of w r)))
  unfolding def_value_at read_values
  def_property e = rw e refl

-- an omit mark is the only N above 0
omit_n : (a d : ℕ) → a ≤ 1 → d ≤ 1 → not (eqb a 0) ≡ not (eqb d 0) → a ≡ d
omit_n a d h k e =
    by_test (eqb a 0)
    (λ z.
    by_test (eqb d 0)
    (λ y. omega (arith, eqb-true a 0 z, eqb-true d 0 y))
    (λ y. absurd (not_both {t = true} refl (sym (rw (z, y) at e)))))
    (λ z.
    by_test (eqb d 0)
    (λ y. absurd (not_both {t = true} refl (rw (z, y) at e)))
    (λ y. omega (arith, eqb-false a 0 z, eqb-false d 0 y)))

-- the words of definitions
def_second : (k i : ℕ) → one_of k def_kinds ≡ true → has_second_text k i ≡ false
unfolding one_of
def_second k i e =
    by_kind (λ a. has_second_text a i ≡ false) (also refl (also refl (also refl (also refl (also refl (also refl done)))))) k e

def_m : (k : ℕ) → one_of k def_kinds ≡ true → has_m k ≡ false
unfolding one_of
def_m k e = by_kind (λ a. has_m a ≡ false) (also refl (also refl (also refl (also refl (also refl (also refl done)))))) k e

def_n : (k : ℕ) → one_of k def_kinds ≡ true → has_n k ≡ true → k ≡ 1
unfolding one_of
def_n k e =
    by_kind (λ a. has_n a ≡ true → a ≡ 1)
    (also (λ z. refl) (also (λ z. absurd (not_both z refl)) (also (λ z. absurd (not_both z refl))
    (also (λ z. absurd (not_both z refl)) (also (λ z. absurd (not_both z refl)) (also (λ z. absurd (not_both z refl)) done))))))
    k e

-- a chain of one record
one_record_chain : (w b : List ℕ) → lowest_fault w b ≡ sound → (t : ℕ) → Starts w t → (t ≡ 0 → ⊥) → next_of w t ≡ 0 → chain_of w t ≡ t ∷ []
one_record_chain w b ok t s n e = along_chain w b ok (along_start w b ok s) n ∙ rw (e, chain_end w) refl

-- a link that is not 0
led : {A : Type 0} (t : ℕ) → (t ≡ 0) ⊎ A → (t ≡ 0 → ⊥) → A
led t (inl z) n = absurd (n z)
led t (inr a) n = a

-- the last word of a record is named by no kind
pub named_last : (k n i : ℕ) → 15 ≤ i → named k n i ≡ false
unfolding named
named_last k n i h =
    simp (
      lt-leb i 1 (omega arith),
      lt-leb i 3 (omega arith),
      lt-leb i 5 (omega arith),
      ne_eqb i 6 (λ e. omega arith),
      ne_eqb i 7
          (λ e. omega arith),
      ne_eqb i 8 (λ e. omega arith),
      lt-leb i 10 (omega arith),
      lt-leb i 12 (omega arith),
      ne_eqb i 13 (λ e. omega arith),
      ne_eqb i 14 (λ e. omega arith),
    )

-- a text without bytes
no_bytes : (bytes : List ℕ) (start size : ℕ) → size ≡ 0 → ◌≡◌ {A = List ℕ} (take size (drop start bytes)) []
no_bytes bytes start size e = rw e refl

module _ {starts w b v c : List ℕ} {n m n' m' : ℕ} {l l' : Log} (x : Written starts w b n m l) (y : Written starts v c n' m' l') where
  -- records of one kind, and with one N
  module _ (r s : ℕ) (h : Reached w r) (k : Reached v s) (kind : kind_of w r ≡ kind_of v s) where
    kept_left : Kept starts w r
    kept_left = x.kept r (le-leb 1 (times_reached (followed w) r) h)

    kept_right : Kept starts v s
    kept_right = y.kept s (le-leb 1 (times_reached (followed v) s) k)

    -- N where the kind has one
    same_n : (has_n (kind_of w r) ≡ true → n_of w r ≡ n_of v s) → n_of w r ≡ n_of v s
    unfolding named
    same_n f =
        by_test (has_n (kind_of w r)) f
        (λ e. kept_left.unnamed 7 (omega arith) e ∙ sym (kept_right.unnamed 7 (omega arith) (rw kind at e)))

    module _ (same : n_of w r ≡ n_of v s) where
      -- a word that is not named
      same_word : (i : ℕ) → i < record_words → (named (kind_of w r) (n_of w r) i ≡ true → out_field w r i ≡ out_field v s i)
          → out_field w r i ≡ out_field v s i
      same_word i j f =
          by_test (named (kind_of w r) (n_of w r) i) f
          (λ e. kept_left.unnamed i j e ∙ sym (kept_right.unnamed i j (rw (kind, same) at e)))

      same_text : (has_text (kind_of w r) (n_of w r) ≡ true → first_text w b r ≡ first_text v c s) → first_text w b r ≡ first_text v c s
      unfolding named
      same_text f =
          by_test (has_text (kind_of w r) (n_of w r)) f
          (λ e.
          no_bytes b (text_start w r) (text_length w r) (kept_left.unnamed 3 (omega arith) e)
          ∙ sym (no_bytes c (text_start v s) (text_length v s) (kept_right.unnamed 3 (omega arith) (rw (kind, same) at e))))

      same_second : (has_second_text (kind_of w r) (n_of w r) ≡ true → second_text w b r ≡ second_text v c s)
          → second_text w b r ≡ second_text v c s
      unfolding named
      same_second f =
          by_test (has_second_text (kind_of w r) (n_of w r)) f
          (λ e.
          no_bytes b (second_start w r) (second_length w r) (kept_left.unnamed 5 (omega arith) e)
          ∙ sym (no_bytes c (second_start v s) (second_length v s) (kept_right.unnamed 5 (omega arith) (rw (kind, same) at e))))

      -- the files, by the spans
      same_files : span_start w r ≡ span_start v s → name_start w r ≡ name_start v s → (i : ℕ) → 13 ≤ i → i < record_words
          → out_field w r i ≡ out_field v s i
      unfolding named
      same_files e f i g j =
          by_test (eqb i 13)
          (λ t. rw (eqb-true i 13 t)
          (same_word 13 (omega arith) (λ z. kept_left.file_of_span z ∙ ap (file_of starts) e ∙ sym (kept_right.file_of_span (rw kind at z)))))
          (λ t. by_test (eqb i 14)
          (λ u. rw (eqb-true i 14 u)
          (same_word 14 (omega arith) (λ z. kept_left.file_of_name z ∙ ap (file_of starts) f ∙ sym (kept_right.file_of_name (rw kind at z)))))
          (λ u. same_word i j (λ z. absurd (not_both z (named_last (kind_of w r) (n_of w r) i (above t u))))))
        where
          above : eqb i 13 ≡ false → eqb i 14 ≡ false → 15 ≤ i
          above t u = omega (arith, eqb-false i 13 t, eqb-false i 14 u)

      own : (has_text (kind_of w r) (n_of w r) ≡ true → first_text w b r ≡ first_text v c s)
          → (has_second_text (kind_of w r) (n_of w r) ≡ true → second_text w b r ≡ second_text v c s)
          → (has_m (kind_of w r) ≡ true → (kind_of w r ≡ extension_kind → ⊥) → m_of w r ≡ m_of v s)
          → (has_span (kind_of w r) ≡ true → span_at w r ≡ span_at v s)
          → (has_name_span (kind_of w r) ≡ true → name_span_at w r ≡ name_span_at v s)
          → AlikeWords w b v c r s
      unfolding named
      own t u f p q =
          let a = text_length_lem w b x.rules r h in
          let d = text_length_lem v c y.rules s k in
          let e = same_word 9 (omega arith) (λ z. ap (λ (i : Span). i.from) (p z)) in
          let g = same_word 11 (omega arith) (λ z. ap (λ (i : Span). i.from) (q z)) in
          record {
            kind = kind;
            text = same_text t;
            size = sym a.0 ∙ ap length (same_text t) ∙ d.0;
            second = same_second u;
            second_size = sym a.1 ∙ ap length (same_second u) ∙ d.1;
            child = λ e. same_word 6 (omega arith) (λ z. absurd (not_both z e));
            n = same;
            m = λ e. same_word 8 (omega arith) (λ z. f z e);
            start = e;
            end = same_word 10 (omega arith) (λ z. ap (λ (i : Span). i.to) (p z));
            name_from = g;
            name_to = same_word 12 (omega arith) (λ z. ap (λ (i : Span). i.to) (q z));
            last = same_files e g;
          }

  -- a chain, where its records are alike
  chains : {A : Type 0} (f g : ℕ → A) (R : ℕ → ℕ → Type 0) (p : Place) (t u : ℕ) → Starts w t → Starts v u → EndOrStands w t p
      → EndOrStands v u p
      → ((r s : ℕ) → Stands w r p → Stands v s p → f r ≡ g s → R r s) → map f (chain_of w t) ≡ map g (chain_of v u)
      → AlikeAll R (chain_of w t) (chain_of v u)
  chains f g R p t u a d i j h e =
      zip f g R (chain_stands w b x.rules p (chain_list w b x.rules t a) i)
      (chain_stands v c y.rules p (chain_list v c y.rules u d) j) h e

  -- records without children
  no_children : (R : ℕ → ℕ → Type 0) (r s : ℕ) → Reached w r → Reached v s → has_children (kind_of w r) ≡ false
      → has_children (kind_of v s) ≡ false
      → AlikeAll R (chain_of w (child_of w r)) (chain_of v (child_of v s))
  no_children R r s h k e f = rw (childless w b x.rules r h e, childless v c y.rules s k f, chain_end w, chain_end v) none

  module _ (r s : ℕ) (h : Reached w r) (k : Reached v s) where
    -- records that have a text and no more: labels, strings, bytestrings
    only_text : (a : ℕ) → kind_of w r ≡ a → kind_of v s ≡ a → has_n a ≡ false → ((i : ℕ) → has_second_text a i ≡ false) → has_m a ≡ false
        → has_span a ≡ false
        → has_name_span a ≡ false → first_text w b r ≡ first_text v c s → AlikeWords w b v c r s
    only_text a e f n₀ s₀ m₀ p₀ q₀ t =
        own r s h k (e ∙ sym f) (same_n r s h k (e ∙ sym f) (λ z. absurd (not_both (rw e at z) n₀)))
        (λ z. t)
        (λ z. absurd (not_both (rw e at z) (s₀ (n_of w r))))
        (λ z g. absurd (not_both (rw e at z) m₀))
        (λ z. absurd (not_both (rw e at z) p₀))
        (λ z. absurd (not_both (rw e at z) q₀))

    -- references
    reference_alike : kind_of w r ≡ reference_kind → kind_of v s ≡ reference_kind → target_at w b r ≡ target_at v c s → AlikeWords w b v c r s
    unfolding one_of
    reference_alike e f t =
        let kind = e ∙ sym f in
        let a : n_of w r ≤ 3 = rw e at (kept_left r s h k kind).n in
        let d : n_of v s ≤ 3 = rw f at (kept_right r s h k kind).n in
        let same : n_of w r ≡ n_of v s = sym (target_n_lem w b r a) ∙ ap target_n t ∙ target_n_lem v c s d in
        own r s h k kind same
        (λ z.
        let i : one_of (n_of w r) (1 ∷ 2 ∷ []) ≡ true = rw e at z in
        sym (target_label_lem w b r i) ∙ ap label_of t ∙ target_label_lem v c s (rw same at i))
        (λ z.
        let i : one_of (n_of w r) (2 ∷ 3 ∷ []) ≡ true = rw e at z in
        sym (target_path w b r i) ∙ ap path_of t ∙ target_path v c s (rw same at i))
        (λ z g. absurd (not_both (rw e at z) refl))
        (λ z. absurd (not_both (rw e at z) refl))
        (λ z. absurd (not_both (rw e at z) refl))

  module _ (ww : Words32 w) (wv : Words32 v) where
    -- cells
    number_alike : (r s : ℕ) → Reached w r → Reached v s → kind_of w r ≡ 11 → kind_of v s ≡ 11
        → n_of w r + m_of w r * 2 ^ 32 ≡ n_of v s + m_of v s * 2 ^ 32 → AlikeWords w b v c r s
    unfolding one_of out_field
    number_alike r s h k e f t =
        let a = ww.below (r * record_words + 7) in
        let d = wv.below (s * record_words + 7) in
        own r s h k (e ∙ sym f) (omega arith)
        (λ z. absurd (not_both (rw e at z) refl))
        (λ z. absurd (not_both (rw e at z) refl))
        (λ z g. omega arith)
        (λ z. absurd (not_both (rw e at z) refl))
        (λ z. absurd (not_both (rw e at z) refl))

    cell_alike : (r s : ℕ) → Stands w r cells → Stands v s cells → cell_at w b r ≡ cell_at v c s → AlikeWords w b v c r s
    cell_alike r s i j t = go (one_kind (kind_of w r) 11 (12 ∷ []) kr)
      where
        h : Reached w r
        h = stands_reached w b x.rules r cells i

        k : Reached v s
        k = stands_reached v c y.rules s cells j

        kr : one_of (kind_of w r) (kinds_in cells) ≡ true
        kr = stands_kind w b x.rules r cells i

        kind : kind_of w r ≡ kind_of v s
        kind = sym (cell_kind_lem w b r kr) ∙ ap cell_kind t ∙ cell_kind_lem v c s (stands_kind v c y.rules s cells j)

        go : (kind_of w r ≡ 11) ⊎ (one_of (kind_of w r) (12 ∷ []) ≡ true) → AlikeWords w b v c r s
        go (inl e) =
            let q = sym (cell_number w b r e) ∙ t ∙ cell_number v c s (sym kind ∙ e) in
            number_alike r s h k e (sym kind ∙ e) (cc)
        go (inr o) =
            let e = only_kind (kind_of w r) 12 o in
            let q = sym (cell_reference w b r e) ∙ t ∙ cell_reference v c s (sym kind ∙ e) in
            reference_alike r s h k e (sym kind ∙ e) (cc)

    -- values
    cells_alike : (r s : ℕ) (p : Place) → Stands w r p → Stands v s p → kind_of w r ≡ 9 → kind_of v s ≡ 9
        → map (cell_at w b) (chain_of w (child_of w r)) ≡ map (cell_at v c) (chain_of v (child_of v s))
        → AlikeAll (AlikeWords w b v c) (chain_of w (child_of w r)) (chain_of v (child_of v s))
    unfolding one_of
    cells_alike r s p i j e f t =
        let a : has_children (kind_of w r) ≡ true = rw e refl in
        let d : has_children (kind_of v s) ≡ true = rw f refl in
        chains (cell_at w b) (cell_at v c) (AlikeWords w b v c) cells (child_of w r) (child_of v s)
        (child_starts w b x.rules r (stands_reached w b x.rules r p i) a)
        (child_starts v c y.rules s (stands_reached v c y.rules s p j) d)
        (rw e at (child_stands w b x.rules r p i a))
        (rw f at (child_stands v c y.rules s p j d))
        cell_alike t

    list_alike : (r s : ℕ) → Reached w r → Reached v s → kind_of w r ≡ 9 → kind_of v s ≡ 9 → n_of w r ≡ n_of v s → AlikeWords w b v c r s
    unfolding one_of
    list_alike r s h k e f t =
        own r s h k (e ∙ sym f) t
        (λ z. absurd (not_both (rw e at z) refl))
        (λ z. absurd (not_both (rw e at z) refl))
        (λ z g. absurd (not_both (rw e at z) refl))
        (λ z. absurd (not_both (rw e at z) refl))
        (λ z. absurd (not_both (rw e at z) refl))

    value_alike : (r s : ℕ) → Stands w r values → Stands v s values → value_at w b r ≡ value_at v c s → AlikeValue w b v c r s
    unfolding one_of
    value_alike r s i j t =
        by_kind (λ a. kind_of w r ≡ a → kind_of v s ≡ a → AlikeValue w b v c r s)
        (also
        (λ e f.
        let q = sym (value_string w b r e) ∙ t ∙ value_string v c s f in
        record {
          own = only_text r s h k 8 e f refl (λ _. refl) refl refl refl (cc);
          below = no_children (AlikeWords w b v c) r s h k (rw e refl) (rw f refl);
        })
        (also
        (λ e f.
        let q = sym (value_cells w b r e) ∙ t ∙ value_cells v c s f in
        record { own = list_alike r s h k e f (cc); below = cells_alike r s values i j e f (cc) })
        (also
        (λ e f.
        let q = sym (value_bytes_lem w b r e) ∙ t ∙ value_bytes_lem v c s f in
        record {
          own = only_text r s h k 10 e f refl (λ _. refl) refl refl refl (cc);
          below = no_children (AlikeWords w b v c) r s h k (rw e refl) (rw f refl);
        })
        (also
        (λ e f.
        let q = sym (value_reference w b r e) ∙ t ∙ value_reference v c s f in
        record {
          own = reference_alike r s h k e f (cc);
          below = no_children (AlikeWords w b v c) r s h k (rw e refl) (rw f refl);
        })
        done)))) (kind_of w r) kr refl (sym kind)
      where
        h : Reached w r
        h = stands_reached w b x.rules r values i

        k : Reached v s
        k = stands_reached v c y.rules s values j

        kr : one_of (kind_of w r) (kinds_in values) ≡ true
        kr = stands_kind w b x.rules r values i

        kind : kind_of w r ≡ kind_of v s
        kind = sym (value_kind_lem w b r kr) ∙ ap value_kind t ∙ value_kind_lem v c s (stands_kind v c y.rules s values j)

    -- labels
    label_alike : (r s : ℕ) → Stands w r labels → Stands v s labels → first_text w b r ≡ first_text v c s → AlikeValue w b v c r s
    unfolding one_of
    label_alike r s i j t =
        let h = stands_reached w b x.rules r labels i in
        let k = stands_reached v c y.rules s labels j in
        let e = only_kind (kind_of w r) 7 (stands_kind w b x.rules r labels i) in
        let f = only_kind (kind_of v s) 7 (stands_kind v c y.rules s labels j) in
        record {
          own = only_text r s h k 7 e f refl (λ _. refl) refl refl refl t;
          below = no_children (AlikeWords w b v c) r s h k (rw e refl) (rw f refl);
        }

    -- definitions
    def_own : (r s : ℕ) → Stands w r definitions → Stands v s definitions → kind_of w r ≡ kind_of v s → def_at w b r ≡ def_at v c s
        → AlikeWords w b v c r s
    unfolding def_at
    def_own r s i j kind t =
        own r s h k kind (same_n r s h k kind (λ z. go (def_n (kind_of w r) kr z)))
        (λ z. ap (λ (d : Def). d.path) t)
        (λ z. absurd (not_both z (def_second (kind_of w r) (n_of w r) kr)))
        (λ z g. absurd (not_both z (def_m (kind_of w r) kr)))
        (λ z. ap (λ (d : Def). d.span) t)
        (λ z. ap (λ (d : Def). d.name_span) t)
      where
        h : Reached w r
        h = stands_reached w b x.rules r definitions i

        k : Reached v s
        k = stands_reached v c y.rules s definitions j

        kr : one_of (kind_of w r) def_kinds ≡ true
        kr = stands_kind w b x.rules r definitions i

        go : kind_of w r ≡ 1 → n_of w r ≡ n_of v s
        go e =
            let f : kind_of v s ≡ 1 = sym kind ∙ e in
            let q = sym (def_node w b r e) ∙ ap (λ (d : Def). d.value) t ∙ def_node v c s f in
            let a : n_of w r ≤ 1 = rw e at (kept_left r s h k kind).n in
            let d : n_of v s ≤ 1 = rw f at (kept_right r s h k kind).n in
            omit_n (n_of w r) (n_of v s) a d (cc)

    def_below : (r s : ℕ) → Stands w r definitions → Stands v s definitions → kind_of w r ≡ kind_of v s → def_value_at w b r ≡ def_value_at v c s
        → AlikeAll (AlikeValue w b v c) (chain_of w (child_of w r)) (chain_of v (child_of v s))
    unfolding one_of
    def_below r s i j kind t =
        by_kind (λ a. kind_of w r ≡ a → kind_of v s ≡ a → AlikeAll (AlikeValue w b v c) (chain_of w (child_of w r)) (chain_of v (child_of v s)))
        (also
        (λ e f.
        let q = sym (def_node w b r e) ∙ t ∙ def_node v c s f in
        let a : has_children (kind_of w r) ≡ true = rw e refl in
        let d : has_children (kind_of v s) ≡ true = rw f refl in
        chains (first_text w b) (first_text v c) (AlikeValue w b v c) labels (child_of w r) (child_of v s)
        (child_starts w b x.rules r h a) (child_starts v c y.rules s k d)
        (rw e at (child_stands w b x.rules r definitions i a)) (rw f at (child_stands v c y.rules s definitions j d))
        label_alike (cc))
        (also
        (λ e f.
        let q = sym (def_property w b r e) ∙ t ∙ def_property v c s f in
        let a : has_children (kind_of w r) ≡ true = rw e refl in
        let d : has_children (kind_of v s) ≡ true = rw f refl in
        chains (value_at w b) (value_at v c) (AlikeValue w b v c) values (child_of w r) (child_of v s)
        (child_starts w b x.rules r h a) (child_starts v c y.rules s k d)
        (rw e at (child_stands w b x.rules r definitions i a)) (rw f at (child_stands v c y.rules s definitions j d))
        value_alike (cc))
        (also
        (λ e f. no_children (AlikeValue w b v c) r s h k (rw e refl) (rw f refl))
        (also
        (λ e f. no_children (AlikeValue w b v c) r s h k (rw e refl) (rw f refl))
        (also
        (λ e f. no_children (AlikeValue w b v c) r s h k (rw e refl) (rw f refl))
        (also
        (λ e f. no_children (AlikeValue w b v c) r s h k (rw e refl) (rw f refl))
        done)))))) (kind_of w r) (stands_kind w b x.rules r definitions i) refl (sym kind)
      where
        h : Reached w r
        h = stands_reached w b x.rules r definitions i

        k : Reached v s
        k = stands_reached v c y.rules s definitions j

    pub def_alike : (r s : ℕ) → Stands w r definitions → Stands v s definitions → def_at w b r ≡ def_at v c s → AlikeDef w b v c r s
    unfolding def_at
    def_alike r s i j t =
        let value = ap (λ (d : Def). d.value) t in
        let kind : kind_of w r ≡ kind_of v s = sym (def_kind_lem w b r (stands_kind w b x.rules r definitions i)) ∙ ap def_kind value
        ∙ def_kind_lem v c s (stands_kind v c y.rules s definitions j) in
        record { own = def_own r s i j kind t; below = def_below r s i j kind value }

    -- bindings
    pub binding_alike : (r s : ℕ) → Stands w r bindings → Stands v s bindings → binding_at w b r ≡ binding_at v c s → AlikeWords w b v c r s
    unfolding one_of binding_at
    binding_alike r s i j t =
        let h = stands_reached w b x.rules r bindings i in
        let k = stands_reached v c y.rules s bindings j in
        let e = only_kind (kind_of w r) 14 (stands_kind w b x.rules r bindings i) in
        let kind : kind_of w r ≡ kind_of v s = e ∙ sym (only_kind (kind_of v s) 14 (stands_kind v c y.rules s bindings j)) in
        own r s h k kind (same_n r s h k kind (λ z. absurd (not_both (rw e at z) refl)))
        (λ z. ap (λ (a : Binding). a.label) t)
        (λ z. ap (λ (a : Binding). a.path) t)
        (λ z g. absurd (not_both (rw e at z) refl))
        (λ z. ap (λ (a : Binding). a.span) t)
        (λ z. absurd (not_both (rw e at z) refl))

    -- diagnostics
    pub diag_alike : (r s : ℕ) → Stands w r diagnostics → Stands v s diagnostics → diag_at w b r ≡ diag_at v c s → AlikeWords w b v c r s
    unfolding one_of diag_at
    diag_alike r s i j t =
        let h = stands_reached w b x.rules r diagnostics i in
        let k = stands_reached v c y.rules s diagnostics j in
        let e = only_kind (kind_of w r) 15 (stands_kind w b x.rules r diagnostics i) in
        let kind : kind_of w r ≡ kind_of v s = e ∙ sym (only_kind (kind_of v s) 15 (stands_kind v c y.rules s diagnostics j)) in
        own r s h k kind (ap (λ (a : Diag). a.code) t)
        (λ z. ap (λ (a : Diag). a.text) t)
        (λ z. absurd (not_both (rw e at z) refl))
        (λ z g. absurd (not_both (rw e at z) refl))
        (λ z. ap (λ (a : Diag). a.span) t)
        (λ z. ap (λ (a : Diag). a.name_span) t)

    -- extensions
    ext_reference : (r s : ℕ) → Stands w r extensions → Stands v s extensions → kind_of w r ≡ 13 → kind_of v s ≡ 13
        → ext_target w b (child_of w r) ≡ ext_target v c (child_of v s)
        → AlikeAll (AlikeWords w b v c) (chain_of w (child_of w r)) (chain_of v (child_of v s))
    unfolding one_of
    ext_reference r s i j e f t =
        let h = stands_reached w b x.rules r extensions i in
        let k = stands_reached v c y.rules s extensions j in
        let kind = e ∙ sym f in
        let a : has_children (kind_of w r) ≡ true = rw e refl in
        let d : has_children (kind_of v s) ≡ true = rw f refl in
        let n₁ = (kept_left r s h k kind).a_reference e in
        let n₂ = (kept_right r s h k kind).a_reference f in
        let i₁ : Stands w (child_of w r) references = led (child_of w r) (rw e at (child_stands w b x.rules r extensions i a)) n₁ in
        let i₂ : Stands v (child_of v s) references = led (child_of v s) (rw f at (child_stands v c y.rules s extensions j d)) n₂ in
        let h₁ = stands_reached w b x.rules (child_of w r) references i₁ in
        let h₂ = stands_reached v c y.rules (child_of v s) references i₂ in
        let e₁ = only_kind (kind_of w (child_of w r)) 12 (stands_kind w b x.rules (child_of w r) references i₁) in
        let e₂ = only_kind (kind_of v (child_of v s)) 12 (stands_kind v c y.rules (child_of v s) references i₂) in
        let q : target_at w b (child_of w r) ≡ target_at v c (child_of v s) = rw
        (reached_leads w (child_of w r) h₁, reached_leads v (child_of v s) h₂) at t in
        rw (
          one_record_chain w b x.rules (child_of w r) (child_starts w b x.rules r h a) n₁ ((kept_left r s h k kind).one_reference e),
          one_record_chain v c y.rules (child_of v s) (child_starts v c y.rules s k d) n₂ ((kept_right r s h k kind).one_reference f),
        )
        (more (reference_alike (child_of w r) (child_of v s) h₁ h₂ e₁ e₂ q) none)

    pub ext_alike : (r s : ℕ) → Stands w r extensions → Stands v s extensions → ext_at w b r ≡ ext_at v c s → AlikeExt w b v c r s
    unfolding one_of ext_at read_defs
    ext_alike r s i j t =
        let h = stands_reached w b x.rules r extensions i in
        let k = stands_reached v c y.rules s extensions j in
        let e = only_kind (kind_of w r) 13 (stands_kind w b x.rules r extensions i) in
        let f = only_kind (kind_of v s) 13 (stands_kind v c y.rules s extensions j) in
        let kind : kind_of w r ≡ kind_of v s = e ∙ sym f in
        record {
          own =
              own r s h k kind (same_n r s h k kind (λ z. absurd (not_both (rw e at z) refl)))
              (λ z. absurd (not_both (rw e at z) refl))
              (λ z. absurd (not_both (rw e at z) refl))
              (λ z g. absurd (g e))
              (λ z. ap (λ (a : Ext). a.span) t)
              (λ z. ap (λ (a : Ext). a.name_span) t);
          reference = ext_reference r s i j e f (ap (λ (a : Ext). a.target) t);
          body =
              chains (def_at w b) (def_at v c) (AlikeDef w b v c) definitions (m_of w r) (m_of v s)
              (body_starts w b x.rules r h e) (body_starts v c y.rules s k f)
              (body_stands w b x.rules r extensions i e) (body_stands v c y.rules s extensions j f)
              def_alike (ap (λ (a : Ext). a.body) t);
        }

    -- one of record 0's chains
    pub head_alike : {A : Type 0} (f g : ℕ → A) (R : ℕ → ℕ → Type 0) {p : Place} {t u : ℕ} → Head w t p → Head v u p
        → ((r s : ℕ) → Stands w r p → Stands v s p → f r ≡ g s → R r s) → map f (chain_of w t) ≡ map g (chain_of v u)
        → AlikeAll R (chain_of w t) (chain_of v u)
    head_alike f g R {p} {t} {u} a d h e =
        chains f g R p t u (head_starts w b x.rules a) (head_starts v c y.rules d) (head_stands w b x.rules a)
        (head_stands v c y.rules d) h e

    -- all chains
    pub log_alike : l ≡ l' → AlikeLog w b v c
    unfolding read_log read_defs read_exts read_bindings read_diags
    log_alike e =
        let t : read_log w b ≡ read_log v c = x.reads ∙ e ∙ sym y.reads in
        record {
          defs = head_alike (def_at w b) (def_at v c) (AlikeDef w b v c) defs defs def_alike (ap (λ (a : Log). a.defs) t);
          exts = head_alike (ext_at w b) (ext_at v c) (AlikeExt w b v c) exts exts ext_alike (ap (λ (a : Log). a.exts) t);
          binds = head_alike (binding_at w b) (binding_at v c) (AlikeWords w b v c) binds binds binding_alike (ap (λ (a : Log). a.binds) t);
          diags = head_alike (diag_at w b) (diag_at v c) (AlikeWords w b v c) diags diags diag_alike (ap (λ (a : Log). a.diags) t);
          post = head_alike (diag_at w b) (diag_at v c) (AlikeWords w b v c) post post diag_alike (ap (λ (a : Log). a.post) t);
        }
