-- A node's labels, one after the other, after its definition.
use Prim.Native.Nat.{ℕ, ◌+◌}
use mathlib.Core.Path.{◌≡◌, refl, sym, ap, ◌∙◌}
use mathlib.Core.Bool.{true}
use mathlib.Core.List.{List, [], ◌∷◌, ◌++◌, append_assoc, append-nil}
use native.Mathlib.Omega.{arith}
use lib.ListN.{length-append}
use Rattle.definition_log.specs.meaning.Contents.{DefValue, node, property, deleted_node, deleted_property, version, plugin, Def, Ext}
use Rattle.definition_log.specs.meaning.Contents.{Binding}
use Rattle.definition_log.specs.meaning.Contents.{Diag}
use Rattle.making.specs.meaning.State.{State, texts_bytes, bindings_bytes, diags_bytes, bind, emit}
use Rattle.making.specs.machine.Adding.{on_last, changed, with_label, last_is, is_node, in_node, add_part, add_label}
use Rattle.input.specs.meaning.Report.{Made, nothing, and_then}
use Rattle.items.specs.meaning.Lower.{label_texts}
use Rattle.items.specs.machine.Labelled.{with_labels, labelled_by}

-- two states that agree in each field
pub same_state : (s t : State) → s.defs ≡ t.defs → s.exts ≡ t.exts → s.binds ≡ t.binds → s.diags ≡ t.diags → s.records ≡ t.records
    → s.bytes ≡ t.bytes → s ≡ t
same_state s t a b c d e f =
    ap (λ (x : List Def). record { defs = x; exts = s.exts; binds = s.binds; diags = s.diags; records = s.records; bytes = s.bytes }) a
    ∙ ap (λ (x : List Ext). record { defs = t.defs; exts = x; binds = s.binds; diags = s.diags; records = s.records; bytes = s.bytes })
    b
    ∙ ap (λ (x : List Binding). record {
      defs = t.defs;
      exts = t.exts;
      binds = x;
      diags = s.diags;
      records = s.records;
      bytes = s.bytes;
    }) c
    ∙ ap (λ (x : List Diag). record { defs = t.defs; exts = t.exts; binds = t.binds; diags = x; records = s.records; bytes = s.bytes })
    d
    ∙ ap (λ (x : ℕ). record { defs = t.defs; exts = t.exts; binds = t.binds; diags = t.diags; records = x; bytes = s.bytes }) e
    ∙ ap (λ (x : ℕ). record { defs = t.defs; exts = t.exts; binds = t.binds; diags = t.diags; records = t.records; bytes = x }) f

-- the last changed twice, or not at all
pub last_twice : {A : Type 0} (f g h : A → A) → ((a : A) → g (f a) ≡ h a) → (l : List A) → on_last g (on_last f l) ≡ on_last h l
unfolding on_last
last_twice f g h q [] = refl
last_twice f g h q (a ∷ []) = ap (λ (x : _). x ∷ []) (q a)
last_twice f g h q (a ∷ b ∷ []) = ap (λ (x : _). a ∷ x ∷ []) (q b)
last_twice f g h q (a ∷ b ∷ c ∷ l) = ap (λ (x : List _). a ∷ x) (last_twice f g h q (b ∷ c ∷ l))

pub last_kept : {A : Type 0} (f : A → A) → ((a : A) → f a ≡ a) → (l : List A) → on_last f l ≡ l
unfolding on_last
last_kept f q [] = refl
last_kept f q (a ∷ []) = ap (λ (x : _). x ∷ []) (q a)
last_kept f q (a ∷ b ∷ l) = ap (λ (x : List _). a ∷ x) (last_kept f q (b ∷ l))

no_labels : (v : DefValue) → with_labels [] v ≡ v
no_labels (node ms o) = ap (λ (x : _). node x o) (append-nil ms)
no_labels (property vs) = refl
no_labels deleted_node = refl
no_labels deleted_property = refl
no_labels version = refl
no_labels plugin = refl

more_labels : (a b : List (List ℕ)) (v : DefValue) → with_labels b (with_labels a v) ≡ with_labels (a ++ b) v
more_labels a b (node ms o) = ap (λ (x : _). node x o) (append_assoc ms a b)
more_labels a b (property vs) = refl
more_labels a b deleted_node = refl
more_labels a b deleted_property = refl
more_labels a b version = refl
more_labels a b plugin = refl

one_label : (l : List ℕ) (v : DefValue) → with_label l v ≡ with_labels (l ∷ []) v
one_label l (node ms o) = refl
one_label l (property vs) = refl
one_label l deleted_node = refl
one_label l deleted_property = refl
one_label l version = refl
one_label l plugin = refl

labels_append : (a b : List Binding) → label_texts (a ++ b) ≡ label_texts a ++ label_texts b
unfolding label_texts
labels_append [] b = refl
labels_append (x ∷ a) b = ap (λ (l : _). x.label ∷ l) (labels_append a b)

texts_append : (a b : List (List ℕ)) → texts_bytes (a ++ b) ≡ texts_bytes a + texts_bytes b
unfolding texts_bytes
texts_append [] b = omega arith
texts_append (x ∷ a) b = omega (arith, texts_append a b)

bindings_append : (a b : List Binding) → bindings_bytes (a ++ b) ≡ bindings_bytes a + bindings_bytes b
unfolding bindings_bytes
bindings_append [] b = omega arith
bindings_append (x ∷ a) b = omega (arith, bindings_append a b)

pub diags_append : (a b : List Diag) → diags_bytes (a ++ b) ≡ diags_bytes a + diags_bytes b
unfolding diags_bytes
diags_append [] b = omega arith
diags_append (x ∷ a) b = omega (arith, diags_append a b)

-- none, then others
pub labelled_none : (s : State) → labelled_by (nothing []) s ≡ s
unfolding labelled_by label_texts texts_bytes bindings_bytes diags_bytes
labelled_none s =
    same_state (labelled_by (nothing []) s) s (last_kept (changed (with_labels []))
    (λ d. ap (λ (v : DefValue). record { path = d.path; value = v; span = d.span; name_span = d.name_span }) (no_labels d.value))
    s.defs)
    refl (append-nil s.binds) (append-nil s.diags) (omega arith) (omega arith)

pub labelled_then : (a b : Made Binding) (s : State) → labelled_by (and_then a b) s ≡ labelled_by b (labelled_by a s)
unfolding labelled_by
labelled_then a b s =
    let texts : texts_bytes (label_texts (a.made ++ b.made)) ≡ texts_bytes (label_texts a.made) + texts_bytes (label_texts b.made) =
    ap texts_bytes (labels_append a.made b.made) ∙ texts_append (label_texts a.made) (label_texts b.made) in
    sym
    (same_state (labelled_by b (labelled_by a s)) (labelled_by (and_then a b) s)
    (last_twice (changed (with_labels (label_texts a.made))) (changed (with_labels (label_texts b.made)))
    (changed (with_labels (label_texts (a.made ++ b.made))))
    (λ d. ap (λ (v : DefValue). record { path = d.path; value = v; span = d.span; name_span = d.name_span })
    (more_labels (label_texts a.made) (label_texts b.made) d.value
    ∙ ap (λ (x : List (List ℕ)). with_labels x d.value) (sym (labels_append a.made b.made)))) s.defs)
    refl (append_assoc s.binds a.made b.made) (append_assoc s.diags a.reports b.reports)
    (omega (arith, length-append a.made b.made, length-append a.reports b.reports))
    (omega (arith, texts, bindings_append a.made b.made, diags_append a.reports b.reports)))

-- a label with its binding; a report
pub labelled_one : (b : Binding) (s : State) → labelled_by (record { made = b ∷ []; reports = [] }) s ≡ bind (b ∷ []) (add_label b.label s)
unfolding labelled_by label_texts texts_bytes bindings_bytes diags_bytes bind add_part on_last
labelled_one b s =
    same_state (labelled_by (record { made = b ∷ []; reports = [] }) s) (bind (b ∷ []) (add_label b.label s))
    (sym (on_same s.defs))
    refl refl (append-nil s.diags) (omega arith) (omega arith)
  where
    on_same : (l : List Def) → on_last (changed (with_label b.label)) l ≡ on_last (changed (with_labels (b.label ∷ []))) l
    on_same [] = refl
    on_same (d ∷ []) = ap (λ (v : DefValue). record { path = d.path; value = v; span = d.span; name_span = d.name_span } ∷ [])
        (one_label b.label d.value)
    on_same (d ∷ e ∷ l) = ap (λ (x : List Def). d ∷ x) (on_same (e ∷ l))

pub labelled_report : (ds : List Diag) (s : State) → labelled_by (nothing ds) s ≡ emit ds s
unfolding labelled_by label_texts texts_bytes bindings_bytes emit
labelled_report ds s =
    same_state (labelled_by (nothing ds) s) (emit ds s) (last_kept (changed (with_labels []))
    (λ d. ap (λ (v : DefValue). record { path = d.path; value = v; span = d.span; name_span = d.name_span }) (no_labels d.value))
    s.defs)
    refl (append-nil s.binds) refl (omega arith) (omega arith)

-- a node stays one
still_node : (ls : List (List ℕ)) (v : DefValue) → is_node v ≡ true → is_node (with_labels ls v) ≡ true
still_node ls (node ms o) h = refl
still_node ls (property vs) h = h
still_node ls deleted_node h = h
still_node ls deleted_property h = h
still_node ls version h = h
still_node ls plugin h = h

last_node : (ls : List (List ℕ)) (l : List Def) → last_is (λ (d : Def). is_node d.value) l ≡ true
    → last_is (λ (d : Def). is_node d.value) (on_last (changed (with_labels ls)) l) ≡ true
unfolding on_last last_is
last_node ls [] h = h
last_node ls (d ∷ []) h = still_node ls d.value h
last_node ls (d ∷ e ∷ []) h = still_node ls e.value h
last_node ls (d ∷ e ∷ f ∷ l) h = last_node ls (e ∷ f ∷ l) h

pub labelled_node : (m : Made Binding) (s : State) → in_node s ≡ true → in_node (labelled_by m s) ≡ true
unfolding labelled_by
labelled_node m s h = last_node (label_texts m.made) s.defs h
