-- What each operation makes, by what it is given.
use Prim.Native.Nat.{ℕ, ◌+◌, ◌*◌, ◌^◌}
use mathlib.Core.Path.{◌≡◌, refl, ap, ◌∙◌}
use mathlib.Core.Bool.{false}
use mathlib.Core.List.{List, [], ◌∷◌}
use native.Mathlib.Omega.{arith}
use lib.ListN.{length}
use Rattle.paths_numbers.specs.meaning.Bytestring.{bytes_of, is_odd}
use Rattle.making.specs.declared.ctx.LowerCtx.{LowerCtx}
use Rattle.making.specs.declared.ctx.Rec.{Rec}
use Rattle.definition_log.specs.declared.parts.Span.{Span}
use Rattle.making.specs.declared.recs.DefKind.{DefKind}
use Rattle.making.specs.declared.recs.DefKind.TheVariants as D
use Rattle.paths_numbers.specs.declared.phandle.MirPhandleTarget.{MirPhandleTarget}
use Rattle.paths_numbers.specs.declared.phandle.MirPhandleTarget.TheVariants as T
use Rattle.definition_log.specs.meaning.Contents.{number, reference, string, cell_list, bytestring, phandle}
use Rattle.making.specs.meaning.State.{define, bind, emit, target_bytes, texts_bytes, values_records, values_bytes, cells_bytes}
use Rattle.making.specs.machine.Adding.{in_node, in_property, in_cell_list, add_label, add_value, add_cell}
use Rattle.definition_log.specs.meaning.Record.{one_of, string_kind, cell_list_kind, bytestring_kind, number_kind, reference_kind}
use Rattle.definition_log.specs.meaning.Record.{label_kind, binding_kind}
use Rattle.definition_log.specs.meaning.Record.{diagnostic_kind, extension_kind}
use Rattle.making.specs.machine.Events.{children_of, target_of, cell_of, value_of, def_value_of, def_of}
use Rattle.making.specs.machine.Buffers.{event_of}
use Rattle.making.specs.machine.Made.{Told, end_link, child_link, with_def, with_bind, with_diag, with_part, with_last_cell, with_ext}
use Rattle.making.specs.machine.Made.{left_kept}
use Rattle.making.specs.machine.Recs.{spanned_rec, part_rec, no_span, kind_number, omit_number, bare_def, binding_made, diag_made, target_n}
use Rattle.making.specs.machine.Recs.{label_in, path_within, ToldPart}
use Rattle.definition_log.specs.machine.Parts.{meant, target_made}
use Rattle.making.specs.machine.Represents.{Steps, StepsIn, LeavesKept}
use Rattle.making.specs.machine.Whole.{Plain}
use Rattle.making.proofs.Represented.{Bare, steps_def, steps_bind, steps_emit}
use Rattle.making.proofs.PartSteps.{steps_label, steps_value, steps_cell}
use Rattle.making.proofs.Extended.{leaves_kept}
use Rattle.making.proofs.Plain.{plain_definition, plain_extension, plain_binding, plain_diagnostic, plain_text, plain_cells}
use Rattle.making.proofs.Plain.{plain_number, plain_reference}
use Rattle.paths_numbers.proofs.Texts.{not_both}

-- a definition without parts
bare : (kind : DefKind) (span name_span : Span) (x : List ℕ) → Bare (spanned_rec (kind_number kind) (omit_number kind) 0 span name_span) x
    (bare_def kind span name_span x)
unfolding def_of def_value_of one_of texts_bytes values_records values_bytes
bare D.Node span name_span x = record {
  says = λ n l es h. rw h refl;
  path = refl;
  records = refl;
  bytes = refl;
  kind = refl;
  plain = λ l.
      plain_definition _ refl refl refl (λ z. refl) (omega arith);
}
bare D.OmittedNode span name_span x = record {
  says = λ n l es h. rw h refl;
  path = refl;
  records = refl;
  bytes = refl;
  kind = refl;
  plain = λ l. plain_definition _ refl refl refl (λ z. absurd (z refl)) (omega arith);
}
bare D.Property span name_span x = record {
  says = λ n l es h. rw h refl;
  path = refl;
  records = refl;
  bytes = refl;
  kind = refl;
  plain = λ l. plain_definition _ refl refl refl (λ z. refl) (omega arith);
}
bare D.DeletedNode span name_span x = record {
  says = λ n l es h. refl;
  path = refl;
  records = refl;
  bytes = refl;
  kind = refl;
  plain = λ l.
      plain_definition _ refl refl refl (λ z. refl) (omega arith);
}
bare D.DeletedProperty span name_span x = record {
  says = λ n l es h. refl;
  path = refl;
  records = refl;
  bytes = refl;
  kind = refl;
  plain = λ l. plain_definition _ refl refl refl (λ z. refl) (omega arith);
}
bare D.Version span name_span x = record {
  says = λ n l es h. refl;
  path = refl;
  records = refl;
  bytes = refl;
  kind = refl;
  plain = λ l.
      plain_definition _ refl refl refl (λ z. refl) (omega arith);
}
bare D.Plugin span name_span x = record {
  says = λ n l es h. refl;
  path = refl;
  records = refl;
  bytes = refl;
  kind = refl;
  plain = λ l.
      plain_definition _ refl refl refl (λ z. refl) (omega arith);
}

-- a reference below a record
plain_target_lem : (kind : MirPhandleTarget) (l p : List ℕ) (o : ℕ) → Plain
    (event_of (children_of o) 0 (part_rec reference_kind (target_n kind) 0) (label_in kind l) (path_within kind p))
unfolding one_of
plain_target_lem T.Label l p o = plain_reference _ refl refl refl refl refl (omega arith) (λ z. absurd (not_both refl z)) (λ z. refl) refl
plain_target_lem T.LabelPath l p o = plain_reference _ refl refl refl refl refl (omega arith) (λ z. absurd (not_both refl z))
    (λ z. absurd (not_both refl z)) refl
plain_target_lem T.Path l p o = plain_reference _ refl refl refl refl refl (omega arith) (λ z. refl) (λ z. absurd (not_both refl z)) refl

module _ {c d f : LowerCtx} {words bytes w b : List ℕ} {r : Rec} {x y : List ℕ} {link : ℕ} (told : Told c d words bytes w b r x y link)
  where
    pub makes_def : (kind : DefKind) (span name_span : Span) (k o : ℕ) → y ≡ [] → r ≡ spanned_rec k o 0 span name_span → k ≡ kind_number kind
        → o ≡ omit_number kind → link ≡ end_link c.defs
        → f ≡ with_def d c.records → Steps c f words bytes w b (define (bare_def kind span name_span x))
    makes_def kind span name_span k o n q ke oe at state =
        let q' : r ≡ spanned_rec (kind_number kind) (omit_number kind) 0 span name_span = q ∙ ap (λ (i : ℕ). spanned_rec i o 0 span name_span) ke
        ∙ ap (λ (i : ℕ). spanned_rec (kind_number kind) i 0 span name_span) oe in
        steps_def (rw (n, q') at told) at state (bare_def kind span name_span x) (bare kind span name_span x)

    pub makes_binding : (span : Span) → r ≡ spanned_rec binding_kind 0 0 span no_span → link ≡ end_link c.binds → f ≡ with_bind d c.records
        → Steps c f words bytes w b (bind (binding_made x y span ∷ []))
    makes_binding span q at state = rw q at (steps_bind told at state (ap (λ (a : Rec). a.kind) q)
        (rw q (plain_binding _ refl refl refl refl refl)))

    pub makes_diag : (code : ℕ) (span name_span : Span) → y ≡ [] → r ≡ spanned_rec diagnostic_kind code 0 span name_span
        → link ≡ end_link c.diags → f ≡ with_diag d c.records
        → Steps c f words bytes w b (emit (diag_made code x span name_span ∷ []))
    makes_diag code span name_span n q at state = rw q at (steps_emit (rw n at told) at state (ap (λ (a : Rec). a.kind) q)
        (λ post. rw q (plain_diagnostic _ refl refl refl)))

-- parts
module _ {c f : LowerCtx} {words bytes w b : List ℕ} {r : Rec} {x y : List ℕ}
    (part : ToldPart c f words bytes w b r x y (child_link c.defs.last c.part) with_part) where
  pub makes_label : y ≡ [] → r ≡ part_rec label_kind 0 0 → StepsIn in_node c f words bytes w b (add_label x)
  unfolding one_of
  makes_label n q = steps_label part.told refl part.state (ap (λ (a : Rec). a.kind) q) n
      (λ o. rw (q, n) (plain_text _ refl refl refl refl refl refl refl refl))

  pub makes_string : y ≡ [] → r ≡ part_rec string_kind 0 0 → StepsIn in_property c f words bytes w b (add_value (string x))
  unfolding value_of one_of
  makes_string n q = steps_value (rw q at part.told) refl part.state (string x) refl (rw n (omega arith))
      (λ o. rw n (plain_text _ refl refl refl refl refl refl refl refl)) (λ n o es h. refl)

  pub makes_cell_list : (width : ℕ) → x ≡ [] → y ≡ [] → r ≡ part_rec cell_list_kind width 0
      → StepsIn in_property c f words bytes w b (add_value (cell_list width []))
  unfolding value_of one_of cells_bytes
  makes_cell_list width m n q = steps_value (rw q at part.told) refl part.state (cell_list width []) refl (rw (m, n) refl)
      (λ o. rw (m, n) (plain_cells _ refl refl refl refl refl refl refl refl)) (λ n o es h. rw h refl)

  pub makes_phandle : (kind : MirPhandleTarget) (k : ℕ) (l p : List ℕ) → r ≡ part_rec reference_kind k 0 → k ≡ target_n kind → x ≡ label_in kind l
      → y ≡ path_within kind p
      → StepsIn in_property c f words bytes w b (add_value (phandle (target_made kind l p)))
  unfolding value_of target_of one_of
  makes_phandle T.Label k l p q i m n = steps_value (rw (q ∙ ap (λ (j : ℕ). part_rec reference_kind j 0) i, m, n) at part.told) refl
      part.state (phandle (target_made T.Label l p)) refl (omega arith) (plain_target_lem T.Label l p) (λ n o es h. refl)
  makes_phandle T.LabelPath k l p q i m n = steps_value (rw (q ∙ ap (λ (j : ℕ). part_rec reference_kind j 0) i, m, n) at part.told) refl
      part.state (phandle (target_made T.LabelPath l p)) refl refl (plain_target_lem T.LabelPath l p) (λ n o es h. refl)
  makes_phandle T.Path k l p q i m n = steps_value (rw (q ∙ ap (λ (j : ℕ). part_rec reference_kind j 0) i, m, n) at part.told) refl
      part.state (phandle (target_made T.Path l p)) refl (omega arith) (plain_target_lem T.Path l p) (λ n o es h. refl)

-- cells
module _ {c f : LowerCtx} {words bytes w b : List ℕ} {r : Rec} {x y : List ℕ}
    (part : ToldPart c f words bytes w b r x y (child_link c.part c.cell) with_last_cell) where
  pub makes_number : (low high : ℕ) → x ≡ [] → y ≡ [] → r ≡ part_rec number_kind low high
      → StepsIn in_cell_list c f words bytes w b (add_cell (number (low + high * 2 ^ 32)))
  unfolding cell_of one_of
  makes_number low high m n q = steps_cell (rw (q, m, n) at part.told) refl part.state (number (low + high * 2 ^ 32)) refl refl
      (λ o. plain_number _ refl refl refl refl refl refl refl) (λ n o. refl)

  pub makes_reference : (kind : MirPhandleTarget) (k : ℕ) (l p : List ℕ) → r ≡ part_rec reference_kind k 0 → k ≡ target_n kind → x ≡ label_in kind l
      → y ≡ path_within kind p
      → StepsIn in_cell_list c f words bytes w b (add_cell (reference (target_made kind l p)))
  unfolding cell_of target_of one_of
  makes_reference T.Label k l p q i m n = steps_cell (rw (q ∙ ap (λ (j : ℕ). part_rec reference_kind j 0) i, m, n) at part.told) refl
      part.state (reference (target_made T.Label l p)) refl (omega arith) (plain_target_lem T.Label l p) (λ n o. refl)
  makes_reference T.LabelPath k l p q i m n = steps_cell (rw (q ∙ ap (λ (j : ℕ). part_rec reference_kind j 0) i, m, n) at part.told) refl
      part.state (reference (target_made T.LabelPath l p)) refl refl (plain_target_lem T.LabelPath l p) (λ n o. refl)
  makes_reference T.Path k l p q i m n = steps_cell (rw (q ∙ ap (λ (j : ℕ). part_rec reference_kind j 0) i, m, n) at part.told) refl
      part.state (reference (target_made T.Path l p)) refl (omega arith) (plain_target_lem T.Path l p) (λ n o. refl)

-- a bytestring
pub makes_bytestring : {c d f : LowerCtx} {words bytes w b : List ℕ} {r : Rec} {link : ℕ} (text : List ℕ) → is_odd text ≡ false
    → Told c d words bytes w b r (bytes_of text) [] link
    → r ≡ part_rec bytestring_kind 0 0 → link ≡ child_link c.defs.last c.part → f ≡ with_part d c.records
    → StepsIn in_property c f words bytes w b (add_value (bytestring (bytes_of text)))
unfolding value_of one_of
makes_bytestring text e told q at state = steps_value (rw q at told) at state (bytestring (bytes_of text)) refl (omega arith)
    (λ o. plain_text _ refl refl refl refl refl refl refl refl) (λ n o es h. refl)

-- an extension, with the reference below it
pub keeps_body : {c e f d outer : LowerCtx} {words bytes v a w b : List ℕ} (span name_span : Span) (kind : MirPhandleTarget) (l p : List ℕ)
    → ToldPart c e words bytes v a (spanned_rec extension_kind 0 c.defs.first span name_span) [] [] (end_link c.exts) with_ext
    → Told e f v a w b (part_rec reference_kind (target_n kind) 0) (label_in kind l) (path_within kind p) (child_link c.records 0)
    → d ≡ left_kept f outer
    → LeavesKept c d outer words bytes w b (target_made kind l p) (meant span) (meant name_span)
unfolding target_of
keeps_body span name_span kind l p ext ref state =
    record {
      leaves = λ k s t h. leaves_kept k _ _ _ _ _ _ _ _ _ _ _ _ s t _ _ _ _ _ _ (target_made kind l p) ext.told refl ext.state
          ref refl state refl refl refl (λ x l. plain_extension _ refl refl refl refl) (plain_target_lem kind l p) (tells kind) (sized kind) h;
    }
  where
    tells : (kind : MirPhandleTarget) (n : ℕ) → target_of (event_of (children_of n) 0 (part_rec reference_kind (target_n kind) 0) (label_in kind l)
        (path_within kind p)) ≡ target_made kind l p
    tells T.Label n = refl
    tells T.LabelPath n = refl
    tells T.Path n = refl

    sized : (kind : MirPhandleTarget) → target_bytes (target_made kind l p) ≡ length (label_in kind l) + length (path_within kind p)
    sized T.Label = omega arith
    sized T.LabelPath = refl
    sized T.Path = omega arith
