-- A log that is written of one file is written of any good list of files, once their numbers are put into it.
use Prim.Native.Nat.{ℕ, ◌+◌, ◌*◌, ◌/◌, ◌%◌, ◌≤◌, ◌<◌}
use mathlib.Core.Path.{◌≡◌, sym, ap, ◌∙◌}
use mathlib.Core.Bool.{true, false}
use mathlib.Core.List.{List, [], ◌∷◌}
use native.Mathlib.Omega.{arith}
use borrow.Author.Tests.{eqb-true, eqb-false, ltb-true, ltb-false}
use lib.Dec.{eqb, ltb}
use lib.ListN.{get_or}
use Rattle.paths_numbers.proofs.Texts.{by_test}
use Rattle.files.specs.meaning.Files.{good_files, file_of}
use Rattle.files.proofs.Starts.{file_zero}
use Rattle.definition_log.specs.meaning.Record.{record_words, out_field, kind_of, n_of, span_start, name_start}
use Rattle.definition_log.specs.meaning.Record.{span_file, name_file}
use Rattle.definition_log.specs.meaning.Record.{child_of}
use Rattle.definition_log.specs.meaning.ReadBack.{Log}
use Rattle.definition_log.specs.meaning.Sound.{is_reached}
use Rattle.definition_log.specs.meaning.Written.{named, Kept, Written}
use Rattle.file_words.specs.machine.Put.{FilesPut}
use Rattle.file_words.proofs.Agree.{Agrees, at_same, log_same, lowest_same, reached_same, holders_same}

module _ {starts w v : List ℕ} {records : ℕ} (good : good_files starts ≡ true) (p : FilesPut starts w v records)
    (behind : (i : ℕ) → records * record_words ≤ i → get_or w i 0 ≡ 0) where
  agrees : Agrees w v
  agrees =
      record {
        same_length = p.same_length;
        fields = λ r i h. p.others r i (omega arith) (λ e. omega arith) (λ e. omega arith);
      }

  -- a record behind those that were made is zeros, and place 0 lies in file 0
  behind_field : (r i : ℕ) → records ≤ r → out_field w r i ≡ 0
  unfolding out_field
  behind_field r i h = behind (r * record_words + i) (omega arith)

  file_behind : (r i : ℕ) → records ≤ r → file_of starts (out_field w r i) ≡ 0
  file_behind r i h = ap (file_of starts) (behind_field r i h) ∙ file_zero starts good

  -- so that what the records made have, the number of the place in word `from` as word `to`, every record has
  every : (r from to : ℕ) → to < record_words → (r < records → out_field v r to ≡ file_of starts (out_field w r from))
      → out_field v r to ≡ file_of starts (out_field w r from)
  every r from to l made =
      by_test (ltb r records)
      (λ t. made (ltb-true r records t))
      (λ t.
      let h = ltb-false r records t in
      p.others r to l (λ e k. omega arith) (λ e k. omega arith) ∙ behind_field r to h ∙ sym (file_behind r from h))

  every_file : (r : ℕ) → span_file v r ≡ file_of starts (span_start w r)
  every_file r = every r 9 13 (omega arith) (p.file_of_span r)

  every_name : (r : ℕ) → name_file v r ≡ file_of starts (name_start w r)
  every_name r = every r 11 14 (omega arith) (p.file_of_name r)

  -- a word that is zero in a record stays so, where the spans are zero
  zero_word : (r i : ℕ) → i < record_words → out_field w r i ≡ 0 → (i ≡ 13 → span_start w r ≡ 0) → (i ≡ 14 → name_start w r ≡ 0)
      → out_field v r i ≡ 0
  zero_word r i h z f g =
      by_test (eqb i 13)
      (λ t. let e = eqb-true i 13 t in rw e (every_file r ∙ ap (file_of starts) (f e) ∙ file_zero starts good))
      (λ t. by_test (eqb i 14)
      (λ u. let e = eqb-true i 14 u in rw e (every_name r ∙ ap (file_of starts) (g e) ∙ file_zero starts good))
      (λ u. p.others r i h (λ e l. eqb-false i 13 t e) (λ e l. eqb-false i 14 u e) ∙ z))

  kept_too : (r : ℕ) → Kept (0 ∷ []) w r → Kept starts v r
  unfolding named
  kept_too r k =
      let a = agrees in
      let kind = (at_same a r).0 in
      let n = a.fields r 7 (omega arith) in
      record {
        unnamed = λ i h e.
            let e' : named (kind_of w r) (n_of w r) i ≡ false = rw (kind, n) at e in
            zero_word r i h (k.unnamed i h e')
            (λ q. k.unnamed 9 (omega arith) (rw q at e'))
            (λ q. k.unnamed 11 (omega arith) (rw q at e'));
        empty_text = λ e. a.fields r 2 (omega arith) ∙ k.empty_text (sym (a.fields r 3 (omega arith)) ∙ e);
        empty_second = λ e. a.fields r 4 (omega arith) ∙ k.empty_second (sym (a.fields r 5 (omega arith)) ∙ e);
        n = rw (kind, n) k.n;
        file_of_span = λ t. every_file r ∙ ap (file_of starts) (sym (a.fields r 9 (omega arith)));
        file_of_name = λ t. every_name r ∙ ap (file_of starts) (sym (a.fields r 11 (omega arith)));
        a_reference = λ e z. k.a_reference (sym kind ∙ e) (sym (at_same a r).2 ∙ z);
        one_reference = λ e. rw (at_same a r).2 (a.fields (child_of w r) 1 (omega arith) ∙ k.one_reference (sym kind ∙ e));
      }

  -- a word by its record and place
  word_of : (l : List ℕ) (i : ℕ) → get_or l i 0 ≡ out_field l (i / record_words) (i % record_words)
  unfolding out_field
  word_of l i = let e : i ≡ i / record_words * record_words + i % record_words = omega arith in ap (λ (j : ℕ). get_or l j 0) e

  -- of a record that no link leads to
  clear_field : {b : List ℕ} {n m : ℕ} {log : Log} → Written (0 ∷ []) w b n m log → (r j : ℕ) → j < record_words → 1 ≤ r
      → is_reached w r ≡ false → out_field w r j ≡ 0
  unfolding out_field
  clear_field x r j h o e =
      let q : (r * record_words + j) / record_words ≡ r = omega arith in
      x.clear_words (r * record_words + j) (omega arith) (rw q e)

  pub files_written : {b : List ℕ} {n m : ℕ} {log : Log} → Written (0 ∷ []) w b n m log → Written starts v b n m log
  files_written {b} x =
      let a = agrees in
      record {
        reads = log_same a b ∙ x.reads;
        rules = lowest_same a b ∙ x.rules;
        counted = a.fields 0 0 (omega arith) ∙ x.counted;
        counted_bytes = a.fields 0 5 (omega arith) ∙ x.counted_bytes;
        rest_of_head = λ i h j.
            zero_word 0 i j (x.rest_of_head i h j) (λ e. x.rest_of_head 9 (omega arith) (omega arith))
            (λ e. x.rest_of_head 11 (omega arith) (omega arith));
        kept = λ r h. kept_too r (x.kept r (sym (reached_same a r) ∙ h));
        unshared = λ i. rw (holders_same a i) (x.unshared i);
        clear_words = λ i h e.
            let r = i / record_words in
            let gone : is_reached w r ≡ false = sym (reached_same a r) ∙ e in
            word_of v i
            ∙ zero_word r (i % record_words) (omega arith) (sym (word_of w i) ∙ x.clear_words i h gone)
            (λ q. clear_field x r 9 (omega arith) (omega arith) gone) (λ q. clear_field x r 11 (omega arith) (omega arith) gone);
        clear_bytes = λ i h. x.clear_bytes i (sym (holders_same a i) ∙ h);
      }
