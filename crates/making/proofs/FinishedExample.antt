-- A log made record by record, with an extension, and what is written of it: a plugin directive; the body's root, its label and the label's
-- binding; the extension with its reference; a diagnostic.
use Prim.Native.Nat.{ℕ}
use mathlib.Core.Path.{◌≡◌, refl}
use mathlib.Core.Logic.{◌⊎◌, inl, inr}
use mathlib.Core.Bool.{true}
use mathlib.Core.List.{List, [], ◌∷◌, ◌++◌}
use native.Mathlib.Omega.{arith}
use lib.ListN.{replicate}
use Rattle.paths_numbers.specs.meaning.Text.{is_empty, same, starts_with, written}
use Rattle.paths_numbers.specs.meaning.Path.{good_path, components}
use Rattle.paths_numbers.proofs.Texts.{not_both}
use Rattle.paths_numbers.specs.meaning.Reference.{label}
use Rattle.making.specs.declared.ctx.Rec.{Rec}
use Rattle.definition_log.specs.meaning.Contents.{node, plugin}
use Rattle.definition_log.specs.meaning.Record.{one_of, log_count}
use Rattle.definition_log.specs.examples.RecordExample.{span}
use Rattle.making.specs.machine.Events.{Event, defs_of, exts_of, bindings, diagnostics, children_of, first, members, words16, words_from}
use Rattle.making.specs.machine.Events.{all_words, texts, all_bytes, end_of, target_of, def_value_of, def_of, defs_in, ext_of, ordered_none}
use Rattle.making.specs.machine.Events.{ordered_next}
use Rattle.making.specs.machine.Buffers.{event_of, Layout}
use Rattle.making.specs.machine.Whole.{At, at_here, at_later, There, Making, main_log, Whole, log_in}
use Rattle.making.specs.machine.Finished.{head16}
use Rattle.definition_log.specs.machine.Good.{all, good_def, good_ext, good_binding, good_diag, good_log}
use Rattle.definition_log.specs.meaning.Written.{Written}
use Rattle.making.proofs.Plain.{plain_definition, plain_extension, plain_binding, plain_diagnostic, plain_text, plain_reference}
use Rattle.making.proofs.MakingMore.{making_none, making_hand, making_define, making_child, stays_binding, stays_diagnostic}
use Rattle.making.proofs.MakingMore.{making_stays, making_extend}
use Rattle.making.proofs.GoodLog.{good_whole}
use Rattle.making.proofs.Finished.{written_log}

abbrev rec : ℕ → ℕ → ℕ → ℕ → ℕ → ℕ → ℕ → Rec
rec kind n m from to name_from name_to =
    record {
      kind = kind;
      n = n;
      m = m;
      span = record { from = from; to = to };
      name_span = record { from = name_from; to = name_to };
    }

-- the main log's number is 0, the body's 1
abbrev body_too : ℕ → Type 0
body_too l = (l ≡ 0) ⊎ (l ≡ 1)

-- its records
abbrev directive : Event
directive = event_of (defs_of 0) 0 (rec 6 0 0 0 8 0 8) [] []

abbrev root : Event
root = event_of (defs_of 1) 0 (rec 1 1 0 20 40 21 22) (47 ∷ []) []

abbrev named : Event
named = event_of (children_of 2) 0 (rec 7 0 0 0 0 0 0) (97 ∷ []) []

abbrev bound : Event
bound = event_of bindings 0 (rec 14 0 0 22 24 0 0) (97 ∷ []) (47 ∷ [])

abbrev extended : Event
extended = event_of (exts_of 0) 1 (rec 13 0 2 10 50 11 13) [] []

abbrev aim : Event
aim = event_of (children_of 5) 0 (rec 12 1 0 0 0 0 0) (120 ∷ []) []

abbrev told : Event
told = event_of diagnostics 0 (rec 15 3 0 60 62 0 0) (120 ∷ []) []

abbrev made : List Event
made = directive ∷ root ∷ named ∷ bound ∷ extended ∷ aim ∷ told ∷ []

-- the directive in the main log
making_directive : Making main_log (directive ∷ [])
unfolding one_of
making_directive =
    making_define directive 0 refl refl refl (plain_definition directive refl refl refl (λ z. refl) (omega arith)) making_none

-- the body, in a log of its own
making_root : Making body_too (directive ∷ root ∷ [])
unfolding one_of
making_root =
    making_define root 1 (inr refl) refl refl (plain_definition root refl refl refl (λ z. absurd (z refl)) (omega arith))
    (making_hand (λ l h. inl h) making_directive fresh)
  where
    fresh : (r : ℕ) (e : Event) → There (directive ∷ []) r e → e.kind ≡ 13 → body_too e.log → ⊥
    fresh r e h k z = go h.at k
      where
        go : {r : ℕ} {e : Event} → At 1 (directive ∷ []) r e → e.kind ≡ 13 → ⊥
        go at_here k = omega arith
        go (at_later p) k = elim p [ ]

-- its label, and the label's binding
making_bound : Making body_too (directive ∷ root ∷ named ∷ bound ∷ [])
unfolding one_of
making_bound =
    making_stays bound (λ a. (stays_binding refl refl, plain_binding bound refl refl refl refl refl))
    (making_child named {o = 2} {w = root} (record { at = at_later at_here; alive = refl }) refl refl (λ z. omega arith) refl
    (plain_text named refl refl refl refl refl refl refl refl) making_root)

-- the extension, with which the body is no longer in hand
making_extended : Making main_log (directive ∷ root ∷ named ∷ bound ∷ extended ∷ aim ∷ [])
unfolding one_of first
making_extended =
    making_extend extended aim making_bound
    (record {
      log = 0;
      held = refl;
      chain = refl;
      kind = refl;
      body = refl;
      said = plain_extension extended refl refl refl refl;
      below = refl;
      reference = refl;
      reference_said = plain_reference aim refl refl refl refl refl (omega arith) (λ z. absurd (not_both refl z)) (λ z. refl) refl;
      both_alive = (refl, refl);
      inner = λ l h. inl h;
      outer = λ l h. h;
      before = inr refl;
      after = λ z. omega arith;
      passed = λ r e h. passed h.at;
    })
  where
    passed : {r : ℕ} {e : Event} → At 1 (directive ∷ root ∷ named ∷ bound ∷ []) r e → e.chain ≡ 9 → ⊥
    passed at_here q = omega arith
    passed (at_later at_here) q = omega arith
    passed (at_later (at_later at_here)) q = omega arith
    passed (at_later (at_later (at_later at_here))) q = omega arith
    passed (at_later (at_later (at_later (at_later p)))) q = elim p [ ]

-- the diagnostic
making_made : Making main_log made
unfolding one_of
making_made = making_stays told (λ a. (stays_diagnostic refl refl, plain_diagnostic told refl refl refl)) making_extended

-- so the log is complete, by the spans and paths that it says
good : good_log (log_in made) ≡ true
unfolding good_log good_def good_ext good_binding good_diag all log_in defs_in def_of def_value_of ext_of target_of members good_path
    components is_empty
    same starts_with
good = refl

whole : Whole made
whole = good_whole made making_made good

-- its words, but for record 0, and its bytes
abbrev rows : List ℕ
rows =
    6 ∷ 0 ∷ 0 ∷ 0 ∷ 0 ∷ 0 ∷ 0 ∷ 0 ∷ 0 ∷ 0 ∷ 8 ∷ 0 ∷ 8 ∷ 0 ∷ 0 ∷ 0
    ∷ 1 ∷ 0 ∷ 0 ∷ 1 ∷ 0 ∷ 0 ∷ 3 ∷ 1 ∷ 0 ∷ 20 ∷ 40 ∷ 21 ∷ 22 ∷ 0 ∷ 0 ∷ 0
    ∷ 7 ∷ 0 ∷ 1 ∷ 1 ∷ 0 ∷ 0 ∷ 0 ∷ 0 ∷ 0 ∷ 0 ∷ 0 ∷ 0 ∷ 0 ∷ 0 ∷ 0 ∷ 0
    ∷ 14 ∷ 0 ∷ 2 ∷ 1 ∷ 3 ∷ 1 ∷ 0 ∷ 0 ∷ 0 ∷ 22 ∷ 24 ∷ 0 ∷ 0 ∷ 0 ∷ 0 ∷ 0
    ∷ 13 ∷ 0 ∷ 0 ∷ 0 ∷ 0 ∷ 0 ∷ 6 ∷ 0 ∷ 2 ∷ 10 ∷ 50 ∷ 11 ∷ 13 ∷ 0 ∷ 0 ∷ 0
    ∷ 12 ∷ 0 ∷ 4 ∷ 1 ∷ 0 ∷ 0 ∷ 0 ∷ 1 ∷ 0 ∷ 0 ∷ 0 ∷ 0 ∷ 0 ∷ 0 ∷ 0 ∷ 0
    ∷ 15 ∷ 0 ∷ 5 ∷ 1 ∷ 0 ∷ 0 ∷ 0 ∷ 3 ∷ 0 ∷ 60 ∷ 62 ∷ 0 ∷ 0 ∷ 0 ∷ 0 ∷ 0
    ∷ []

abbrev blank : List ℕ
blank = replicate 16 0 ++ rows

abbrev head : List ℕ
head = 8 ∷ 1 ∷ 5 ∷ 4 ∷ 7 ∷ 6 ∷ 0 ∷ 0 ∷ 0 ∷ 0 ∷ 0 ∷ 0 ∷ 0 ∷ 0 ∷ 0 ∷ 0 ∷ []

abbrev letters : List ℕ
letters = 47 ∷ 97 ∷ 97 ∷ 47 ∷ 120 ∷ 120 ∷ []

laid : Layout blank letters 8 6 made
unfolding all_words words_from words16 first all_bytes texts end_of is_empty log_count
laid =
    record {
      words_are = refl;
      bytes_are = refl;
      records_are = refl;
      used_are = refl;
      records_fit = omega arith;
      bytes_fit = omega arith;
      bytes_most = omega arith;
      ordered =
          ordered_next {k = 1} {e = directive} (λ r q. omega arith)
          (ordered_next {k = 2} {e = root} (λ r q. omega arith)
          (ordered_next {k = 3} {e = named} (λ r q. omega arith)
          (ordered_next {k = 4} {e = bound} (λ r q. omega arith)
          (ordered_next {k = 5} {e = extended} (λ r q. omega arith)
          (ordered_next {k = 6} {e = aim} (λ r q. omega arith)
          (ordered_next {k = 7} {e = told} (λ r q. omega arith) ordered_none))))));
    }

-- what it says
pub says : log_in made ≡
    record {
      defs = record { path = []; value = plugin; span = span 0 8; name_span = span 0 8 } ∷ [];
      exts =
          record {
            target = label (120 ∷ []);
            body = record { path = 47 ∷ []; value = node ((97 ∷ []) ∷ []) true; span = span 20 40; name_span = span 21 22 } ∷ [];
            span = span 10 50;
            name_span = span 11 13;
          }
          ∷ [];
      binds = record { label = 97 ∷ []; path = 47 ∷ []; span = span 22 24 } ∷ [];
      diags = record { code = 3; text = 120 ∷ []; span = span 60 62; name_span = span 0 0 } ∷ [];
      post = [];
    }
unfolding log_in defs_in def_of def_value_of ext_of target_of members
says = refl

-- and so it is written
pub made_written : Written (0 ∷ []) (head ++ rows) letters 8 6 (log_in made)
unfolding written head16 first
made_written = written_log laid whole
