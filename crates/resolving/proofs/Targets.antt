-- Where a reference of a log leads, by its number.
use Prim.Native.Nat.{ℕ}
use mathlib.Core.Path.{◌≡◌, refl, sym, ◌∙◌}
use mathlib.Core.List.{List, []}
use borrow.Author.Tests.{ne_eqb}
use Rattle.std.specs.Prelude.{Result, Err}
use Rattle.definition_log.specs.meaning.Contents.{Def, Binding}
use Rattle.definition_log.specs.meaning.Record.{n_of, first_text, second_text}
use Rattle.definition_log.specs.meaning.ReadBack.{target_at, read_defs, read_bindings}
use Rattle.resolving.specs.meaning.Resolve.{first_binding, by_label, below_label, live_at, resolve}
use Rattle.resolving.specs.machine.Leading.{resolution, target_label, Leads, AnswersTarget}
use Rattle.resolving.specs.declared.resolve.Leads.{Leads as Led}
use Rattle.resolving.specs.declared.resolve.Missing.{Missing}
use Rattle.resolving.specs.declared.resolve.Missing.TheVariants as M
use Rattle.resolving.proofs.Leading.{no_label_in}

-- with a label, with a label and a path, with a path, or with none of them
module _ (words bytes : List ℕ) (r n : ℕ) (e : n ≡ n_of words r) where
  module _ (binds defs : ℕ) (v : Result Led Missing) where
    abbrev bs : List Binding
    bs = read_bindings words bytes binds

    abbrev ds : List Def
    ds = read_defs words bytes defs

    abbrev Answers : Type 0
    Answers = AnswersTarget words bytes binds defs r v

    pub answers_label : n ≡ 1 → resolution words bytes (first_text words bytes r) (second_text words bytes r) v ≡ by_label
        (first_text words bytes r) (first_binding (first_text words bytes r) bs)
        → Leads words bytes binds defs (first_text words bytes r) (second_text words bytes r) v → Answers
    unfolding target_label target_at resolve
    answers_label h x y = let q : n_of words r ≡ 1 = sym e ∙ h in rw q (x, y)

    pub answers_both : n ≡ 2
        → resolution words bytes (first_text words bytes r) (second_text words bytes r) v ≡ below_label (first_text words bytes r)
        (second_text words bytes r) (first_binding (first_text words bytes r) bs) ds
        → Leads words bytes binds defs (first_text words bytes r) (second_text words bytes r) v → Answers
    unfolding target_label target_at resolve
    answers_both h x y = let q : n_of words r ≡ 2 = sym e ∙ h in rw q (x, y)

    pub answers_path : n ≡ 3 → ((l : List ℕ) → resolution words bytes l (second_text words bytes r) v ≡ live_at (second_text words bytes r) ds)
        → ((l : List ℕ) (k : ℕ) → Leads words bytes k defs l (second_text words bytes r) v) → Answers
    unfolding target_label target_at resolve
    answers_path h x y = let q : n_of words r ≡ 3 = sym e ∙ h in rw q (x [], y [] binds)

  pub answers_none : (binds defs : ℕ) → (n ≡ 1 → ⊥) → (n ≡ 2 → ⊥) → (n ≡ 3 → ⊥) → Answers binds defs (Err M.NoLabel)
  unfolding target_label target_at resolve resolution
  answers_none binds defs f g h =
      let a = ne_eqb (n_of words r) 1 (λ q. f (e ∙ q)) in
      let b = ne_eqb (n_of words r) 2 (λ q. g (e ∙ q)) in
      let c = ne_eqb (n_of words r) 3 (λ q. h (e ∙ q)) in
      rw (a, b, c) (refl, no_label_in)
