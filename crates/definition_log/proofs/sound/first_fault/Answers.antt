-- The library's search over the records is the definition's (Search).
use Prim.Native.Nat.{ℕ}
use mathlib.Core.Bool.{Bool}
use mathlib.Core.Path.{sym, ap, ◌∙◌}
use native.Mathlib.Nat.{sub-zero}
use lib.ListN.{get_or}
use Rattle.std.proofs.Common.{rules, tests}
use Rattle.std.proofs.lemmas.Iterator.{YieldsList-from_range}
use Rattle.std.proofs.lemmas.Iterator.Search.{find_from_yields_List}
use Rattle.definition_log.specs.declared.links.Mark.TheVariants.{Unmet}
use Rattle.definition_log.specs.machine.Walk.{fault_by, first_by}
use Rattle.definition_log.proofs.Search.{found_fault, fault_search}
use Rattle.definition_log.proofs.sound.first_fault.Goals as goal

pub returns-in-Some : goal.returns-in-Some
returns-in-Some c =
    let w = c.args.log.words.now in
    let b = c.args.log.bytes.now in
    let m = c.args.marks.now in
    let n = c.log_count.result in
    let test : ℕ → Bool = λ r. fault_by w b (get_or m r Unmet) r in
    ap found_fault (sym c.in-Some.is)
    ∙ fault_search w b m n _
    (find_from_yields_List test _ _ _ c.find.ensures.ran (YieldsList-from_range 0 n n (cc) (sub-zero n)) (λ x b q k. search (rules, tests)))
    ∙ ap (λ k. first_by k w b m 0) c.log_count.ensures

pub returns-in-None : goal.returns-in-None
returns-in-None c =
    let w = c.args.log.words.now in
    let b = c.args.log.bytes.now in
    let m = c.args.marks.now in
    let n = c.log_count.result in
    let test : ℕ → Bool = λ r. fault_by w b (get_or m r Unmet) r in
    ap found_fault (sym c.in-None.is)
    ∙ fault_search w b m n _
    (find_from_yields_List test _ _ _ c.find.ensures.ran (YieldsList-from_range 0 n n (cc) (sub-zero n)) (λ x b q k. search (rules, tests)))
    ∙ ap (λ k. first_by k w b m 0) c.log_count.ensures
