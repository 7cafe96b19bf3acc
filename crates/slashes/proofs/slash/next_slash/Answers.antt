use Rattle.std.proofs.Common.{◌≡◌, ℕ, List, subst, ◌+◌, ◌-◌, ◌≤◌, length, take, drop, sym, ap, ◌∙◌, arith, drop-drop}
use Rattle.slashes.specs.meaning.Slash.{next_slash}
use Rattle.slashes.specs.machine.Word.{Loaded}
use Rattle.slashes.proofs.Search.{at_position, done, marked_hit, marked_missed}
use Rattle.slashes.proofs.slash.next_slash.Goals as goal

pub returns-in_err-rest : goal.returns-in_err-rest
returns-in_err-rest c =
    c.from_residual.ensures ∙ sym (done c.args.path.now c.args.from (omega (arith, c.in_err-rest.ensures.lookup.0)))

pub returns-then-k-lt-WORD : goal.returns-then-k-lt-WORD
returns-then-k-lt-WORD c =
    let p = c.args.path.now in
    let v = c.loop-word.invariant in
    let e = c.in-Some.ensures.cases in
    let i : ℕ = length p - length c.loop-word.rest.now in
    let h : i + 8 ≤ length p = omega (arith, e.2) in
    let w = subst (λ (t : List ℕ). Loaded t c.load_word.result) (e.0 ∙ ap (take 8) v.behind) c.load_word.ensures in
    sym (v.same ∙ marked_hit p i _ _ h w c.slash_marks-marks.ensures c.if-k-lt-WORD.true)

pub loop-word-preserved : goal.loop-word-preserved
loop-word-preserved c =
    let p = c.args.path.now in
    let v = c.loop-word.invariant in
    let e = c.in-Some.ensures.cases in
    let i : ℕ = length p - length c.loop-word.rest.now in
    let h : i + 8 ≤ length p = omega (arith, e.2) in
    let w = subst (λ (t : List ℕ). Loaded t c.load_word.result) (e.0 ∙ ap (take 8) v.behind) c.load_word.ensures in
    let n : i + 8 ≡ length p - length c.in-Some.behind.now = omega (arith, e.2) in
    record {
      within = omega (arith, e.2);
      behind = e.1 ∙ ap (drop 8) v.behind ∙ drop-drop 8 i p ∙ ap (λ (k : ℕ). drop k p) n;
      same = v.same ∙ marked_missed p i _ _ h w c.slash_marks-marks.ensures c.if-k-lt-WORD.false ∙ ap (next_slash p) n;
    }

pub returns-in_err-k : goal.returns-in_err-k
returns-in_err-k c =
    let v = c.loop-word.invariant in
    c.from_residual-in_err-k.ensures ∙ at_position c.args.path.now _ _ _ v.behind c.in_err-k.ensures ∙ sym v.same

pub returns : goal.returns
returns c =
    let v = c.loop-word.invariant in
    at_position c.args.path.now _ _ _ v.behind c.in_ok-k.ensures ∙ sym v.same
