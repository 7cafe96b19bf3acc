-- A base above the path makes no difference (Fold: live_base).
use mathlib.Core.Path.{refl, sym, ◌∙◌}
use Rattle.definition_log.specs.meaning.ReadBack.{read_defs}
use Rattle.queries.proofs.Fold.{labels_at, live_base}
use Rattle.queries.proofs.mir.unbinds.Goals as goal

pub returns-then-holds : goal.returns-then-holds
returns-then-holds g c =
    let a = c.args in
    c.unbinds_in.ensures ∙ sym (live_base (labels_at a.label.now a.path.now) (g.B.PathLike.path a.base)
    (read_defs a.log.words.now a.log.bytes.now a.first) ∙ rw (sym c.holds.ensures ∙ c.if-holds.true) refl)

pub returns-else-holds : goal.returns-else-holds
returns-else-holds g c =
    let a = c.args in
    c.if-holds.false ∙ sym (live_base (labels_at a.label.now a.path.now) (g.B.PathLike.path a.base)
    (read_defs a.log.words.now a.log.bytes.now a.first) ∙ rw (sym c.holds.ensures ∙ c.if-holds.false) refl)
