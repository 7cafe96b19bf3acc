-- By what the reference was read as (Leading).
use mathlib.Core.Path.{◌∙◌}
use Rattle.input.specs.machine.PhandleRead.{path_at, label_at}
use Rattle.resolving.proofs.Leading.{read_label, read_below, read_path, read_nothing, no_label_in}
use Rattle.resolving.proofs.resolve.resolve_phandle.Goals as goal

pub returns-in-Label : goal.returns-in-Label
returns-in-Label c =
    let a = c.args in (
      λ t e. rw c.phandle_label_at-label.ensures at
          (c.resolve_label.ensures.0 (path_at a.words.now a.text.now a.r))
          ∙ read_label a.words.now a.text.now a.r a.read t e _ _ _ c.in-Ok.is c.in-Label.is,
      rw
          c.phandle_label_at-label.ensures at
          (c.resolve_label.ensures.1 (path_at a.words.now a.text.now a.r) a.defs),
    )

pub returns-in-LabelPath : goal.returns-in-LabelPath
returns-in-LabelPath c =
    let a = c.args in (
      λ t e. rw (c.phandle_label_at-label.ensures, c.phandle_path_at-path.ensures) at
          c.resolve_below.ensures.0 ∙ read_below a.words.now a.text.now a.r a.read t e _ _
          _ c.in-Ok.is c.in-LabelPath.is,
      rw (
        c.phandle_label_at-label.ensures,
        c.phandle_path_at-path.ensures,
      ) at c.resolve_below.ensures.1,
    )

pub returns-in-Path : goal.returns-in-Path
returns-in-Path c =
    let a = c.args in (
      λ t e. rw c.phandle_path_at-path.ensures at
          (c.resolve_path.ensures.0 (label_at a.words.now a.text.now a.r))
          ∙ read_path a.words.now a.text.now a.r a.read t e _ _ _ c.in-Ok.is c.in-Path.is,
      rw
          c.phandle_path_at-path.ensures at
          (c.resolve_path.ensures.1 (label_at a.words.now a.text.now a.r) a.binds),
    )

pub returns-in_default : goal.returns-in_default
returns-in_default c =
    let a = c.args in
    (λ t e. absurd (read_nothing a.words.now a.text.now a.r a.read t e c.in_default.not-Ok), no_label_in)
