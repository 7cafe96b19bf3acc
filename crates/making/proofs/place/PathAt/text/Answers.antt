-- A place that is settled lies among the bytes.
use Rattle.std.proofs.Common.{sym, ◌∙◌}
use Rattle.definition_log.proofs.Texts.{text_within}
use Rattle.making.proofs.PathPlaces.{settled_in, path_root, path_bytes}
use Rattle.making.proofs.place.PathAt.text.Goals as goal

pub slice_bounds-result-end-in-Bytes : goal.slice_bounds-result-end-in-Bytes
slice_bounds-result-end-in-Bytes c =
    let a = c.args in
    (settled_in a.used a.bytes.now a.self _ (sym c.in-Bytes.is ∙ c.settle.ensures)).1

pub returns-in-Root : goal.returns-in-Root
returns-in-Root c = let a = c.args in path_root a.used a.bytes.now a.self (sym c.in-Root.is ∙ c.settle.ensures)

pub returns-in-Bytes : goal.returns-in-Bytes
returns-in-Bytes c =
    let a = c.args in
    text_within a.bytes.now _ _ ∙ path_bytes a.used a.bytes.now a.self _ _ (sym c.in-Bytes.is ∙ c.settle.ensures)
