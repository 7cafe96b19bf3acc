-- By the name "/", then by the parent's form, then by the name's.
use Rattle.std.proofs.Common.{refl, sym, ◌∙◌}
use Rattle.short_paths.proofs.Form.{form_root, form_joined}
use Rattle.short_paths.proofs.short.has_components.Goals as goal

pub returns-then-is_root : goal.returns-then-is_root
returns-then-is_root c = let a = c.args in sym (form_root a.parent.now a.name.now (sym c.if-is_root.ensures))

pub returns-then-good_path : goal.returns-then-good_path
returns-then-good_path c =
    let a = c.args in
    let g = sym c.if-good_path.ensures in
    c.holds_components.ensures ∙ sym (form_joined a.parent.now a.name.now (sym c.if-is_root.ensures) ∙ rw g refl)

pub returns-else-good_path : goal.returns-else-good_path
returns-else-good_path c =
    let a = c.args in
    let g = sym c.if-good_path.ensures in
    c.if-good_path.false ∙ sym (form_joined a.parent.now a.name.now (sym c.if-is_root.ensures) ∙ rw g refl)
