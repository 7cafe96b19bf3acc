-- The bytes of the stem, "/", the bytes of the name, and 0 (Joined: joined_root, joined_first, joined_slash, joined_name).
use Rattle.std.proofs.Common.{ℕ, ◌-◌, length, get_or, sym, refl, ap, ◌∙◌, arith}
use lib.ListN.{get_or-eq_default}
use Rattle.paths_numbers.specs.meaning.Path.{root, with_unit}
use Rattle.paths_numbers.proofs.Joined.{stem_is, joined_root, joined_first, joined_slash, joined_name}
use Rattle.paths_numbers.proofs.dt_node.path_byte.Goals as goal

pub returns-then-i-eq0 : goal.returns-then-i-eq0
returns-then-i-eq0 c =
    let a = c.args in
    rw (
      joined_root a.path.parent.now a.path.name.now a.path.unit.now (sym c.name_is_root.ensures ∙ c.if-name_is_root.true),
      c.if-i-eq0.true,
    ) refl

pub returns-else-i-eq0 : goal.returns-else-i-eq0
returns-else-i-eq0 c =
    let a = c.args in
    rw (joined_root a.path.parent.now a.path.name.now a.path.unit.now (sym c.name_is_root.ensures ∙ c.if-name_is_root.true))
    (sym (get_or-eq_default root 0 {n = a.i} (omega arith)))

pub bounds-path-i : goal.bounds-path-i
bounds-path-i c =
    let a = c.args in
    let k = c.before_slash-k.ensures in
    omega (arith, k, ap length (stem_is a.path.parent.now a.i (omega (arith, k))))

pub returns-then-i-k : goal.returns-then-i-k
returns-then-i-k c =
    let a = c.args in
    let e = sym c.name_is_root.ensures ∙ c.if-name_is_root.false in
    joined_first a.path.parent.now a.path.name.now a.path.unit.now e a.i (omega (arith, c.before_slash-k.ensures))

pub returns-then-i-k-2 : goal.returns-then-i-k-2
returns-then-i-k-2 c =
    let a = c.args in
    let e = sym c.name_is_root.ensures ∙ c.if-name_is_root.false in
    joined_slash a.path.parent.now a.path.name.now a.path.unit.now e a.i (c.if-i-k-2.true ∙ c.before_slash-k.ensures)

pub returns : goal.returns
returns c =
    let a = c.args in
    let e = sym c.name_is_root.ensures ∙ c.if-name_is_root.false in
    let k = c.before_slash-k.ensures in
    c.name_byte.ensures
    ∙ ap (λ (n : ℕ). get_or (with_unit a.path.name.now a.path.unit.now) (a.i - n - 1) 0) k
    ∙ joined_name a.path.parent.now a.path.name.now a.path.unit.now e a.i (omega (arith, k))
