-- One byte, or a copy.
use Rattle.std.proofs.Common.{length, sym, ap, ◌∙◌, arith}
use Rattle.paths_numbers.specs.meaning.Text.{written}
use Rattle.definition_log.proofs.Texts.{part_length}
use Rattle.making.proofs.PathPlaces.{settled_in, path_root, path_bytes, written_one}
use Rattle.making.proofs.text.write_path.Goals as goal

pub bounds-bytes-at : goal.bounds-bytes-at
bounds-bytes-at c =
    let a = c.args in
    let r = path_root a.used a.bytes.now a.path (sym c.in-Root.is ∙ c.settle.ensures) in
    omega (arith, ap length r, c.requires.1)

pub copy_on-requires : goal.copy_on-requires
copy_on-requires c =
    let a = c.args in
    let e = sym c.in-Bytes.is ∙ c.settle.ensures in
    let r = path_bytes a.used a.bytes.now a.path _ _ e in
    let h = settled_in a.used a.bytes.now a.path _ e in
    let n = part_length a.bytes.now c.in-Bytes.start c.in-Bytes.size h.1 in
    (omega (arith, h.0, c.requires.0), omega (arith, ap length r, n, c.requires.1))

pub returns-in-Root : goal.returns-in-Root
returns-in-Root c =
    let a = c.args in
    let r = path_root a.used a.bytes.now a.path (sym c.in-Root.is ∙ c.settle.ensures) in
    written_one a.bytes.now a.at 47 (omega (arith, ap length r, c.requires.1)) ∙ ap (written a.bytes.now a.at) r

pub returns-in-Bytes : goal.returns-in-Bytes
returns-in-Bytes c =
    let a = c.args in
    let e = sym c.in-Bytes.is ∙ c.settle.ensures in
    c.copy_on.ensures ∙ ap (written a.bytes.now a.at) (path_bytes a.used a.bytes.now a.path _ _ e)
