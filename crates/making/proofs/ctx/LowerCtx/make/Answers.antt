-- By whether the record is made (Told); the texts' lengths are cut only where they have no room.
use Rattle.std.proofs.Common.{ap, ◌∙◌, arith, length}
use Rattle.paths_numbers.proofs.Written.{written_length}
use Rattle.definition_log.proofs.Texts.{written_twice}
use Rattle.making.specs.machine.Texts.{text_said}
use Rattle.making.proofs.PathPlaces.{text_written}
use Rattle.making.proofs.Told.{texts_none, texts_fit, texts_made}
use Rattle.making.proofs.ctx.LowerCtx.make.Goals as goal

pub returns-then-not-admits : goal.returns-then-not-admits
returns-then-not-admits c =
    let a = c.args in
    texts_none a.self a.words.now a.bytes.now _ _ a.link _ _ _ c.len-size.ensures c.len-more.ensures c.saturating_add.ensures
    c.if-not-admits.ensures c.run_short.ensures

pub write-requires : goal.write-requires
write-requires c =
    let a = c.args in
    let f = texts_fit a.self a.words.now a.bytes.now _ _ a.link _ _ _ c.len-size.ensures c.len-more.ensures c.saturating_add.ensures
    c.if-not-admits.ensures in
    (omega arith, omega (arith, f.0.bytes_fit))

pub overflow_add-self : goal.overflow_add-self
overflow_add-self c =
    let a = c.args in
    let f = texts_fit a.self a.words.now a.bytes.now _ _ a.link _ _ _ c.len-size.ensures c.len-more.ensures c.saturating_add.ensures
    c.if-not-admits.ensures in
    omega (arith, f.0.bytes_most, f.1)

pub write-requires-2 : goal.write-requires-2
write-requires-2 c =
    let a = c.args in
    let f = texts_fit a.self a.words.now a.bytes.now _ _ a.link _ _ _ c.len-size.ensures c.len-more.ensures c.saturating_add.ensures
    c.if-not-admits.ensures in
    let b = a.bytes.now in
    let x = text_said a.self.bytes b a.first in
    let e = text_written b a.self.bytes a.self.bytes x a.second (omega arith) (omega (arith, f.0.bytes_fit)) in
    let l = written_length b a.self.bytes x (omega (arith, f.0.bytes_fit)) in
    rw c.write.ensures (omega arith, omega (arith, f.0.bytes_fit, f.1, l, ap length e))

pub overflow_cast-size : goal.overflow_cast-size
overflow_cast-size c =
    let a = c.args in
    let f = texts_fit a.self a.words.now a.bytes.now _ _ a.link _ _ _ c.len-size.ensures c.len-more.ensures c.saturating_add.ensures
    c.if-not-admits.ensures in
    omega (arith, f.0.bytes_most, f.1)

pub overflow_cast-more : goal.overflow_cast-more
overflow_cast-more c =
    let a = c.args in
    let f = texts_fit a.self a.words.now a.bytes.now _ _ a.link _ _ _ c.len-size.ensures c.len-more.ensures c.saturating_add.ensures
    c.if-not-admits.ensures in
    omega (arith, f.0.bytes_most, f.2)

pub put-requires : goal.put-requires
put-requires c =
    let a = c.args in
    let f = texts_fit a.self a.words.now a.bytes.now _ _ a.link _ _ _ c.len-size.ensures c.len-more.ensures c.saturating_add.ensures
    c.if-not-admits.ensures in
    (f.0.records_fit, f.0.link_fits, omega (arith, f.0.bytes_most, f.1, f.2))

pub returns : goal.returns
returns c =
    let a = c.args in
    let f = texts_fit a.self a.words.now a.bytes.now _ _ a.link _ _ _ c.len-size.ensures c.len-more.ensures c.saturating_add.ensures
    c.if-not-admits.ensures in
    let b = a.bytes.now in
    let x = text_said a.self.bytes b a.first in
    let e = text_written b a.self.bytes a.self.bytes x a.second (omega arith) (omega (arith, f.0.bytes_fit)) in
    texts_made a.self a.words.now b x _ a.link _ _ _ c.len-size.ensures c.len-more.ensures c.saturating_add.ensures c.if-not-admits.ensures
    c.put.ensures.value c.put.ensures.words_after
    (c.write-2.ensures ∙ rw (c.write.ensures, f.1, e) (written_twice b a.self.bytes x _ f.0.bytes_fit))
