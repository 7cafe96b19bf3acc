-- By each test in turn (Told).
use Rattle.std.proofs.Common.{◌∙◌}
use Rattle.making.proofs.Told.{makes_short, makes_unlinked, makes_room}
use Rattle.making.proofs.ctx.LowerCtx.admits.Goals as goal
use Rattle.making.proofs.ctx.LowerCtx.admits.Goals.{then-self-via-then-self, then-self-via-else-self+then-words-link}

pub returns-then-self : goal.returns-then-self
returns-then-self c =
    let a = c.args in
    elim c.then-self.branch [
      | then-self-via-then-self w ↦ makes_short a.self a.words.now a.bytes.now a.size a.link w.if-self.true
      | then-self-via-else-self+then-words-link w ↦
          makes_unlinked a.self a.words.now a.bytes.now a.size a.link w.if-self.false w.if-words-link.true
    ]

pub returns : goal.returns
returns c =
    let a = c.args in
    c.has_room.ensures ∙ makes_room a.self a.words.now a.bytes.now a.size a.link c.if-self.false c.if-words-link.false
