-- The words of a record that is made, and the link that leads to it, as the code writes them.
use Rattle.std.specs.Prelude.{ℕ, ◌+◌, ◌*◌, ◌≤◌, ◌<◌, ◌≡◌, Bool, true, false, cond, List, [], ◌∷◌, ◌++◌, eqb, ltb, leb, length, set}
use Rattle.paths_numbers.specs.meaning.Text.{written}
use Rattle.definition_log.specs.meaning.Record.{log_count, most_bytes}
use Rattle.making.specs.declared.ctx.Chain.{Chain}
use Rattle.making.specs.declared.ctx.LowerCtx.{LowerCtx}
use Rattle.making.specs.declared.ctx.Rec.{Rec}

-- where a text of this length starts
abbrev pub start_at : ℕ → ℕ → ℕ
start_at at size = cond (eqb size 0) 0 at

-- its sixteen words, before anything comes after it
unfoldable pub sixteen : ℕ → ℕ → ℕ → Rec → List ℕ
sixteen at first second r =
    r.kind
    ∷ 0
    ∷ start_at at first
    ∷ first
    ∷ start_at (at + first) second
    ∷ second
    ∷ 0
    ∷ r.n
    ∷ r.m
    ∷ r.span.from
    ∷ r.span.to
    ∷ r.name_span.from
    ∷ r.name_span.to
    ∷ 0
    ∷ 0
    ∷ 0
    ∷ []

-- a word set, or none at 0
unfoldable pub set_link : ℕ → ℕ → List ℕ → List ℕ
set_link at n w = cond (eqb at 0) w (set w at n)

-- whether one record more, with so many bytes of texts, has room: row 7's limits
unfoldable pub has_room : LowerCtx → List ℕ → List ℕ → ℕ → Bool
has_room c words bytes size =
    cond (ltb c.records (log_count words))
    (cond (leb (c.bytes + size) most_bytes) (leb (c.bytes + size) (length bytes)) false)
    false

-- the same as facts
pub record Room (c : LowerCtx) (words bytes : List ℕ) (size link : ℕ) : Type 0 where
  pub records_fit : c.records < log_count words
  pub bytes_fit : c.bytes + size ≤ length bytes
  pub bytes_most : c.bytes + size ≤ most_bytes
  pub link_fits : link < length words

-- the state with the buffers short
unfoldable pub ran_short : LowerCtx → LowerCtx
ran_short c =
    record {
      records = c.records;
      bytes = c.bytes;
      defs = c.defs;
      exts = c.exts;
      binds = c.binds;
      diags = c.diags;
      part = c.part;
      cell = c.cell;
      short = true;
    }

-- one record and so many bytes more
unfoldable pub one_more : LowerCtx → ℕ → LowerCtx
one_more c size =
    record {
      records = c.records + 1;
      bytes = c.bytes + size;
      defs = c.defs;
      exts = c.exts;
      binds = c.binds;
      diags = c.diags;
      part = c.part;
      cell = c.cell;
      short = c.short;
    }

-- where the link to the next record of a chain stands: in its last record, 0 where there is none
abbrev pub end_link : Chain → ℕ
end_link x = cond (eqb x.last 0) 0 (x.last * 16 + 1)

-- and of a record's children, in the record itself where there is none before it
abbrev pub child_link : ℕ → ℕ → ℕ
child_link owner last = cond (eqb last 0) (owner * 16 + 6) (last * 16 + 1)

-- a chain with one record more, where that was made
unfoldable pub grown : Bool → Chain → ℕ → Chain
grown short x n = cond short x (record { first = cond (eqb x.first 0) n x.first; last = n })

-- the state with a record more in one of its chains
abbrev with_chains : LowerCtx → Chain → Chain → Chain → Chain → ℕ → ℕ → LowerCtx
with_chains c defs exts binds diags part cell =
    record {
      records = c.records;
      bytes = c.bytes;
      defs = defs;
      exts = exts;
      binds = binds;
      diags = diags;
      part = part;
      cell = cell;
      short = c.short;
    }

unfoldable pub with_def : LowerCtx → ℕ → LowerCtx
with_def c n = with_chains c (grown c.short c.defs n) c.exts c.binds c.diags 0 0

unfoldable pub with_ext : LowerCtx → ℕ → LowerCtx
with_ext c n = with_chains c c.defs (grown c.short c.exts n) c.binds c.diags c.part c.cell

unfoldable pub with_bind : LowerCtx → ℕ → LowerCtx
with_bind c n = with_chains c c.defs c.exts (grown c.short c.binds n) c.diags c.part c.cell

unfoldable pub with_diag : LowerCtx → ℕ → LowerCtx
with_diag c n = with_chains c c.defs c.exts c.binds (grown c.short c.diags n) c.part c.cell

-- with a part more of its newest definition, or a cell more of that part
unfoldable pub with_part : LowerCtx → ℕ → LowerCtx
with_part c n = with_chains c c.defs c.exts c.binds c.diags n 0

unfoldable pub with_last_cell : LowerCtx → ℕ → LowerCtx
with_last_cell c n = with_chains c c.defs c.exts c.binds c.diags c.part n

-- the state for a body with a log of its own; a body that is kept adds its extensions to the same chain
abbrev pub no_chain : Chain
no_chain = record { first = 0; last = 0 }

unfoldable pub entered : LowerCtx → Bool → LowerCtx
entered c keeps = with_chains c no_chain (cond keeps c.exts no_chain) c.binds c.diags 0 0

-- after the body: the log around it is in hand again
unfoldable pub left_dropped : LowerCtx → LowerCtx → LowerCtx
left_dropped c outer = with_chains c outer.defs outer.exts c.binds c.diags outer.part outer.cell

unfoldable pub left_kept : LowerCtx → LowerCtx → LowerCtx
left_kept c outer = with_chains c outer.defs c.exts c.binds c.diags outer.part outer.cell

-- where the post checks start: no diagnostic is theirs yet
unfoldable pub checked : LowerCtx → LowerCtx
checked c = with_chains c c.defs c.exts c.binds no_chain c.part c.cell

-- whether a record is made: the state is not short, its link is among the words, and it has room
unfoldable pub makes : LowerCtx → List ℕ → List ℕ → ℕ → ℕ → Bool
makes c words bytes size link = cond c.short false (cond (ltb link (length words)) (has_room c words bytes size) false)

unfoldable pub counted : LowerCtx → List ℕ → List ℕ → ℕ → ℕ → ℕ → LowerCtx
counted c words bytes first second link = cond (makes c words bytes (first + second) link) (one_more c (first + second)) (ran_short c)

unfoldable pub made_words : LowerCtx → List ℕ → List ℕ → Rec → ℕ → ℕ → ℕ → List ℕ
made_words c words bytes r first second link =
    cond (makes c words bytes (first + second) link)
    (set_link link c.records (written words (c.records * 16) (sixteen c.bytes first second r)))
    words

unfoldable pub made_bytes : LowerCtx → List ℕ → List ℕ → List ℕ → List ℕ → ℕ → List ℕ
made_bytes c words bytes first second link =
    cond (makes c words bytes (length first + length second) link) (written bytes c.bytes (first ++ second)) bytes

-- what making a record with these texts answers and leaves, d, w and b
pub record Told (c d : LowerCtx) (words bytes w b : List ℕ) (r : Rec) (first second : List ℕ) (link : ℕ) : Type 0 where
  pub state : d ≡ counted c words bytes (length first) (length second) link
  pub words_are : w ≡ made_words c words bytes r (length first) (length second) link
  pub bytes_are : b ≡ made_bytes c words bytes first second link
