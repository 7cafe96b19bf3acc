-- How the buffers of a log in the making stand to the records made: the relation that every operation keeps. Not what a reader must
-- believe: what is read back follows from it (proofs/ReadLog).
use Rattle.std.specs.Prelude.{ℕ, ◌+◌, ◌*◌, ◌-◌, ◌≤◌, ◌<◌, true, ◌≡◌, List, length, replicate}
use Rattle.definition_log.specs.meaning.Record.{log_count, most_bytes}
use Rattle.making.specs.machine.Events.{Event, all_words, all_bytes, end_of, Ordered}
use Rattle.making.specs.declared.ctx.Rec.{Rec}

-- the record that a `Rec` with these texts is, in a chain
abbrev pub event_of : ℕ → ℕ → Rec → List ℕ → List ℕ → Event
event_of chain log r first second =
    record {
      chain = chain;
      kind = r.kind;
      text = first;
      second = second;
      n = r.n;
      m = r.m;
      from = r.span.from;
      to = r.span.to;
      name_from = r.name_span.from;
      name_to = r.name_span.to;
      log = log;
      alive = true;
    }

-- the buffers hold just these records and their texts, with zeros behind; record 0 is written last
pub record Layout (words bytes : List ℕ) (records used : ℕ) (es : List Event) : Type 0 where
  pub words_are : words ≡ all_words (replicate 16 0) es (length words - (1 + length es) * 16)
  pub bytes_are : bytes ≡ all_bytes es (length bytes - end_of 0 es)
  pub records_are : records ≡ 1 + length es
  pub used_are : used ≡ end_of 0 es
  pub records_fit : 1 + length es ≤ log_count words
  pub bytes_fit : end_of 0 es ≤ length bytes
  pub bytes_most : end_of 0 es ≤ most_bytes
  pub ordered : Ordered 1 es

-- one record more does not fit: too many records, or too many bytes
pub data Exceeds (words bytes : List ℕ) (es : List Event) : Type 0 where
  records_exceed : log_count words < 1 + length es → Exceeds words bytes es
  bytes_exceed : length bytes < end_of 0 es → Exceeds words bytes es
  most_exceed : most_bytes < end_of 0 es → Exceeds words bytes es
