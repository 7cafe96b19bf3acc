-- What each step of the test of a log does with its marks. These are no rules of 01: the contract of the whole test cites specs/Sound
-- alone, proofs/Walked shows that the marks in the end are those of the links that are followed there, and proofs/Marks that they say what
-- is asked.
use Rattle.std.specs.Prelude.{ℕ, zero, suc, ◌+◌, ◌/◌, ◌%◌, Bool, true, false, cond, List, [], ◌∷◌, ◌++◌, map, eqb, ltb, length, get_or, set}
use Rattle.std.specs.Prelude.{take}
use Rattle.definition_log.specs.meaning.Record.{kind_of, one_of}
use Rattle.definition_log.specs.meaning.Sound.{Place, definitions, extensions, bindings, diagnostics, labels, values, cells, references}
use Rattle.definition_log.specs.meaning.Sound.{nowhere}
use Rattle.definition_log.specs.meaning.Sound.{kinds_in, Link, links_of, head_links, any_of, heads_out, links_out, texts_out}
use Rattle.definition_log.specs.meaning.Sound.{spans_reversed, path_wrong}
use Rattle.definition_log.specs.meaning.Sound.{Soundness, sound, broken}
use Rattle.definition_log.specs.declared.links.Mark.{Mark}
use Rattle.definition_log.specs.declared.links.Mark.TheVariants.{Unmet, Met, Wrong}
use Rattle.definition_log.specs.declared.links.Chain.{Chain}
use Rattle.definition_log.specs.declared.links.Chain.TheVariants as C

-- the chains that code names
abbrev pub place_told : Chain → Place
place_told C.Definitions = definitions
place_told C.Extensions = extensions
place_told C.Bindings = bindings
place_told C.Diagnostics = diagnostics
place_told C.Labels = labels
place_told C.Values = values
place_told C.Cells = cells
place_told C.References = references
place_told C.Nowhere = nowhere

-- how many chains there are
abbrev pub chains : ℕ
chains = 9

-- the chains by number
unfoldable pub place_of : ℕ → Place
place_of p =
    cond (eqb p 0) definitions
    (cond (eqb p 1) extensions
    (cond (eqb p 2) bindings
    (cond (eqb p 3) diagnostics
    (cond (eqb p 4) labels
    (cond (eqb p 5) values
    (cond (eqb p 6) cells
    (cond (eqb p 7) references
    nowhere)))))))

-- a link to a record in the chain of this number
abbrev pub link_in : ℕ → ℕ → Link
link_in r place = record { to = r; place = place_of place }

-- a link in one word
unfoldable pub link_of : ℕ → Link
link_of code = link_in (code / chains) (code % chains)

-- the marks with one put at an index
unfoldable pub stored : List Mark → ℕ → Mark → List Mark
stored l i m = set l i m

-- whether no link led to a record yet
abbrev pub unmet : Mark → Bool
unmet Unmet = true
unmet Met = false
unmet Wrong = false

-- a record's mark: Unmet where no link led to it, Met where one did and its kind fits, Wrong where it does not or a second link led to it
unfoldable pub first_mark : List ℕ → Link → Mark
first_mark words l = cond (one_of (kind_of words l.to) (kinds_in l.place)) Met Wrong

-- the mark after one more link
abbrev pub next_mark : List ℕ → Link → Mark → Mark
next_mark words l m = cond (unmet m) (first_mark words l) Wrong

-- the marks, the links that led to a record first, in order, and how many of these there is room for
pub record Held : Type 0 where
  pub marks : List Mark
  pub met : List Link
  pub room : ℕ

-- the first n words of a queue as those links
unfoldable pub held : List Mark → List ℕ → ℕ → Held
held marks queue n = record { marks = marks; met = map link_of (take n queue); room = length queue }

-- a link put behind the others where there is room
abbrev pub pushed : List Link → ℕ → Link → List Link
pushed met room l = cond (ltb (length met) room) (met ++ l ∷ []) met

-- a link followed
unfoldable pub follow : List ℕ → Link → Held → Held
follow words l s =
    record {
      marks = stored s.marks l.to (next_mark words l (get_or s.marks l.to Unmet));
      met = cond (unmet (get_or s.marks l.to Unmet)) (pushed s.met s.room l) s.met;
      room = s.room;
    }

-- links followed in order
unfoldable pub follow_all : List ℕ → List Link → Held → Held
follow_all words [] s = s
follow_all words (l ∷ ls) s = follow_all words ls (follow words l s)

-- the links of each record that was met, from the one at this index on
unfoldable pub expand : ℕ → List ℕ → ℕ → Held → Held
expand zero words head s = s
expand (suc left) words head s =
    cond (ltb head (length s.met)) (expand left words (head + 1) (follow_all words (links_of words (get_or s.met head (link_of 0))) s)) s

-- the marks after all links are followed
unfoldable pub all_marks : List ℕ → List Mark → List ℕ → List Mark
all_marks words marks queue = (expand (length queue) words 0 (follow_all words (head_links words) (held marks queue 0))).marks

-- whether a record breaks a rule, but for those on the links that lead to it
unfoldable pub record_wrong : List ℕ → List ℕ → ℕ → Bool
record_wrong words bytes r =
    any_of (links_out words r ∷ texts_out words bytes r ∷ spans_reversed words r ∷ path_wrong words bytes r ∷ [])

-- whether a record with this mark is at fault
abbrev pub fault_marked : Mark → Bool → Bool
fault_marked Unmet wrong = false
fault_marked Met wrong = wrong
fault_marked Wrong wrong = true

unfoldable pub fault_by : List ℕ → List ℕ → Mark → ℕ → Bool
fault_by words bytes mark r = cond (eqb r 0) (heads_out words) (fault_marked mark (record_wrong words bytes r))

-- the lowest record at fault by the marks, of so many from r on
unfoldable pub first_by : ℕ → List ℕ → List ℕ → List Mark → ℕ → Soundness
first_by zero words bytes marks r = sound
first_by (suc left) words bytes marks r =
    cond (fault_by words bytes (get_or marks r Unmet) r) (broken r) (first_by left words bytes marks (r + 1))
