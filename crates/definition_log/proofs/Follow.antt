-- A link followed: what the marks and the queue hold afterwards, by whether the word is a link (`no_link`), the record was met before
-- (`link_again`) and there is room (`link_full`, `link_first`); and the links of a record, and of record 0, one after the other.
use Prim.Native.Nat.{ℕ, ◌+◌, ◌*◌, ◌/◌, ◌%◌, ◌≤◌, ◌<◌}
use mathlib.Core.Path.{◌≡◌, refl, ap, ◌∙◌}
use mathlib.Core.Bool.{Bool, true, false, cond}
use mathlib.Core.List.{List, [], ◌∷◌, ◌++◌, map}
use native.Mathlib.Numerals.{add-one}
use native.Mathlib.Omega.{arith}
use borrow.Author.Tests.{le-ltb, lt-ltb}
use lib.Dec.{eqb}
use lib.ListN.{length, get_or, set, take, length-set, length-map}
use lib.Seq.{take-suc-set, length-take-le, take_all}
use Rattle.definition_log.specs.meaning.Record.{kind_of, next_of, child_of, m_of, first_def, first_ext, first_bind, first_diag, first_post}
use Rattle.definition_log.specs.meaning.Record.{extension_kind, leads}
use Rattle.definition_log.specs.meaning.Sound.{Place, definitions, extensions, bindings, diagnostics, Link, below, link_to, links_of}
use Rattle.definition_log.specs.meaning.Sound.{head_links}
use Rattle.definition_log.specs.declared.links.Mark.{Mark}
use Rattle.definition_log.specs.declared.links.Mark.TheVariants.{Unmet, Wrong}
use Rattle.definition_log.specs.machine.Walk.{chains, place_of, link_in, link_of, stored, unmet, first_mark, Held, held, follow, follow_all}

-- a link in one word
pub link_word : (r place : ℕ) → place < chains → link_of (r * chains + place) ≡ link_in r place
unfolding link_of
link_word r place h =
    let q : (r * chains + place) / chains ≡ r = omega arith in
    let p : (r * chains + place) % chains ≡ place = omega arith in
    rw (q, p) refl

-- one more word of the queue is one more link
map_last : (l : List ℕ) (c : ℕ) → map link_of (l ++ c ∷ []) ≡ map link_of l ++ link_of c ∷ []
map_last [] c = refl
map_last (a ∷ l) c = rw (map_last l c) refl

-- put behind the others it is the last
pub put_last : (q : List ℕ) (n r place : ℕ) → n < length q → place < chains
    → map link_of (take (n + 1) (set q n (r * chains + place))) ≡ map link_of (take n q) ++ link_in r place ∷ []
put_last q n r place h k = rw (
  add-one,
  take-suc-set q n (r * chains + place) h,
  map_last (take n q) (r * chains + place),
  link_word r place
      k,
) refl

-- how many links the first n words are
pub length_met : (q : List ℕ) (n : ℕ) → n ≤ length q → length (map link_of (take n q)) ≡ n
length_met q n h = length-map (take n q) link_of ∙ length-take-le n q h

-- of a queue that has fewer words, all
pub length_met_all : (q : List ℕ) (n : ℕ) → length q ≤ n → length (map link_of (take n q)) ≡ length q
length_met_all q n h = length-map (take n q) link_of ∙ ap length (take_all n q h)

module _ (w : List ℕ) (m : List Mark) (q : List ℕ) (n r : ℕ) (at : Place) where
  -- a word that is no link
  pub no_link : leads w r ≡ false → held m q n ≡ follow_all w (link_to w r at) (held m q n)
  unfolding follow_all link_to
  no_link t = rw t refl

  -- a link to a record that was met before
  pub link_again : (m' : List Mark) → leads w r ≡ true → unmet (get_or m r Unmet) ≡ false → m' ≡ stored m r Wrong
      → held m' q n ≡ follow_all w (link_to w r at) (held m q n)
  unfolding follow_all link_to follow held
  link_again m' t u e = rw (t, u, e) refl

  -- to one that was not, without room for it
  pub link_full : (m' : List Mark) → leads w r ≡ true → unmet (get_or m r Unmet) ≡ true
      → m' ≡ stored m r (first_mark w (record { to = r; place = at })) → length q ≤ n
      → held m' q n ≡ follow_all w (link_to w r at) (held m q n)
  unfolding follow_all link_to follow held
  link_full m' t u e h = rw (t, u, e, length_met_all q n h, le-ltb (length q) (length q) (omega arith)) refl

  -- and with room
  pub link_first : (m' : List Mark) (place : ℕ) → leads w r ≡ true → unmet (get_or m r Unmet) ≡ true
      → m' ≡ stored m r (first_mark w (record { to = r; place = at })) → n < length q → place < chains → place_of place ≡ at
      → held m' (set q n (r * chains + place)) (n + 1) ≡ follow_all w (link_to w r at) (held m q n)
  unfolding follow_all link_to follow held
  link_first m' place t u e h k f =
      rw (t, u, e, length_met q n (omega arith), lt-ltb _ _ h, put_last q n r place h k, length-set, f) refl

-- links followed one list after the other
pub follow_append : (w : List ℕ) (a b : List Link) (s : Held) → follow_all w (a ++ b) s ≡ follow_all w b (follow_all w a s)
unfolding follow_all
follow_append w [] b s = refl
follow_append w (l ∷ a) b s = follow_append w a b (follow w l s)

-- the room stays
pub room_all : (w : List ℕ) (ls : List Link) (s : Held) → (follow_all w ls s).room ≡ s.room
unfolding follow_all follow
room_all w [] s = refl
room_all w (l ∷ ls) s = room_all w ls (follow w l s)

-- so the queue keeps its length
pub same_length : (w : List ℕ) (ls : List Link) (m m' : List Mark) (q q' : List ℕ) (n n' : ℕ)
    → held m' q' n' ≡ follow_all w ls (held m q n) → length q' ≡ length q
unfolding held
same_length w ls m m' q q' n n' e = ap (λ (h : Held). h.room) e ∙ room_all w ls (held m q n)

-- a link that counts only where a test holds
link_if : (w : List ℕ) (t : Bool) (r : ℕ) (p : Place) → link_to w (cond t r 0) p ≡ cond t (link_to w r p) []
unfolding link_to
link_if w true r p = refl
link_if w false r p = refl

-- a record's links followed one after the other
pub follow_record : (w : List ℕ) (code a b c k : ℕ) (x y : Place) (s t u v : Held)
    → a ≡ next_of w (code / chains) → x ≡ place_of (code % chains) → k ≡ kind_of w (code / chains) → y ≡ below k
    → b ≡ child_of w (code / chains)
    → c ≡ cond (eqb (kind_of w (code / chains)) extension_kind) (m_of w (code / chains)) 0
    → t ≡ follow_all w (link_to w a x) s
    → u ≡ follow_all w (link_to w b y) t
    → v ≡ follow_all w (link_to w c definitions) u
    → v ≡ follow_all w (links_of w (link_of code)) s
unfolding links_of link_of
follow_record w code a b c k x y s t u v ea ex ek ey eb ec et eu ev =
    let r = code / chains in
    let body = link_if w (eqb (kind_of w r) extension_kind) (m_of w r) definitions in
    ev ∙ rw (eu, et, ea, ex, ey, ek, eb, ec, body) (simp follow_append)

-- record 0's links followed one after the other
pub follow_heads : (w : List ℕ) (a b c d e : ℕ) (s t u v x y : Held)
    → a ≡ first_def w → b ≡ first_ext w → c ≡ first_bind w → d ≡ first_diag w → e ≡ first_post w
    → t ≡ follow_all w (link_to w a definitions) s
    → u ≡ follow_all w (link_to w b extensions) t
    → v ≡ follow_all w (link_to w c bindings) u
    → x ≡ follow_all w (link_to w d diagnostics) v
    → y ≡ follow_all w (link_to w e diagnostics) x
    → y ≡ follow_all w (head_links w) s
unfolding head_links
follow_heads w a b c d e s t u v x y ea eb ec ed ee et eu ev ex ey =
    ey ∙ rw (ex, ev, eu, et, ea, eb, ec, ed, ee) (simp follow_append)
