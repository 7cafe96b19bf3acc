-- 01, "Paths": stripping a base from a path, joining a parent and a name, and row 9's form of a path.
use Rattle.std.specs.Prelude.{ℕ, ◌+◌, ◌-◌, ◌^◌, Bool, true, false, cond, not, List, [], ◌∷◌, ◌++◌, length, drop, ◌==◌, nat_le, Option, Some}
use Rattle.std.specs.Prelude.{None}
use Rattle.paths_numbers.specs.meaning.Byte.{slash, at_sign}
use Rattle.paths_numbers.specs.meaning.Text.{begins, same, is_empty, starts_with, written}
use Rattle.paths_numbers.specs.declared.dt_node.Joined.{Joined}

-- the path "/"
abbrev pub root : List ℕ
root = slash ∷ []

-- what stripping gives: an end of the path, or nothing
pub data Stripped : Type 0 where
  found : List ℕ → Stripped
  nothing : Stripped

-- s, where it starts with "/"
abbrev pub if_slash : List ℕ → Stripped
if_slash s = cond (starts_with slash s) (found s) nothing

-- "Stripping base B from P gives the empty end of P if equal; if B is "/", all of P when it starts with "/"; else what follows B when that
-- starts with "/"; else nothing."
unfoldable pub strip : List ℕ → List ℕ → Stripped
strip p b =
    cond (same p b) (found [])
    (cond (same b root) (if_slash p)
    (cond (begins p b) (if_slash (drop (length b) p))
    nothing))

abbrev pub is_found : Stripped → Bool
is_found (found s) = true
is_found nothing = false

abbrev pub part : Stripped → List ℕ
part (found s) = s
part nothing = []

-- "P lies at or under B" means stripping gives something
unfoldable pub at_or_under : List ℕ → List ℕ → Bool
at_or_under p b = is_found (strip p b)

-- the part found, empty if none
unfoldable pub stripped : List ℕ → List ℕ → List ℕ
stripped p b = part (strip p b)

-- "Joining: name "/" gives "/"; parent "/" gives "/" + name; else parent + "/" + name."
unfoldable pub join : List ℕ → List ℕ → List ℕ
join parent name = cond (same name root) root (cond (same parent root) (slash ∷ name) (parent ++ slash ∷ name))

-- the largest usize
abbrev pub largest_usize : ℕ
largest_usize = 2 ^ 64 - 1

-- n, or m where n is larger
abbrev pub at_most : ℕ → ℕ → ℕ
at_most m n = cond (nat_le n m) n m

-- a name with its unit address, which is empty where there is none
unfoldable pub with_unit : List ℕ → List ℕ → List ℕ
with_unit name unit = cond (is_empty unit) name (name ++ at_sign ∷ unit)

-- the path of what has this name and unit address under this parent
unfoldable pub joined : List ℕ → List ℕ → List ℕ → List ℕ
joined parent name unit = join parent (with_unit name unit)

-- the path of the parts that a `Joined` of the code holds
abbrev pub joined_path : Joined → List ℕ
joined_path p = joined p.parent.now p.name.now p.unit.now

-- its length, or the largest usize where it is longer
abbrev pub joined_len : List ℕ → List ℕ → List ℕ → ℕ
joined_len parent name unit = at_most largest_usize (length (joined parent name unit))

-- what writing a path at a place answers: how many bytes, none where there is no room, which has no number; and what the buffer then
-- holds: without room it is left
unfoldable pub built_answer : List ℕ → ℕ → ℕ → Option ℕ
built_answer p room at = cond (nat_le (at + length p) room) (Some (length p)) None

unfoldable pub built_out : List ℕ → List ℕ → ℕ → List ℕ
built_out p out at = cond (nat_le (at + length p) (length out)) (written out at p) out

-- nonempty components, each behind a "/": after holds where the byte before is such a "/"
unfoldable pub components : Bool → List ℕ → Bool
components after [] = not after
components after (b ∷ s) = cond (b == slash) (cond after false (components true s)) (components false s)

-- row 9: "empty, "/", or "/" before each of its nonempty components"
unfoldable pub good_path : List ℕ → Bool
good_path p = cond (is_empty p) true (cond (same p root) true (cond (starts_with slash p) (components false p) false))
