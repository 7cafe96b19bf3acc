-- 01, "Records", kind 8 with W 1: a raw reference, `&{..}`, taken apart: a path, a label and a path, or a label; N of output kind 12.
use Rattle.std.specs.Prelude.{ℕ, ◌-◌, ◌≡◌, Bool, true, false, cond, List, [], ◌∷◌, length, take, drop, ◌==◌, slice_index, Option, Some, None, Result, MatchResult}
use Rattle.paths_numbers.specs.meaning.Byte.{slash, ampersand, opening_brace, closing_brace}
use Rattle.paths_numbers.specs.meaning.Text.{begins, starts_with}
use Rattle.paths_numbers.specs.declared.phandle.MirPhandleTarget.{MirPhandleTarget}
use Rattle.paths_numbers.specs.declared.phandle.MirPhandleTarget.TheVariants as K
use Rattle.paths_numbers.specs.declared.phandle.UnknownTarget.{UnknownTarget}

-- what a reference names
pub data Target : Type 0 where
  label : List ℕ → Target
  label_path : List ℕ → List ℕ → Target
  path : List ℕ → Target
  unreadable : Target

-- the text before the first "/", and the text behind it
unfoldable pub before_slash : List ℕ → List ℕ
before_slash [] = []
before_slash (b ∷ s) = cond (b == slash) [] (b ∷ before_slash s)

unfoldable pub behind_slash : List ℕ → List ℕ
behind_slash [] = []
behind_slash (b ∷ s) = cond (b == slash) s (behind_slash s)

-- whether a text has a "/"
unfoldable pub has_slash : List ℕ → Bool
has_slash [] = false
has_slash (b ∷ s) = cond (b == slash) true (has_slash s)

-- the text between the braces: it starts with "/", has a "/" further on, or has none
unfoldable pub in_braces : List ℕ → Target
in_braces s =
    cond (starts_with slash s) (path s)
    (cond (has_slash s) (label_path (before_slash s) (behind_slash s))
    (label s))

-- the last byte, 0 of no byte
abbrev pub last_byte : List ℕ → ℕ
last_byte s = slice_index s (length s - 1)

-- whether "&{" stands in front and, behind that, "}" at the end
unfoldable pub is_braced : List ℕ → Bool
is_braced raw =
    cond (begins raw (ampersand ∷ opening_brace ∷ [])) (last_byte (drop 2 raw) == closing_brace) false

-- the text between the braces, empty where they are missing
unfoldable pub inner_text : List ℕ → List ℕ
inner_text raw = cond (is_braced raw) (take (length raw - 3) (drop 2 raw)) []

-- what a raw reference names; without both braces it cannot be read
unfoldable pub target : List ℕ → Target
target raw = cond (is_braced raw) (in_braces (inner_text raw)) unreadable

-- 01's N for each kind of target, 0 where it cannot be read
abbrev pub number_of : Target → ℕ
number_of (label l) = 1
number_of (label_path l p) = 2
number_of (path p) = 3
number_of unreadable = 0

-- the label and the path of a target, empty where it has none
abbrev pub label_of : Target → List ℕ
label_of (label l) = l
label_of (label_path l p) = l
label_of (path p) = []
label_of unreadable = []

abbrev pub path_of : Target → List ℕ
path_of (label l) = []
path_of (label_path l p) = p
path_of (path p) = p
path_of unreadable = []

-- 01's N of a kind that the code names
abbrev pub kind_number : MirPhandleTarget → ℕ
kind_number K.Label = 1
kind_number K.LabelPath = 2
kind_number K.Path = 3

-- which kind 01's N names, if it names one
abbrev pub NumberNames : ℕ → Result MirPhandleTarget UnknownTarget → Type 0
NumberNames n r = MatchResult r (λ k. n ≡ kind_number k) (λ e. (k : MirPhandleTarget) → n ≡ kind_number k → ⊥)

-- what the code's answer tells, by the same numbers
abbrev pub target_number : Option MirPhandleTarget → ℕ
target_number (Some k) = kind_number k
target_number None = 0
