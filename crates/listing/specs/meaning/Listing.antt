-- 01, "The listing program …": what is printed of a log, as bytes. "definitions (`D` kind letter N P X Y V G, path or `-`, span, name
-- span), each with its `l` labels, then `B` bindings (label, path, span), `M` diagnostics (code, span; post checks last), and `.`". Fields
-- are parted by one space, each line ends in a newline, numbers are decimal, and texts stand as they are.
use Rattle.std.specs.Prelude.{ℕ, zero, suc, ◌+◌, ◌/◌, ◌%◌, cond, ltb}
use Prim.Native.Char.{code}
use Prim.Native.String.{String, [] as end, ◌∷◌ as ◌then◌}
use mathlib.Core.List.{List, [], ◌∷◌, ◌++◌, flat_map}
use Rattle.definition_log.specs.meaning.Contents.{Span, DefValue, node, property, deleted_node, deleted_property, version, plugin, Def}
use Rattle.definition_log.specs.meaning.Contents.{Binding, Diag}
use Rattle.definition_log.specs.meaning.ReadBack.{Log}
use Rattle.queries.specs.meaning.Labels.{labels_in}

-- the bytes of a text in ASCII
unfoldable pub ascii : String → List ℕ
ascii end = []
ascii (c then s) = code c ∷ ascii s

-- the decimal digits of a number of at most so many digits
unfoldable pub decimal_of : ℕ → ℕ → List ℕ
decimal_of zero n = []
decimal_of (suc k) n = cond (ltb n 10) ((code "0" + n) ∷ []) (decimal_of k (n / 10) ++ (code "0" + n % 10) ∷ [])

-- "All words are u32": a word has at most ten
abbrev pub most_digits : ℕ
most_digits = 10

unfoldable pub decimal : ℕ → List ℕ
decimal n = decimal_of most_digits n

-- a span, START-END, behind a space
unfoldable pub span_field : Span → List ℕ
span_field s = code " " ∷ decimal s.from ++ (code "-" ∷ []) ++ decimal s.to

-- "kind letter N P X Y V G"
abbrev pub letter : DefValue → ℕ
letter (node ls o) = code "N"
letter (property vs) = code "P"
letter deleted_node = code "X"
letter deleted_property = code "Y"
letter version = code "V"
letter plugin = code "G"

-- "path or `-`"
abbrev pub path_field : List ℕ → List ℕ
path_field [] = code "-" ∷ []
path_field (b ∷ p) = b ∷ p

-- a definition
unfoldable pub definition_line : Def → List ℕ
definition_line d =
    (code "D" ∷ code " " ∷ letter d.value ∷ code " " ∷ []) ++ path_field d.path ++ span_field d.span ++ span_field d.name_span
    ++ code "\n" ∷ []

-- a label
unfoldable pub label_line : List ℕ → List ℕ
label_line l = ascii "l " ++ l ++ code "\n" ∷ []

-- "each with its `l` labels"
unfoldable pub definition_lines : Def → List ℕ
definition_lines d = definition_line d ++ flat_map label_line (labels_in d.value)

-- a binding
unfoldable pub binding_line : Binding → List ℕ
binding_line b = ascii "B " ++ b.label ++ (code " " ∷ []) ++ b.path ++ span_field b.span ++ code "\n" ∷ []

-- a diagnostic
unfoldable pub diagnostic_line : Diag → List ℕ
diagnostic_line d = ascii "M " ++ decimal d.code ++ span_field d.span ++ code "\n" ∷ []

-- the last line
abbrev pub last_line : List ℕ
last_line = ascii ".\n"

-- a log
unfoldable pub listing : Log → List ℕ
listing log =
    flat_map definition_lines log.defs
    ++ flat_map binding_line log.binds
    ++ flat_map diagnostic_line log.diags
    ++ flat_map diagnostic_line log.post
    ++ last_line

-- "a refusal is only `R`, number, returned"
unfoldable pub refusal_line : ℕ → ℕ → List ℕ
refusal_line number returned = ascii "R " ++ decimal number ++ (code " " ∷ []) ++ decimal returned ++ code "\n" ∷ []
