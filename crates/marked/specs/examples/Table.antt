-- The cases that 01 marks with a dot for proof, in its order: each computed by the checker from the definitions, the last of all bindings.
use Rattle.std.specs.Prelude.{ℕ, ◌-◌, ◌^◌, Bool, true, ◌≡◌, refl, List, [], ◌∷◌, pos, negsuc}
use Rattle.paths_numbers.specs.meaning.Byte.{digit_of}
use Rattle.paths_numbers.specs.meaning.Text.{begins, same, starts_with}
use Rattle.paths_numbers.specs.meaning.Path.{strip, found, nothing, join}
use Rattle.paths_numbers.specs.meaning.Lists.{any}
use Rattle.paths_numbers.proofs.Texts.{by_test, not_both}
use Rattle.paths_numbers.specs.meaning.Reading as R
use Rattle.paths_numbers.specs.meaning.Number.{unsigned_number, unsigned, signed_number, signed, digits, behind_sign, behind_prefix}
use Rattle.paths_numbers.specs.meaning.Number.{base_of}
use Rattle.paths_numbers.specs.meaning.Number.{has_prefix, is_prefix_letter, trimmed, is_suffix}
use Rattle.paths_numbers.specs.meaning.Expression.{eval_infix, quotient, shift_left}
use Rattle.paths_numbers.specs.meaning.Cell.{expr_cell, largest}
use Rattle.paths_numbers.specs.meaning.Bytestring.{count_of, nibbles, pairs}
use Rattle.paths_numbers.specs.meaning.Reference.{target, is_braced, inner_text, in_braces, has_slash, before_slash, behind_slash}
use Rattle.paths_numbers.specs.meaning.Reference.{label_path}
use Rattle.levels.specs.meaning.Rules.{signed_rules}
use Rattle.definition_log.specs.meaning.Contents.{Def, Binding}
use Rattle.queries.specs.meaning.Live.{contains_node}
use Rattle.input.specs.meaning.Tree.{tree, empty, more}
use Rattle.input.specs.meaning.Report.{no_span}
use Rattle.input.specs.meaning.Expr.{eval, evals, value}
use Rattle.queries.specs.meaning.Lookup.{lookup}
use Rattle.resolving.specs.meaning.Resolve.{resolve, reaches, first_binding}
use Rattle.paths_numbers.specs.declared.dt_property.BitsSize.TheVariants.{Bits8}

-- path "/ab", base "/a": nothing
pub child_by_letters : strip (47 ∷ 97 ∷ 98 ∷ []) (47 ∷ 97 ∷ []) ≡ nothing
unfolding strip same begins starts_with
child_by_letters = refl

-- path "", base "/": nothing
pub empty_under_root : strip [] (47 ∷ []) ≡ nothing
unfolding strip same begins starts_with
empty_under_root = refl

-- path "/", base "": "/"
pub root_under_empty : strip (47 ∷ []) [] ≡ found (47 ∷ [])
unfolding strip same begins starts_with
root_under_empty = refl

-- 8 bits: -128 gives 128
pub smallest_in_8_bits : expr_cell 8 (negsuc 127) ≡ R.value 128
unfolding expr_cell
smallest_in_8_bits = refl

-- -129 gives 15
pub below_8_bits : expr_cell 8 (negsuc 128) ≡ R.fails 15
unfolding expr_cell
below_8_bits = refl

-- "0x" gives 16
pub prefix_alone : unsigned_number (largest Bits8) (48 ∷ 120 ∷ []) ≡ R.fails 16
unfolding unsigned_number unsigned digits behind_sign behind_prefix base_of has_prefix is_prefix_letter trimmed is_suffix digit_of
prefix_alone = refl

-- "256" in 8 bits gives 18
pub above_8_bits : unsigned_number (largest Bits8) (50 ∷ 53 ∷ 54 ∷ []) ≡ R.fails 18
unfolding unsigned_number unsigned digits behind_sign behind_prefix base_of has_prefix is_prefix_letter trimmed is_suffix digit_of
above_8_bits = refl

-- "010" gives 8, as 02's request 2 has it
pub leading_zero : unsigned_number (largest Bits8) (48 ∷ 49 ∷ 48 ∷ []) ≡ R.value 8
unfolding unsigned_number unsigned digits behind_sign behind_prefix base_of has_prefix is_prefix_letter trimmed is_suffix digit_of
leading_zero = refl

-- 0 && 1/0 is 0: an infix record && with the number 0 and an infix record / with the numbers 1 and 0
pub and_decides_early :
    eval signed_rules
    (tree 20 [] 11 no_span
    (more (tree 15 (48 ∷ []) 0 no_span empty empty)
    (more (tree 20 [] 4 no_span (more (tree 15 (49 ∷ []) 0 no_span empty empty) (more (tree 15 (48 ∷ []) 0 no_span empty empty) empty)) empty)
    empty))
    empty)
    ≡ value (pos 0)
unfolding eval evals signed_number signed digits behind_sign behind_prefix base_of has_prefix is_prefix_letter trimmed is_suffix digit_of
    eval_infix
    quotient
and_decides_early = refl

-- 1 << 63 is -2^63
pub shift_to_the_sign : eval_infix 9 (pos 1) (pos 63) ≡ R.value (negsuc (2 ^ 63 - 1))
unfolding eval_infix shift_left
shift_to_the_sign = refl

-- [1 2 a] gives 11
pub odd_digits_lem : count_of (91 ∷ 49 ∷ 32 ∷ 50 ∷ 32 ∷ 97 ∷ 93 ∷ []) ≡ R.fails 11
unfolding count_of nibbles pairs digit_of
odd_digits_lem = refl

-- `&{l//}` with l bound reaches "/" if live: the text is the label l with the path "/"; and among any bindings, l's among them wherever it
-- stands and whatever its path, that leads to "/" where "/" is a live node
pub label_with_root : target (38 ∷ 123 ∷ 108 ∷ 47 ∷ 47 ∷ 125 ∷ []) ≡ label_path (108 ∷ []) (47 ∷ [])
unfolding target is_braced inner_text in_braces has_slash before_slash behind_slash begins starts_with
label_with_root = refl

-- whether a label is bound
abbrev pub is_bound : List ℕ → List Binding → Bool
is_bound l binds = any (λ (b : Binding). same b.label l) binds

pub bound_reaches_root : (l : List ℕ) (binds : List Binding) (defs : List Def) → is_bound l binds ≡ true → contains_node (47 ∷ []) defs ≡ true
    → resolve (label_path l (47 ∷ [])) binds defs ≡ reaches (47 ∷ [])
unfolding resolve first_binding any same join lookup
bound_reaches_root l [] defs bound live = absurd (not_both bound refl)
bound_reaches_root l (b ∷ binds) defs bound live =
    by_test (same b.label l)
    (λ q. rw (q, live) refl)
    (λ q. rw q (bound_reaches_root l binds defs (rw q at bound) live))

pub label_reaches_root : (binds : List Binding) (defs : List Def) → is_bound (108 ∷ []) binds ≡ true → contains_node (47 ∷ []) defs ≡ true
    → resolve (target (38 ∷ 123 ∷ 108 ∷ 47 ∷ 47 ∷ 125 ∷ [])) binds defs ≡ reaches (47 ∷ [])
label_reaches_root binds defs bound live = rw label_with_root (bound_reaches_root (108 ∷ []) binds defs bound live)
