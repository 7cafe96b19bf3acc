-- 01, "Diagnostic codes".
use Rattle.std.specs.Prelude.{ℕ}

-- "1 preprocessor, 2 include, 3 label not found, 4 node not found, 5 subnode outside a node, 6 root inside one, 7 property outside,
-- 8 directive as value, 9 as cell, 10 macro undefined"
abbrev pub preprocessor : ℕ
preprocessor = 1

abbrev pub include : ℕ
include = 2

abbrev pub label_not_found : ℕ
label_not_found = 3

abbrev pub node_not_found : ℕ
node_not_found = 4

abbrev pub subnode_outside : ℕ
subnode_outside = 5

abbrev pub root_inside : ℕ
root_inside = 6

abbrev pub property_outside : ℕ
property_outside = 7

abbrev pub directive_as_value : ℕ
directive_as_value = 8

abbrev pub directive_as_cell : ℕ
directive_as_cell = 9

abbrev pub macro_undefined : ℕ
macro_undefined = 10

-- "11 to 19 … above": an odd count of hex digits; a width, a character, a reference's width, an expression cell; a number's text
abbrev pub odd_digits : ℕ
odd_digits = 11

abbrev pub width_unsupported : ℕ
width_unsupported = 12

abbrev pub character_too_large : ℕ
character_too_large = 13

abbrev pub reference_width : ℕ
reference_width = 14

abbrev pub cell_outside : ℕ
cell_outside = 15

abbrev pub number_empty : ℕ
number_empty = 16

abbrev pub not_a_digit : ℕ
not_a_digit = 17

abbrev pub number_too_large : ℕ
number_too_large = 18

abbrev pub number_too_small : ℕ
number_too_small = 19

-- "20 duplicate label, 21 version directive late, 22 plugin directive misplaced, 23 definition before version"
abbrev pub duplicate_label : ℕ
duplicate_label = 20

abbrev pub version_late : ℕ
version_late = 21

abbrev pub plugin_misplaced : ℕ
plugin_misplaced = 22

abbrev pub before_version : ℕ
before_version = 23

-- "24 to 26 above": of an operator's result
abbrev pub outside64_bits : ℕ
outside64_bits = 24

abbrev pub zero_divisor : ℕ
zero_divisor = 25

abbrev pub shift_amount : ℕ
shift_amount = 26

-- 02, request 5: "More than one match counts as not found, with code 29 and 4's text in place of 4"
abbrev pub node_ambiguous : ℕ
node_ambiguous = 29
