-- A definition is made before its labels and values, and a cell list before its cells: what one part more does to the state, and what a
-- binding taken out by its place does.
use Rattle.std.specs.Prelude.{ℕ, zero, suc, ◌+◌, List, [], ◌∷◌, ◌++◌, Bool, true, false, length}
use Rattle.definition_log.specs.meaning.Contents.{Cell, Value, string, cell_list, bytestring, phandle, DefValue, node, property}
use Rattle.definition_log.specs.meaning.Contents.{deleted_node}
use Rattle.definition_log.specs.meaning.Contents.{deleted_property, version, plugin, Def}
use Rattle.making.specs.meaning.State.{cell_bytes, value_bytes, State}

-- the last of a list changed
unfoldable pub on_last : {A : Type 0} → (A → A) → List A → List A
on_last f [] = []
on_last f (a ∷ []) = f a ∷ []
on_last f (a ∷ b ∷ l) = a ∷ on_last f (b ∷ l)

-- a node with one label more, a property with one value more, and with one cell more in its last value
abbrev pub with_label : List ℕ → DefValue → DefValue
with_label l (node ls o) = node (ls ++ l ∷ []) o
with_label l (property vs) = property vs
with_label l deleted_node = deleted_node
with_label l deleted_property = deleted_property
with_label l version = version
with_label l plugin = plugin

abbrev pub on_values : (List Value → List Value) → DefValue → DefValue
on_values f (node ls o) = node ls o
on_values f (property vs) = property (f vs)
on_values f deleted_node = deleted_node
on_values f deleted_property = deleted_property
on_values f version = version
on_values f plugin = plugin

abbrev pub with_cell : Cell → Value → Value
with_cell c (string s) = string s
with_cell c (cell_list w cs) = cell_list w (cs ++ c ∷ [])
with_cell c (bytestring b) = bytestring b
with_cell c (phandle t) = phandle t

-- the newest definition's value changed by one part, whose texts have so many bytes
abbrev pub changed : (DefValue → DefValue) → Def → Def
changed f d = record { path = d.path; value = f d.value; span = d.span; name_span = d.name_span }

unfoldable pub add_part : (DefValue → DefValue) → ℕ → State → State
add_part f size s =
    record {
      defs = on_last (changed f) s.defs;
      exts = s.exts;
      binds = s.binds;
      diags = s.diags;
      records = s.records + 1;
      bytes = s.bytes + size;
    }

abbrev pub add_label : List ℕ → State → State
add_label l s = add_part (with_label l) (length l) s

abbrev pub add_value : Value → State → State
add_value v s = add_part (on_values (λ vs. vs ++ v ∷ [])) (value_bytes v) s

abbrev pub add_cell : Cell → State → State
add_cell c s = add_part (on_values (on_last (with_cell c))) (cell_bytes c) s

-- the newest definition is a node, a property, one whose last value is a cell list
unfoldable pub last_is : {A : Type 0} → (A → Bool) → List A → Bool
last_is p [] = false
last_is p (a ∷ []) = p a
last_is p (a ∷ b ∷ l) = last_is p (b ∷ l)

abbrev pub is_node : DefValue → Bool
is_node (node ls o) = true
is_node (property vs) = false
is_node deleted_node = false
is_node deleted_property = false
is_node version = false
is_node plugin = false

abbrev pub is_cell_list : Value → Bool
is_cell_list (string s) = false
is_cell_list (cell_list w cs) = true
is_cell_list (bytestring b) = false
is_cell_list (phandle t) = false

abbrev pub is_property_with : (List Value → Bool) → DefValue → Bool
is_property_with p (node ls o) = false
is_property_with p (property vs) = p vs
is_property_with p deleted_node = false
is_property_with p deleted_property = false
is_property_with p version = false
is_property_with p plugin = false

abbrev pub newest_is : (DefValue → Bool) → State → Bool
newest_is p s = last_is (λ (d : Def). p d.value) s.defs

abbrev pub in_node : State → Bool
in_node s = newest_is is_node s

abbrev pub in_property : State → Bool
in_property s = newest_is (is_property_with (λ vs. true)) s

abbrev pub in_cell_list : State → Bool
in_cell_list s = newest_is (is_property_with (last_is is_cell_list)) s

-- one binding removed, by its place among them
unfoldable pub remove_at : {A : Type 0} → ℕ → List A → List A
remove_at n [] = []
remove_at zero (a ∷ l) = l
remove_at (suc n) (a ∷ l) = a ∷ remove_at n l

unfoldable pub unbind_at : ℕ → State → State
unbind_at n s =
    record {
      defs = s.defs;
      exts = s.exts;
      binds = remove_at n s.binds;
      diags = s.diags;
      records = s.records;
      bytes = s.bytes;
    }
