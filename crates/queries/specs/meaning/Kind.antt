-- What kind of definition one is.
use Rattle.std.specs.Prelude.{Bool, true, false, cond, List}
use Rattle.paths_numbers.specs.meaning.Lists.{any}
use Rattle.definition_log.specs.meaning.Contents.{DefValue, node, property, deleted_node, deleted_property, version, plugin, Def}

abbrev pub is_node : DefValue → Bool
is_node (node l o) = true
is_node (property v) = false
is_node deleted_node = false
is_node deleted_property = false
is_node version = false
is_node plugin = false

abbrev pub is_property : DefValue → Bool
is_property (node l o) = false
is_property (property v) = true
is_property deleted_node = false
is_property deleted_property = false
is_property version = false
is_property plugin = false

abbrev pub is_deleted_node : DefValue → Bool
is_deleted_node (node l o) = false
is_deleted_node (property v) = false
is_deleted_node deleted_node = true
is_deleted_node deleted_property = false
is_deleted_node version = false
is_deleted_node plugin = false

abbrev pub is_deleted_property : DefValue → Bool
is_deleted_property (node l o) = false
is_deleted_property (property v) = false
is_deleted_property deleted_node = false
is_deleted_property deleted_property = true
is_deleted_property version = false
is_deleted_property plugin = false

abbrev pub is_plugin : DefValue → Bool
is_plugin (node l o) = false
is_plugin (property v) = false
is_plugin deleted_node = false
is_plugin deleted_property = false
is_plugin version = false
is_plugin plugin = true

-- a deleted node or a deleted property
abbrev pub is_deletion : DefValue → Bool
is_deletion v = cond (is_deleted_node v) true (is_deleted_property v)

-- a property or a deleted property: what takes the place of an earlier property
abbrev pub is_of_property : DefValue → Bool
is_of_property v = cond (is_property v) true (is_deleted_property v)

-- "already has a plugin directive" (sets_overlay)
unfoldable pub sets_overlay : List Def → Bool
sets_overlay defs = any (λ (d : Def). is_plugin d.value) defs
