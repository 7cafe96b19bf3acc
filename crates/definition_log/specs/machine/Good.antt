-- Row 8's rules for spans and paths, of what a log says: "spans as in 4, definition and binding paths as in 9 but nonempty; a version or
-- plugin path may be empty".
use Rattle.std.specs.Prelude.{ℕ, Bool, true, false, cond, List, [], ◌∷◌, leb}
use Rattle.paths_numbers.specs.meaning.Path.{good_path}
use Rattle.definition_log.specs.meaning.Contents.{Span, DefValue, node, property, deleted_node, deleted_property, version, plugin, Def, Ext}
use Rattle.definition_log.specs.meaning.Contents.{Binding, Diag}
use Rattle.definition_log.specs.meaning.ReadBack.{Log}
use Rattle.definition_log.specs.meaning.Sound.{nonempty_path}

unfoldable pub all : {A : Type 0} → (A → Bool) → List A → Bool
all p [] = true
all p (a ∷ l) = cond (p a) (all p l) false

abbrev pub in_order : Span → Bool
in_order s = leb s.from s.to

abbrev pub path_fits : DefValue → List ℕ → Bool
path_fits (node ls o) p = nonempty_path p
path_fits (property vs) p = nonempty_path p
path_fits deleted_node p = nonempty_path p
path_fits deleted_property p = nonempty_path p
path_fits version p = good_path p
path_fits plugin p = good_path p

unfoldable pub good_def : Def → Bool
good_def d = cond (in_order d.span) (cond (in_order d.name_span) (path_fits d.value d.path) false) false

unfoldable pub good_ext : Ext → Bool
good_ext e = cond (in_order e.span) (cond (in_order e.name_span) (all good_def e.body) false) false

unfoldable pub good_binding : Binding → Bool
good_binding b = cond (in_order b.span) (nonempty_path b.path) false

unfoldable pub good_diag : Diag → Bool
good_diag d = cond (in_order d.span) (in_order d.name_span) false

unfoldable pub good_log : Log → Bool
good_log l =
    cond (all good_def l.defs)
    (cond (all good_ext l.exts)
    (cond (all good_binding l.binds)
    (cond (all good_diag l.diags) (all good_diag l.post) false)
    false)
    false)
    false
