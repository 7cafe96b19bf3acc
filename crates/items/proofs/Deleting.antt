-- Deletions of nodes: by name, by a live node's path, by a definition of it.
use Prim.Native.Nat.{ℕ}
use mathlib.Core.Path.{◌≡◌, refl, ap, subst, ◌∙◌}
use mathlib.Core.Bool.{Bool, true, false, cond}
use mathlib.Core.List.{List, [], ◌∷◌, ◌++◌, map}
use Rattle.std.specs.Borrow.{Bor}
use Rattle.paths_numbers.specs.meaning.Text.{same}
use Rattle.paths_numbers.specs.meaning.Path.{joined}
use Rattle.paths_numbers.proofs.Texts.{by_test, not_both, both}
use Rattle.making.specs.declared.ctx.LowerCtx.{LowerCtx}
use Rattle.making.specs.declared.place.PathAt.{PathAt}
use Rattle.definition_log.specs.declared.parts.Span.{Span as LogSpan}
use Rattle.making.specs.declared.recs.DefKind.TheVariants as D
use Rattle.making.specs.machine.Recs.{bare_def}
use Rattle.definition_log.specs.machine.Parts.{meant}
use Rattle.definition_log.specs.meaning.Contents.{Span, Def, deleted_node}
use Rattle.definition_log.specs.meaning.Record.{first_text}
use Rattle.definition_log.specs.meaning.ReadBack.{chain_of, def_at, read_defs}
use Rattle.making.specs.machine.PathPlaces.{path_in, placed_in}
use Rattle.making.specs.meaning.State.{State, define}
use Rattle.making.specs.machine.Represents.{with_place, Represents, Steps}
use Rattle.making.proofs.InHand.{represents_defs, place_reads, def_path, def_place, forget_place}
use Rattle.queries.specs.meaning.Kind.{is_node}
use Rattle.paths_numbers.specs.meaning.Lists.{any}
use Rattle.queries.specs.meaning.Live.{is_live, live, node_at, contains_node}
use Rattle.items.specs.meaning.Unbind.{unbind}
use Rattle.items.specs.meaning.Lower.{bare, delete_node}
use Rattle.resolving.specs.machine.Lowers.{Lowers, LowersAt}
use Rattle.resolving.specs.machine.Leading.{has_text, FirstAt}
use Rattle.items.specs.declared.unbind.Below.{Below}
use Rattle.items.specs.machine.Unbinding.{at_named, at_there, at_given, UnbindsAll}
use Rattle.items.specs.machine.Deleting.{DeletesAt, DeletesThere}
use Rattle.items.specs.declared.unbind.Base.TheVariants.{Named, There, Given}
use Rattle.resolving.proofs.Lowers.{Grows, define_grows, stays_over}

-- counts never fall
pub delete_grows : (p : List ℕ) (span : Span) → Grows (delete_node p span)
unfolding delete_node unbind
delete_grows p span =
    record {
      records = λ s. (define_grows (bare p deleted_node span)).records (unbind p s);
      bytes = λ s. (define_grows (bare p deleted_node span)).bytes (unbind p s);
    }

-- in a state that ran short nothing is done
module _ {c : LowerCtx} {words bytes : List ℕ} (z : c.short ≡ true) where
  pub short_lowers : {f : State → State} → Grows f → Lowers c c words bytes words bytes f
  short_lowers {f} g = record { lowers = λ k s r. stays_over (f s) (λ q. (q, refl, refl)) z (g.records s) (g.bytes s) r }

  pub short_under : {parent : PathAt} {f : List ℕ → State → State} → ((p : List ℕ) → Grows (f p))
      → LowersAt parent c c words bytes words bytes f
  short_under {f = f} g = record { lowers = λ k p s r. stays_over (f p s) (λ q. (q, refl, refl)) z ((g p).records s) ((g p).bytes s) r }

-- by a name under a path
pub deletes_named : {parent : PathAt} {below : Below} (span : LogSpan) {c d e : LowerCtx} {words bytes w b v u : List ℕ}
    → c.short ≡ false
    → UnbindsAll (Named parent below) c d words bytes w b
    → Steps d e w b v u (define (bare_def D.DeletedNode span span (joined (path_in d.bytes b parent) below.name.now below.unit.now)))
    → LowersAt parent c e words bytes v u (λ p s. delete_node (joined p below.name.now below.unit.now) (meant span) s)
unfolding delete_node
deletes_named {parent} {below} span {e = e} {v = v} {u} n x f =
    record {
      lowers = λ k p s r.
          let k' = with_place (record { at = parent; path = p }) k in
          let q = joined p below.name.now below.unit.now in
          let y = x.unbinds k' s q r n (at_named parent below p k refl refl) in
          subst (λ (z : List ℕ). Represents k' e v u (define (bare (joined z below.name.now below.unit.now) deleted_node (meant span)) (unbind q s)))
          (place_reads y.0 y.1)
          (f.steps k' (unbind q s) y.0 y.1);
    }

-- a live node's path is a definition's
any_or : {A : Type 0} (f : A → Bool) (xs ys : List A) → any f (xs ++ ys) ≡ true → (any f xs ≡ false → any f ys ≡ true)
unfolding any
any_or f [] ys h n = h
any_or f (x ∷ xs) ys h n = by_test (f x) (λ q. absurd (not_both (rw q refl) n)) (λ q. any_or f xs ys (rw q at h) (rw q at n))

any_live : (f : Def → Bool) (p : List ℕ) (defs : List Def) → any f (live p defs) ≡ true → any f defs ≡ true
unfolding any live
any_live f p [] h = h
any_live f p (d ∷ later) h =
    by_test (f d)
    (λ q. rw q refl)
    (λ q.
    by_test (any f (live p later))
    (λ t. rw q (any_live f p later t))
    (λ t.
    absurd
    (not_both (any_or f (live p later) (cond (is_live p d later) (d ∷ []) []) h t)
    (by_test (is_live p d later) (λ i. rw (i, q) refl) (λ i. rw i refl)))))

any_node : (p : List ℕ) (defs : List Def) → any (node_at p) defs ≡ true → any (λ (d : Def). same d.path p) defs ≡ true
unfolding any
any_node p [] h = h
any_node p (d ∷ defs) h =
    by_test (node_at p d)
    (λ q. let i = (both (is_node d.value) (same d.path p) q).1 in rw i refl)
    (λ q. by_test (same d.path p) (λ i. rw i refl) (λ i. rw i (any_node p defs (rw q at h))))

contains_path : (p : List ℕ) (defs : List Def) → contains_node p defs ≡ true → any (λ (d : Def). same d.path p) defs ≡ true
unfolding contains_node
contains_path p defs h = any_node p defs (any_live (node_at p) p defs h)

no_definition : (words bytes t : List ℕ) (ns : List ℕ) → any (has_text words bytes t) ns ≡ false
    → any (λ (d : Def). same d.path t) (map (def_at words bytes) ns) ≡ false
unfolding any def_at
no_definition words bytes t [] h = refl
no_definition words bytes t (n ∷ ns) h =
    by_test (has_text words bytes t n) (λ q. absurd (not_both (rw q refl) h)) (λ q. rw q (no_definition words bytes t ns (rw q at h)))

-- by a live node's path
pub deletes_at : {path : Bor (List ℕ)} (span : LogSpan) {number previous : ℕ} {c d e : LowerCtx} {words bytes w b v u : List ℕ}
    → UnbindsAll (Given path) c d words bytes w b → FirstAt w b d.defs.first path.now number previous
    → Steps d e w b v u (define (bare_def D.DeletedNode span span (path_in d.bytes b (placed_in w number 2))))
    → DeletesAt path.now (meant span) c e words bytes v u
unfolding delete_node unbind
deletes_at {path} span {number} {e = e} {v = v} {u} x at g =
    record {
      deletes = λ k s r n h.
          let y = x.unbinds k s path.now r n (at_given path refl) in
          subst (λ (q : List ℕ). Represents k e v u (define (bare q deleted_node (meant span)) (unbind path.now s)))
          (def_path y.0 y.1 at.before at.after number at.chain ∙ at.has)
          (g.steps k (unbind path.now s) y.0 y.1);
    }

-- a live node's path that no definition has: there is none
pub never_at : {path : Bor (List ℕ)} {span : Span} {c d : LowerCtx} {words bytes w b : List ℕ}
    → UnbindsAll (Given path) c d words bytes w b → any (has_text w b path.now) (chain_of w d.defs.first) ≡ false
    → DeletesAt path.now span c d words bytes w b
unfolding unbind read_defs
never_at {path} {d = d} {w = w} {b} x m =
    record {
      deletes = λ k s r n h.
          let y = x.unbinds k s path.now r n (at_given path refl) in
          let there : any (λ (q : Def). same q.path path.now) (read_defs w b d.defs.first) ≡ true = ap
          (any (λ (q : Def). same q.path path.now)) (represents_defs y.0 y.1) ∙ contains_path path.now s.defs h in
          absurd (not_both there (no_definition w b path.now (chain_of w d.defs.first) m));
    }

-- by a definition of it, whose path stands at a place while bindings go
pub deletes_there : (r : ℕ) (span : LogSpan) {place : PathAt} {c d e : LowerCtx} {words bytes w b v u : List ℕ}
    → place ≡ placed_in words r 2 → UnbindsAll (There place) c d words bytes w b
    → Steps d e w b v u (define (bare_def D.DeletedNode span span (path_in d.bytes b place)))
    → DeletesThere r (meant span) c e words bytes v u
unfolding delete_node
deletes_there r span {place} {c = c} {e = e} {words} {bytes} {v = v} {u} q x f =
    record {
      deletes = λ k s h n i.
          let p = first_text words bytes r in
          let k' = with_place (record { at = place; path = p }) k in
          let h' : Represents k' c words bytes s = rw q (def_place h i.before i.after r i.chain) in
          let y = x.unbinds k' s p h' n (at_there place k refl) in
          forget_place (subst (λ (z : List ℕ). Represents k' e v u (define (bare z deleted_node (meant span)) (unbind p s)))
          (place_reads y.0 y.1)
          (f.steps k' (unbind p s) y.0 y.1));
    }
