-- The removal of bindings along their chain: each turn, and its start and end.
use Prim.Native.Nat.{ℕ, zero, suc, ◌+◌, ◌-◌, ◌≤◌}
use mathlib.Core.Path.{◌≡◌, refl, sym, ap, subst, ◌∙◌}
use mathlib.Core.Bool.{Bool, true, false}
use mathlib.Core.List.{List, [], ◌∷◌, ◌++◌, map, append_assoc, append-nil, map-append}
use native.Mathlib.Omega.{arith}
use borrow.Author.Tests.{eqb-true}
use lib.Dec.{eqb}
use lib.ListN.{length, take, length-append, length-map}
use lib.Seq.{append_snoc, take_all}
use Rattle.paths_numbers.specs.meaning.Path.{joined}
use Rattle.paths_numbers.proofs.Texts.{by_test, not_both}
use Rattle.making.specs.declared.ctx.LowerCtx.{LowerCtx}
use Rattle.definition_log.specs.meaning.Contents.{Def, Binding}
use Rattle.definition_log.specs.meaning.Record.{one_of, next_of, first_text, second_text, leads, log_count}
use Rattle.definition_log.specs.meaning.ReadBack.{chain_from, chain_of, binding_at, read_bindings, read_defs}
use Rattle.making.specs.meaning.State.{State}
use Rattle.making.specs.machine.Adding.{remove_at, unbind_at}
use Rattle.making.specs.machine.Represents.{Context, Represents, last_number, Unlinks}
use Rattle.making.proofs.InHand.{represents_defs, represents_bindings, place_reads}
use Rattle.paths_numbers.specs.meaning.Lists.{any}
use Rattle.queries.specs.meaning.Live.{live}
use Rattle.queries.specs.meaning.Labels.{has_label_at}
use Rattle.std.specs.Prelude.{Option as Maybe, Some, None, MatchOption}
use Rattle.definition_log.specs.machine.ChainLeft.{goes_on, Stopped, Stepped}
use Rattle.definition_log.specs.declared.chain.Walk.{Walk as Cursor}
use Rattle.definition_log.proofs.ChainLeft.{goes, stops, goes_left}
use Rattle.items.specs.meaning.Unbind.{binds_label_of, without, unbind}
use Rattle.items.specs.machine.Unbinding.{base_of, goes_with, stop_of, with_binds, Passes, takes, leaves, Stays, passed, ahead, BaseAt}
use Rattle.items.specs.machine.Unbinding.{at_named, at_there, at_given, at_bound, at_below, Walk, Unbinds}
use Rattle.items.specs.declared.unbind.Unbound.{Unbound}
use Rattle.items.specs.declared.unbind.Base.{Base}
use Rattle.resolving.proofs.Leading.{last_snoc, any_append}

-- lists: two that are equal in two parts, the first of which are as long
same_rest : {A : Type 0} (xs ys us vs : List A) → xs ++ ys ≡ us ++ vs → length xs ≡ length us → ys ≡ vs
same_rest [] ys [] vs e h = e
same_rest [] ys (u ∷ us) vs e h = absurd (omega arith)
same_rest (x ∷ xs) ys [] vs e h = absurd (omega arith)
same_rest (x ∷ xs) ys (u ∷ us) vs e h = same_rest xs ys us vs (cc) (omega arith)

same_front : {A : Type 0} (xs ys us vs : List A) → xs ++ ys ≡ us ++ vs → length xs ≡ length us → xs ≡ us
same_front [] ys [] vs e h = refl
same_front [] ys (u ∷ us) vs e h = absurd (omega arith)
same_front (x ∷ xs) ys [] vs e h = absurd (omega arith)
same_front (x ∷ xs) ys (u ∷ us) vs e h = let t = same_front xs ys us vs (cc) (omega arith) in cc

pub removed_at : {A : Type 0} (xs : List A) (x : A) (ys : List A) (n : ℕ) → n ≡ length xs → remove_at n (xs ++ x ∷ ys) ≡ xs ++ ys
unfolding remove_at
removed_at [] x ys n e = rw e refl
removed_at (a ∷ xs) x ys n e = rw e (ap (λ (l : List _). a ∷ l) (removed_at xs x ys (length xs) refl))

-- a member of a list
member_later : (r : ℕ) (xs ys : List ℕ) → one_of r xs ≡ true → one_of r (xs ++ ys) ≡ true
unfolding one_of
member_later r [] ys h = absurd (not_both h refl)
member_later r (x ∷ xs) ys h = by_test (eqb r x) (λ q. rw q refl) (λ q. rw q (member_later r xs ys (rw q at h)))

pub member_behind : (r : ℕ) (xs ys : List ℕ) → one_of r ys ≡ true → one_of r (xs ++ ys) ≡ true
unfolding one_of
member_behind r [] ys h = h
member_behind r (x ∷ xs) ys h = by_test (eqb r x) (λ q. rw q refl) (λ q. rw q (member_behind r xs ys h))

member_same : {A : Type 0} (f g : ℕ → A) (l : List ℕ) (r : ℕ) → map f l ≡ map g l → one_of r l ≡ true → f r ≡ g r
unfolding one_of
member_same f g [] r e h = absurd (not_both h refl)
member_same f g (x ∷ l) r e h =
    by_test (eqb r x)
    (λ q. rw (eqb-true r x q) (cc))
    (λ q. member_same f g l r (cc) (rw q at h))

-- bindings of nodes that are gone: of two lists, of one more
pub without_append : (ds : List Def) (xs ys : List Binding) → without ds (xs ++ ys) ≡ without ds xs ++ without ds ys
unfolding without
without_append ds [] ys = refl
without_append ds (x ∷ xs) ys =
    by_test (any (binds_label_of x) ds)
    (λ q. rw q (without_append ds xs ys))
    (λ q. rw q (ap (λ (l : List Binding). x ∷ l) (without_append ds xs ys)))

without_gone : (ds : List Def) (xs : List Binding) (x : Binding) → any (binds_label_of x) ds ≡ true
    → without ds (xs ++ x ∷ []) ≡ without ds xs
unfolding without
without_gone ds xs x h = without_append ds xs (x ∷ []) ∙ rw (h, append-nil) refl

without_left : (ds : List Def) (xs : List Binding) (x : Binding) → any (binds_label_of x) ds ≡ false
    → without ds (xs ++ x ∷ []) ≡ without ds xs ++ x ∷ []
unfolding without
without_left ds xs x h = without_append ds xs (x ∷ []) ∙ rw h refl

-- chains: the rest of one from a record on
chain_rest : (f : ℕ) (w : List ℕ) (r : ℕ) (ns : List ℕ) (m : ℕ) (ms : List ℕ) → chain_from f w r ≡ ns ++ m ∷ ms
    → chain_from (f - length ns) w m ≡ m ∷ ms
unfolding chain_from
chain_rest zero w r [] m ms e = let z : ◌≡◌ {A = ℕ} 0 1 = cc in absurd (omega arith)
chain_rest zero w r (n ∷ ns) m ms e = let z : ◌≡◌ {A = ℕ} 0 1 = cc in absurd (omega arith)
chain_rest (suc f) w r [] m ms e =
    by_test (leads w r)
    (λ q.
    let h : r ≡ m = cc (rw q at e) in
    let i : suc f - 0 ≡ suc f = omega arith in
    ap (λ (x : ℕ). chain_from (suc f - 0) w x) (sym h) ∙ ap (λ (j : ℕ). chain_from j w r) i ∙ e)
    (λ q. let z : ◌≡◌ {A = ℕ} 0 1 = cc (rw q at e) in absurd (omega arith))
chain_rest (suc f) w r (n ∷ ns) m ms e =
    let i : suc f - suc (length ns) ≡ f - length ns = omega arith in
    by_test (leads w r)
    (λ q. rw i (chain_rest f w (next_of w r) ns m ms (cc (rw q at e))))
    (λ q. let z : ◌≡◌ {A = ℕ} 0 1 = cc (rw q at e) in absurd (omega arith))

-- with less to go it is cut
chain_cut : (f g : ℕ) (w : List ℕ) (r : ℕ) → g ≤ f → chain_from g w r ≡ take g (chain_from f w r)
unfolding chain_from
chain_cut f zero w r h = refl
chain_cut zero (suc g) w r h = absurd (omega arith)
chain_cut (suc f) (suc g) w r h =
    by_test (leads w r)
    (λ q. rw q (ap (λ (l : List ℕ). r ∷ l) (chain_cut f g w (next_of w r) (omega arith))))
    (λ q. rw q refl)

chain_length : (f : ℕ) (w : List ℕ) (r : ℕ) → length (chain_from f w r) ≤ f
unfolding chain_from
chain_length zero w r = omega arith
chain_length (suc f) w r = by_test (leads w r) (λ q. rw q (omega (arith, chain_length f w (next_of w r)))) (λ q. rw q (omega arith))

chain_head : (f : ℕ) (w : List ℕ) (r m : ℕ) (ms : List ℕ) → chain_from f w r ≡ m ∷ ms → r ≡ m
unfolding chain_from
chain_head zero w r m ms e = let z : ◌≡◌ {A = ℕ} 0 1 = cc in absurd (omega arith)
chain_head (suc f) w r m ms e =
    by_test (leads w r) (λ q. cc (rw q at e)) (λ q. let z : ◌≡◌ {A = ℕ} 0 1 = cc (rw q at e) in absurd (omega arith))

chain_over : (f : ℕ) (v w : List ℕ) (r : ℕ) → log_count w ≡ log_count v → chain_from f v r ≡ [] → chain_from f w r ≡ []
unfolding chain_from
chain_over zero v w r h e = refl
chain_over (suc f) v w r h e =
    by_test (leads v r)
    (λ q. let z : ◌≡◌ {A = ℕ} 0 1 = cc (rw q at e) in absurd (omega arith))
    (λ q. let t : leads w r ≡ false = rw h q in rw t refl)

-- what is ahead of a walk is the same after a record before it was taken out of the chain
chain_ahead : (left : ℕ) (v w : List ℕ) (next first : ℕ) (ns : List ℕ) → log_count w ≡ log_count v → left + length ns ≤ log_count v
    → chain_of w first ≡ ns ++ chain_from left v next
    → chain_from left w next ≡ chain_from left v next
unfolding chain_of
chain_ahead left v w next first ns h fits e = go (chain_from left v next) refl
  where
    go : (ms : List ℕ) → chain_from left v next ≡ ms → chain_from left w next ≡ chain_from left v next
    go [] q = chain_over left v w next h q ∙ sym q
    go (m ∷ ms) q =
        let i : next ≡ m = chain_head left v next m ms q in
        let long : length (m ∷ ms) ≤ left = rw q at (chain_length left v next) in
        let whole = chain_rest (log_count w) w first ns m ms (e ∙ ap (λ (l : List ℕ). ns ++ l) q) in
        chain_cut (log_count w - length ns) left w next (rw h (omega arith))
        ∙ ap (λ (x : ℕ). take left (chain_from (log_count w - length ns) w x)) i
        ∙ ap (take left) whole ∙ take_all left (m ∷ ms) long ∙ sym q

-- the base is read as its path
base_reads : {k : Context} {w b : List ℕ} {until : Maybe (List ℕ)} {ns ms p : List ℕ} {base : Base} {d : LowerCtx} {t : State}
    → BaseAt k w b until ns ms p base → Represents k d w b t → d.short ≡ false → base_of d.bytes w b base ≡ p
unfolding base_of
base_reads {w = w} {b} {d = d} {t} (at_named place below parent k e q) h n =
    ap (λ (x : List ℕ). joined x below.name.now below.unit.now) (place_reads (subst (λ (y : Context). Represents y d w b t) e h) n) ∙ sym q
base_reads {w = w} {b} {d = d} {t} (at_there place k e) h n = place_reads (subst (λ (y : Context). Represents y d w b t) e h) n
base_reads (at_given path q) h n = sym q
base_reads (at_bound r m q) h n = sym q
base_reads (at_below r below m q) h n = sym q

-- it is still, after a binding was passed, and after one was taken out
module _ (w b : List ℕ) (until : Maybe (List ℕ)) (r x : ℕ) (ns ms : List ℕ) where
  stays_passed : Stays w b until r ns (x ∷ ms) → Stays w b until r (ns ++ x ∷ []) ms
  unfolding one_of
  stays_passed (passed h) = passed (member_later r ns (x ∷ []) h)
  stays_passed (ahead h s) =
      by_test (eqb r x)
      (λ q. passed (member_behind r ns (x ∷ []) (rw q refl)))
      (λ q. ahead (rw q at h) s)

  -- x has not the label
  module _ (v c : List ℕ) (other : stop_of until (binding_at w b x) ≡ false)
      (agree : map (binding_at v c) (ns ++ ms) ≡ map (binding_at w b) (ns ++ ms)) where
    not_this : one_of r (x ∷ ms) ≡ true → stop_of until (binding_at w b r) ≡ true → one_of r ms ≡ true
    unfolding one_of
    not_this h s =
        by_test (eqb r x)
        (λ q. absurd (not_both (ap (λ (n : ℕ). stop_of until (binding_at w b n)) (sym (eqb-true r x q)) ∙ s) other))
        (λ q. rw q at h)

    still_there : Stays w b until r ns (x ∷ ms) → one_of r (ns ++ ms) ≡ true
    still_there (passed h) = member_later r ns ms h
    still_there (ahead h s) = member_behind r ns ms (not_this h s)

    same_binding : Stays w b until r ns (x ∷ ms) → binding_at v c r ≡ binding_at w b r
    same_binding m = member_same (binding_at v c) (binding_at w b) (ns ++ ms) r agree (still_there m)

    same_path_lem : Stays w b until r ns (x ∷ ms) → second_text w b r ≡ second_text v c r
    unfolding binding_at
    same_path_lem m = ap (λ (y : Binding). y.path) (sym (same_binding m))

    stays_taken : Stays w b until r ns (x ∷ ms) → Stays v c until r ns ms
    unfolding binding_at
    stays_taken (passed h) = passed h
    stays_taken (ahead h s) = ahead (not_this h s) (ap (stop_of until) (same_binding (ahead h s)) ∙ s)

module _ {k : Context} {w b : List ℕ} {until : Maybe (List ℕ)} {x : ℕ} {ns ms p : List ℕ} where
  base_passed : {base : Base} → BaseAt k w b until ns (x ∷ ms) p base
      → BaseAt k w b until (ns ++ x ∷ []) ms p base
  base_passed (at_named place below parent k' e q) = at_named place below parent k' e q
  base_passed (at_there place k' e) = at_there place k' e
  base_passed (at_given path q) = at_given path q
  base_passed (at_bound r m q) = at_bound r (stays_passed w b until r x ns ms m) q
  base_passed (at_below r below m q) = at_below r below (stays_passed w b until r x ns ms m) q

  module _ {v c : List ℕ} (other : stop_of until (binding_at w b x) ≡ false)
      (agree : map (binding_at v c) (ns ++ ms) ≡ map (binding_at w b) (ns ++ ms)) where
    base_taken : {base : Base} → BaseAt k w b until ns (x ∷ ms) p base → BaseAt k v c until ns ms p base
    base_taken (at_named place below parent k' e q) = at_named place below parent k' e q
    base_taken (at_there place k' e) = at_there place k' e
    base_taken (at_given path q) = at_given path q
    base_taken (at_bound r m q) = at_bound r (stays_taken w b until r x ns ms v c other agree m)
        (q ∙ same_path_lem w b until r x ns ms v c other agree m)
    base_taken (at_below r below m q) = at_below r below (stays_taken w b until r x ns ms v c other agree m)
        (q ∙ ap (λ (y : List ℕ). joined y below.name.now below.unit.now) (same_path_lem w b until r x ns ms v c other agree m))

-- one turn of a walk
module _ {base : Base} {until : Maybe (List ℕ)} {k : Context} {s : State} {front : List Binding} {p : List ℕ}
    {d : LowerCtx} {w b : List ℕ} {previous r left : ℕ}
    (o : Walk base until k s front p d w b previous r left)
  where
    abbrev ds : List Def
    ds = live p s.defs

    abbrev kept : List Binding
    kept = front ++ without ds o.done

    -- the bindings passed, and those ahead
    all_are : map (binding_at w b) o.ns ++ map (binding_at w b) (chain_from left w r) ≡ kept ++ o.todo
    unfolding read_bindings
    all_are =
        sym (map-append (binding_at w b) o.ns (chain_from left w r)) ∙ ap (map (binding_at w b)) (sym o.chain)
        ∙ represents_bindings o.now o.going

    as_many : length (map (binding_at w b) o.ns) ≡ length kept
    as_many = length-map o.ns (binding_at w b) ∙ o.sized

    kept_is : map (binding_at w b) o.ns ≡ kept
    kept_is = same_front (map (binding_at w b) o.ns) _ kept o.todo all_are as_many

    pub todo_is : map (binding_at w b) (chain_from left w r) ≡ o.todo
    todo_is = same_rest (map (binding_at w b) o.ns) _ kept o.todo all_are as_many

    module _ (goes_here : goes_on w r left ≡ true) (other : stop_of until (binding_at w b r) ≡ false) where
      abbrev x : Binding
      x = binding_at w b r

      abbrev later : List ℕ
      later = chain_from (left - 1) w (next_of w r)

      chain_here : chain_from left w r ≡ r ∷ later
      chain_here = goes w r left goes_here

      todo_here : o.todo ≡ x ∷ map (binding_at w b) later
      todo_here = sym todo_is ∙ ap (map (binding_at w b)) chain_here

      split_here : s.binds ≡ front ++ ((o.done ++ x ∷ []) ++ map (binding_at w b) later)
      split_here = o.split ∙ rw (todo_here, append_snoc) refl

      room_here : left ≡ suc (left - 1)
      room_here = omega (arith, goes_left w r left goes_here)

      at_here : BaseAt k w b until o.ns (r ∷ later) p base
      at_here = subst (λ (l : List ℕ). BaseAt k w b until o.ns l p base) chain_here o.at

      unlabelled_here : any (stop_of until) (o.done ++ x ∷ []) ≡ false
      unfolding any
      unlabelled_here = any_append (stop_of until) o.done (x ∷ []) o.unlabelled ∙ rw other refl

      -- whether it goes
      goes_as : goes_with w b d.defs.first (base_of d.bytes w b base) r ≡ any (binds_label_of x) ds
      unfolding goes_with
      goes_as = rw (base_reads o.at o.now o.going, represents_defs o.now o.going) refl

      pub walk_leave : goes_with w b d.defs.first (base_of d.bytes w b base) r ≡ false → (next : ℕ) → next ≡ next_of w r
          → Walk base until k s front p d w b r next (left - 1)
      walk_leave f next e =
          let still : front ++ without ds (o.done ++ x ∷ []) ≡ kept ++ x
          ∷ [] = rw (without_left ds o.done x (sym goes_as ∙ f), append_assoc) refl in
          rw e
          (record {
            done = o.done ++ x ∷ [];
            todo = map (binding_at w b) later;
            ns = o.ns ++ r ∷ [];
            going = o.going;
            split = split_here;
            now = subst (λ (l : List Binding). Represents k d w b (with_binds s l)) (rw (todo_here, still, append_snoc) refl) o.now;
            chain = o.chain ∙ rw (chain_here, append_snoc) refl;
            sized = length-append o.ns (r ∷ []) ∙ ap (λ (n : ℕ). n + 1) o.sized ∙ sym (ap length still ∙ length-append kept (x ∷ []));
            last_is = sym (last_snoc o.ns r);
            room = omega (arith, room_here, length-append o.ns (r ∷ []), o.room);
            at = base_passed at_here;
            unlabelled = unlabelled_here;
          })

      module _ {d₁ : LowerCtx} {w₁ b₁ : List ℕ} (u : Unlinks d d₁ w b w₁ b₁ previous r) (q : log_count w₁ ≡ log_count w) (next : ℕ)
          (e : next ≡ next_of w r) where
        abbrev ahead_of : List Binding
        ahead_of = map (binding_at w b) later

        removed : remove_at (length o.ns) (kept ++ o.todo) ≡ kept ++ ahead_of
        removed = ap (λ (l : List Binding). remove_at (length o.ns) (kept ++ l)) todo_here
            ∙ removed_at kept x ahead_of (length o.ns) o.sized

        done_so : Represents k d₁ w₁ b₁ (unbind_at (length o.ns) (with_binds s (kept ++ o.todo))) × (d₁.short ≡ false)
            × (chain_of w₁ d₁.binds.first ≡ o.ns ++ later)
        done_so = u.steps k (with_binds s (kept ++ o.todo)) o.ns later o.now o.going
            (o.chain ∙ ap (λ (l : List ℕ). o.ns ++ l) chain_here) o.last_is

        now_so : Represents k d₁ w₁ b₁ (with_binds s (kept ++ ahead_of))
        unfolding unbind_at
        now_so = subst (λ (l : List Binding). Represents k d₁ w₁ b₁ (with_binds s l)) removed done_so.0

        ahead_so : chain_from (left - 1) w₁ next ≡ later
        ahead_so =
            let same_ahead : later ≡ chain_from (left - 1) w next = ap (chain_from (left - 1) w) (sym e) in
            chain_ahead (left - 1) w w₁ next d₁.binds.first o.ns q (omega (arith, room_here, o.room))
            (done_so.2 ∙ ap (λ (l : List ℕ). o.ns ++ l) same_ahead)
            ∙ sym same_ahead

        agree_so : map (binding_at w₁ b₁) (o.ns ++ later) ≡ map (binding_at w b) (o.ns ++ later)
        unfolding read_bindings
        agree_so =
            ap (map (binding_at w₁ b₁)) (sym done_so.2) ∙ represents_bindings now_so done_so.1
            ∙ ap (λ (l : List Binding). l ++ ahead_of) (sym kept_is) ∙ sym (map-append (binding_at w b) o.ns later)

        pub walk_take : goes_with w b d.defs.first (base_of d.bytes w b base) r ≡ true
            → Walk base until k s front p d₁ w₁ b₁ previous next (left - 1)
        walk_take f =
            let gone = without_gone ds o.done x (sym goes_as ∙ f) in
            record {
              done = o.done ++ x ∷ [];
              todo = ahead_of;
              ns = o.ns;
              going = done_so.1;
              split = split_here;
              now = rw gone now_so;
              chain = done_so.2 ∙ ap (λ (l : List ℕ). o.ns ++ l) (sym ahead_so);
              sized = rw gone o.sized;
              last_is = o.last_is;
              room = rw q (omega (arith, room_here, o.room));
              at = subst (λ (l : List ℕ). BaseAt k w₁ b₁ until o.ns l p base) (sym ahead_so)
                  (base_taken other agree_so at_here);
              unlabelled = unlabelled_here;
            }

      -- either way
      pub walk_on : {d₁ : LowerCtx} {w₁ b₁ : List ℕ} {previous₁ : ℕ}
          → Passes d d₁ w b w₁ b₁ (base_of d.bytes w b base) previous r previous₁
          → log_count w₁ ≡ log_count w → (next : ℕ) → next ≡ next_of w r
          → Walk base until k s front p d₁ w₁ b₁ previous₁ next (left - 1)
      walk_on (takes f u) q next e = walk_take u q next e f
      walk_on (leaves f i j l) q next e = rw (i, j, l) (walk_leave f next e)

-- along a step of the walk
module _ {base : Base} {until : Maybe (List ℕ)} {k : Context} {s : State} {front : List Binding} {p : List ℕ}
    {d : LowerCtx} {w b : List ℕ} {previous r : ℕ} {from to : Cursor} (step : Stepped w from to r)
    (o : Walk base until k s front p d w b previous from.next from.left)
  where
    pub walk_here : Walk base until k s front p d w b previous r from.left
    walk_here = subst (λ (n : ℕ). Walk base until k s front p d w b previous n from.left) step.here o

    pub walk_step : stop_of until (binding_at w b r) ≡ false → {d₁ : LowerCtx} {w₁ b₁ : List ℕ} {previous₁ : ℕ}
        → Passes d d₁ w b w₁ b₁ (base_of d.bytes w b base) previous r previous₁
        → log_count w₁ ≡ log_count w
        → Walk base until k s front p d₁ w₁ b₁ previous₁ to.next to.left
    walk_step n {d₁} {w₁} {b₁} {previous₁} q e =
        subst (λ (j : ℕ). Walk base until k s front p d₁ w₁ b₁ previous₁ to.next j) (sym step.left)
        (walk_on walk_here step.going n q e to.next step.next)

-- a state with its own bindings
with_own : (s : State) → with_binds s s.binds ≡ s
with_own s = refl

-- the start of a walk, at the first binding
pub walk_start : {base : Base} {until : Maybe (List ℕ)} {k : Context} {s : State} {p : List ℕ} {c : LowerCtx}
    {words bytes : List ℕ} {from : Cursor}
    → Represents k c words bytes s → c.short ≡ false → from ≡ record { next = c.binds.first; left = log_count words }
    → BaseAt k words bytes until [] (chain_of words c.binds.first) p base
    → Walk base until k s [] p c words bytes 0 from.next from.left
unfolding without chain_of last_number any
walk_start {s = s} h n e a =
    rw e
    (record {
      done = [];
      todo = s.binds;
      ns = [];
      going = n;
      split = refl;
      now = h;
      chain = refl;
      sized = refl;
      last_is = refl;
      room = omega arith;
      at = a;
      unlabelled = refl;
    })

-- and its end, behind the last
module _ {base : Base} {until : Maybe (List ℕ)} {k : Context} {s : State} {front : List Binding} {p : List ℕ}
    {d : LowerCtx} {w b : List ℕ} {previous : ℕ} {last rest : Cursor}
    (o : Walk base until k s front p d w b previous last.next last.left) (t : Stopped w last rest)
  where
    pub nothing_left : o.todo ≡ []
    nothing_left = sym (todo_is o) ∙ ap (map (binding_at w b)) (stops w last.next last.left t.stops)

    pub walk_ended : (bs : List Binding) → s.binds ≡ front ++ bs
        → Represents k d w b (with_binds s (front ++ without (live p s.defs) bs))
    walk_ended bs e =
        let all : o.done ≡ bs = same_rest front o.done front bs (sym (o.split ∙ rw (nothing_left, append-nil) refl) ∙ e) refl in
        subst (λ (l : List Binding). Represents k d w b (with_binds s l)) (rw (nothing_left, append-nil, all) refl) o.now

-- a walk up to no label is one to the end
pub to_the_end : {base : Base} {c : LowerCtx} {words bytes w b : List ℕ} {previous : ℕ} {from : Cursor} {u : Unbound}
    (x : Unbinds base None c words bytes w b previous from u) → Stopped w x.last u.rest
to_the_end {w = w} {b} {u = u} x = go u.here x.ends
  where
    go : (here : Maybe ℕ)
        → MatchOption here (Stopped w x.last u.rest) (λ r. Stepped w x.last u.rest r × (stop_of None (binding_at w b r) ≡ true))
        → Stopped w x.last u.rest
    go None m = m
    go (Some r) m = absurd (not_both m.1 refl)

-- a walk along all bindings
pub unbinds_all : {base : Base} {until : Maybe (List ℕ)} {k : Context} {s : State} {p : List ℕ} {d : LowerCtx}
    {w b : List ℕ} {previous : ℕ} {last rest : Cursor}
    → Walk base until k s [] p d w b previous last.next last.left → Stopped w last rest
    → Represents k d w b (unbind p s)
unfolding unbind
unbinds_all {s = s} o t = walk_ended o t s.binds refl

-- a log's count is its words'
pub count_same : (v w : List ℕ) → length v ≡ length w → log_count v ≡ log_count w
unfolding log_count
count_same v w e = rw e refl

-- whether a binding goes, by how its texts and the base are read
pub goes_by : {t : Bool} {l q : List ℕ} (words bytes : List ℕ) (defs : ℕ) (base : List ℕ) (r : ℕ)
    → t ≡ any (has_label_at l q) (live base (read_defs words bytes defs))
    → l ≡ first_text words bytes r → q ≡ second_text words bytes r
    → t ≡ goes_with words bytes defs base r
unfolding goes_with binding_at
goes_by words bytes defs base r e a b = e ∙ rw (a, b) refl
