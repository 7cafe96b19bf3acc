-- A record made at the end of the log: the words of the others stay, but for the one link that leads to it.
use Prim.Native.Nat.{ℕ, suc, ◌+◌, ◌*◌, ◌-◌, ◌≤◌, ◌<◌}
use mathlib.Core.Path.{◌≡◌, refl, sym, ap, ◌∙◌}
use mathlib.Core.Bool.{true, false, cond}
use mathlib.Core.List.{List, [], ◌∷◌, ◌++◌, append_assoc, append-nil}
use native.Mathlib.Nat.{zero-add, suc-add}
use native.Mathlib.Omega.{arith}
use borrow.Author.Tests.{eq-eqb, ne_eqb, eqb-true, eqb-false}
use lib.Dec.{eqb}
use lib.ListN.{length, set}
use lib.Seq.{set-append_left}
use Rattle.paths_numbers.proofs.Texts.{by_test, both}
use Rattle.making.specs.machine.Events.{Event, children_of, in_chain, first, last, words16, bytes_in, words_from}
use Rattle.making.specs.machine.Events.{end_of}

-- the first of a chain is there or is the new one
pub first_there : (c k : ℕ) (es : List Event) (e : Event) → 0 < k → (first c k es ≡ 0 → ⊥) → first c k (es ++ e ∷ []) ≡ first c k es
unfolding first
first_there c k [] e p n = absurd (n refl)
first_there c k (x ∷ es) e p n =
    by_test (in_chain c x) (λ t. rw t refl) (λ t. rw t (first_there c (k + 1) es e (omega arith) (λ z. n (rw t z))))

pub first_new : (c k : ℕ) (es : List Event) (e : Event) → 0 < k → first c k es ≡ 0 → in_chain c e ≡ true
    → first c k (es ++ e ∷ []) ≡ k + length es
unfolding first
first_new c k [] e p z t = rw t (omega arith)
first_new c k (x ∷ es) e p z t =
    by_test (in_chain c x)
    (λ u. absurd (omega (arith, rw u at z)))
    (λ u. rw u (first_new c (k + 1) es e (omega arith) (rw u at z) t ∙ omega arith))

pub first_other : (c k : ℕ) (es : List Event) (e : Event) → in_chain c e ≡ false → first c k (es ++ e ∷ []) ≡ first c k es
unfolding first
first_other c k [] e t = rw t refl
first_other c k (x ∷ es) e t = rw (first_other c (k + 1) es e t) refl

-- a chain has a first where it has a last
pub first_last : (c k : ℕ) (es : List Event) → 0 < k → first c k es ≡ 0 → last c k es ≡ 0
unfolding first last
first_last c k [] p z = refl
first_last c k (x ∷ es) p z =
    by_test (in_chain c x)
    (λ u. absurd (omega (arith, rw u at z)))
    (λ u. rw (u, first_last c (k + 1) es (omega arith) (rw u at z)) refl)

pub last_first : (c k : ℕ) (es : List Event) → last c k es ≡ 0 → 0 < k → first c k es ≡ 0
unfolding first last
last_first c k [] z p = refl
last_first c k (x ∷ es) z p =
    by_test (eqb (last c (k + 1) es) 0)
    (λ q.
    by_test (in_chain c x)
    (λ u. absurd (omega (arith, rw (q, u) at z)))
    (λ u. rw u (last_first c (k + 1) es (eqb-true _ _ q) (omega arith))))
    (λ q. absurd (eqb-false _ _ q (rw q at z)))

-- the last of a chain is the new one, or as it was
pub last_new : (c k : ℕ) (es : List Event) (e : Event) → 0 < k → in_chain c e ≡ true → last c k (es ++ e ∷ []) ≡ k + length es
unfolding last
last_new c k [] e p t = rw t (omega arith)
last_new c k (x ∷ es) e p t =
    let h = last_new c (k + 1) es e (omega arith) t in
    let n : eqb (k + 1 + length es) 0 ≡ false = ne_eqb (k + 1 + length es) 0 (omega arith) in
    rw (h, n) (omega arith)

pub last_other : (c k : ℕ) (es : List Event) (e : Event) → in_chain c e ≡ false → last c k (es ++ e ∷ []) ≡ last c k es
unfolding last
last_other c k [] e t = rw t refl
last_other c k (x ∷ es) e t = rw (last_other c (k + 1) es e t) refl

-- two numbers that differ name two chains
pub chain_other : (c d : ℕ) (e : Event) → e.chain ≡ c → (c ≡ d → ⊥) → in_chain d e ≡ false
chain_other c d e q n = rw (q, ne_eqb c d n) (by_test e.alive (λ t. rw t refl) (λ t. rw t refl))

-- the record before the new one, by its chain's last: its link is set to the new record
unfoldable pub linked : ℕ → ℕ → ℕ → List ℕ → List ℕ
linked l k n w = cond (eqb l 0) w (set w ((l - k) * 16 + 1) n)

pub linked_none : (k n : ℕ) (w : List ℕ) → linked 0 k n w ≡ w
unfolding linked
linked_none k n w = refl

pub linked_some : (l k n : ℕ) (w : List ℕ) → (l ≡ 0 → ⊥) → linked l k n w ≡ set w ((l - k) * 16 + 1) n
unfolding linked
linked_some l k n w h = rw (ne_eqb l 0 h) refl

-- sixteen words
pub length_words : (k at : ℕ) (e : Event) (es : List Event) → length (words16 k at e es) ≡ 16
unfolding words16
length_words k at e es = by_test e.alive (λ t. rw t refl) (λ t. rw t refl)

-- the last of a chain is not below where the numbers start
pub last_from_lem : (c k : ℕ) (es : List Event) → (last c k es ≡ 0 → ⊥) → k ≤ last c k es
unfolding last
last_from_lem c k [] n = absurd (n refl)
last_from_lem c k (x ∷ es) n =
    by_test (eqb (last c (k + 1) es) 0)
    (λ q. by_test (in_chain c x) (λ u. rw (q, u) (omega arith)) (λ u. absurd (n (rw (q, u) refl))))
    (λ q. rw q (omega (arith, last_from_lem c (k + 1) es (λ z. eqb-false _ _ q z))))

-- and not behind the end
pub last_to : (c k : ℕ) (es : List Event) → (last c k es ≡ 0 → ⊥) → last c k es < k + length es
unfolding last
last_to c k [] n = absurd (n refl)
last_to c k (x ∷ es) n =
    by_test (eqb (last c (k + 1) es) 0)
    (λ q. by_test (in_chain c x) (λ u. rw (q, u) (omega arith)) (λ u. absurd (n (rw (q, u) refl))))
    (λ q. rw q (omega (arith, last_to c (k + 1) es (λ z. eqb-false _ _ q z))))

-- a chain whose next record is linked from a record of the chain, and not as a first child
pub data Safe (c : ℕ) : ℕ → List Event → Type 0 where
  safe_none : {k : ℕ} → Safe c k []
  safe_next : {k : ℕ} {e : Event} {es : List Event} → (c ≡ children_of k → last c (k + 1) es ≡ 0 → ⊥) → Safe c (k + 1) es → Safe c k (e ∷ es)

-- a first record found again behind the new one
module _ (c k : ℕ) (es : List Event) (e : Event) (p : 0 < k) (q : e.chain ≡ c) where
  same_first : (d : ℕ) → (c ≡ d → last c k es ≡ 0 → ⊥) → first d k (es ++ e ∷ []) ≡ first d k es
  same_first d h =
      by_test (eqb c d)
      (λ t.
      let z : c ≡ d = eqb-true c d t in
      first_there d k es e p (λ f. h z (first_last c k es p (rw z f))))
      (λ t. first_other d k es e (chain_other c d e q (eqb-false c d t)))

-- the words of a record whose two chains go on as they were
words_same : (k at : ℕ) (x : Event) (es : List Event) (e : Event) → first x.chain (k + 1) (es ++ e ∷ []) ≡ first x.chain (k + 1) es
    → first (children_of k) (k + 1) (es ++ e ∷ []) ≡ first (children_of k) (k + 1) es → words16 k at x (es ++ e ∷ []) ≡ words16 k at x es
unfolding words16
words_same k at x es e f g = rw (f, g) refl

-- or that is in another chain than the new one, or not there any more
words_out : (c k at : ℕ) (x : Event) (es : List Event) (e : Event) → e.chain ≡ c → in_chain c x ≡ false
    → first (children_of k) (k + 1) (es ++ e ∷ []) ≡ first (children_of k) (k + 1) es → words16 k at x (es ++ e ∷ []) ≡ words16 k at x es
unfolding words16
words_out c k at x es e q u g =
    by_test x.alive
    (λ t.
    let d : c ≡ x.chain → ⊥ = λ z. eqb-false x.chain c (rw t at u) (sym z) in
    rw (t, first_other x.chain (k + 1) es e (chain_other c x.chain e q d), g) refl)
    (λ t. rw t refl)

-- and of the record that leads to the new one
words_link : (c k at n : ℕ) (x : Event) (es : List Event) (e : Event) → in_chain c x ≡ true → first c (k + 1) (es ++ e ∷ []) ≡ n
    → first (children_of k) (k + 1) (es ++ e ∷ []) ≡ first (children_of k) (k + 1) es
    → words16 k at x (es ++ e ∷ []) ≡ set (words16 k at x es) 1 n
unfolding words16
words_link c k at n x es e u f g =
    let h = both x.alive (eqb x.chain c) u in
    rw (h.0, eqb-true x.chain c h.1, f, g) refl

-- a word set behind others
pub set_append_add : (x w : List ℕ) (j v : ℕ) → set (x ++ w) (length x + j) v ≡ x ++ set w j v
set_append_add [] w j v = rw (zero-add j) refl
set_append_add (a ∷ x) w j v = rw (suc-add (length x) j) (ap (λ (l : List ℕ). a ∷ l) (set_append_add x w j v))

pub set_behind : (x w : List ℕ) (i j v : ℕ) → length x ≡ 16 → i ≡ 16 + j → set (x ++ w) i v ≡ x ++ set w j v
set_behind x w i j v h e = rw (e, ← h) (set_append_add x w j v)

module _ (c : ℕ) (e : Event) (alive : e.alive ≡ true) (q : e.chain ≡ c) where
  -- the new record is in its chain
  pub new_in : in_chain c e ≡ true
  new_in = rw (alive, q) (eq-eqb c c refl)

  -- one record more in front
  step : (k at l n : ℕ) (x : Event) (es : List Event) (w : List ℕ) → 0 < k → (c ≡ children_of k → l ≡ 0 → ⊥) → last c (k + 1) es ≡ l
      → n ≡ k + 1 + length es
      → words16 k at x (es ++ e ∷ []) ++ linked l (k + 1) n w
      ≡ linked (cond (eqb l 0) (cond (in_chain c x) k 0) l) k n (words16 k at x es ++ w)
  unfolding linked
  step k at l n x es w p f e1 en =
      by_test (eqb l 0)
      (λ z.
      let l0 : l ≡ 0 = eqb-true l 0 z in
      let kids : first (children_of k) (k + 1) (es ++ e ∷ []) ≡ first (children_of k) (k + 1) es = same_first c (k + 1) es e (omega arith) q
      (children_of k) (λ g h. f g l0) in
      by_test (in_chain c x)
      (λ u.
      let g : first c (k + 1) (es ++ e ∷ []) ≡ n = first_new c (k + 1) es e (omega arith) (last_first c (k + 1) es (e1 ∙ l0) (omega arith))
      new_in ∙ sym en in
      let nz : eqb k 0 ≡ false = ne_eqb k 0 (omega arith) in
      let ix : (k - k) * 16 + 1 ≡ 1 = omega arith in
      rw (z, u, nz, ix, words_link c k at n x es e u g kids) (sym
      (set-append_left (words16 k at x es) w 1 n (rw (length_words k at x es) (omega arith)))))
      (λ u.
      rw (z, u, words_out c k at x es e q u kids) refl))
      (λ z.
      let nz : l ≡ 0 → ⊥ = eqb-false l 0 z in
      let ge : k + 1 ≤ l = rw e1 at (last_from_lem c (k + 1) es (λ y. nz (sym e1 ∙ y))) in
      let all : (d : ℕ) → first d (k + 1) (es ++ e ∷ []) ≡ first d (k + 1) es = λ d. same_first c (k + 1) es e (omega arith) q d
      (λ g h. nz (sym e1 ∙ h)) in
      rw (z, z, words_same k at x es e (all x.chain) (all (children_of k)))
      (sym (set_behind (words16 k at x es) w ((l - k) * 16 + 1) ((l - (k + 1)) * 16 + 1) n (length_words k at x es) (omega arith))))

  -- all words after the new record is made
  pub words_append : (k at : ℕ) (es : List Event) → 0 < k → Safe c k es
      → words_from k at (es ++ e ∷ []) ≡ linked (last c k es) k (k + length es)
      (words_from k at es ++ words16 (k + length es) (end_of at es) e [])
  unfolding words_from last end_of
  words_append k at [] p s =
      let n : k + 0 ≡ k = omega arith in
      rw n (append-nil (words16 k at e []) ∙ sym (linked_none k k (words16 k at e [])))
  words_append k at (x ∷ es) p (safe_next f s) =
      let n : k + suc (length es) ≡ k + 1 + length es = omega arith in
      let l = last c (k + 1) es in
      rw (n, words_append (k + 1) (at + bytes_in x) es (omega arith) s)
      (step k at l (k + 1 + length es) x es (words_from (k + 1) (at + bytes_in x) es ++ words16 (k + 1 + length es)
      (end_of (at + bytes_in x) es) e []) p f refl refl
      ∙ ap (λ (w : List ℕ). linked (cond (eqb l 0) (cond (in_chain c x) k 0) l) k (k + 1 + length es) w)
      (sym (append_assoc (words16 k at x es) (words_from (k + 1) (at + bytes_in x) es)
      (words16 (k + 1 + length es) (end_of (at + bytes_in x) es) e []))))

-- the record whose first child the new one is: it is there, and nothing of that chain comes after it
pub data Owner (c : ℕ) : ℕ → ℕ → List Event → Type 0 where
  owner_here : {k : ℕ} {x : Event} {es : List Event} → c ≡ children_of k → x.alive ≡ true → (x.chain ≡ c → ⊥) → last c (k + 1) es ≡ 0
      → Owner c k k (x ∷ es)
  owner_later : {k o : ℕ} {x : Event} {es : List Event} → k < o → in_chain c x ≡ false → (c ≡ children_of k → ⊥) → Owner c o (k + 1) es
      → Owner c o k (x ∷ es)

-- a chain of a record's children is no other record's
pub above_safe : (c o k : ℕ) (es : List Event) → c ≡ children_of o → o < k → Safe c k es
above_safe c o k [] q p = safe_none
above_safe c o k (x ∷ es) q p =
    safe_next (λ (e : c ≡ children_of k) (z : last c (k + 1) es ≡ 0). omega (arith, sym q ∙ e)) (above_safe c o (k + 1) es q (omega arith))

-- its words: the child link is set
words_child : (k at n : ℕ) (x : Event) (es : List Event) (e : Event) → x.alive ≡ true
    → first x.chain (k + 1) (es ++ e ∷ []) ≡ first x.chain (k + 1) es
    → first (children_of k) (k + 1) (es ++ e ∷ []) ≡ n → words16 k at x (es ++ e ∷ []) ≡ set (words16 k at x es) 6 n
unfolding words16
words_child k at n x es e t f g = rw (t, f, g) refl

module _ (c : ℕ) (e : Event) (alive : e.alive ≡ true) (q : e.chain ≡ c) where
  -- all words after a first child is made
  pub words_first_child : (o k at : ℕ) (es : List Event) → 0 < k → Owner c o k es
      → words_from k at (es ++ e ∷ []) ≡ set (words_from k at es ++ words16 (k + length es) (end_of at es) e []) ((o - k) * 16 + 6)
      (k + length es)
  unfolding words_from end_of
  words_first_child o k at [] p w = elim w [ ]
  words_first_child o k at (x ∷ es) p (owner_here cq t d l) =
      let n : k + suc (length es) ≡ k + 1 + length es = omega arith in
      let w = words_from (k + 1) (at + bytes_in x) es in
      let v = words16 (k + 1 + length es) (end_of (at + bytes_in x) es) e [] in
      let rest : words_from (k + 1) (at + bytes_in x) (es ++ e ∷ []) ≡ w ++ v =
      words_append c e alive q (k + 1) (at + bytes_in x) es (omega arith) (above_safe c k (k + 1) es cq (omega arith))
      ∙ rw l (linked_none (k + 1) (k + 1 + length es) (w ++ v)) in
      let f = first_other x.chain (k + 1) es e (chain_other c x.chain e q (λ z. d (sym z))) in
      let g : first (children_of k) (k + 1) (es ++ e ∷ []) ≡ k + 1 + length es =
      rw (← cq) (first_new c (k + 1) es e (omega arith) (last_first c (k + 1) es l (omega arith)) (new_in c e alive q)) in
      let ix : (k - k) * 16 + 6 ≡ 6 = omega arith in
      rw (n, ix, rest, words_child k at (k + 1 + length es) x es e t f g, append_assoc (words16 k at x es) w v)
      (sym (set-append_left (words16 k at x es) (w ++ v) 6 (k + 1 + length es) (rw (length_words k at x es) (omega arith))))
  words_first_child o k at (x ∷ es) p (owner_later lt u d r) =
      let n : k + suc (length es) ≡ k + 1 + length es = omega arith in
      let w = words_from (k + 1) (at + bytes_in x) es in
      let v = words16 (k + 1 + length es) (end_of (at + bytes_in x) es) e [] in
      let kids = first_other (children_of k) (k + 1) es e (chain_other c (children_of k) e q d) in
      rw (
        n,
        words_first_child o (k + 1) (at + bytes_in x) es (omega arith) r,
        words_out c k at x es e q u kids,
        append_assoc
            (words16 k at x es) w v,
      )
      (sym (set_behind (words16 k at x es) (w ++ v) ((o - k) * 16 + 6) ((o - (k + 1)) * 16 + 6) (k + 1 + length es) (length_words k at x es)
      (omega arith)))
