-- Each return of the functions, over variables for what the calls gave: looking in the pairs, one pair more, and one slot.
-- By the laws of the definitions. Assumes nothing.
use Rattle.std.specs.Prelude.{Option, Some, None, Ok, Err}
use mathlib.Core.Path.{◌≡◌, refl, sym, ap, ◌∙◌}
use mathlib.Core.Bool.{Bool, true, false}
use mathlib.Core.Option.{none, some}
use mathlib.Core.List.{List, ◌∷◌}
use Prim.Native.Nat.{ℕ, zero, suc, ◌+◌, ◌-◌, ◌*◌, ◌/◌, ◌<◌, ◌≤◌, min}
use native.Mathlib.Omega.{arith}
use lib.ListN.{get_or, set, length, length-set}
use lib.Seq.{get_or-set_same, get_or-set_other}
use borrow.Author.Tests.{le-leb, lt-leb}
use Rattle.tok.specs.Word.{kind_of}
use Rattle.tok.specs.Text.{Texts, name_bytes, same_name}
use Rattle.ptype.specs.Ty.{same_ty}
use Rattle.ptype.specs.Words.{ty_of}
use Rattle.ptype.specs.Slots.{Binding, binding, bound_to, Bound, all_bound, conflict, void_slot, bind_found, bind_one}
use Rattle.slots.specs.declared.BindError.TheVariants.{Conflict, Void, NoRoom}
use Rattle.slots.specs.declared.Bindings.{Bindings}
use Rattle.slots.specs.Bindings.{Bind, first_pairs, pair_room, bindings_of, found_of, bindings_after, fitted, Binds}
use Rattle.slots.specs.BindLaws.{if_true, if_false, bind_one-void, bind_one-found, bound-here, bound-after}

-- the newest of k pairs, and the others
first_more : (t : Texts) (l : List ℕ) {k n : ℕ} → k ≡ suc n → first_pairs t l k ≡ binding (name_bytes t (get_or l (2 * n) 0)) (get_or l (2 * n + 1) 0) ∷ first_pairs t l n
unfolding first_pairs
first_more t l e = rw e

-- The turns of looking for a slot among the first k pairs.
module _ (t : Texts) (l : List ℕ) (slot : ℕ) {k : ℕ} where
  pub look-end : k ≤ 0 → none ≡ bound_to (name_bytes t slot) (first_pairs t l k)
  unfolding first_pairs bound_to
  look-end h =
      let e : k ≡ 0 = omega arith in
      rw e

  module _ {x : ℕ} {q : Bool} (p : 0 < k) (hx : x ≡ get_or l (2 * (k - 1)) 0) (hq : q ≡ same_name t slot x) where
    pub look_hit : {y : ℕ} → q ≡ true → y ≡ get_or l (2 * (k - 1) + 1) 0 → some y ≡ bound_to (name_bytes t slot) (first_pairs t l k)
    look_hit h hy =
        let e : k ≡ suc (k - 1) = omega arith in
        let newest = binding (name_bytes t (get_or l (2 * (k - 1)) 0)) (get_or l (2 * (k - 1) + 1) 0) in
        rw (first_more t l e, hy) (sym (bound-here (name_bytes t slot) newest (first_pairs t l (k - 1)) (rw (← hx, ← hq) h)))

    pub look-next : q ≡ false → bound_to (name_bytes t slot) (first_pairs t l k) ≡ bound_to (name_bytes t slot) (first_pairs t l (k - 1))
    look-next h =
        let e : k ≡ suc (k - 1) = omega arith in
        rw (first_more t l e) (bound-after (name_bytes t slot) (binding (name_bytes t (get_or l (2 * (k - 1)) 0)) (get_or l (2 * (k - 1) + 1) 0)) (first_pairs t l (k - 1)) (rw (← hx, ← hq) h))

-- as many bindings as pairs, and not more than there is room for
length-first : (t : Texts) (l : List ℕ) (k : ℕ) → length (first_pairs t l k) ≡ k
unfolding first_pairs
length-first t l zero = refl
length-first t l (suc k) = ap suc (length-first t l k)

-- what is bound is given where there is room for it, and else none
pub fitted-some : (room : ℕ) (b : Bound) → length (bindings_after b) ≤ room → fitted room b ≡ some b
unfolding fitted
fitted-some room b h = rw (le-leb (length (bindings_after b)) room h)

pub fitted_none : (room : ℕ) (b : Bound) → room < length (bindings_after b) → fitted room b ≡ none
unfolding fitted
fitted_none room b h = rw (lt-leb (length (bindings_after b)) room h)

-- the bindings that were there have room
pub bindings-fit : (t : Texts) (b : Bindings) → length (bindings_of t b) ≤ pair_room b.pairs.now
bindings-fit t b = omega (arith, length-first t b.pairs.now (min b.count (pair_room b.pairs.now)))

-- two ways to bind that give the same of the bindings that there are
pub same-binds : {t : Texts} {bind bind' : List Binding → Bound} {b b' : Bindings} {r : Bind} → bind (bindings_of t b) ≡ bind' (bindings_of t b) → Binds t bind' b r b' → Binds t bind b r b'
same-binds e h = record { lent = h.lent; keeps = h.keeps; is = rw e h.is }

-- what is answered where the bindings stay: it is what was to be bound, with the bindings that there were
module _ (t : Texts) (bind : List Binding → Bound) (b : Bindings) where
  pub nothing-more : bind (bindings_of t b) ≡ all_bound (bindings_of t b) → Binds t bind b (Ok tt) b
  unfolding bindings_after
  nothing-more e = record { lent = refl; keeps = refl; is = rw e (fitted-some (pair_room b.pairs.now) (all_bound (bindings_of t b)) (bindings-fit t b)) }

  pub void-met : {slot : ℕ} → bind (bindings_of t b) ≡ void_slot (bindings_of t b) (name_bytes t slot) → Binds t bind b (Err (Void slot)) b
  unfolding bindings_after
  void-met {slot} e = record { lent = refl; keeps = refl; is = rw e (fitted-some (pair_room b.pairs.now) (void_slot (bindings_of t b) (name_bytes t slot)) (bindings-fit t b)) }

  pub conflict-met : {slot x a : ℕ} → bind (bindings_of t b) ≡ conflict (bindings_of t b) (name_bytes t slot) x a → Binds t bind b (Err (Conflict slot x a)) b
  unfolding bindings_after
  conflict-met {slot} {x} {a} e = record { lent = refl; keeps = refl; is = rw e (fitted-some (pair_room b.pairs.now) (conflict (bindings_of t b) (name_bytes t slot) x a) (bindings-fit t b)) }

-- the first k pairs of two lists that agree on them
first-same : (t : Texts) (l m : List ℕ) (k : ℕ) → ((j : ℕ) → j < 2 * k → get_or l j 0 ≡ get_or m j 0) → first_pairs t l k ≡ first_pairs t m k
unfolding first_pairs
first-same t l m zero h = refl
first-same t l m (suc k) h = rw (h (2 * k) (omega arith), h (2 * k + 1) (omega arith), first-same t l m k (λ j p. h j (omega arith)))

-- One pair more.
module _ (slot ty : ℕ) (b : Bindings) (t : Texts) where
  abbrev pushed : List Binding → Bound
  pushed bs = all_bound (binding (name_bytes t slot) ty ∷ bs)

  pub push_put : {b' : Bindings} → b.count < length b.pairs.now / 2 → b'.pairs.ghost_name ≡ b.pairs.ghost_name → b'.count ≡ b.count + 1
      → b'.pairs.now ≡ set (set b.pairs.now (2 * b.count) slot) (2 * b.count + 1) ty → Binds t pushed b (Ok tt) b'
  unfolding bindings_after
  push_put {b'} h lent more put =
      let l = b.pairs.now in
      let n = b.count in
      let m = set (set l (2 * n) slot) (2 * n + 1) ty in
      let long : length m ≡ length l = rw (length-set, length-set) in
      let e : length m / 2 ≡ length l / 2 = rw long in
      let k : min (n + 1) (length m / 2) ≡ suc n = rw e (omega arith) in
      let k' : min n (length l / 2) ≡ n = omega arith in
      let s : get_or m (2 * n) 0 ≡ slot = get_or-set_other (set l (2 * n) slot) (2 * n + 1) (2 * n) ty 0 (λ z. omega arith) ∙ get_or-set_same l (2 * n) slot 0 (omega arith) in
      let y : get_or m (2 * n + 1) 0 ≡ ty = get_or-set_same (set l (2 * n) slot) (2 * n + 1) ty 0 (rw length-set (omega arith)) in
      let other : (j : ℕ) → j < 2 * n → get_or m j 0 ≡ get_or l j 0 = λ j p.
      get_or-set_other (set l (2 * n) slot) (2 * n + 1) j ty 0 (λ z. omega arith) ∙ get_or-set_other l (2 * n) j slot 0 (λ z. omega arith) in
      let o : first_pairs t m n ≡ first_pairs t l n = first-same t m l n other in
      let now : bindings_of t b' ≡ binding (name_bytes t slot) ty ∷ bindings_of t b = rw (put, more) (first_more t m k ∙ rw (s, y, o, k')) in
      let room : length (binding (name_bytes t slot) ty ∷ bindings_of t b) ≤ pair_room l = omega (arith, length-first t l (min n (length l / 2))) in
      record {
        lent = lent;
        keeps = rw put long;
        is = fitted-some (pair_room l) (pushed (bindings_of t b)) room ∙ ap (λ bs. some (all_bound bs)) (sym now);
      }

  pub push_full : {b' : Bindings} → length b.pairs.now / 2 ≤ b.count → b' ≡ b → Binds t pushed b (Err NoRoom) b'
  unfolding bindings_after
  push_full h e = rw e (record {
    lent = refl;
    keeps = refl;
    is = fitted_none (pair_room b.pairs.now) (pushed (bindings_of t b)) (omega (arith, length-first t b.pairs.now (min b.count (length b.pairs.now / 2))));
  })

-- A slot and a type.
module _ (t : Texts) (types : List ℕ) (slot ty : ℕ) (b : Bindings) where
  abbrev one : List Binding → Bound
  one = bind_one t types (name_bytes t slot) ty

  pub one-void : kind_of ty ≡ 1 → Binds t one b (Err (Void slot)) b
  one-void e = void-met t one b (bind_one-void t types (name_bytes t slot) ty (bindings_of t b) e)

  module _ (f : Option ℕ) (p : kind_of ty ≡ 1 → ⊥) (hf : found_of f ≡ bound_to (name_bytes t slot) (bindings_of t b)) where
    one-is : one (bindings_of t b) ≡ bind_found t types (name_bytes t slot) ty (bindings_of t b) (found_of f)
    one-is = rw hf (bind_one-found t types (name_bytes t slot) ty (bindings_of t b) p)

    pub one-new : {r : Bind} {b' : Bindings} → f ≡ None → Binds t (λ bs. all_bound (binding (name_bytes t slot) ty ∷ bs)) b r b' → Binds t one b r b'
    unfolding bind_found
    one-new e h = same-binds (one-is ∙ rw e) h

    module _ {e : ℕ} {q : Bool} (he : f ≡ Some e) (hq : q ≡ same_ty (ty_of t types e) (ty_of t types ty)) where
      pub one_same : q ≡ true → Binds t one b (Ok tt) b
      unfolding bind_found
      one_same h =
          let bs = bindings_of t b in
          let same = if_true (all_bound bs) (conflict bs (name_bytes t slot) e ty) (same_ty (ty_of t types e) (ty_of t types ty)) (sym hq ∙ h) in
          nothing-more t one b (one-is ∙ rw he same)

      pub one-conflict : q ≡ false → Binds t one b (Err (Conflict slot e ty)) b
      unfolding bind_found
      one-conflict h =
          let bs = bindings_of t b in
          let other = if_false (all_bound bs) (conflict bs (name_bytes t slot) e ty) (same_ty (ty_of t types e) (ty_of t types ty)) (sym hq ∙ h) in
          conflict-met t one b (one-is ∙ rw he other)
