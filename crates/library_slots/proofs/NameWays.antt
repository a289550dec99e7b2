-- Slots by name as the code looks for them, one law for each way out. Assumes nothing.
use Prim.Native.Nat.{ℕ, zero, suc, ◌+◌, ◌<◌}
use mathlib.Core.Path.{◌≡◌, refl, sym, ap, ap₂, ◌∙◌}
use mathlib.Core.Bool.{Bool, true, false, not, ◌&&◌, ◌||◌, or-true, or-false}
use mathlib.Core.List.{List, ◌++◌}
use native.Mathlib.Omega.{arith}
use lib.ListN.{length, get_or}
use lib.Dec.{eqb}
use Rattle.std.specs.List.{list_any, range_with_len}
use borrow.Author.Tests.{ne_eqb}
use Rattle.tok.specs.Word.{kind_of}
use Rattle.tok.specs.Text.{Texts, name_bytes}
use Rattle.library.specs.SlotMarks.{unmarked, mark_inside, mark_all, spread, any_marked, is_slot, any_slot_of, types_in}
use Rattle.tok.proofs.TextLaws.{eq_same_bytes}
use Rattle.library.specs.ReturnSlots.{among_marked, missing, stands_by, any_some}
use Rattle.library_slots.proofs.MarkWays.{types-next, types-end}

-- ── Among the types of pairs ──

-- none before those that are left is the slot
module _ (t : Texts) (name pairs left : List ℕ) (h : any_slot_of t name (types_in pairs) ≡ any_slot_of t name (types_in left)) where
  module _ (pair rest : List ℕ) (e : left ≡ pair ++ rest) (l : length pair ≡ 2) {r : Bool} (er : r ≡ is_slot t name (get_or pair 1 0)) where
    pub types-found : r ≡ true → true ≡ any_slot_of t name (types_in pairs)
    unfolding any_slot_of
    types-found y = sym (h ∙ ap (any_slot_of t name) (types-next left pair rest e l) ∙ rw (sym er ∙ y) refl)

    pub types-past : r ≡ false → any_slot_of t name (types_in pairs) ≡ any_slot_of t name (types_in rest)
    unfolding any_slot_of
    types-past n = h ∙ ap (any_slot_of t name) (types-next left pair rest e l) ∙ rw (sym er ∙ n) refl

  pub types-none : length left < 2 → false ≡ any_slot_of t name (types_in pairs)
  unfolding any_slot_of
  types-none l = sym (h ∙ ap (any_slot_of t name) (types-end left l))

-- ── Among marks ──

or_assoc : (x y z : Bool) → (x || (y || z)) ≡ ((x || y) || z)
or_assoc true y z = refl
or_assoc false y z = refl

or_swap : (x y : Bool) → (x || y) ≡ (y || x)
or_swap true true = refl
or_swap true false = refl
or_swap false true = refl
or_swap false false = refl

-- one index more at the end
any-more : (p : ℕ → Bool) (n a : ℕ) → list_any p (range_with_len a (suc n)) ≡ (list_any p (range_with_len a n) || p (a + n))
any-more p zero a =
    let e : a + 0 ≡ a = omega arith in
    rw (e, or-false (p a)) refl
any-more p (suc n) a =
    let e : a + 1 + n ≡ a + suc n = omega arith in
    ap (λ b. p a || b) (any-more p n (a + 1) ∙ ap (λ m. list_any p (range_with_len (a + 1) n) || p m) e)
    ∙ or_assoc (p a) (list_any p (range_with_len (a + 1) n)) (p (a + suc n))

-- The marked indices gone through; where they are, the code's test may be another that comes to the same.
module _ (marks : List Bool) (test tried : ℕ → Bool) where
  last_same : (n : ℕ) (m : Bool) → get_or marks n false ≡ m → (get_or marks n false ≡ true → tried n ≡ test n) → (m && tried n) ≡ (m && test n)
  last_same n true e h = h e
  last_same n false e h = refl

  pub marked-any : (n : ℕ) → ((i : ℕ) → i < n → get_or marks i false ≡ true → tried i ≡ test i)
      → list_any (λ i. get_or marks i false && tried i) (range_with_len 0 n) ≡ any_marked marks test n
  unfolding any_marked
  marked-any zero h = refl
  marked-any (suc n) h =
      let e : 0 + n ≡ n = omega arith in
      any-more (λ i. get_or marks i false && tried i) n 0
      ∙ ap₂ (λ a b. a || b) (marked-any n (λ i l. h i (omega arith)))
      (ap (λ i. get_or marks i false && tried i) e ∙ last_same n (get_or marks n false) refl (h n (omega arith)))
      ∙ or_swap (any_marked marks test n) (get_or marks n false && test n)

-- ── The arguments' slots and the return type's ──

-- a slot that the arguments reach is among theirs
self-marked : (t : Texts) (types ws : List ℕ) (marks : List Bool) (i : ℕ) → i < length types → get_or marks i false ≡ true → eqb (kind_of (get_or types i 0)) 10 ≡ true
    → among_marked t types ws marks (name_bytes t (get_or types i 0)) ≡ true
unfolding among_marked is_slot
self-marked t types ws marks i l e k =
    rw (any_some marks (λ j. is_slot t (name_bytes t (get_or types i 0)) (get_or types j 0)) (length types) (record {
      at = i;
      below = l;
      marked = e;
      holds = rw (k, eq_same_bytes (name_bytes t (get_or types i 0)) _ refl) refl;
    }))
    (or-true (any_slot_of t (name_bytes t (get_or types i 0)) ws))

reached-out : (t : Texts) (types ws : List ℕ) (marks : List Bool) (i : ℕ) → i < length types → get_or marks i false ≡ true → missing t types ws marks (get_or types i 0) ≡ false
unfolding missing
reached-out t types ws marks i l e = by (eqb (kind_of (get_or types i 0)) 10) refl
  where
    by : (b : Bool) → eqb (kind_of (get_or types i 0)) 10 ≡ b → (b && not (among_marked t types ws marks (name_bytes t (get_or types i 0)))) ≡ false
    by true k = rw (self-marked t types ws marks i l e k) refl
    by false k = refl

-- so that a word that they reach need not be looked for
pub not-missing : (t : Texts) (types ws : List ℕ) (marks : List Bool) (i : ℕ) → i < length types
    → (not (get_or marks i false) && missing t types ws marks (get_or types i 0)) ≡ missing t types ws marks (get_or types i 0)
not-missing t types ws marks i l = by (get_or marks i false) refl
  where
    by : (m : Bool) → get_or marks i false ≡ m → (not m && missing t types ws marks (get_or types i 0)) ≡ missing t types ws marks (get_or types i 0)
    by true e = sym (reached-out t types ws marks i l e)
    by false e = refl

module _ (t : Texts) (types args : List ℕ) (ret : ℕ) {k : ℕ} (ek : k ≡ kind_of ret) {none marked reached : List Bool}
    (e0 : none ≡ unmarked 8192) (e1 : marked ≡ mark_all types args none) (e2 : reached ≡ spread types (length types) marked) where
  reached-is : reached ≡ spread types (length types) (mark_all types args (unmarked 8192))
  reached-is = e2 ∙ ap (spread types (length types)) (e1 ∙ ap (mark_all types args) e0)

  pub return-slot : {r : Bool} → k ≡ 10 → r ≡ among_marked t types args reached (name_bytes t ret) → r ≡ stands_by t types args ret
  unfolding stands_by
  return-slot e er = er ∙ rw (reached-is, ← ek, e) refl

  pub return-other : {r : Bool} {none' marked' reached' : List Bool} → (k ≡ 10 → ⊥) → none' ≡ unmarked 8192 → marked' ≡ mark_inside types ret none'
      → reached' ≡ spread types (length types) marked' → r ≡ any_marked reached' (λ i. missing t types args reached (get_or types i 0)) (length types)
      → not r ≡ stands_by t types args ret
  unfolding stands_by mark_all
  return-other d f0 f1 f2 er =
      rw (← ek, ne_eqb _ 10 d)
      (ap not (er ∙ ap₂ (λ m a. any_marked m (λ i. missing t types args a (get_or types i 0)) (length types)) (f2 ∙ ap (spread types (length types)) (f1 ∙ ap (mark_inside types ret) f0)) reached-is))
