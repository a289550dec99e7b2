-- "a slot of the return type stands in some argument", asked of the marked slots of the return type one by one. Assumes nothing.
use Prim.Native.Nat.{ℕ, zero, suc, ◌≤◌, ◌<◌}
use Rattle.std.specs.Prelude.{◌≡◌, Bool, cond, not, ◌&&◌, ◌||◌, length, get_or, eqb}
use Rattle.std.proofs.Math.Path.{refl, sym, ap}
use Rattle.std.proofs.Common.{◌∙◌, true≢false, arith}
use Rattle.std.proofs.Math.Logic.{inl, inr}
use Rattle.std.proofs.Math.Bool.{true, false, and-eq-true_iff, or-true, and-true, and-false}
use Rattle.std.proofs.lemmas.Bool.{false≢true}
use mathlib.Core.List.{List, [], ◌∷◌, append-nil}
use Rattle.std.proofs.Math.Decide.{ℕ_discrete}
use borrow.Author.Tests.{eq-eqb, ne_eqb, eqb-true, not-true}
use Rattle.facts.specs.Tests.{neither}
use Rattle.tok.specs.Word.{kind_of}
use Rattle.tok.specs.Text.{Texts, name_bytes, same_bytes}
use Rattle.tok.proofs.TextLaws.{same_bytes-true, eq_same_bytes}
use Rattle.ptype.specs.Ty.{Ty, Fields, plain, wrap, rec, named, no_field, field, contains_slot, any_slot}
use Rattle.library.specs.Pool.{pool_in}
use Rattle.library.specs.Slots.{pool_ty, slot_names, slot_names_in, slot_names_of, name_among, all_among, return_stands}
use Rattle.library.specs.Each.{Each}
use Rattle.library.specs.TypeWords.{TypeWord, either_true}
use Rattle.library.specs.PoolRead.{PoolFine}
use Rattle.library.specs.PoolTrees.{pool_ty-named}
use Rattle.library.specs.SlotMarks.{unmarked, mark_all, spread, any_marked, is_slot, any_slot_of}
use Rattle.library.specs.SlotReach.{get_or-unmarked, length-unmarked, slots-reached}

-- whether a name is that of a slot of some words: one of them, or a marked word of the pool
unfoldable pub among_marked : Texts → (types ws : List ℕ) → (marks : List Bool) → (name : List ℕ) → Bool
among_marked texts types ws marks name = any_slot_of texts name ws || any_marked marks (λ i. is_slot texts name (get_or types i 0)) (length types)

-- a word is a slot whose name is not among those
unfoldable pub missing : Texts → (types ws : List ℕ) → (marks : List Bool) → (w : ℕ) → Bool
missing texts types ws marks w = eqb (kind_of w) 10 && not (among_marked texts types ws marks (name_bytes texts w))

-- the marks that are reached from some types
abbrev pub reached_from : (types ws : List ℕ) → List Bool
reached_from types ws = spread types (length types) (mark_all types ws (unmarked 8192))

-- "a slot of the return type stands in some argument", found by marks: a return type that is a slot is asked for itself, another for its
-- marked slots
unfoldable pub stands_by : Texts → (types args : List ℕ) → (ret : ℕ) → Bool
stands_by t types args ret =
    cond (eqb (kind_of ret) 10) (among_marked t types args (reached_from types args) (name_bytes t ret))
    (not (any_marked (reached_from types (ret ∷ [])) (λ i. missing t types args (reached_from types args) (get_or types i 0)) (length types)))

-- ── Names among names ──

pub among-missing : (n : List ℕ) (xs ys : List (List ℕ)) → name_among n xs ≡ true → name_among n ys ≡ false → all_among xs ys ≡ false
unfolding name_among all_among
among-missing n [] ys e f = absurd (false≢true e)
among-missing n (x ∷ xs) ys e f = elim (either_true (same_bytes n x) (name_among n xs) e) [
  | inl h ↦ rw (← (same_bytes-true n x h), f) refl
  | inr h ↦ rw (among-missing n xs ys h f) (and-false (name_among x ys))
]

pub all_among_lem : (xs ys : List (List ℕ)) → ((n : List ℕ) → name_among n xs ≡ true → name_among n ys ≡ true) → all_among xs ys ≡ true
unfolding name_among all_among
all_among_lem [] ys h = refl
all_among_lem (x ∷ xs) ys h =
    rw (h x (rw (eq_same_bytes x x refl) refl))
    (all_among_lem xs ys (λ n e. h n (rw e (or-true (same_bytes n x)))))

-- a type without slots names none
by-test : (b : Bool) (n : List ℕ) → b ≡ false → ◌≡◌ {A = List (List ℕ)} (elim b [ true ↦ n ∷ [] | false ↦ [] ]) []
by-test true n e = absurd (true≢false e)
by-test false n e = refl

mutual
  unfolding contains_slot slot_names

  none_in : (t : Ty) → contains_slot t ≡ false → slot_names t ≡ []
  none_in (plain k) e = refl
  none_in (wrap k t) e = none_in t e
  none_in (rec fs) e = none-among fs e
  none_in (named k n) e = by-test (eqb k 10) n e

  none-among : (fs : Fields) → any_slot fs ≡ false → slot_names_in fs ≡ []
  none-among no_field e = refl
  none-among (field n t fs) e =
      let h = neither (contains_slot t) (any_slot fs) e in
      rw (none_in t h.0, none-among fs h.1) refl

-- ── Marks ──

pub record Witness (marks : List Bool) (test : ℕ → Bool) (i : ℕ) : Type 0 where
  pub at : ℕ
  pub below : at < i
  pub marked : get_or marks at false ≡ true
  pub holds : test at ≡ true

module _ (marks : List Bool) (test : ℕ → Bool) where
  any_witness : (i : ℕ) → any_marked marks test i ≡ true → Witness marks test i
  unfolding any_marked
  any_witness zero e = absurd (false≢true e)
  any_witness (suc i) e = elim (either_true (get_or marks i false && test i) _ e) [
    | inl h ↦
        let b = (and-eq-true_iff (get_or marks i false) (test i)).0 h in
        record { at = i; below = omega arith; marked = b.0; holds = b.1 }
    | inr h ↦
        let w = any_witness i h in
        record { at = w.at; below = omega (arith, w.below); marked = w.marked; holds = w.holds }
  ]

  pub any_some : (i : ℕ) → Witness marks test i → any_marked marks test i ≡ true
  unfolding any_marked
  any_some zero w = absurd (omega (arith, w.below))
  any_some (suc i) w = elim (ℕ_discrete w.at i) [
    | yes e ↦ rw (← e, w.marked, w.holds) refl
    | no d ↦ rw (any_some i (record { at = w.at; below = omega (arith, w.below); marked = w.marked; holds = w.holds })) (or-true (get_or marks i false && test i))
  ]

-- ── The return type ──

module _ (t : Texts) (types : List ℕ) (fine : PoolFine (pool_in t types)) (room : length types ≤ 8192) where
  among-is : (ws : List ℕ) (name : List ℕ) → Each (TypeWord (pool_in t types) (length types)) ws
      → among_marked t types ws (reached_from types ws) name ≡ name_among name (slot_names_of (pool_in t types) ws)
  unfolding among_marked
  among-is ws name h = slots-reached (pool_in t types) name fine ws (unmarked 8192) h (get_or-unmarked 8192) (rw (length-unmarked 8192) room)

  module _ (args : List ℕ) (ret : ℕ) (good : Each (TypeWord (pool_in t types) (length types)) args) (goodRet : TypeWord (pool_in t types) (length types) ret) where
    -- a return type that holds no slot
    pub stands-none : contains_slot (pool_ty (pool_in t types) ret) ≡ false → return_stands (pool_in t types) args ret ≡ true
    unfolding return_stands all_among
    stands-none e = rw (none_in _ e) refl

    -- one that is a slot itself
    stands-slot : kind_of ret ≡ 10 → among_marked t types args (reached_from types args) (name_bytes t ret) ≡ return_stands (pool_in t types) args ret
    unfolding return_stands all_among slot_names
    stands-slot k =
        among-is args (name_bytes t ret) good
        ∙ sym (rw (pool_ty-named (pool_in t types) ret (rw k refl), k) (and-true (name_among (name_bytes t ret) (slot_names_of (pool_in t types) args))))

    -- one in which some stand
    abbrev missed : ℕ → Bool
    missed i = missing t types args (reached_from types args) (get_or types i 0)

    -- the names of the return type's slots are those of the marked ones
    ret-names : (kind_of ret ≡ 10 → ⊥) → (n : List ℕ)
        → name_among n (slot_names (pool_ty (pool_in t types) ret)) ≡ any_marked (reached_from types (ret ∷ [])) (λ i. is_slot t n (get_or types i 0)) (length types)
    unfolding among_marked any_slot_of is_slot slot_names_of Each
    ret-names d n =
        let h = among-is (ret ∷ []) n (goodRet, tt) in
        let s : is_slot t n ret ≡ false = rw (ne_eqb (kind_of ret) 10 d) refl in
        ap (name_among n) (sym (append-nil _)) ∙ sym h ∙ rw s refl

    missed-slot : (i : ℕ) → missed i ≡ true → (kind_of (get_or types i 0) ≡ 10) × (name_among (name_bytes t (get_or types i 0)) (slot_names_of (pool_in t types) args) ≡ false)
    unfolding missing
    missed-slot i e =
        let b = (and-eq-true_iff (eqb (kind_of (get_or types i 0)) 10) _).0 e in
        (eqb-true _ _ b.0, sym (among-is args (name_bytes t (get_or types i 0)) good) ∙ not-true _ b.1)

    one-missed : (kind_of ret ≡ 10 → ⊥) → Witness (reached_from types (ret ∷ [])) missed (length types) → return_stands (pool_in t types) args ret ≡ false
    unfolding return_stands is_slot
    one-missed d w =
        let h = missed-slot w.at w.holds in
        let n : List ℕ = name_bytes t (get_or types w.at 0) in
        among-missing n _ _
        (ret-names d n ∙ any_some _ _ (length types) (record {
          at = w.at;
          below = w.below;
          marked = w.marked;
          holds = rw (h.0, eq_same_bytes n n refl) refl;
        }))
        h.1

    slot-name : (n : List ℕ) (w : ℕ) → is_slot t n w ≡ true → (eqb (kind_of w) 10 ≡ true) × (n ≡ name_bytes t w)
    unfolding is_slot
    slot-name n w h =
        let b = (and-eq-true_iff (eqb (kind_of w) 10) _).0 h in
        (b.0, same_bytes-true _ _ b.1)

    missed_by : (n : List ℕ) (w : ℕ) → is_slot t n w ≡ true → name_among n (slot_names_of (pool_in t types) args) ≡ false → missing t types args (reached_from types args) w ≡ true
    unfolding missing
    missed_by n w s f =
        let h = slot-name n w s in
        rw (h.0, ← h.1, among-is args n good, f) refl

    none-missed : (kind_of ret ≡ 10 → ⊥) → any_marked (reached_from types (ret ∷ [])) missed (length types) ≡ false → return_stands (pool_in t types) args ret ≡ true
    unfolding return_stands
    none-missed d e = all_among_lem _ _ (λ n h. found n (any_witness _ _ (length types) (sym (ret-names d n) ∙ h)) _ refl)
      where
        found : (n : List ℕ) → Witness (reached_from types (ret ∷ [])) (λ i. is_slot t n (get_or types i 0)) (length types)
            → (b : Bool) → name_among n (slot_names_of (pool_in t types) args) ≡ b → name_among n (slot_names_of (pool_in t types) args) ≡ true
        found n w true f = f
        found n w false f =
            absurd (true≢false (sym (any_some _ missed (length types) (record {
              at = w.at;
              below = w.below;
              marked = w.marked;
              holds = missed_by n (get_or types w.at 0) w.holds f;
            })) ∙ e))

    stands-marked : (kind_of ret ≡ 10 → ⊥)
        → not (any_marked (reached_from types (ret ∷ [])) missed (length types)) ≡ return_stands (pool_in t types) args ret
    stands-marked d = by _ refl
      where
        by : (b : Bool) → any_marked (reached_from types (ret ∷ [])) missed (length types) ≡ b → not (any_marked (reached_from types (ret ∷ [])) missed (length types)) ≡ return_stands (pool_in t types) args ret
        by true e = rw e (sym (one-missed d (any_witness _ _ (length types) e)))
        by false e = rw e (sym (none-missed d e))

    -- THE LAW: of an accepted pool and good types it is what the definition asks.
    pub stands_by-is : stands_by t types args ret ≡ return_stands (pool_in t types) args ret
    unfolding stands_by
    stands_by-is = elim (ℕ_discrete (kind_of ret) 10) [
      | yes k ↦ rw (eq-eqb (kind_of ret) 10 k) (stands-slot k)
      | no d ↦ rw (ne_eqb (kind_of ret) 10 d) (stands-marked d)
    ]
