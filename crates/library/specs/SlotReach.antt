-- The marks reach every slot of the types that they start from, and no other. A mark on a word stands for all slots in its type; to mark
-- the words inside keeps what all marks together stand for. By induction on the index. Assumes nothing.
use Prim.Native.Nat.{ℕ, zero, suc, ◌+◌, ◌*◌, ◌≤◌, ◌<◌}
use Rattle.std.specs.Prelude.{◌≡◌, cond, ◌&&◌, ◌||◌, set, eqb}
use Rattle.std.proofs.Math.Path.{refl, sym, ap}
use Rattle.std.proofs.Common.{◌∙◌, true≢false}
use Rattle.std.proofs.Math.Logic.{inl, inr}
use Rattle.std.proofs.Math.Bool.{Bool, true, false, or_assoc, or-false}
use mathlib.Core.List.{List, [], ◌∷◌, ◌++◌}
use native.Mathlib.Omega.{arith}
use Rattle.std.proofs.Math.Decide.{ℕ_discrete}
use Rattle.std.proofs.Math.ListN.{length, get_or, length-set, length-replicate}
use Rattle.std.proofs.Math.Seq.{get_or-set_same, get_or-set_other}
use borrow.Author.Tests.{ne_eqb}
use Rattle.tok.specs.Word.{kind_of, payload_of}
use Rattle.tok.specs.Text.{name_bytes, same_bytes}
use Rattle.ptype.specs.Words.{field_count, fields_from}
use Rattle.ptype.specs.Kinds.{wraps, names, one_of, Plain, shape, is_plain, is_wrap, is_record, is_named}
use Rattle.ptype.specs.Inside.{Refers}
use Rattle.ptype.proofs.InsideLaws.{refers-more}
use Rattle.library.specs.Pool.{Pool, pool_word}
use Rattle.library.specs.Slots.{pool_ty, slot_names, slot_names_in, slot_names_of, name_among}
use Rattle.library.specs.Each.{Each}
use Rattle.library.specs.TypeWords.{TypeWord, good_type-true}
use Rattle.library.specs.PoolRead.{PoolFine}
use Rattle.library.specs.PoolTrees.{type-refers, pool_backward, pool_ty-plain, pool_ty-wrap, pool_ty_record, pool_ty-named}
use Rattle.library.specs.SlotMarks.{unmarked, mark_fields, mark_inside, mark_all, spread, any_marked, is_slot, any_slot_of}

-- ── Marks ──

-- a test that is asked again changes nothing
again : (a b c : Bool) → (a || (b && a || c)) ≡ (a || c)
again true b c = refl
again false true c = refl
again false false c = refl

swap : (a b c : Bool) → (a || (b || c)) ≡ (b || (a || c))
swap true true c = refl
swap true false c = refl
swap false true c = refl
swap false false c = refl

module _ (test : ℕ → Bool) where
  -- only the marks below the index matter
  any_same : (marks marks' : List Bool) (i : ℕ) → ((j : ℕ) → j < i → get_or marks j false ≡ get_or marks' j false) → any_marked marks test i ≡ any_marked marks' test i
  unfolding any_marked
  any_same marks marks' zero h = refl
  any_same marks marks' (suc i) h = rw (h i (omega arith), any_same marks marks' i (λ j l. h j (omega arith))) refl

  -- one more mark
  any_set : (marks : List Bool) (q i : ℕ) → q < i → i ≤ length marks → any_marked (set marks q true) test i ≡ (test q || any_marked marks test i)
  unfolding any_marked
  any_set marks q zero l h = absurd (omega arith)
  any_set marks q (suc i) l h = elim (ℕ_discrete q i) [
    | yes e ↦
        rw (← e, get_or-set_same marks q true false (omega arith), any_same (set marks q true) marks q (λ j b. get_or-set_other marks q j true false (λ d. omega arith)))
        (sym (again (test q) (get_or marks q false) (any_marked marks test q)))
    | no d ↦
        rw (get_or-set_other marks q i true false (λ e. d (sym e)), any_set marks q i (omega arith) (omega arith))
        (swap (get_or marks i false && test i) (test q) (any_marked marks test i))
  ]

  -- marks on a list's fields
  any_field : (at n : ℕ) → Bool
  any_field at zero = false
  any_field at (suc n) = test at || any_field (at + 2) n

  any_fields : (n : ℕ) (marks : List Bool) (at i : ℕ) → at + 2 * n < i + 2 → i ≤ length marks
      → any_marked (mark_fields marks at n) test i ≡ (any_field at n || any_marked marks test i)
  unfolding mark_fields any_field
  any_fields zero marks at i l h = refl
  any_fields (suc n) marks at i l h =
      any_fields n (set marks at true) (at + 2) i (omega arith) (rw length-set h)
      ∙ rw (any_set marks at i (omega arith) h) refl
      ∙ swap (any_field (at + 2) n) (test at) (any_marked marks test i)
      ∙ sym (or_assoc (test at) (any_field (at + 2) n) (any_marked marks test i))

-- no marks
pub get_or-unmarked : (n j : ℕ) → get_or (unmarked n) j false ≡ false
unfolding unmarked
get_or-unmarked zero j = refl
get_or-unmarked (suc n) zero = refl
get_or-unmarked (suc n) (suc j) = get_or-unmarked n j

pub length-unmarked : (n : ℕ) → length (unmarked n) ≡ n
unfolding unmarked
length-unmarked n = length-replicate {A = Bool} n false

-- marks keep their number, and stay as they are from the word's own index on
pub length-mark_fields : (n : ℕ) (marks : List Bool) (at : ℕ) → length (mark_fields marks at n) ≡ length marks
unfolding mark_fields
length-mark_fields zero marks at = refl
length-mark_fields (suc n) marks at = length-mark_fields n (set marks at true) (at + 2) ∙ length-set marks at true

kept-fields : (n : ℕ) (marks : List Bool) (at j : ℕ) → at + 2 * n < j + 2 → get_or (mark_fields marks at n) j false ≡ get_or marks j false
unfolding mark_fields
kept-fields zero marks at j l = refl
kept-fields (suc n) marks at j l = kept-fields n (set marks at true) (at + 2) j (omega arith) ∙ get_or-set_other marks at j true false (λ e. omega arith)

pub length-mark_inside : (types : List ℕ) (w : ℕ) (marks : List Bool) → length (mark_inside types w marks) ≡ length marks
unfolding mark_inside
length-mark_inside types w marks = by (wraps (kind_of w)) (eqb (kind_of w) 8)
  where
    by : (a b : Bool) → length (cond a (set marks (payload_of w) true) (cond b (mark_fields marks (payload_of w + 2) (field_count types w)) marks)) ≡ length marks
    by true b = length-set marks (payload_of w) true
    by false true = length-mark_fields (field_count types w) marks (payload_of w + 2)
    by false false = refl

pub length-mark_all : (types ws : List ℕ) (marks : List Bool) → length (mark_all types ws marks) ≡ length marks
unfolding mark_all
length-mark_all types [] marks = refl
length-mark_all types (w ∷ ws) marks = length-mark_all types ws (mark_inside types w marks) ∙ length-mark_inside types w marks

-- by shape
module _ (types : List ℕ) (w : ℕ) (marks : List Bool) where
  inside-plain : Plain (kind_of w) → mark_inside types w marks ≡ marks
  unfolding mark_inside
  inside-plain h = rw (h.no_wrap, ne_eqb (kind_of w) 8 h.no_record) refl

  inside-wrap : wraps (kind_of w) ≡ true → mark_inside types w marks ≡ set marks (payload_of w) true
  unfolding mark_inside
  inside-wrap h = rw h refl

  inside_record : kind_of w ≡ 8 → mark_inside types w marks ≡ mark_fields marks (payload_of w + 2) (field_count types w)
  unfolding mark_inside
  inside_record e = rw e refl

  inside-named : names (kind_of w) ≡ true → mark_inside types w marks ≡ marks
  unfolding mark_inside
  inside-named h = elim (one_of 9 10 (kind_of w) h) [ inl e ↦ rw e refl | inr e ↦ rw e refl ]

  kept-inside : (own j : ℕ) → Refers types own w → own ≤ j → get_or (mark_inside types w marks) j false ≡ get_or marks j false
  kept-inside own j r l = elim (shape (kind_of w)) [
    | is_plain h ↦ rw (inside-plain h) refl
    | is_wrap h ↦
        let b = r.to_inner h in
        rw (inside-wrap h) (get_or-set_other marks (payload_of w) j true false (λ e. omega arith))
    | is_record h ↦
        let b = r.to_fields h in
        rw (inside_record h) (kept-fields (field_count types w) marks (payload_of w + 2) j (omega arith))
    | is_named h ↦ rw (inside-named h) refl
  ]

-- ── Names ──

pub among-append : (n : List ℕ) (xs ys : List (List ℕ)) → name_among n (xs ++ ys) ≡ (name_among n xs || name_among n ys)
unfolding name_among
among-append n [] ys = refl
among-append n (x ∷ xs) ys = rw (among-append n xs ys) (sym (or_assoc (same_bytes n x) (name_among n xs) (name_among n ys)))

module _ (p : Pool) (name : List ℕ) where
  -- the slot of that name stands in the type of a word, or of the word at an index; and that word is the slot
  abbrev stands : ℕ → Bool
  stands w = name_among name (slot_names (pool_ty p w))

  abbrev stands_at : ℕ → Bool
  stands_at i = name_among name (slot_names (pool_ty p (pool_word p i)))

  abbrev slot_at : ℕ → Bool
  slot_at i = is_slot p.texts name (pool_word p i)

  stands-fields : (n at : ℕ) → name_among name (slot_names_in (fields_from (pool_ty p) p.texts p.words at n)) ≡ any_field stands_at (at + 1) n
  unfolding fields_from slot_names_in any_field name_among
  stands-fields zero at = refl
  stands-fields (suc n) at =
      let e : at + 2 + 1 ≡ at + 1 + 2 = omega arith in
      among-append name (slot_names (pool_ty p (pool_word p (at + 1)))) _ ∙ rw (stands-fields n (at + 2), e) refl

  -- by shape: what stands in a type is what stands in the words that it refers to
  not-slot : (w : ℕ) → (kind_of w ≡ 10 → ⊥) → is_slot p.texts name w ≡ false
  unfolding is_slot
  not-slot w d = rw (ne_eqb (kind_of w) 10 d) refl

  plain-not-slot : (k : ℕ) → Plain k → k ≡ 10 → ⊥
  plain-not-slot k h e = true≢false (rw e at h.no_name)

  wrap-not-slot : (k : ℕ) → wraps k ≡ true → k ≡ 10 → ⊥
  wrap-not-slot k h e = true≢false (sym (rw e at h))

  stands_plain : (w : ℕ) → Plain (kind_of w) → stands w ≡ false
  unfolding slot_names name_among
  stands_plain w h = rw (pool_ty-plain p w h) refl

  stands-named : (w : ℕ) → names (kind_of w) ≡ true → stands w ≡ is_slot p.texts name w
  unfolding is_slot slot_names name_among
  stands-named w h = elim (one_of 9 10 (kind_of w) h) [
    | inl e ↦ rw (pool_ty-named p w h, e) refl
    | inr e ↦ rw (pool_ty-named p w h, e) (or-false (same_bytes name (name_bytes p.texts w)))
  ]

  module _ (fine : PoolFine p) where
    module _ (own w : ℕ) (l : own ≤ p.size) (t : TypeWord p own w) where
      refers : Refers p.words p.size w
      refers = refers-more l (type-refers t)

      stands-wrap : wraps (kind_of w) ≡ true → stands w ≡ stands_at (payload_of w)
      unfolding slot_names
      stands-wrap h = rw (pool_ty-wrap p w (pool_backward fine) refers h) refl

      stands_record : kind_of w ≡ 8 → stands w ≡ any_field stands_at (payload_of w + 2) (field_count p.words w)
      unfolding slot_names
      stands_record h =
          let e : payload_of w + 1 + 1 ≡ payload_of w + 2 = omega arith in
          rw (pool_ty_record p w (pool_backward fine) refers h, stands-fields (field_count p.words w) (payload_of w + 1), e) refl

      -- Marking the words inside stands for the same slots as a mark on the word itself, if it is no slot.
      pub any_inside : (marks : List Bool) → own ≤ length marks
          → (is_slot p.texts name w || any_marked (mark_inside p.words w marks) stands_at own) ≡ (stands w || any_marked marks stands_at own)
      any_inside marks room = elim (shape (kind_of w)) [
        | is_plain h ↦ rw (stands_plain w h, not-slot w (plain-not-slot _ h), inside-plain p.words w marks h) refl
        | is_wrap h ↦
            rw (stands-wrap h, not-slot w (wrap-not-slot _ h), inside-wrap p.words w marks h)
            (any_set stands_at marks (payload_of w) own (t.inner h).below room)
        | is_record h ↦
            let b = (t.list h).whole in
            rw (stands_record h, not-slot w (λ e. omega arith), inside_record p.words w marks h)
            (any_fields stands_at (field_count p.words w) marks (payload_of w + 2) own (omega arith) room)
        | is_named h ↦ rw (stands-named w h, inside-named p.words w marks h) refl
      ]

    -- a marked word of the pool, of whatever kind
    at_index : (i : ℕ) → i < p.size → (marks : List Bool) → i ≤ length marks
        → (slot_at i || any_marked (mark_inside p.words (pool_word p i) marks) stands_at i) ≡ (stands_at i || any_marked marks stands_at i)
    at_index i l marks room = elim (fine.each i l).kinds [
      | inl k ↦ flat (record { no_wrap = rw k refl; no_record = λ e. omega arith; no_name = rw k refl })
      | inr r ↦ elim r [
        | inl k ↦ flat (record { no_wrap = rw k refl; no_record = λ e. omega arith; no_name = rw k refl })
        | inr k ↦ any_inside i (pool_word p i) (omega arith) (good_type-true p i (pool_word p i) ((fine.each i l).type k)) marks room
      ]
    ]
      where
        flat : Plain (kind_of (pool_word p i)) → (slot_at i || any_marked (mark_inside p.words (pool_word p i) marks) stands_at i) ≡ (stands_at i || any_marked marks stands_at i)
        flat h = rw (stands_plain (pool_word p i) h, not-slot (pool_word p i) (plain-not-slot _ h), inside-plain p.words (pool_word p i) marks h) refl

    kept_at : (i j : ℕ) → i < p.size → i ≤ j → (marks : List Bool) → get_or (mark_inside p.words (pool_word p i) marks) j false ≡ get_or marks j false
    kept_at i j l m marks = kept-inside p.words (pool_word p i) marks i j ((pool_backward fine).each i l) m

    -- one step down
    step : (i : ℕ) (marks : List Bool) → List Bool
    step i marks = cond (get_or marks i false) (mark_inside p.words (pool_word p i) marks) marks

    length-step : (i : ℕ) (marks : List Bool) → length (step i marks) ≡ length marks
    unfolding step
    length-step i marks = by (get_or marks i false)
      where
        by : (b : Bool) → length (cond b (mark_inside p.words (pool_word p i) marks) marks) ≡ length marks
        by true = length-mark_inside p.words (pool_word p i) marks
        by false = refl

    kept_step : (i j : ℕ) → i < p.size → i ≤ j → (marks : List Bool) → get_or (step i marks) j false ≡ get_or marks j false
    unfolding step
    kept_step i j l m marks = by (get_or marks i false)
      where
        by : (b : Bool) → get_or (cond b (mark_inside p.words (pool_word p i) marks) marks) j false ≡ get_or marks j false
        by true = kept_at i j l m marks
        by false = refl

    any_step : (i : ℕ) → i < p.size → (marks : List Bool) → i ≤ length marks
        → (get_or marks i false && slot_at i || any_marked (step i marks) stands_at i) ≡ (get_or marks i false && stands_at i || any_marked marks stands_at i)
    unfolding step
    any_step i l marks room = by (get_or marks i false)
      where
        by : (b : Bool) → (b && slot_at i || any_marked (cond b (mark_inside p.words (pool_word p i) marks) marks) stands_at i) ≡ (b && stands_at i || any_marked marks stands_at i)
        by true = at_index i l marks room
        by false = refl

    spread-suc : (i : ℕ) (marks : List Bool) → spread p.words (suc i) marks ≡ spread p.words i (step i marks)
    unfolding spread step
    spread-suc i marks = refl

    kept-spread : (i j : ℕ) → i ≤ p.size → i ≤ j → (marks : List Bool) → get_or (spread p.words i marks) j false ≡ get_or marks j false
    unfolding spread step
    kept-spread zero j l m marks = refl
    kept-spread (suc i) j l m marks = kept-spread i j (omega arith) (omega arith) (step i marks) ∙ kept_step i j (omega arith) (omega arith) marks

    -- After the spread the marked slots are those that stood in the marked types.
    any_spread : (i : ℕ) → i ≤ p.size → (marks : List Bool) → i ≤ length marks → any_marked (spread p.words i marks) slot_at i ≡ any_marked marks stands_at i
    unfolding any_marked
    any_spread zero l marks room = refl
    any_spread (suc i) l marks room =
        ap (λ s. any_marked s slot_at (suc i)) (spread-suc i marks)
        ∙ ap (λ b. b && slot_at i || any_marked (spread p.words i (step i marks)) slot_at i)
        (kept-spread i i (omega arith) (omega arith) (step i marks) ∙ kept_step i i (omega arith) (omega arith) marks)
        ∙ ap (λ b. get_or marks i false && slot_at i || b) (any_spread i (omega arith) (step i marks) (rw length-step (omega arith)))
        ∙ any_step i (omega arith) marks (omega arith)

    -- marking some types
    any_all : (ws : List ℕ) (marks : List Bool) → Each (TypeWord p p.size) ws → p.size ≤ length marks
        → (any_slot_of p.texts name ws || any_marked (mark_all p.words ws marks) stands_at p.size)
        ≡ (name_among name (slot_names_of p ws) || any_marked marks stands_at p.size)
    unfolding any_slot_of mark_all slot_names_of name_among Each
    any_all [] marks h room = refl
    any_all (w ∷ ws) marks h room =
        let n : Bool = name_among name (slot_names_of p ws) in
        let m : Bool = any_marked marks stands_at p.size in
        or_assoc (is_slot p.texts name w) (any_slot_of p.texts name ws) _
        ∙ ap (λ b. is_slot p.texts name w || b) (any_all ws (mark_inside p.words w marks) h.1 (rw length-mark_inside room))
        ∙ swap (is_slot p.texts name w) n (any_marked (mark_inside p.words w marks) stands_at p.size)
        ∙ ap (λ b. n || b) (any_inside p.size w (omega arith) h.0 marks room)
        ∙ swap n (stands w) m
        ∙ sym (or_assoc (stands w) n m)
        ∙ ap (λ b. b || m) (sym (among-append name (slot_names (pool_ty p w)) (slot_names_of p ws)))

  any_none : (test : ℕ → Bool) (marks : List Bool) → ((j : ℕ) → get_or marks j false ≡ false) → (i : ℕ) → any_marked marks test i ≡ false
  unfolding any_marked
  any_none test marks h zero = refl
  any_none test marks h (suc i) = rw (h i, any_none test marks h i) refl

  -- THE LAW: from no marks, the slots of some types are those words that are slots themselves and those that the marks reach.
  pub slots-reached : PoolFine p → (ws : List ℕ) (marks : List Bool) → Each (TypeWord p p.size) ws → ((j : ℕ) → get_or marks j false ≡ false) → p.size ≤ length marks
      → (any_slot_of p.texts name ws || any_marked (spread p.words p.size (mark_all p.words ws marks)) slot_at p.size) ≡ name_among name (slot_names_of p ws)
  slots-reached fine ws marks h z room =
      ap (λ b. any_slot_of p.texts name ws || b) (any_spread fine p.size (omega arith) (mark_all p.words ws marks) (rw length-mark_all room))
      ∙ any_all fine ws marks h room
      ∙ rw (any_none stands_at marks z p.size) (or-false _)
