-- What `room_after` and `room_after_fields` return, by the kind of the word and by the fields that are left. By the laws of unfolding. Assumes nothing.
use Prim.Native.Nat.{ℕ, ◌+◌, ◌-◌}
use native.Mathlib.Omega.{arith}
use native.Mathlib.Decide.{dec_lt}
use mathlib.Core.Path.{◌≡◌, sym, ap, ◌∙◌}
use mathlib.Core.Bool.{true, false, true≢false}
use mathlib.Core.List.{List}
use borrow.Author.Tests.{lt-ltb, le-ltb}
use lib.Dec.{ltb}
use lib.ListN.{get_or}
use Rattle.tok.specs.Word.{kind_of, payload_of}
use Rattle.tok.specs.Text.{Texts}
use Rattle.ptype.specs.Ty.{Ty}
use Rattle.ptype.specs.Words.{inner_word, field_count, fields_from, fields_of, unfolded}
use Rattle.ptype.specs.Size.{size_of, size_of_all}
use Rattle.ptype.specs.Kinds.{wraps, shape, is_plain, is_wrap, is_record, is_named}
use Rattle.ptype.proofs.UnfoldLaws.{one_less, unfolded-none, unfolded-plain, unfolded-wrap, unfolded_record, unfolded-named, fields-none, fields-more}

-- k, i, q, n are what the calls gave, each with what its contract says of it; r is the result
module _ (t : Texts) (types : List ℕ) (w room : ℕ) {deep : ℕ} where
  pub room_bottom : deep ≡ 0 → room - 1 ≡ room - size_of (unfolded t types deep w)
  unfolding size_of
  room_bottom e = rw (unfolded-none t types w e)

  module _ {k : ℕ} (p : deep ≡ 0 → ⊥) (ek : k ≡ kind_of w) where
    pub room-wrap : {i r : ℕ} → wraps k ≡ true → i ≡ inner_word types w → r ≡ (room - 1) - size_of (unfolded t types (deep - 1) i) → r ≡ room - size_of (unfolded t types deep w)
    unfolding size_of
    room-wrap h ei e = rw (unfolded-wrap t types w (one_less p) ek h, ← ei) (omega arith)

    pub room_record : {r : ℕ} → k ≡ 8 → r ≡ (room - 1) - size_of_all (fields_of (unfolded t types (deep - 1)) t types w) → r ≡ room - size_of (unfolded t types deep w)
    unfolding size_of
    room_record h e = rw (unfolded_record t types w (one_less p) ek h) (omega arith)

    pub room-here : wraps k ≡ false → (k ≡ 8 → ⊥) → room - 1 ≡ room - size_of (unfolded t types deep w)
    unfolding size_of
    room-here a b = elim (shape k) [
      | is_plain h ↦ rw (unfolded-plain t types w (one_less p) ek h)
      | is_wrap h ↦ absurd (true≢false (sym h ∙ a))
      | is_record h ↦ absurd (b h)
      | is_named h ↦ rw (unfolded-named t types w (one_less p) ek h)
    ]

-- the fields left, n from an index on: at first all
pub room-all : (t : Texts) (types : List ℕ) (go : ℕ → Ty) (w room : ℕ) {at n : ℕ} → at ≡ payload_of w + 1 → n ≡ field_count types w
    → room - size_of_all (fields_of go t types w) ≡ room - size_of_all (fields_from go t types at n)
room-all t types go w room ea en = rw (en, ea)

-- s is what is left after all the fields, by the loop's invariant
module _ (t : Texts) (types : List ℕ) (go : ℕ → Ty) (at here : ℕ) {n s : ℕ} (inv : s ≡ here - size_of_all (fields_from go t types at n)) where
  pub room-none : n ≡ 0 → here ≡ s
  unfolding size_of
  room-none e = sym (inv ∙ rw (fields-none go t types at e) (omega arith))

  pub room-more : {w h at' n' : ℕ} → at' ≡ at + 2 → n' ≡ n - 1 → (n ≡ 0 → ⊥) → w ≡ get_or types (at + 1) 0 → h ≡ here - size_of (go w)
      → s ≡ h - size_of_all (fields_from go t types at' n')
  unfolding size_of
  room-more {h = h} ea en p ew eh =
      rw (ea, en) (
      let e : size_of_all (fields_from go t types at n) ≡ size_of (go (get_or types (at + 1) 0)) + size_of_all (fields_from go t types (at + 2) (n - 1)) = rw (fields-more go t types at (one_less p)) in
      let f : h ≡ here - size_of (go (get_or types (at + 1) 0)) = eh ∙ ap (λ v. here - size_of (go v)) ew in
      omega arith)

-- room is left where there are fewer words
pub room_left : (n s : ℕ) {x : ℕ} → x ≡ n - s → ltb 0 x ≡ ltb s n
room_left n s {x} e = elim (dec_lt s n) [ yes h ↦ lt-ltb 0 x (omega arith) ∙ sym (lt-ltb s n h) | no h ↦ le-ltb 0 x (omega arith) ∙ sym (le-ltb s n (omega arith)) ]
