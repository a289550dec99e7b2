-- Types of a small buffer, computed: their trees, equality, what stands in them, and depth at the limit. Assumes nothing.
use Prim.Native.Nat.{ℕ, zero, suc, ◌+◌}
use mathlib.Core.Path.{◌≡◌, refl}
use mathlib.Core.Bool.{true, false}
use mathlib.Core.List.{List, [], ◌∷◌}
use Rattle.tok.specs.Word.{word_of}
use Rattle.tok.specs.Text.{Texts, texts_of, name_bytes, same_bytes, text}
use Rattle.ptype.specs.Ty.{rec, no_field, field, int_ty, bool_ty, option_ty, slot_ty, unknown_ty, same_ty, contains_unknown, contains_slot, depth_of}
use Rattle.ptype.specs.Words.{fields_from, ways, unfolded, ty_of}

-- The name a stands in both texts, b in the script text.
texts : Texts
texts = texts_of (text "ab") (text "a")

-- Bool; four Records: a Int, b Bool; the same with a of the library text; the same in the other order; a unknown, b of slot a
types : List ℕ
types =
    0x20000000 ∷ (2 ∷ 0xC0000001 ∷ 0x30000000 ∷ 0xC0000101 ∷ 0x20000000 ∷ (2 ∷ 0xC1000001 ∷ 0x30000000 ∷ 0xC0000101 ∷ 0x20000000
    ∷ (2 ∷ 0xC0000101 ∷ 0x20000000 ∷ 0xC0000001 ∷ 0x30000000 ∷ (2 ∷ 0xC0000001 ∷ 0xB0000000 ∷ 0xC0000101 ∷ 0xA1000001 ∷ []))))

record_tree : ty_of texts types 0x80000001 ≡ rec (field (text "a") int_ty (field (text "b") bool_ty no_field))
unfolding texts types ty_of unfolded ways fields_from name_bytes text
record_tree = refl

slot-tree : ty_of texts types 0x80000010 ≡ rec (field (text "a") unknown_ty (field (text "b") (slot_ty (text "a")) no_field))
unfolding texts types ty_of unfolded ways fields_from name_bytes text
slot-tree = refl

option-tree : ty_of texts types 0x60000000 ≡ option_ty bool_ty
unfolding texts types ty_of unfolded ways
option-tree = refl

-- Names are compared by their bytes, whichever text holds them; the order of fields counts; an Option is no Array.
same_bytes_lem : same_ty (ty_of texts types 0x80000001) (ty_of texts types 0x80000006) ≡ true
unfolding texts types ty_of unfolded ways fields_from name_bytes text same_ty same_bytes
same_bytes_lem = refl

other-order : same_ty (ty_of texts types 0x80000001) (ty_of texts types 0x8000000B) ≡ false
unfolding texts types ty_of unfolded ways fields_from name_bytes text same_ty same_bytes
other-order = refl

option-array : same_ty (ty_of texts types 0x60000000) (ty_of texts types 0x70000000) ≡ false
unfolding texts types ty_of unfolded ways same_ty
option-array = refl

-- Unknown and a slot stand in the last Record, and not in the first.
unknown-inside : contains_unknown (ty_of texts types 0x80000010) ≡ true
unfolding texts types ty_of unfolded ways fields_from contains_unknown
unknown-inside = refl

slot-inside : contains_slot (ty_of texts types 0x80000010) ≡ true
unfolding texts types ty_of unfolded ways fields_from contains_slot
slot-inside = refl

no-unknown : contains_unknown (ty_of texts types 0x80000001) ≡ false
unfolding texts types ty_of unfolded ways fields_from contains_unknown
no-unknown = refl

-- Bool, and an Option of each word before it
tower : (at n : ℕ) → List ℕ
tower at zero = []
tower at (suc n) = word_of 6 at ∷ tower (at + 1) n

options : ℕ → List ℕ
options n = 0x20000000 ∷ tower 0 n

-- 32 deep, 33 deep, and deeper: "type depth 32 (a type with nothing inside is 1)"
deep_32 : depth_of (ty_of texts (options 30) (word_of 6 30)) ≡ 32
unfolding options tower ty_of unfolded ways depth_of
deep_32 = refl

deep_33 : depth_of (ty_of texts (options 31) (word_of 6 31)) ≡ 33
unfolding options tower ty_of unfolded ways depth_of
deep_33 = refl

deeper : depth_of (ty_of texts (options 60) (word_of 6 60)) ≡ 34
unfolding options tower ty_of unfolded ways depth_of
deeper = refl
