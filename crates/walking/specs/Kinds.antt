-- Which kinds of nodes each function of the walk takes (document 01, "Image": 0 Atom to 13 Array). Definitions and laws. Assumes nothing.
use Rattle.std.specs.Prelude.{ℕ, zero, suc, ◌<◌, ◌≡◌, refl, Bool, true, false, ◌||◌, eqb}
use Rattle.std.proofs.lemmas.Bool.{false≢true}
use Rattle.std.proofs.Common.{arith, eq-eqb, ne_eqb, eqb-true}
use Rattle.facts.specs.Tests.{or_rest}

-- no node is visited below them: Atom, Ident, Import, Extern
unfoldable pub is_leaf : ℕ → Bool
is_leaf k = eqb k 0 || (eqb k 1 || (eqb k 10 || eqb k 11))

-- one operand, and nothing before it: Unary, Let, Field
unfoldable pub has_one : ℕ → Bool
has_one k = eqb k 3 || (eqb k 4 || eqb k 8)

-- Bin, Cast, and those of one operand
unfoldable pub has_operands : ℕ → Bool
has_operands k = eqb k 2 || (eqb k 9 || has_one k)

-- Call, Record, Array
unfoldable pub is_sequence : ℕ → Bool
is_sequence k = eqb k 7 || (eqb k 12 || eqb k 13)

-- Fn, Match, and the sequences
unfoldable pub has_list : ℕ → Bool
has_list k = eqb k 5 || (eqb k 6 || is_sequence k)

abbrev pub Leaf : ℕ → Type 0
Leaf k = is_leaf k ≡ true

abbrev pub Operand : ℕ → Type 0
Operand k = has_operands k ≡ true

abbrev pub OneOperand : ℕ → Type 0
OneOperand k = has_one k ≡ true

abbrev pub Listed : ℕ → Type 0
Listed k = has_list k ≡ true

abbrev pub Sequence : ℕ → Type 0
Sequence k = is_sequence k ≡ true

abbrev pub Is : (j k : ℕ) → Type 0
Is j k = k ≡ j

-- ── Laws ──

all_kinds : (k : ℕ) → k < 14 → (is_leaf k || (has_operands k || has_list k)) ≡ true
unfolding is_leaf has_operands has_one has_list is_sequence
all_kinds zero h = refl
all_kinds (suc zero) h = refl
all_kinds (suc (suc zero)) h = refl
all_kinds (suc (suc (suc zero))) h = refl
all_kinds (suc (suc (suc (suc zero)))) h = refl
all_kinds (suc (suc (suc (suc (suc zero))))) h = refl
all_kinds (suc (suc (suc (suc (suc (suc zero)))))) h = refl
all_kinds (suc (suc (suc (suc (suc (suc (suc zero))))))) h = refl
all_kinds (suc (suc (suc (suc (suc (suc (suc (suc zero)))))))) h = refl
all_kinds (suc (suc (suc (suc (suc (suc (suc (suc (suc zero))))))))) h = refl
all_kinds (suc (suc (suc (suc (suc (suc (suc (suc (suc (suc zero)))))))))) h = refl
all_kinds (suc (suc (suc (suc (suc (suc (suc (suc (suc (suc (suc zero))))))))))) h = refl
all_kinds (suc (suc (suc (suc (suc (suc (suc (suc (suc (suc (suc (suc zero)))))))))))) h = refl
all_kinds (suc (suc (suc (suc (suc (suc (suc (suc (suc (suc (suc (suc (suc zero))))))))))))) h = refl
all_kinds (suc (suc (suc (suc (suc (suc (suc (suc (suc (suc (suc (suc (suc (suc k)))))))))))))) h = absurd (omega (arith, h))

other : (k j : ℕ) → (k ≡ j → ⊥) → eqb k j ≡ false
other k j n = ne_eqb k j n

-- a kind of document 01's that is no leaf and has no operands has a list
pub is-listed : (k : ℕ) → k < 14 → is_leaf k ≡ false → has_operands k ≡ false → Listed k
is-listed k l e f = or_rest (has_operands k) (has_list k) f (or_rest (is_leaf k) (has_operands k || has_list k) e (all_kinds k l))

-- what is left once some are tested
pub is_one : (k : ℕ) → Operand k → (k ≡ 2 → ⊥) → (k ≡ 9 → ⊥) → OneOperand k
unfolding has_operands
is_one k h a b = or_rest (eqb k 9) (has_one k) (other k 9 b) (or_rest (eqb k 2) _ (other k 2 a) h)

pub is_sequence_lem : (k : ℕ) → Listed k → (k ≡ 5 → ⊥) → (k ≡ 6 → ⊥) → Sequence k
unfolding has_list
is_sequence_lem k h a b = or_rest (eqb k 6) (is_sequence k) (other k 6 b) (or_rest (eqb k 5) _ (other k 5 a) h)

pub is-array : (k : ℕ) → Sequence k → (k ≡ 7 → ⊥) → (k ≡ 12 → ⊥) → k ≡ 13
unfolding is_sequence
is-array k h a b = eqb-true k 13 (or_rest (eqb k 12) (eqb k 13) (other k 12 b) (or_rest (eqb k 7) _ (other k 7 a) h))

pub is_field : (k : ℕ) → OneOperand k → (k ≡ 3 → ⊥) → (k ≡ 4 → ⊥) → k ≡ 8
unfolding has_one
is_field k h a b = eqb-true k 8 (or_rest (eqb k 4) (eqb k 8) (other k 4 b) (or_rest (eqb k 3) _ (other k 3 a) h))

pub is-extern : (k : ℕ) → Leaf k → (k ≡ 0 → ⊥) → (k ≡ 1 → ⊥) → (k ≡ 10 → ⊥) → k ≡ 11
unfolding is_leaf
is-extern k h a b c = eqb-true k 11 (or_rest (eqb k 10) (eqb k 11) (other k 10 c) (or_rest (eqb k 1) _ (other k 1 b) (or_rest (eqb k 0) _ (other k 0 a) h)))
