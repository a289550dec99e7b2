-- Kinds and their numbers, and the operator table, by the branches that read it. Assumes nothing.
use Rattle.std.specs.Prelude.{Option, Some, None, cond}
use Rattle.std.proofs.Common.{true≢false}
use Rattle.std.proofs.lemmas.Option.{none-some, same_Some}
use mathlib.Core.Logic.{◌⊎◌, inl, inr}
use Prim.Native.Nat.{ℕ, zero, suc, ◌≤◌, ◌<◌}
use mathlib.Core.Path.{◌≡◌, refl, sym, ap, ◌∙◌}
use mathlib.Core.Bool.{Bool, true, false, ◌&&◌, ◌||◌}
use mathlib.Core.List.{List, [], ◌∷◌}
use native.Mathlib.Omega.{arith}
use lib.Dec.{eqb, leb}
use lib.ListN.{get_or, length, get_or-eq_default}
use borrow.Author.Tests.{ne_eqb, leb-true, eqb-true}
use Rattle.facts.specs.Tests.{both}
use Rattle.ptype.specs.declared.TypeKind.{TypeKind}
use Rattle.ptype.specs.declared.TypeKind.TheVariants as type
use Rattle.ptype.specs.TypeKind.{kinds_of_types, kind_of_type, number_of_type}
use Rattle.err.specs.Message.{class_of}
use Rattle.rules.specs.Operators.{Table, arithmetic, remainder, equality, order, operator_tables, result_kind, castable}

-- ---- kinds
-- the number of a number's kind is that number, or 0 past the kinds
abbrev Back : ℕ → Type 0
Back k = (number_of_type (kind_of_type k) ≡ k) ⊎ ((12 ≤ k) × (number_of_type (kind_of_type k) ≡ 0))

back : (k : ℕ) → Back k
unfolding kind_of_type kinds_of_types
back zero = inl refl
back (suc zero) = inl refl
back (suc (suc zero)) = inl refl
back (suc (suc (suc zero))) = inl refl
back (suc (suc (suc (suc zero)))) = inl refl
back (suc (suc (suc (suc (suc zero))))) = inl refl
back (suc (suc (suc (suc (suc (suc zero)))))) = inl refl
back (suc (suc (suc (suc (suc (suc (suc zero))))))) = inl refl
back (suc (suc (suc (suc (suc (suc (suc (suc zero)))))))) = inl refl
back (suc (suc (suc (suc (suc (suc (suc (suc (suc zero))))))))) = inl refl
back (suc (suc (suc (suc (suc (suc (suc (suc (suc (suc zero)))))))))) = inl refl
back (suc (suc (suc (suc (suc (suc (suc (suc (suc (suc (suc zero))))))))))) = inl refl
back (suc (suc (suc (suc (suc (suc (suc (suc (suc (suc (suc (suc k)))))))))))) = inr (omega arith, refl)

back-low : (k : ℕ) → k ≤ 4 → number_of_type (kind_of_type k) ≡ k
back-low k h = by (back k)
  where
    by : Back k → number_of_type (kind_of_type k) ≡ k
    by (inl e) = e
    by (inr (far, _)) = absurd (omega (arith, h, far))

-- so a test of it for a kind of 1 to 11 is one of the number
kind-tested : (k j : ℕ) → 1 ≤ j → j ≤ 11 → eqb (number_of_type (kind_of_type k)) j ≡ eqb k j
kind-tested k j h h' = by (back k)
  where
    by : Back k → eqb (number_of_type (kind_of_type k)) j ≡ eqb k j
    by (inl e) = ap (λ i. eqb i j) e
    by (inr (far, e)) = ap (λ i. eqb i j) e ∙ ne_eqb 0 j (λ z. omega (arith, h, z)) ∙ sym (ne_eqb k j (λ z. omega (arith, h', far, z)))

tested : (k : ℕ) → (eqb (number_of_type (kind_of_type k)) 2 ≡ eqb k 2) × (eqb (number_of_type (kind_of_type k)) 3 ≡ eqb k 3) × (eqb (number_of_type (kind_of_type k)) 4 ≡ eqb k 4)
tested k = (kind-tested k 2 (omega arith) (omega arith), kind-tested k 3 (omega arith) (omega arith), kind-tested k 4 (omega arith) (omega arith))

pub castable-by-kinds : (from to : ℕ) {f t : TypeKind} → f ≡ kind_of_type from → t ≡ kind_of_type to → castable (number_of_type f) (number_of_type t) ≡ castable from to
unfolding castable
castable-by-kinds from to hf ht =
    let (f₂, f₃, f₄) = tested from in
    let (t₂, t₃, t₄) = tested to in
    rw (hf, ht, f₂, f₃, f₄, t₂, t₃, t₄) refl

pub takes-by-kind : (b : Bool) (k : ℕ) {x : TypeKind} → x ≡ kind_of_type k → b && (eqb (number_of_type x) 3 || eqb (number_of_type x) 4) ≡ b && (eqb k 3 || eqb k 4)
takes-by-kind b k hx =
    let (_, k₃, k₄) = tested k in
    rw (hx, k₃, k₄) refl

-- a kind that is taken keeps its number
pub taken-number : (b : Bool) (k : ℕ) → b && (eqb k 3 || eqb k 4) ≡ true → number_of_type (kind_of_type k) ≡ k
taken-number b k h = by (back k)
  where
    by : Back k → number_of_type (kind_of_type k) ≡ k
    by (inl e) = e
    by (inr (far, _)) =
        let z : eqb k 3 || eqb k 4 ≡ false = rw (ne_eqb k 3 (λ e. omega (arith, far, e)), ne_eqb k 4 (λ e. omega (arith, far, e))) refl in
        absurd (true≢false (sym (both b (eqb k 3 || eqb k 4) h).1 ∙ z))

-- ---- the table
-- a test that each entry of a list passes, and what stands in for one past its end too
each : {A : Type 0} → (A → Bool) → List A → Bool
each p [] = true
each p (x ∷ xs) = p x && each p xs

each_get_d : {A : Type 0} (p : A → Bool) (d : A) (xs : List A) (i : ℕ) → p d ≡ true → each p xs ≡ true → p (get_or xs i d) ≡ true
unfolding each
each_get_d p d [] i h e = h
each_get_d p d (x ∷ xs) zero h e = (both (p x) (each p xs) e).0
each_get_d p d (x ∷ xs) (suc i) h e = each_get_d p d xs i h (both (p x) (each p xs) e).1

-- six rows of six, of kinds up to Double
good_row : List ℕ → Bool
good_row row = leb (length row) 6 && each (λ k. leb k 4) row

good_table : Table → Bool
good_table t = leb (length t) 6 && each good_row t

-- the row of no kind is empty, and the column
no_row : Table → Bool
no_row t = each (λ k. eqb k 0) (get_or t 0 [])

no_first : List ℕ → Bool
no_first row = eqb (get_or row 0 0) 0

no_column : Table → Bool
no_column t = each no_first t

module _ (class l r : ℕ) where
  abbrev table : Table
  table = get_or operator_tables class []

  abbrev row : List ℕ
  row = get_or table l []

  table-good : good_table table ≡ true
  unfolding good_table good_row each operator_tables arithmetic remainder equality order
  table-good = each_get_d good_table [] operator_tables class refl refl

  row-good : good_row row ≡ true
  unfolding good_table good_row each
  row-good = each_get_d good_row [] table l refl (both (leb (length table) 6) (each good_row table) table-good).1

  kind-good : leb (get_or row r 0) 4 ≡ true
  unfolding good_row
  kind-good = each_get_d (λ k. leb k 4) 0 row r refl (both (leb (length row) 6) (each (λ k. leb k 4) row) row-good).1

  table-length : length table ≤ 6
  unfolding good_table
  table-length = leb-true (length table) 6 (both (leb (length table) 6) (each good_row table) table-good).0

  row-length : length row ≤ 6
  unfolding good_row
  row-length = leb-true (length row) 6 (both (leb (length row) 6) (each (λ k. leb k 4) row) row-good).0

  -- the row and the column of no kind are empty
  first-row : (i : ℕ) → get_or (get_or table 0 []) i 0 ≡ 0
  unfolding no_row each operator_tables arithmetic remainder equality order
  first-row i = eqb-true _ 0 (each_get_d (λ k. eqb k 0) 0 (get_or table 0 []) i refl (each_get_d no_row [] operator_tables class refl refl))

  first_column : get_or row 0 0 ≡ 0
  unfolding no_column no_first each operator_tables arithmetic remainder equality order
  first_column = eqb-true _ 0 (each_get_d no_first [] table l refl (each_get_d no_column [] operator_tables class refl refl))

-- the answer where 0 says that there is none
abbrev pub unless_none : ℕ → Option TypeKind
unless_none k = cond (eqb k 0) None (Some (kind_of_type k))

kind_low : (op left right : ℕ) → result_kind op left right ≤ 4
unfolding result_kind
kind_low op left right = leb-true (result_kind op left right) 4 (kind-good (class_of op) left right)

past_left : (op left right : ℕ) → 6 ≤ left → result_kind op left right ≡ 0
unfolding result_kind
past_left op left right h = ap (λ t. get_or t right 0) (get_or-eq_default (table (class_of op) left right) [] (omega (arith, table-length (class_of op) left right, h)))

past_right : (op left right : ℕ) → 6 ≤ right → result_kind op left right ≡ 0
unfolding result_kind
past_right op left right h = get_or-eq_default (row (class_of op) left right) 0 (omega (arith, row-length (class_of op) left right, h))

-- the operands' kinds say what their numbers do
module _ (op left right : ℕ) where
  left-back : result_kind op (number_of_type (kind_of_type left)) right ≡ result_kind op left right
  unfolding result_kind
  left-back = by (back left)
    where
      by : Back left → result_kind op (number_of_type (kind_of_type left)) right ≡ result_kind op left right
      by (inl e) = ap (λ i. result_kind op i right) e
      by (inr (far, e)) = ap (λ i. result_kind op i right) e ∙ first-row (class_of op) 0 right right ∙ sym (past_left op left right (omega (arith, far)))

  right-back : result_kind op left (number_of_type (kind_of_type right)) ≡ result_kind op left right
  unfolding result_kind
  right-back = by (back right)
    where
      by : Back right → result_kind op left (number_of_type (kind_of_type right)) ≡ result_kind op left right
      by (inl e) = ap (λ i. result_kind op left i) e
      by (inr (far, e)) = ap (λ i. result_kind op left i) e ∙ first_column (class_of op) left right ∙ sym (past_right op left right (omega (arith, far)))

pub result-by-kinds : (op left right : ℕ) {l r : TypeKind} → l ≡ kind_of_type left → r ≡ kind_of_type right → result_kind op (number_of_type l) (number_of_type r) ≡ result_kind op left right
result-by-kinds op left right hl hr = rw (hl, hr) (left-back op left (number_of_type (kind_of_type right)) ∙ right-back op left right)

module _ (op left right : ℕ) {class : ℕ} (hc : class ≡ class_of op) where
  kind-is : get_or (get_or (get_or operator_tables class []) left []) right 0 ≡ result_kind op left right
  unfolding result_kind
  kind-is = rw hc

  -- none past the tables' ends
  past : (4 ≤ class) ⊎ ((class < 4 × 6 ≤ left) ⊎ (class < 4 × left < 6 × 6 ≤ right)) → result_kind op left right ≡ 0
  unfolding operator_tables
  past (inl h) = sym kind-is ∙ ap (λ t. get_or (get_or t left []) right 0) (get_or-eq_default operator_tables [] h)
  past (inr (inl (_, h))) = past_left op left right h
  past (inr (inr (_, _, h))) = past_right op left right h

  pub none_past : (4 ≤ class) ⊎ ((class < 4 × 6 ≤ left) ⊎ (class < 4 × left < 6 × 6 ≤ right)) → None ≡ unless_none (result_kind op left right)
  none_past h = rw (past h)

  module _ {x : TypeKind} (hx : x ≡ kind_of_type (get_or (get_or (get_or operator_tables class []) left []) right 0)) where
    found : x ≡ kind_of_type (result_kind op left right)
    found = hx ∙ ap kind_of_type kind-is

    pub none-kind : x ≡ type.None → None ≡ unless_none (result_kind op left right)
    none-kind e =
        let z : result_kind op left right ≡ 0 = sym (back-low (result_kind op left right) (kind_low op left right)) ∙ ap (λ k. number_of_type k) (sym found ∙ e) in
        rw z

    pub some-kind : (x ≡ type.None → ⊥) → Some x ≡ unless_none (result_kind op left right)
    unfolding kind_of_type kinds_of_types
    some-kind h = ap (λ k. Some k) found ∙ rw (ne_eqb (result_kind op left right) 0 (λ z. h (found ∙ ap (λ k. kind_of_type k) z)))

none_by : (b : Bool) (n : TypeKind) → None ≡ cond b None (Some n) → b ≡ true
none_by true n h = refl
none_by false n h = absurd (none-some n h)

some-by : (b : Bool) (n k : TypeKind) → Some k ≡ cond b None (Some n) → (b ≡ false) × (k ≡ n)
some-by true n k h = absurd (none-some k (sym h))
some-by false n k h = (refl, same_Some k n h)

-- what was found says whether the operator takes its operands, and the number of the result's kind
pub none_of : (n : ℕ) → None ≡ unless_none n → eqb n 0 ≡ true
none_of n h = none_by (eqb n 0) (kind_of_type n) h

pub some_of : (op left right : ℕ) (k : TypeKind) → Some k ≡ unless_none (result_kind op left right) → (eqb (result_kind op left right) 0 ≡ false) × (number_of_type k ≡ result_kind op left right)
some_of op left right k h =
    let (e, q) = some-by (eqb (result_kind op left right) 0) (kind_of_type (result_kind op left right)) k h in
    (e, ap (λ x. number_of_type x) q ∙ back-low (result_kind op left right) (kind_low op left right))
