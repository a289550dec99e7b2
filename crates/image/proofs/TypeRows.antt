-- The type records, as the code reads them: the rows of the table of kinds, and one record after the other. Assumes nothing.
use Prim.Native.Nat.{ℕ, suc, ◌-◌, ◌%◌, ◌≤◌}
use mathlib.Core.Bool.{false, ◌&&◌}
use mathlib.Core.List.{List}
use mathlib.Core.Path.{◌≡◌, refl, sym, ap, ◌∙◌}
use native.Mathlib.Omega.{arith}
use lib.Dec.{leb, eqb}
use borrow.Author.Tests.{lt-leb}
use Rattle.std.proofs.Math.Decide.{dec_lt}
use Rattle.std.specs.Prelude.{Result, Ok, Err, ◌⊎◌}
use Rattle.std.proofs.Common.{inl, inr}
use Rattle.tok.specs.Word.{kind_of, payload_of}
use Rattle.reader.specs.declared.Fault.{Fault}
use Rattle.reader.specs.Reading.{Reader, gave}
use Rattle.reader.specs.Repeated.{Repeated, none_left, one_more, one_stops}
use Rattle.ast.specs.declared.ExprKind.{ExprKind}
use Rattle.ast.specs.declared.ExprKind.TheVariants as expr
use Rattle.ast.specs.Kinds.{kind_of_expr}
use Rattle.ast.specs.KindLaws.{expr-number}
use Rattle.ast.specs.TypeRecords.{type_inner, type_kinds, type_kind, good_type_head, type_expression, type_expressions}
use Rattle.image_words.specs.Leads.{unanswered}
use Rattle.image_words.specs.LeadLaws.{leads_then, leads_stops, same_on}
use Rattle.image.specs.Counted.{LeadsFor}

-- ── The rows of the table of kinds ──

-- words of one kind have one row
same_row : (w v : ℕ) → kind_of w ≡ kind_of v → type_kind w ≡ type_kind v
unfolding type_kind
same_row w v e = rw e refl

-- the length of a word's record, by the row of a word of the same kind
pub head-by : (w v long : ℕ) → long ≡ payload_of w → kind_of w ≡ kind_of v → (type_kind v).long long ≡ good_type_head w
unfolding good_type_head
head-by w v long p e = ap (λ κ. κ.long long) (sym (same_row w v e)) ∙ ap (type_kind w).long p

-- 2 and pairs more
pub pairs-even : (k : ℕ) → (leb 2 k && eqb ((k - 2) % 2) 0) ≡ (leb 2 k && eqb (k % 2) 0)
pairs-even k = elim (dec_lt k 2) [
  | yes l ↦ rw (lt-leb 2 k l) refl
  | no l ↦ let e : (k - 2) % 2 ≡ k % 2 = omega arith in rw e refl
]

-- its words, likewise
pub rest-by : (from : Reader) (text : List ℕ) (to : Result Reader Fault) (head v number left : ℕ) → kind_of head ≡ kind_of v
    → LeadsFor from text (λ c. (type_kind v).rest c number left) to → LeadsFor from text (λ c. (type_kind head).rest c number left) to
rest-by from text to head v number left e l = rw (same_row head v e) l

-- Foreign, Option and Array are two words long
pub two-long : (w long : ℕ) {x : ExprKind} → long ≡ payload_of w → x ≡ kind_of_expr (kind_of w) → (x ≡ expr.Foreign) ⊎ ((x ≡ expr.Option) ⊎ (x ≡ expr.Array))
    → eqb long 2 ≡ good_type_head w
unfolding type_kind type_kinds
two-long w long p e (inl q) = head-by w 0x1000_0000 long p (expr-number _ (sym q ∙ e))
two-long w long p e (inr (inl q)) = head-by w 0x2000_0000 long p (expr-number _ (sym q ∙ e))
two-long w long p e (inr (inr q)) = head-by w 0x3000_0000 long p (expr-number _ (sym q ∙ e))

-- Option and Array have their inner type
pub inner-rest : (from : Reader) (text : List ℕ) (to : Result Reader Fault) (head : ℕ) {x : ExprKind} (number left : ℕ) → x ≡ kind_of_expr (kind_of head)
    → (x ≡ expr.Option) ⊎ (x ≡ expr.Array) → LeadsFor from text (λ c. type_inner c number left) to
    → LeadsFor from text (λ c. (type_kind head).rest c number left) to
unfolding type_kind type_kinds
inner-rest from text to head number left e (inl q) l = rest-by from text to head 0x2000_0000 number left (expr-number _ (sym q ∙ e)) l
inner-rest from text to head number left e (inr q) l = rest-by from text to head 0x3000_0000 number left (expr-number _ (sym q ∙ e)) l

-- a number that is none of the table's
beyond : (k : ℕ) → 5 ≤ k → (j : ℕ) × (k ≡ suc (suc (suc (suc (suc j)))))
beyond k h = (k - 5, omega arith)

pub no-head : (w : ℕ) → 5 ≤ kind_of w → false ≡ good_type_head w
unfolding good_type_head type_kind type_kinds
no-head w h = let s = beyond (kind_of w) h in rw (s.1, good_type_head) refl

pub no-rest : (from : Reader) (text : List ℕ) (head number left : ℕ) → 5 ≤ kind_of head
    → LeadsFor from text (λ c. (type_kind head).rest c number left) (Ok from)
unfolding type_kind type_kinds unanswered gave
no-rest from text head number left h = let s = beyond (kind_of head) h in (λ n t v. rw s.1 refl, refl)

-- ── One record after the other ──

module _ {one : Reader → ℕ → Result Reader Fault → Type 0} (text : List ℕ)
    (turn : (from : Reader) (i : ℕ) (to : Result Reader Fault) → one from i to → LeadsFor from text (λ c. type_expression c i) to) where
  pub types_lead : {i count : ℕ} {from : Reader} {to : Result Reader Fault} → Repeated one i count from to
      → LeadsFor from text (λ c. type_expressions c count i) to
  unfolding type_expressions unanswered gave
  types_lead none_left = (λ n t v. refl, refl)
  types_lead {from = from} {to = to} (one_more {i = i} {mid = mid} h rest) =
      let this = turn from i (Ok mid) h in
      let others = types_lead rest in
      (λ n t v. leads_then _ _ mid to (this.0 n t v) (λ _. others.0 n t v), same_on from mid to this.1 others.1)
  types_lead {from = from} (one_stops {i = i} {fault = fault} h) = let this = turn from i (Err fault) h in (λ n t v. leads_stops _ _ fault (this.0 n t v), tt)
