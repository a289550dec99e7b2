-- Operators and casts. Assumes nothing.
use Rattle.std.specs.Prelude.{ℕ, ◌<◌, ◌≡◌, Bool, true, ◌&&◌, ◌||◌, eqb, leb, get_or}
use Rattle.std.proofs.Common.{arith, inl, inr}
use Rattle.std.proofs.Math.Bool.{and-eq-true_iff}
use borrow.Author.Tests.{eqb-false}
use Rattle.tok.specs.Word.{kind_of, word_of}
use Rattle.ptype.specs.Add.{Buffer}
use Rattle.ptype.specs.Kinds.{one_of}
use Rattle.err.proofs.WellFormedLaws.{unsupported-well, incompatible-well, bad_unary-well, redundant_cast-well, bad_cast-well}
use Rattle.rules.specs.World.{World}
use Rattle.rules.specs.Steps.{ty, tree}
use Rattle.rules.specs.Operators.{result_kind, fuse, unary, cast}
use Rattle.tworuns.specs.Operators.{result_low}
use Rattle.onerun.specs.Claim.{Run, Good, Recorded, Holds}
use Rattle.onerun.specs.Grows.{typed-names, typed_grow}
use Rattle.onerun.specs.Logic.{Claimed, Silent, Gives, g_next, g_when, g_set, Own, before}
use Rattle.onerun.proofs.Report.{g_report, g_poison}
use Rattle.onerun.proofs.Types.{low-good}

number-good : (r : Run) (b : Buffer) (t : Bool) (k : ℕ) → (t && (eqb k 3 || eqb k 4)) ≡ true → Good r b (word_of k 0)
number-good r b t k h =
    elim (one_of 3 4 k ((and-eq-true_iff t (eqb k 3 || eqb k 4)).0 h).1) [ inl e ↦ low-good r b k (omega arith) (omega arith) | inr e ↦ low-good r b k (omega arith) (omega arith) ]

module _ (r : Run) {s : World} (h : Claimed r s) where
  -- the type in a slot that has one
  pub slot-good : {a : ℕ} → (Silent r s → Recorded r s a) → Silent r s → Good r s.types (get_or s.slots a 0)
  slot-good {a} e z = (h z).slots a (e z)

  module _ (n slot token : ℕ) (own : slot < r.ctx.void) {a : ℕ} (ea : Silent r s → Recorded r s a) where
    pub g_fuse : (op : ℕ) {b : ℕ} → (Silent r s → Recorded r s b) → Gives r (Own r slot) s (fuse r.ctx n slot token op a b s)
    unfolding fuse ty tree
    g_fuse op {b} eb =
        g_when r _ _
        (λ _. g_when r _ _ (λ _. g_poison r h n (λ l z. unsupported-well token op _ (typed-names r (slot-good ea z) l)))
        (λ _. g_poison r h n (λ l z. incompatible-well token op _ _ (typed-names r (slot-good ea z) l) (typed-names r (slot-good eb z) l))))
        (λ e. let k : result_kind op (kind_of (get_or s.slots a 0)) (kind_of (get_or s.slots b 0)) ≡ 0 → ⊥ = eqb-false _ 0 e in
        g_set r slot own h (λ z. low-good r s.types _ (omega (arith, k)) (result_low op (kind_of (get_or s.slots a 0)) (kind_of (get_or s.slots b 0)))))

    pub g_unary : (op : ℕ) → Gives r (Own r slot) s (unary r.ctx n slot token op a s)
    unfolding unary ty tree
    g_unary op =
        g_when r _ _ (λ e. g_set r slot own h (λ z. number-good r s.types (leb op 1) (kind_of (get_or s.slots a 0)) e))
        (λ _. g_poison r h n (λ l z. bad_unary-well token op _ (typed-names r (slot-good ea z) l)))

    pub g_cast : {to : ℕ} → (Silent r s → Good r s.types to) → Gives r (Own r slot) s (cast r.ctx n slot token a to s)
    unfolding cast ty tree
    g_cast g =
        g_when r _ _ (λ _. g_set r slot own h g)
        (λ _. g_when r _ _
        (λ _. g_next r _ (g_report r h n (λ l z. redundant_cast-well token _ (typed-names r (slot-good ea z) l)))
        (λ _ u t p. g_set r slot own (λ z. (p z).holds) (λ z. typed_grow r (p z).grown (g (before r t z)))))
        (λ _. g_poison r h n (λ l z. bad_cast-well token _ _ (typed-names r (slot-good ea z) l) (typed-names r (g z) l))))
