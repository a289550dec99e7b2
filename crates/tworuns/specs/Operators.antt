-- Operators and casts in two runs. Assumes nothing.
use Rattle.std.specs.Prelude.{ℕ, zero, suc, ◌≤◌, ◌<◌, ◌≡◌, refl, Bool, true, ◌&&◌, ◌||◌, List, [], ◌∷◌, eqb, leb, get_or}
use Rattle.std.proofs.Common.{arith, inl, inr, leb-true, ne_eqb}
use Rattle.std.proofs.Math.Bool.{and-eq-true_iff}
use Rattle.ptype.specs.Kinds.{Plain, one_of}
use Rattle.err.specs.Message.{class_of}
use Rattle.rules.specs.World.{World}
use Rattle.rules.specs.Steps.{ty, tree}
use Rattle.rules.specs.Operators.{arithmetic, remainder, equality, order, operator_tables, result_kind, fuse, unary, cast}
use Rattle.tworuns.specs.Runs.{Runs, Slot, SameType, Worlds, same_kind, same-tree, same_test, type_grow}
use Rattle.tworuns.specs.Logic.{Gives, p_next, p_when, p_set, Answers}
use Rattle.tworuns.specs.Primitive.{p_report, p_poison}
use Rattle.tworuns.specs.Exprs.{plain-same}

pub plain-low : (k : ℕ) → k ≤ 5 → Plain k
plain-low k h = record {
  no_wrap = rw (ne_eqb k 6 (λ e. omega arith), ne_eqb k 7 (λ e. omega arith));
  no_record = λ e. omega arith;
  no_name = rw (ne_eqb k 9 (λ e. omega arith), ne_eqb k 10 (λ e. omega arith));
}

-- every result in the tables is such a kind
low : List ℕ → Bool
low [] = true
low (k ∷ ks) = leb k 5 && low ks

lows : List (List ℕ) → Bool
lows [] = true
lows (t ∷ ts) = low t && lows ts

get_d_low : (ks : List ℕ) (i : ℕ) → low ks ≡ true → get_or ks i 0 ≤ 5
unfolding low
get_d_low [] i h = omega arith
get_d_low (k ∷ ks) zero h = leb-true k 5 ((and-eq-true_iff (leb k 5) (low ks)).0 h).0
get_d_low (k ∷ ks) (suc i) h = get_d_low ks i ((and-eq-true_iff (leb k 5) (low ks)).0 h).1

get_d_lows : (ts : List (List ℕ)) (i : ℕ) → lows ts ≡ true → low (get_or ts i []) ≡ true
unfolding low lows
get_d_lows [] i h = refl
get_d_lows (t ∷ ts) zero h = ((and-eq-true_iff (low t) (lows ts)).0 h).0
get_d_lows (t ∷ ts) (suc i) h = get_d_lows ts i ((and-eq-true_iff (low t) (lows ts)).0 h).1

class_lows : (i : ℕ) → lows (get_or operator_tables i []) ≡ true
unfolding operator_tables arithmetic remainder equality order low lows
class_lows zero = refl
class_lows (suc zero) = refl
class_lows (suc (suc zero)) = refl
class_lows (suc (suc (suc zero))) = refl
class_lows (suc (suc (suc (suc i)))) = refl

pub result_low : (op l r : ℕ) → result_kind op l r ≤ 5
unfolding result_kind
result_low op l r = get_d_low (get_or (get_or operator_tables (class_of op) []) l []) r (get_d_lows (get_or operator_tables (class_of op) []) l (class_lows (class_of op)))

result-plain : (op l r : ℕ) → Plain (result_kind op l r)
result-plain op l r = plain-low _ (result_low op l r)

number-plain : (b : Bool) (k : ℕ) → (b && (eqb k 3 || eqb k 4)) ≡ true → Plain k
number-plain b k h = elim (one_of 3 4 k ((and-eq-true_iff b (eqb k 3 || eqb k 4)).0 h).1) [ inl e ↦ plain-low k (omega arith) | inr e ↦ plain-low k (omega arith) ]

module _ (r : Runs) {s s' : World} (ws : Worlds r s s') (n slot token : ℕ) (own : slot < r.first.void) where
  pub p_fuse : (op : ℕ) {a a' b b' : ℕ} → Slot r a a' → Slot r b b' → Gives r (Answers r) s s' (fuse r.first n slot token op a b s) (fuse r.second n slot token op a' b' s')
  unfolding fuse ty tree
  p_fuse op {a} {a'} {b} {b'} x y =
      let l = ws.slots a a' x in
      let m = ws.slots b b' y in
      p_when r _ _ _ _ (cc (same_kind r l, same_kind r m))
      (λ _. p_when r _ _ _ _ (same_test r l m) (λ _. p_poison r ws n (cc (same-tree r l))) (λ _. p_poison r ws n (cc (same-tree r l, same-tree r m))))
      (λ _. rw (← same_kind r l, ← same_kind r m) (p_set r slot ws own (plain-same r _ _ _ (result-plain op _ _))))

  pub p_unary : (op : ℕ) {a a' : ℕ} → Slot r a a' → Gives r (Answers r) s s' (unary r.first n slot token op a s) (unary r.second n slot token op a' s')
  unfolding unary ty tree
  p_unary op {a} {a'} x =
      let l = ws.slots a a' x in
      p_when r _ _ _ _ (cc (same_kind r l))
      (λ h. rw (← same_kind r l) (p_set r slot ws own (plain-same r _ _ _ (number-plain (leb op 1) _ h))))
      (λ _. p_poison r ws n (cc (same-tree r l)))

  pub p_cast : {a a' to to' : ℕ} → Slot r a a' → SameType r s.types s'.types to to' → Gives r (Answers r) s s' (cast r.first n slot token a to s) (cast r.second n slot token a' to' s')
  unfolding cast ty tree
  p_cast {a} {a'} {to} {to'} x t =
      let l = ws.slots a a' x in
      p_when r _ _ _ _ (cc (same_kind r l, same_kind r t)) (λ _. p_set r slot ws own t)
      (λ _. p_when r _ _ _ _ (same_test r l t)
      (λ _. p_next r _ _ (p_report r ws n (cc (same-tree r l))) (λ _ _ u u' g g' v _. p_set r slot v own (type_grow r g g' to to' t)))
      (λ _. p_poison r ws n (cc (same-tree r l, same-tree r t))))
