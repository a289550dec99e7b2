-- `same_ty` decides equality of types: it is true where two types are equal, and false where they differ.
-- By induction on both. Assumes nothing.
use Rattle.std.specs.Prelude.{◌≡◌, refl, Bool, true, false, ◌&&◌, eqb}
use Rattle.std.proofs.Common.{sym, ◌∙◌, true≢false, eqb-true, eq-eqb}
use Rattle.std.proofs.Math.Bool.{and-eq-true_iff}
use Rattle.tok.specs.Text.{same_bytes}
use Rattle.tok.proofs.TextLaws.{same_bytes-true, eq_same_bytes}
use Rattle.ptype.specs.Ty.{Ty, Fields, plain, wrap, rec, named, no_field, field, same_ty, same_fields}

mutual
  unfolding same_ty

  pub same_ty-true : (t u : Ty) → same_ty t u ≡ true → t ≡ u
  same_ty-true (plain k) (plain j) e = cc (eqb-true k j e)
  same_ty-true (plain k) (wrap j u) e = cc
  same_ty-true (plain k) (rec gs) e = cc
  same_ty-true (plain k) (named j m) e = cc
  same_ty-true (wrap k t) (plain j) e = cc
  same_ty-true (wrap k t) (wrap j u) e =
      let h = (and-eq-true_iff (eqb k j) (same_ty t u)).0 e in
      cc (eqb-true k j h.0, same_ty-true t u h.1)
  same_ty-true (wrap k t) (rec gs) e = cc
  same_ty-true (wrap k t) (named j m) e = cc
  same_ty-true (rec fs) (plain j) e = cc
  same_ty-true (rec fs) (wrap j u) e = cc
  same_ty-true (rec fs) (rec gs) e = cc (same_fields-true fs gs e)
  same_ty-true (rec fs) (named j m) e = cc
  same_ty-true (named k n) (plain j) e = cc
  same_ty-true (named k n) (wrap j u) e = cc
  same_ty-true (named k n) (rec gs) e = cc
  same_ty-true (named k n) (named j m) e =
      let h = (and-eq-true_iff (eqb k j) (same_bytes n m)).0 e in
      cc (eqb-true k j h.0, same_bytes-true n m h.1)

  pub same_fields-true : (fs gs : Fields) → same_fields fs gs ≡ true → fs ≡ gs
  same_fields-true no_field no_field e = refl
  same_fields-true no_field (field m u gs) e = cc
  same_fields-true (field n t fs) no_field e = cc
  same_fields-true (field n t fs) (field m u gs) e =
      let h = (and-eq-true_iff (same_bytes n m) (same_ty t u && same_fields fs gs)).0 e in
      let k = (and-eq-true_iff (same_ty t u) (same_fields fs gs)).0 h.1 in
      cc (same_bytes-true n m h.0, same_ty-true t u k.0, same_fields-true fs gs k.1)

mutual
  unfolding same_ty

  same_ty-self : (t : Ty) → same_ty t t ≡ true
  same_ty-self (plain k) = eq-eqb k k refl
  same_ty-self (wrap k t) = rw (eq-eqb k k refl) (same_ty-self t)
  same_ty-self (rec fs) = same_fields-self fs
  same_ty-self (named k n) = rw (eq-eqb k k refl) (eq_same_bytes n n refl)

  same_fields-self : (fs : Fields) → same_fields fs fs ≡ true
  same_fields-self no_field = refl
  same_fields-self (field n t fs) = rw (eq_same_bytes n n refl, same_ty-self t) (same_fields-self fs)

pub eq_same_ty : (t u : Ty) → t ≡ u → same_ty t u ≡ true
eq_same_ty t u e = rw e (same_ty-self u)

pub same_ty-false : (t u : Ty) → same_ty t u ≡ false → t ≡ u → ⊥
same_ty-false t u d e = true≢false (sym (eq_same_ty t u e) ∙ d)

pub ne_same_ty : (t u : Ty) → (t ≡ u → ⊥) → same_ty t u ≡ false
ne_same_ty t u d = go (same_ty t u) refl
  where
    go : (b : Bool) → same_ty t u ≡ b → b ≡ false
    go true e = absurd (d (same_ty-true t u e))
    go false e = refl
