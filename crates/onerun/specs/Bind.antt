-- Binding slots to the parts of an argument: the bindings made are of types of which the same is claimed, and those made before stay.
-- By induction on the expected type. Assumes nothing.
use Rattle.std.specs.Prelude.{ℕ, refl, Bool, List, ◌∷◌}
use native.Mathlib.Omega.{arith}
use Rattle.std.proofs.Math.Path.{◌≡◌}
use Rattle.std.proofs.Math.Bool.{true, false}
use Rattle.std.proofs.Math.Option.{Option, none, some}
use Rattle.std.proofs.Math.Dec.{eqb}
use Rattle.std.proofs.Common.{eqb-true}
use Rattle.tok.specs.Word.{kind_of}
use Rattle.tok.specs.Text.{Texts, same_bytes}
use Rattle.ptype.specs.Ty.{Ty, Fields, same_ty}
use Rattle.ptype.specs.Words.{ty_of}
use Rattle.ptype.specs.Add.{Buffer}
use Rattle.ptype.specs.Slots.{Binding, binding, bound_to, Bound, all_bound, conflict, void_slot, and_then, bind_found, bind_one, bind_slots, bind_fields, is_some}
use Rattle.tworuns.specs.Means.{Means, FieldsMean}
use Rattle.tworuns.specs.Means as M
use Rattle.onerun.specs.Claim.{Run, All, end, and, Name, Fine, flat, wrapped, recorded, called, FineFields, no_more, one_more, Good, BindingOk}
use Rattle.onerun.specs.Trees.{is_bound}
use Rattle.onerun.specs.Inner.{FieldsTyped, inner-typed, fields-typed, first-typed}

-- one of two, by a test
pub pick : {A : Type 0} (R : A → Type 0) {t : Bool} (x y : A) → (t ≡ true → R x) → (t ≡ false → R y) → R (elim t [ true ↦ x | false ↦ y ])
pick R {t = true} x y h k = h refl
pick R {t = false} x y h k = k refl

-- what was bound is bound
pub record More (bs cs : List Binding) : Type 0 where
  pub more : (n : List ℕ) → is_bound bs n ≡ true → is_bound cs n ≡ true

pub more_same : (bs : List Binding) → More bs bs
more_same bs = record { more = λ n e. e }

pub more-trans : {bs cs ds : List Binding} → More bs cs → More cs ds → More bs ds
more-trans x y = record { more = λ n e. y.more n (x.more n e) }

more-one : (b : Binding) (bs : List Binding) → More bs (b ∷ bs)
unfolding bound_to
more-one b bs = record { more = λ n e. by (same_bytes n b.slot) n e }
  where
    by : (t : Bool) (n : List ℕ) → is_bound bs n ≡ true → is_some (elim t [ true ↦ some b.word | false ↦ bound_to n bs ]) ≡ true
    by true n e = refl
    by false n e = e

module _ (r : Run) (b : Buffer) where
  -- what binding gives, after the bindings bs
  pub data BoundOk (bs : List Binding) : Bound → Type 0 where
    all : {cs : List Binding} → All (BindingOk r b) cs → More bs cs → BoundOk bs (all_bound cs)
    clash : {cs : List Binding} {s : List ℕ} {e n : ℕ} → All (BindingOk r b) cs → More bs cs → Name r s → Good r b e → Good r b n → BoundOk bs (conflict cs s e n)
    of_void : {cs : List Binding} {s : List ℕ} → All (BindingOk r b) cs → More bs cs → Name r s → BoundOk bs (void_slot cs s)

module _ (r : Run) {b : Buffer} where
  bound-more : {bs cs : List Binding} {x : Bound} → More bs cs → BoundOk r b cs x → BoundOk r b bs x
  bound-more m (all h n) = all h (more-trans m n)
  bound-more m (clash h n s e t) = clash h (more-trans m n) s e t
  bound-more m (of_void h n s) = of_void h (more-trans m n) s

  then_ok : {bs : List Binding} {x : Bound} (f : List Binding → Bound) → BoundOk r b bs x
      → ((cs : List Binding) → All (BindingOk r b) cs → More bs cs → BoundOk r b bs (f cs)) → BoundOk r b bs (and_then x f)
  unfolding and_then
  then_ok f (all {cs = cs} h m) k = k cs h m
  then_ok f (clash h m s e t) k = clash h m s e t
  then_ok f (of_void h m s) k = of_void h m s

  -- the word that a slot is bound to
  pub bound-good : (n : List ℕ) {bs : List Binding} {w : ℕ} → All (BindingOk r b) bs → bound_to n bs ≡ some w → Good r b w
  unfolding bound_to
  bound-good n end e = absurd (no-some e)
    where
      no-some : {w : ℕ} → ◌≡◌ {A = Option ℕ} none (some w) → ⊥
      no-some e = let z : ◌≡◌ {A = ℕ} 0 1 = cc in omega arith
  bound-good n {w = w} (and {a = x} {xs = xs} h rest) e = by (same_bytes n x.slot) e (λ q. bound-good n rest q)
    where
      by : (t : Bool) → elim t [ true ↦ some x.word | false ↦ bound_to n xs ] ≡ some w → (bound_to n xs ≡ some w → Good r b w) → Good r b w
      by true e k = let q : x.word ≡ w = cc in rw (← q) h.type
      by false e k = k e

  found_ok : (s : List ℕ) {w : ℕ} {bs : List Binding} → Name r s → Good r b w → All (BindingOk r b) bs → (o : Option ℕ) → bound_to s bs ≡ o
      → BoundOk r b bs (bind_found r.ctx.texts b.words s w bs o)
  unfolding bind_found
  found_ok s {w} {bs} n h k none e = all (and (record { slot = n; type = h }) k) (more-one (binding s w) bs)
  found_ok s {w} {bs} n h k (some x) e =
      pick (BoundOk r b bs) {t = same_ty (ty_of r.ctx.texts b.words x) (ty_of r.ctx.texts b.words w)} _ _
      (λ _. all k (more_same bs)) (λ _. clash k (more_same bs) n (bound-good s k e) h)

  one_ok : (s : List ℕ) {w : ℕ} {bs : List Binding} → Name r s → Good r b w → All (BindingOk r b) bs → BoundOk r b bs (bind_one r.ctx.texts b.words s w bs)
  unfolding bind_one
  one_ok s {w} {bs} n h k = pick (BoundOk r b bs) {t = eqb (kind_of w) 1} _ _ (λ _. of_void k (more_same bs) n) (λ _. found_ok s n h k (bound_to s bs) refl)

  mutual
    unfolding bind_slots

    pub bind_ok : {t : Texts} {types : List ℕ} {used v w : ℕ} {x : Ty} {bs : List Binding} → Means t types used v x → Fine r x → Good r b w → All (BindingOk r b) bs
        → BoundOk r b bs (bind_slots r.ctx.texts b.words x w bs)
    bind_ok {bs = bs} (M.flat e p z) f h k = all k (more_same bs)
    bind_ok {w = w} {bs = bs} (M.wrapped {k = j} e i l m) (wrapped f) h k =
        pick (BoundOk r b bs) {t = eqb (kind_of w) j} _ _ (λ q. bind_ok m f (inner-typed r h (rw (eqb-true (kind_of w) j q) i)) k) (λ _. all k (more_same bs))
    bind_ok {w = w} {bs = bs} (M.recorded e l m) (recorded f) h k =
        pick (BoundOk r b bs) {t = eqb (kind_of w) 8} _ _ (λ q. bind-fields m f (fields-typed r h (eqb-true (kind_of w) 8 q)) k) (λ _. all k (more_same bs))
    bind_ok {bs = bs} (M.called {k = j} {n = n} e i q) (called y) h k = pick (BoundOk r b bs) {t = eqb j 10} _ _ (λ _. one_ok n y h k) (λ _. all k (more_same bs))

    pub bind-fields : {t : Texts} {types : List ℕ} {used v j at left : ℕ} {fs : Fields} {bs : List Binding}
        → FieldsMean t types used v j fs → FineFields r fs → FieldsTyped r r.clean b at left → All (BindingOk r b) bs
        → BoundOk r b bs (bind_fields r.ctx.texts b.words fs at left bs)
    bind-fields {bs = bs} M.no_more no_more h k = all k (more_same bs)
    bind-fields {left = left} {bs = bs} (M.one_more q l m ms) (one_more y f fs) h k =
        pick (BoundOk r b bs) {t = eqb left 0} _ _ (λ _. all k (more_same bs))
        (λ e. let x = first-typed r h e in then_ok _ (bind_ok m f x.type k) (λ cs c n. bound-more n (bind-fields ms fs x.rest c)))
