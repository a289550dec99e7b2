-- Binding and putting in together: bindings made of words that mean types mean types, the new word's type equals the argument's
-- exactly where the parameter has the argument's shape, and it has no slot where the arguments have none.
-- By the laws of binding, of parts and of substitution. Assumes nothing.
use Rattle.std.specs.Prelude.{◌≡◌, refl, true, false, List, get_or}
use Rattle.std.proofs.Math.Option.{Option, none, some, map}
use Prim.Native.Nat.{ℕ, zero, suc, ◌+◌, ◌*◌, ◌<◌, ◌≤◌}
use native.Mathlib.Omega.{arith}
use Rattle.facts.specs.Tests.{neither}
use Rattle.tok.specs.Word.{payload_of}
use Rattle.tok.specs.Text.{Texts}
use Rattle.tok.specs.Step.{ok}
use Rattle.ptype.specs.Ty.{Ty, same_ty, contains_slot, any_slot, depth_of, deepest}
use Rattle.ptype.specs.Words.{ty_of, field_count, fields_from}
use Rattle.ptype.specs.Inside.{Inside, wrapped, in_field}
use Rattle.ptype.proofs.InsideLaws.{throughout_inside}
use Rattle.ptype.specs.Add.{Buffer}
use Rattle.ptype.specs.Slots.{Binding, bound_to, all_bound, bind_slots, apply_slot_binding}
use Rattle.add.specs.Means.{Means}
use Rattle.add.specs.AddLaws.{means-grown}
use Rattle.slots.specs.Bindings.{bindings_after}
use Rattle.slots.specs.Substitute.{filling_of, agrees, all_filled}
use Rattle.slots.specs.SubstituteLaws.{substitute-free}
use Rattle.slots.specs.BoundLaws.{bound_fills}
use Rattle.slots.specs.PartLaws.{EachBound, bind-each}
use Rattle.apply.specs.ApplyLaws.{FilledBy, unbound, bound, Fills, depth-here, inner-is, inner-means, fields-is}
use Rattle.apply.specs.TreeLaws.{substitution_means}

-- a field is no deeper than the deepest, and has no slot where none of them has
module _ (go : ℕ → Ty) (texts : Texts) (types : List ℕ) where
  field-depth : (i k at j : ℕ) → i < k → j ≡ at + 2 * i + 1 → depth_of (go (get_or types j 0)) ≤ deepest (fields_from go texts types at k)
  unfolding fields_from depth_of
  field-depth i zero at j l e = omega arith
  field-depth zero (suc k) at j l e =
      let h : j ≡ at + 1 = omega arith in
      rw h (omega arith)
  field-depth (suc i) (suc k) at j l e = omega (arith, field-depth i k (at + 2) j (omega arith) (omega arith))

  field-free : (i k at j : ℕ) → i < k → j ≡ at + 2 * i + 1 → any_slot (fields_from go texts types at k) ≡ false → contains_slot (go (get_or types j 0)) ≡ false
  unfolding fields_from contains_slot
  field-free i zero at j l e h =
      let z : ⊥ = omega arith in
      absurd z
  field-free zero (suc k) at j l e h =
      let p : j ≡ at + 1 = omega arith in
      rw p (neither (contains_slot (go (get_or types (at + 1) 0))) (any_slot (fields_from go texts types (at + 2) k)) h).0
  field-free (suc i) (suc k) at j l e h =
      field-free i k (at + 2) j (omega arith) (omega arith) (neither (contains_slot (go (get_or types (at + 1) 0))) (any_slot (fields_from go texts types (at + 2) k)) h).1

-- A word inside one that means a type means a type,
abbrev pub MeansType : Texts → Buffer → ℕ → Type 0
MeansType texts b w = Means texts b w (ty_of texts b.words w)

inside-means : (texts : Texts) (b : Buffer) (w v : ℕ) → Inside b.words w v → MeansType texts b w → MeansType texts b v
unfolding depth_of
inside-means texts b w v (wrapped h) m = inner-means m h
inside-means texts b w v (in_field h i l) m = record {
  within = λ deep. throughout_inside refl (m.within (suc deep)) (in_field h i l);
  is = refl;
  shallow =
      omega (
        arith,
        field-depth (ty_of texts b.words) texts b.words i (field_count b.words w) (payload_of w + 1) (payload_of w + 1 + 2 * i + 1) l refl,
        rw (fields-is m h) at m.shallow,
      );
}

-- and has no slot where that one has none.
inside-free : (texts : Texts) (b : Buffer) (w v : ℕ) → Inside b.words w v → MeansType texts b w → contains_slot (ty_of texts b.words w) ≡ false → contains_slot (ty_of texts b.words v) ≡ false
unfolding contains_slot
inside-free texts b w v (wrapped h) m e = rw (inner-is m h) at e
inside-free texts b w v (in_field h i l) m e =
    field-free (ty_of texts b.words) texts b.words i (field_count b.words w) (payload_of w + 1) (payload_of w + 1 + 2 * i + 1) l refl (rw (fields-is m h) at e)

-- So what is bound by words that mean types means types, and types without slots where the arguments have none. p is the
-- parameter's word and a the argument's.
pub bind-means : (texts : Texts) (b : Buffer) (p a : ℕ) (bs : List Binding) → MeansType texts b a → EachBound (MeansType texts b) bs
    → EachBound (MeansType texts b) (bindings_after (bind_slots texts b.words (ty_of texts b.words p) a bs))
unfolding ty_of
bind-means texts b p a bs m h = bind-each texts b.words (λ w v. inside-means texts b w v) 33 p a bs m h

pub record FreeType (texts : Texts) (b : Buffer) (w : ℕ) : Type 0 where
  pub means : MeansType texts b w
  pub free : contains_slot (ty_of texts b.words w) ≡ false

pub bind-free : (texts : Texts) (b : Buffer) (p a : ℕ) (bs : List Binding) → FreeType texts b a → EachBound (FreeType texts b) bs
    → EachBound (FreeType texts b) (bindings_after (bind_slots texts b.words (ty_of texts b.words p) a bs))
unfolding ty_of
bind-free texts b p a bs m h =
    bind-each texts b.words (λ w v i x. record { means = inside-means texts b w v i x.means; free = inside-free texts b w v i x.means x.free }) 33 p a bs m h

-- Bindings whose words mean types mean the filling with those types.
pub fills_of : {texts : Texts} {bs : List Binding} {b : Buffer} → EachBound (MeansType texts b) bs → Fills texts (filling_of texts b.words bs) bs b
fills_of {texts} {bs} {b} h = record { each = λ s. by s (bound_to s bs) refl }
  where
    by : (s : List ℕ) (o : Option ℕ) → bound_to s bs ≡ o → FilledBy texts b o (map (ty_of texts b.words) o)
    by s none e = unbound
    by s (some w) e = bound (h.each s w e)

-- THE LAW OF BINDING AND SUBSTITUTION: after a binding without error the new word's type equals the argument's exactly where the
-- parameter has the argument's shape.
pub bound-same : (n : ℕ) (bs : List Binding) {texts : Texts} {bs' : List Binding} {b b' : Buffer} {p a w : ℕ} {t u : Ty} → EachBound (MeansType texts b) bs'
    → Means texts b p t → Means texts b a u → bind_slots texts b.words t a bs ≡ all_bound bs' → apply_slot_binding texts n bs' t p b ≡ ok w b'
    → same_ty (ty_of texts b'.words w) (ty_of texts b'.words a) ≡ agrees t u
bound-same n bs {texts} {bs'} {b} {b'} {p} {a} {w} {t} {u} h mp ma x e =
    let r = substitution_means texts n bs' (filling_of texts b.words bs') (fills_of h) mp e in
    rw (r.means.is, (means-grown r.grown ma).is, ← ma.is) (bound_fills texts b.words t a bs bs' (depth-here ma) x)

-- A type all of whose slots are bound to types without slots becomes one without slots.
pub filled-free : (n : ℕ) {texts : Texts} {bs : List Binding} {b b' : Buffer} {w w' : ℕ} {t : Ty} → EachBound (FreeType texts b) bs → Means texts b w t
    → all_filled (filling_of texts b.words bs) t ≡ true → apply_slot_binding texts n bs t w b ≡ ok w' b' → contains_slot (ty_of texts b'.words w') ≡ false
filled-free n {texts} {bs} {b} {b'} {w} {w'} {t} h m all e =
    rw (substitution_means texts n bs (filling_of texts b.words bs) (fills_of (record { each = λ s v z. (h.each s v z).means })) m e).means.is
    (substitute-free (filling_of texts b.words bs) free t all)
  where
    of-option : (o : Option ℕ) (u : Ty) → ((v : ℕ) → o ≡ some v → contains_slot (ty_of texts b.words v) ≡ false) → map (ty_of texts b.words) o ≡ some u → contains_slot u ≡ false
    of-option none u f z = cc
    of-option (some v) u f z =
        let k : ty_of texts b.words v ≡ u = cc in
        rw (← k) (f v refl)

    free : (s : List ℕ) (u : Ty) → filling_of texts b.words bs s ≡ some u → contains_slot u ≡ false
    free s u z = of-option (bound_to s bs) u (λ v y. (h.each s v y).free) z
