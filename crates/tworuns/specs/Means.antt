-- The tree that a type word means, as a derivation with no levels: it stays as the buffer grows, and `ty_of` finds it.
-- By induction on the derivation. Assumes nothing.
use Rattle.std.specs.Prelude.{ℕ, zero, suc, ◌+◌, ◌-◌, ◌*◌, ◌≤◌, ◌<◌, ◌≡◌, refl, Bool, true, false, List, eqb, get_or}
use Rattle.std.proofs.Common.{arith, sym, ap, ◌∙◌, true≢false, eqb-true, eq-eqb, ne_eqb}
use Rattle.tok.specs.Word.{kind_of, payload_of}
use Rattle.tok.specs.Text.{Texts, name_bytes}
use Rattle.ptype.specs.Ty.{Ty, Fields, plain, wrap, rec, named, no_field, field, depth_of, deepest, kind_of_ty}
use Rattle.ptype.specs.Words.{inner_word, field_count, fields_from, unfolded, ty_of}
use Rattle.ptype.specs.Add.{Buffer}
use Rattle.ptype.specs.Kinds.{wraps, names, Plain}
use Rattle.ptype.proofs.DepthLaws.{depth_positive}
use Rattle.ptype.proofs.UnfoldLaws.{unfolded-plain, unfolded-wrap, unfolded_record, unfolded-named}

-- In the first `used` words of a buffer, word w means the tree; the word 0 of an empty slot is a plain one.
mutual
  pub data Means (t : Texts) (types : List ℕ) (used : ℕ) : ℕ → Ty → Type 0 where
    flat : {w k : ℕ} → kind_of w ≡ k → Plain k → (k ≡ 0 → w ≡ 0) → Means t types used w (plain k)
    wrapped : {w k : ℕ} {x : Ty} → kind_of w ≡ k → wraps k ≡ true → payload_of w < used → Means t types used (inner_word types w) x → Means t types used w (wrap k x)
    recorded : {w : ℕ} {fs : Fields} → kind_of w ≡ 8 → payload_of w + 1 + 2 * field_count types w ≤ used
        → FieldsMean t types used (payload_of w + 1) (field_count types w) fs → Means t types used w (rec fs)
    called : {w k : ℕ} {n : List ℕ} → kind_of w ≡ k → names k ≡ true → name_bytes t w ≡ n → Means t types used w (named k n)

  -- k fields from index `at` on
  pub data FieldsMean (t : Texts) (types : List ℕ) (used : ℕ) : (at k : ℕ) → Fields → Type 0 where
    no_more : {at : ℕ} → FieldsMean t types used at zero no_field
    one_more : {at k : ℕ} {n : List ℕ} {x : Ty} {fs : Fields} → name_bytes t (get_or types at 0) ≡ n → at + 1 < used
        → Means t types used (get_or types (at + 1) 0) x → FieldsMean t types used (at + 2) k fs → FieldsMean t types used at (suc k) (field n x fs)

-- The kind of the word is the tree's.
pub means-kind : {t : Texts} {types : List ℕ} {used w : ℕ} {x : Ty} → Means t types used w x → kind_of w ≡ kind_of_ty x
unfolding kind_of_ty
means-kind (flat e p z) = e
means-kind (wrapped e h l m) = e
means-kind (recorded e l m) = e
means-kind (called e h n) = e

-- Only the word 0 has the tree of the word 0.
pub is_nothing : Ty → Bool
is_nothing (plain k) = eqb k 0
is_nothing (wrap k x) = false
is_nothing (rec fs) = false
is_nothing (named k n) = false

zero-kind : (w : ℕ) {k : ℕ} → kind_of w ≡ k → (k ≡ 0 → ⊥) → eqb w 0 ≡ false
zero-kind w e h = ne_eqb w 0 (λ z. h (sym e ∙ ap kind_of z))

pub means-zero : {t : Texts} {types : List ℕ} {used w : ℕ} {x : Ty} → Means t types used w x → eqb w 0 ≡ is_nothing x
unfolding is_nothing
means-zero {w = w} (flat {k = k} e p z) = by (eqb k 0) refl
  where
    by : (b : Bool) → eqb k 0 ≡ b → eqb w 0 ≡ b
    by true h = eq-eqb w 0 (z (eqb-true k 0 h))
    by false h = zero-kind w e (λ q. true≢false (sym (eq-eqb k 0 q) ∙ h))
means-zero {w = w} (wrapped e h l m) = zero-kind w e (λ q. true≢false (sym h ∙ ap wraps q))
means-zero {w = w} (recorded e l m) = zero-kind w e (λ q. omega arith)
means-zero {w = w} (called e h n) = zero-kind w e (λ q. true≢false (sym h ∙ ap names q))

-- `ty_of` finds the tree, where it is at most as deep as the levels.
level-less : {n d : ℕ} → 1 ≤ d → d ≤ n → n ≡ suc (n - 1)
level-less h l = omega arith

mutual
  unfolding depth_of fields_from

  pub means-unfolded : {t : Texts} {types : List ℕ} {used w : ℕ} {x : Ty} → Means t types used w x → (f : ℕ) → depth_of x ≤ f → unfolded t types f w ≡ x
  means-unfolded {t} {types} {w = w} (flat {k = k} e p z) f l = unfolded-plain t types w (level-less (depth_positive (plain k)) l) (sym e) p
  means-unfolded {t} {types} {w = w} (wrapped {k = k} {x = x} e h r m) f l =
      unfolded-wrap t types w (level-less (depth_positive (wrap k x)) l) (sym e) h ∙ ap (wrap k) (means-unfolded m (f - 1) (omega arith))
  means-unfolded {t} {types} {w = w} (recorded {fs = fs} e r m) f l =
      unfolded_record t types w (level-less (depth_positive (rec fs)) l) refl e ∙ ap rec (means-fields m (f - 1) (omega arith))
  means-unfolded {t} {types} {w = w} (called {k = k} {n = n} e h q) f l =
      unfolded-named t types w (level-less (depth_positive (named k n)) l) (sym e) h ∙ ap (named k) q

  means-fields : {t : Texts} {types : List ℕ} {used at k : ℕ} {fs : Fields} → FieldsMean t types used at k fs → (f : ℕ) → deepest fs ≤ f
      → fields_from (unfolded t types f) t types at k ≡ fs
  means-fields no_more f l = refl
  means-fields (one_more n r m ms) f l = cc (n, means-unfolded m f (omega arith), means-fields ms f (omega arith))

pub means-ty_of : {t : Texts} {types : List ℕ} {used w : ℕ} {x : Ty} → Means t types used w x → depth_of x ≤ 33 → ty_of t types w ≡ x
unfolding ty_of
means-ty_of m l = means-unfolded m 33 l

-- A buffer grew: more words are used, and the used ones stay.
pub record Grown (b d : Buffer) : Type 0 where
  pub more : b.used ≤ d.used
  pub front : (j : ℕ) → j < b.used → get_or b.words j 0 ≡ get_or d.words j 0

pub grown-same : (b : Buffer) → Grown b b
grown-same b = record { more = omega arith; front = λ j l. refl }

pub grown-trans : {b d e : Buffer} → Grown b d → Grown d e → Grown b e
grown-trans g h = record { more = omega (arith, g.more, h.more); front = λ j l. g.front j l ∙ h.front j (omega (arith, g.more)) }

-- Then every word means what it meant.
module _ {b d : Buffer} (g : Grown b d) where
  mutual
    pub means_grow : {t : Texts} {w : ℕ} {x : Ty} → Means t b.words b.used w x → Means t d.words d.used w x
    means_grow (flat e p z) = flat e p z
    means_grow {w = w} (wrapped {x = x} e h l m) = wrapped {x = x} e h (omega (arith, g.more)) (rw (← g.front (payload_of w) l) (means_grow m))
    means_grow {w = w} (recorded {fs = fs} e l m) =
        let c : field_count b.words w ≡ field_count d.words w = ap payload_of (g.front (payload_of w) (omega arith)) in
        recorded {fs = fs} e (rw (← c) (omega (arith, g.more))) (rw (← c) (fields_grow m))
    means_grow (called e h n) = called e h n

    pub fields_grow : {t : Texts} {at k : ℕ} {fs : Fields} → FieldsMean t b.words b.used at k fs → FieldsMean t d.words d.used at k fs
    fields_grow no_more = no_more
    fields_grow (one_more {at = at} {k = k} {n = n} {x = x} {fs = fs} q l m ms) =
        one_more {at = at} {k = k} {n = n} {x = x} {fs = fs} (rw (← g.front at (omega arith)) q) (omega (arith, g.more)) (rw (← g.front (at + 1) l) (means_grow m)) (fields_grow ms)
