-- Whether a word is a good type word, by its kind: the other tests of `good_type` are false. By computing. Assumes nothing.
use Rattle.std.specs.Prelude.{ℕ, ◌+◌, ◌*◌, ◌≤◌, ◌≡◌, refl, ◌⊎◌, Bool, true, false, ◌&&◌, eqb, leb, ltb}
use Rattle.std.proofs.Common.{arith, sym, ◌∙◌, inl, inr, ne_eqb}
use mathlib.Core.Bool.{or-false}
use borrow.Author.Tests.{leb-true}
use Rattle.tok.specs.Word.{kind_of, payload_of}
use Rattle.tok.specs.Name.{good_payload, in_library}
use Rattle.ptype.specs.declared.TypeKind.{TypeKind}
use Rattle.ptype.specs.declared.TypeKind.TheVariants as type
use Rattle.ptype.specs.TypeKind.{kind_of_type}
use Rattle.ptype.specs.TypeKindLaws.{type-number, type-not}
use Rattle.library.specs.Pool.{Pool, pool_word, good_plain, good_wrapped, good_record, good_named, good_type}

outside : (low high k : ℕ) → (low ≤ k → k ≤ high → ⊥) → (leb low k && leb k high) ≡ false
outside low high k h = by (leb low k) refl (leb k high) refl
  where
    by : (a : Bool) → leb low k ≡ a → (b : Bool) → leb k high ≡ b → (a && b) ≡ false
    by true e true f = absurd (h (leb-true low k e) (leb-true k high f))
    by true e false f = refl
    by false e b f = refl

module _ (p : Pool) (own w : ℕ) where
  pub record_type :
      {r : Bool} → kind_of w ≡ 8 → r ≡ (ltb (payload_of w) own && (eqb (kind_of (pool_word p (payload_of w))) 0 && leb (payload_of w + 1 + 2 * payload_of (pool_word p (payload_of w))) own))
      → r ≡ good_type p own w
  unfolding good_type good_plain good_wrapped good_record good_named
  record_type k e = rw (k, ← e, or-false)

  -- x is the kind that was found of the word
  module _ {x : TypeKind} (ex : x ≡ kind_of_type (kind_of w)) where
    pub plain-type : {r : Bool} → (x ≡ type.Void) ⊎ (x ≡ type.Bool) ⊎ (x ≡ type.Int) ⊎ (x ≡ type.Double) ⊎ (x ≡ type.Str) → r ≡ eqb (payload_of w) 0 → r ≡ good_type p own w
    unfolding good_type good_plain good_wrapped good_record good_named
    plain-type (inl h) e = rw (type-number (kind_of w) (sym h ∙ ex), ← e, or-false)
    plain-type (inr (inl h)) e = rw (type-number (kind_of w) (sym h ∙ ex), ← e, or-false)
    plain-type (inr (inr (inl h))) e = rw (type-number (kind_of w) (sym h ∙ ex), ← e, or-false)
    plain-type (inr (inr (inr (inl h)))) e = rw (type-number (kind_of w) (sym h ∙ ex), ← e, or-false)
    plain-type (inr (inr (inr (inr h)))) e = rw (type-number (kind_of w) (sym h ∙ ex), ← e, or-false)

    pub wrapped-type :
        {r : Bool} → (x ≡ type.Option) ⊎ (x ≡ type.Array)
        → r ≡ (ltb (payload_of w) own && (leb 1 (kind_of (pool_word p (payload_of w))) && leb (kind_of (pool_word p (payload_of w))) 10))
        → r ≡ good_type p own w
    unfolding good_type good_plain good_wrapped good_record good_named
    wrapped-type (inl h) e = rw (type-number (kind_of w) (sym h ∙ ex), ← e, or-false)
    wrapped-type (inr h) e = rw (type-number (kind_of w) (sym h ∙ ex), ← e, or-false)

    pub named-type : {r : Bool} → (x ≡ type.Foreign) ⊎ (x ≡ type.Slot) → r ≡ good_payload in_library p.texts.library w → r ≡ good_type p own w
    unfolding good_type good_plain good_wrapped good_record good_named
    named-type (inl h) e = rw (type-number (kind_of w) (sym h ∙ ex), e)
    named-type (inr h) e = rw (type-number (kind_of w) (sym h ∙ ex), e)

    pub no-type :
        (x ≡ type.Void → ⊥) → (x ≡ type.Bool → ⊥) → (x ≡ type.Int → ⊥) → (x ≡ type.Double → ⊥) → (x ≡ type.Str → ⊥)
        → (x ≡ type.Option → ⊥) → (x ≡ type.Array → ⊥) → (x ≡ type.Record → ⊥) → (x ≡ type.Foreign → ⊥) → (x ≡ type.Slot → ⊥) → false ≡ good_type p own w
    unfolding good_type good_plain good_wrapped good_record good_named
    no-type a b c d e f g h i j =
        let k = kind_of w in
        rw (
          outside 1 5 k (λ l m. omega (arith, type-not k ex a, type-not k ex b, type-not k ex c, type-not k ex d, type-not k ex e)),
          outside 6 7 k (λ l m. omega (arith, type-not k ex f, type-not k ex g)),
          ne_eqb k 8 (type-not k ex h),
          outside 9 10 k (λ l m. omega (arith, type-not k ex i, type-not k ex j)),
        ) refl
