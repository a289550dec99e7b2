-- What is known of a type word of the library that is good, fact by fact. By taking the tests of `good_type` apart. Assumes nothing.
use Rattle.std.specs.Prelude.{ℕ, ◌+◌, ◌*◌, ◌≤◌, ◌<◌, ◌≡◌, refl, ◌⊎◌, Bool, true, false, ◌||◌, leb, ltb, eqb}
use Rattle.std.proofs.Math.Logic.{inl, inr}
use Rattle.std.proofs.Math.Bool.{and-eq-true_iff}
use native.Mathlib.Omega.{arith}
use borrow.Author.Tests.{leb-true, ltb-true, eqb-true}
use Rattle.utf8.specs.Rfc3629.{range}
use Rattle.tok.specs.Word.{kind_of, payload_of}
use Rattle.tok.specs.Name.{good_payload, in_library}
use Rattle.ptype.specs.Kinds.{wraps, names, one_of}
use Rattle.library.specs.Pool.{Pool, pool_word, good_plain, good_wrapped, good_record, good_named, good_type}

-- A kind of a type: "Unknown is not allowed."
pub record TypeKind (k : ℕ) : Type 0 where
  pub low : 1 ≤ k
  pub high : k ≤ 10

-- "Option and Array carry the types-buffer index of the inner type word": it is below `own` and a type word itself.
pub record InnerBelow (p : Pool) (own w : ℕ) : Type 0 where
  pub below : payload_of w < own
  pub type : TypeKind (kind_of (pool_word p (payload_of w)))

-- "Record carries the index of a field count"; "a Record's whole list stands before it".
pub record ListBelow (p : Pool) (own w : ℕ) : Type 0 where
  pub below : payload_of w < own
  pub count : kind_of (pool_word p (payload_of w)) ≡ 0
  pub whole : payload_of w + 1 + 2 * payload_of (pool_word p (payload_of w)) ≤ own

pub record TypeWord (p : Pool) (own w : ℕ) : Type 0 where
  pub kind : TypeKind (kind_of w)
  pub empty : kind_of w ≤ 5 → payload_of w ≡ 0
  pub inner : wraps (kind_of w) ≡ true → InnerBelow p own w
  pub list : kind_of w ≡ 8 → ListBelow p own w
  pub name : names (kind_of w) ≡ true → good_payload in_library p.texts.library w ≡ true

pub either_true : (a b : Bool) → (a || b) ≡ true → (a ≡ true) ⊎ (b ≡ true)
either_true true b e = inl refl
either_true false b e = inr e

pub range-true : (lo hi k : ℕ) → range lo hi k ≡ true → (lo ≤ k) × (k ≤ hi)
range-true lo hi k e =
    let h = (and-eq-true_iff (leb lo k) (leb k hi)).0 e in
    (leb-true lo k h.0, leb-true k hi h.1)

no_wrap_lem : {P : Type 0} (k : ℕ) → (k ≤ 5) ⊎ (8 ≤ k) → wraps k ≡ true → P
no_wrap_lem k (inl l) h = elim (one_of 6 7 k h) [ inl e ↦ absurd (omega arith) | inr e ↦ absurd (omega arith) ]
no_wrap_lem k (inr l) h = elim (one_of 6 7 k h) [ inl e ↦ absurd (omega arith) | inr e ↦ absurd (omega arith) ]

no_name : {P : Type 0} (k : ℕ) → k ≤ 8 → names k ≡ true → P
no_name k l h = elim (one_of 9 10 k h) [ inl e ↦ absurd (omega arith) | inr e ↦ absurd (omega arith) ]

module _ (p : Pool) (own w : ℕ) where
  plain_word : good_plain w ≡ true → TypeWord p own w
  unfolding good_plain
  plain_word e =
      let h = (and-eq-true_iff (range 1 5 (kind_of w)) (eqb (payload_of w) 0)).0 e in
      let r = range-true 1 5 (kind_of w) h.0 in
      record {
        kind = record { low = r.0; high = omega arith };
        empty = λ _. eqb-true _ _ h.1;
        inner = λ k. no_wrap_lem (kind_of w) (inl r.1) k;
        list = λ k. absurd (omega arith);
        name = λ k. no_name (kind_of w) (omega arith) k;
      }

  wrapped-word : good_wrapped p own w ≡ true → TypeWord p own w
  unfolding good_wrapped
  wrapped-word e =
      let h = (and-eq-true_iff (range 6 7 (kind_of w)) _).0 e in
      let r = range-true 6 7 (kind_of w) h.0 in
      let i = (and-eq-true_iff (ltb (payload_of w) own) _).0 h.1 in
      let q = range-true 1 10 (kind_of (pool_word p (payload_of w))) i.1 in
      record {
        kind = record { low = omega arith; high = omega arith };
        empty = λ k. absurd (omega arith);
        inner = λ _. record { below = ltb-true _ _ i.0; type = record { low = q.0; high = q.1 } };
        list = λ k. absurd (omega arith);
        name = λ k. no_name (kind_of w) (omega arith) k;
      }

  record_word : good_record p own w ≡ true → TypeWord p own w
  unfolding good_record
  record_word e =
      let h = (and-eq-true_iff (eqb (kind_of w) 8) _).0 e in
      let k8 : kind_of w ≡ 8 = eqb-true _ _ h.0 in
      let i = (and-eq-true_iff (ltb (payload_of w) own) _).0 h.1 in
      let j = (and-eq-true_iff (eqb (kind_of (pool_word p (payload_of w))) 0) _).0 i.1 in
      record {
        kind = record { low = omega arith; high = omega arith };
        empty = λ k. absurd (omega arith);
        inner = λ k. no_wrap_lem (kind_of w) (inr (omega arith)) k;
        list = λ _. record { below = ltb-true _ _ i.0; count = eqb-true _ _ j.0; whole = leb-true _ _ j.1 };
        name = λ k. no_name (kind_of w) (omega arith) k;
      }

  named-word : good_named p w ≡ true → TypeWord p own w
  unfolding good_named
  named-word e =
      let h = (and-eq-true_iff (range 9 10 (kind_of w)) _).0 e in
      let r = range-true 9 10 (kind_of w) h.0 in
      record {
        kind = record { low = omega arith; high = r.1 };
        empty = λ k. absurd (omega arith);
        inner = λ k. no_wrap_lem (kind_of w) (inr (omega arith)) k;
        list = λ k. absurd (omega arith);
        name = λ _. h.1;
      }

  pub good_type-true : good_type p own w ≡ true → TypeWord p own w
  unfolding good_type
  good_type-true e = elim (either_true (good_plain w) _ e) [
    | inl h ↦ plain_word h
    | inr h ↦ elim (either_true (good_wrapped p own w) _ h) [
      | inl i ↦ wrapped-word i
      | inr i ↦ elim (either_true (good_record p own w) _ i) [ inl j ↦ record_word j | inr j ↦ named-word j ]
    ]
  ]
