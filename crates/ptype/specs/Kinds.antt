-- The kinds of types by what they hold (document 01, "Words": "Type kinds: .."). Definitions.
use Rattle.std.specs.Prelude.{ℕ, ◌≡◌, refl, ◌⊎◌, Bool, true, false, ◌||◌, eqb}
use Rattle.std.proofs.Math.Decide.{ℕ_discrete}
use Rattle.std.proofs.Common.{inl, inr, eqb-true}

-- a type: Option and Array
abbrev pub wraps : ℕ → Bool
wraps k = eqb k 6 || eqb k 7

-- a name: Foreign and Slot
abbrev pub names : ℕ → Bool
names k = eqb k 9 || eqb k 10

pub one_of : (a b k : ℕ) → (eqb k a || eqb k b) ≡ true → (k ≡ a) ⊎ (k ≡ b)
one_of a b k h = by (eqb k a) refl
  where
    by : (x : Bool) → eqb k a ≡ x → (k ≡ a) ⊎ (k ≡ b)
    by true e = inl (eqb-true k a e)
    by false e = inr (eqb-true k b (rw e at h))

-- nothing: neither those nor fields, as Record
pub record Plain (k : ℕ) : Type 0 where
  pub no_wrap : wraps k ≡ false
  pub no_record : k ≡ 8 → ⊥
  pub no_name : names k ≡ false

-- every kind is one of these
pub data Shape (k : ℕ) : Type 0 where
  is_plain : Plain k → Shape k
  is_wrap : wraps k ≡ true → Shape k
  is_record : k ≡ 8 → Shape k
  is_named : names k ≡ true → Shape k

pub shape : (k : ℕ) → Shape k
shape k = by (wraps k) refl (names k) refl (ℕ_discrete k 8)
  where
    by : (a : Bool) → wraps k ≡ a → (b : Bool) → names k ≡ b → Dec (k ≡ 8) → Shape k
    by true e b f d = is_wrap e
    by false e true f d = is_named f
    by false e false f (yes d) = is_record d
    by false e false f (no d) = is_plain (record { no_wrap = e; no_record = d; no_name = f })
