-- What a kind says of its number. Laws, which callers of `TypeKind::of` cite. Assumes nothing.
use Rattle.std.specs.Prelude.{ℕ, ◌≡◌, refl, ◌⊎◌, true, false, ◌&&◌, leb}
use Rattle.std.proofs.Common.{rules, sym, ◌∙◌, ne_eqb, inl, inr}
use Rattle.std.proofs.lemmas.List.{get_or_past}
use Rattle.std.proofs.lemmas.Bool.{lt-leb}
use Rattle.facts.specs.Tests.{and-false}
use Rattle.facts.specs.Lists.{EachAt, each_at}
use Rattle.ptype.specs.Kinds.{wraps, names}
use Rattle.ptype.specs.declared.TypeKind.{TypeKind}
use Rattle.ptype.specs.declared.TypeKind.TheVariants as type
use Rattle.ptype.specs.TypeKind.{kinds_of_types, kind_of_type, number_of_type}

abbrev pub TypeNumber : TypeKind → (number : ℕ) → Type 0
TypeNumber type.None k = kind_of_type k ≡ type.None
TypeNumber type.Void k = k ≡ 1
TypeNumber type.Bool k = k ≡ 2
TypeNumber type.Int k = k ≡ 3
TypeNumber type.Double k = k ≡ 4
TypeNumber type.Str k = k ≡ 5
TypeNumber type.Option k = k ≡ 6
TypeNumber type.Array k = k ≡ 7
TypeNumber type.Record k = k ≡ 8
TypeNumber type.Foreign k = k ≡ 9
TypeNumber type.Slot k = k ≡ 10
TypeNumber type.Unknown k = k ≡ 11

at_type : (k : ℕ) → TypeNumber (kind_of_type k) k
unfolding kind_of_type kinds_of_types EachAt
at_type =
    each_at TypeNumber kinds_of_types type.None (search rules)
    (λ k. get_or_past kinds_of_types k type.None)

-- the kind x was found of the number k
pub type-number : {x : TypeKind} (k : ℕ) → x ≡ kind_of_type k → TypeNumber x k
type-number k e = rw e (at_type k)

named_type : (x : TypeKind) (k : ℕ) → TypeNumber x k → x ≡ kind_of_type k
unfolding kind_of_type kinds_of_types
named_type type.None k e = sym e
named_type type.Void k e = rw e refl
named_type type.Bool k e = rw e refl
named_type type.Int k e = rw e refl
named_type type.Double k e = rw e refl
named_type type.Str k e = rw e refl
named_type type.Option k e = rw e refl
named_type type.Array k e = rw e refl
named_type type.Record k e = rw e refl
named_type type.Foreign k e = rw e refl
named_type type.Slot k e = rw e refl
named_type type.Unknown k e = rw e refl

-- a kind is that of its own number
pub type-numbered : (x : TypeKind) → kind_of_type (number_of_type x) ≡ x
unfolding kind_of_type kinds_of_types
type-numbered type.None = refl
type-numbered type.Void = refl
type-numbered type.Bool = refl
type-numbered type.Int = refl
type-numbered type.Double = refl
type-numbered type.Str = refl
type-numbered type.Option = refl
type-numbered type.Array = refl
type-numbered type.Record = refl
type-numbered type.Foreign = refl
type-numbered type.Slot = refl
type-numbered type.Unknown = refl

-- it is no other
pub type-not : {x y : TypeKind} (k : ℕ) → x ≡ kind_of_type k → (x ≡ y → ⊥) → TypeNumber y k → ⊥
type-not {y = y} k e n h = n (e ∙ sym (named_type y k h))

-- and the two groups of kinds
pub type-wraps : {x : TypeKind} (k : ℕ) → x ≡ kind_of_type k → (x ≡ type.Option) ⊎ (x ≡ type.Array) → wraps k ≡ true
type-wraps k e (inl p) = rw (type-number k (sym p ∙ e)) refl
type-wraps k e (inr p) = rw (type-number k (sym p ∙ e)) refl

pub type-named : {x : TypeKind} (k : ℕ) → x ≡ kind_of_type k → (x ≡ type.Foreign) ⊎ (x ≡ type.Slot) → names k ≡ true
type-named k e (inl p) = rw (type-number k (sym p ∙ e)) refl
type-named k e (inr p) = rw (type-number k (sym p ∙ e)) refl

pub type-flat : {x : TypeKind} (k : ℕ) → x ≡ kind_of_type k → (x ≡ type.Option → ⊥) → (x ≡ type.Array → ⊥) → wraps k ≡ false
type-flat k e n m = rw (ne_eqb k 6 (type-not k e n), ne_eqb k 7 (type-not k e m)) refl

pub type-nameless : {x : TypeKind} (k : ℕ) → x ≡ kind_of_type k → (x ≡ type.Foreign → ⊥) → (x ≡ type.Slot → ⊥) → names k ≡ false
type-nameless k e n m = rw (ne_eqb k 9 (type-not k e n), ne_eqb k 10 (type-not k e m)) refl

-- and whether it is one at all
none_at : (k : ℕ) → (kind_of_type k ≡ type.None) → false ≡ (leb 1 k && leb k 11)
unfolding kind_of_type kinds_of_types EachAt
none_at =
    each_at (λ x k. x ≡ type.None → false ≡ (leb 1 k && leb k 11)) kinds_of_types type.None (search rules) (λ k h e. rw (lt-leb k 11 h, and-false) refl)

some_at : (k : ℕ) → (kind_of_type k ≡ type.None → ⊥) → true ≡ (leb 1 k && leb k 11)
unfolding kind_of_type kinds_of_types EachAt
some_at = each_at (λ x k. (x ≡ type.None → ⊥) → true ≡ (leb 1 k && leb k 11)) kinds_of_types type.None (search rules) (λ k h n. absurd (n refl))

pub type_none : {x : TypeKind} (k : ℕ) → x ≡ kind_of_type k → x ≡ type.None → false ≡ (leb 1 k && leb k 11)
type_none k e p = none_at k (sym e ∙ p)

pub type_some : {x : TypeKind} (k : ℕ) → x ≡ kind_of_type k → (x ≡ type.None → ⊥) → true ≡ (leb 1 k && leb k 11)
type_some k e n = some_at k (λ p. n (e ∙ p))
