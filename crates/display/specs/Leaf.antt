-- The kinds of types with no type inside. A definition.
use Rattle.std.specs.Prelude.{ℕ, ◌≡◌, false}
use Rattle.ptype.specs.Kinds.{wraps}

-- neither Option nor Array, nor Record
pub record Leaf (kind : ℕ) : Type 0 where
  pub no_type : wraps kind ≡ false
  pub no_field : kind ≡ 8 → ⊥
