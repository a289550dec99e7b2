-- How many words a type is written in, each part counted at every place where it stands. Definitions.
use Rattle.std.specs.Prelude.{ℕ, ◌+◌}
use Rattle.ptype.specs.Ty.{Ty, Fields, plain, wrap, rec, named, no_field, field}

unfoldable mutual
  pub size_of : Ty → ℕ
  size_of (plain k) = 1
  size_of (wrap k t) = 1 + size_of t
  size_of (rec fs) = 1 + size_of_all fs
  size_of (named k n) = 1

  pub size_of_all : Fields → ℕ
  size_of_all no_field = 0
  size_of_all (field n t fs) = size_of t + size_of_all fs
