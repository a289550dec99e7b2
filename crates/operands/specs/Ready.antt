-- What the end of a node of one operand asks for. Definition.
use Rattle.std.specs.Prelude.{ℕ, ◌+◌, ◌≡◌, List}
use Rattle.ast.specs.Image.{word_at, record_kind}
use Rattle.visit.specs.declared.State.{State}
use Rattle.names.specs.Bound.{Bindable}

-- a node of one operand: a Let's name can be bound
pub record OneReady (image : List ℕ) (at : ℕ) (st : State) (scratch : List ℕ) : Type 0 where
  pub binds : record_kind image at ≡ 4 → Bindable st scratch (word_at image (at + 2))
