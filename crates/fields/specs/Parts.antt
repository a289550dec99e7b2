-- Node::Record once its values are visited. Definition.
use Rattle.std.specs.Prelude.{ℕ, List}
use Rattle.tok.specs.Text.{Texts}
use Rattle.tok.specs.Step.{◌>>=◌}
use Rattle.ptype.specs.Add.{add_record}
use Rattle.rules.specs.declared.Answer.{Answer}
use Rattle.rules.specs.World.{Walk}
use Rattle.rules.specs.Steps.{set_known, on_types}

-- of its pairs: its type is added, and recorded in its slot
unfoldable pub record_of : Texts → (n slot : ℕ) → (pairs : List ℕ) → Walk Answer
record_of T n slot pairs = do
  w ← on_types (add_record T n pairs)
  set_known slot w
