-- A type expression of more than 32 levels is refused in the end: by what its first part of more than 32 levels meets, or by what was added
-- before that part. Definitions.
use Rattle.std.specs.Prelude.{ℕ, ◌≡◌, ◌<◌, length, Result as Answered, Ok, Err}
use Rattle.tok.specs.Text.{Texts}
use Rattle.tok.specs.Step.{Result, Refusal, Step}
use Rattle.ptype.specs.Add.{Buffer}
use Rattle.add.specs.declared.AddError.{AddError}
use Rattle.add.specs.declared.Arena.{Arena}
use Rattle.add.specs.Answer.{buffer_of, result_of}
use Rattle.ast.specs.TypeFrom.{type_from}
use Rattle.places.specs.Levels.{levels_of}
use Rattle.type_expr.specs.Trees.{Numbered, tree}

-- what is left to do: that part; or nothing, after a refusal
abbrev pub onward : Texts → (n : ℕ) → Answered Numbered AddError → Arena → Result Buffer Refusal ℕ
onward T n (Ok part) a = type_from T n (tree part) (buffer_of a)
onward T n (Err e) a = result_of n (Err e) a.words.now

-- `whole`, of `levels` levels, on the arena a, goes on with what the answer r says, on the arena a'
pub record Onward (levels : ℕ) (whole : Texts → (n : ℕ) → Step Buffer Refusal ℕ) (a : Arena) (r : Answered Numbered AddError) (a' : Arena) : Type 0 where
  pub lent : a'.words.ghost_name ≡ a.words.ghost_name
  pub keeps : length a'.words.now ≡ length a.words.now
  pub is : (T : Texts) (n : ℕ) → whole T n (buffer_of a) ≡ onward T n r a'
  pub part : (p : Numbered) → r ≡ Ok p → levels_of (tree p) < levels
