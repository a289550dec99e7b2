-- "Numbers 1 to 6 are tried in that order before the walk": what inputs that pass them all have, of each refusal by itself. Assumes nothing.
use Rattle.std.specs.Prelude.{◌≤◌, ◌<◌, ◌≡◌, length}
use Rattle.std.proofs.Math.Option.{none}
use Rattle.library.specs.LibraryFault.{library_fault}
use Rattle.ast.specs.Image.{slot_count}
use Rattle.ast.specs.Claims.{claims_fault}
use Rattle.ast.specs.Depth.{depth_fault}
use Rattle.ast.specs.Room.{function_words}
use Rattle.image_laws.specs.OutlineAt.{outlines_in}
use Rattle.image_laws.proofs.Accepted.{Accepted}
use Rattle.refusals.specs.Inputs.{Inputs, Buffers, texts_in}

pub record Passed (i : Inputs) (b : Buffers) : Type 0 where
  -- 2
  pub library : library_fault (texts_in i) i.library ≡ none
  -- 3
  pub image : Accepted i.script i.image
  -- 4
  pub claims : claims_fault (outlines_in i.image).roots (outlines_in i.image).nodes ≡ none
  -- 5
  pub depth : depth_fault (outlines_in i.image).nodes ≡ none
  -- 6
  pub slots : slot_count i.image < length b.slots
  pub functions : function_words (outlines_in i.image).nodes ≤ length b.functions
