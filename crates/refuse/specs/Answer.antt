-- What the refusals before the walk are asked of, and their answer as document 01's number and place ("Answers that end the check"). Definitions.
use Rattle.std.specs.Prelude.{ℕ, List, Result, Ok, Err, ⊤}
use Rattle.std.proofs.Math.Option.{Option, none, some}
use Rattle.tok.specs.Step.{Refusal, refusal}
use Rattle.ast.specs.Image.{node_count, slot_count}
use Rattle.ast.specs.Room.{room_fault}
use Rattle.image_laws.specs.OutlineAt.{outlines_from}
use Rattle.refusals.specs.Inputs.{Inputs, Buffers}
use Rattle.refuse.specs.declared.Cause.{Cause}
use Rattle.refuse.specs.declared.Cause.TheVariants.{Scratch, Library, Image, Claims, Depth, Room}

abbrev pub refusal_in : Result ⊤ Cause → Option Refusal
refusal_in (Ok passed) = none
refusal_in (Err Scratch) = some (refusal 1 0)
refusal_in (Err (Library place)) = some (refusal 2 place)
refusal_in (Err (Image place)) = some (refusal 3 place)
refusal_in (Err (Claims place)) = some (refusal 4 place)
refusal_in (Err (Depth place)) = some (refusal 5 place)
refusal_in (Err Room) = some (refusal 6 0)

abbrev pub inputs_of : (script image library_text library : List ℕ) → Inputs
inputs_of script image library_text library = record { script = script; image = image; library_text = library_text; library = library }

abbrev pub buffers_of : (slots functions types diagnostics messages scratch : List ℕ) → Buffers
buffers_of slots functions types diagnostics messages scratch =
    record { slots = slots; functions = functions; types = types; diagnostics = diagnostics; messages = messages; scratch = scratch }

-- refusal 6 of an image, read by place
abbrev pub room_in : (slots functions : ℕ) → (image : List ℕ) → Option ℕ
room_in slots functions image = room_fault slots functions (slot_count image) (outlines_from image 0 (node_count image))
