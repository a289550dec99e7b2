-- "Numbers 1 to 6 are tried in that order before the walk." Definitions.
use Rattle.std.specs.Prelude.{ℕ, cond, [], length, ltb}
use Rattle.std.proofs.Math.Option.{Option, none, some}
use Rattle.tok.specs.Step.{Result, ok, refused, Refusal, refusal}
use Rattle.tok.specs.Reader.{Cursor}
use Rattle.library.specs.LibraryFault.{library_fault}
use Rattle.ast.specs.ImageFault.{Outlines, image_read}
use Rattle.ast.specs.Claims.{claims_fault}
use Rattle.ast.specs.Depth.{depth_fault}
use Rattle.ast.specs.Room.{room_fault}
use Rattle.refusals.specs.Inputs.{Inputs, Buffers, texts_in}

-- this cause, if its fault has a place, else the next
unfoldable pub or_else : (number : ℕ) → (fault : Option ℕ) → (later : Option Refusal) → Option Refusal
or_else number (some place) later = some (refusal number place)
or_else number none later = later

-- 1: "scratch below 16,384 words", place 0
abbrev pub scratch_words : ℕ
scratch_words = 16384

unfoldable pub scratch_fault : Buffers → Option ℕ
scratch_fault b = cond (ltb (length b.scratch) scratch_words) (some 0) none

-- 4 to 6, of an image that can be read
unfoldable pub refusal_of_outlines : Buffers → Outlines → Option Refusal
refusal_of_outlines b o =
    or_else 4 (claims_fault o.roots o.nodes)
    (or_else 5 (depth_fault o.nodes)
    (or_else 6 (room_fault (length b.slots) (length b.functions) o.slots o.nodes)
    none))

-- 3 to 6: "image or script text likewise"
unfoldable pub refusal_of_image : Buffers → Result Cursor ℕ Outlines → Option Refusal
refusal_of_image b (refused place) = some (refusal 3 place)
refusal_of_image b (ok o c) = refusal_of_outlines b o

-- the first of refusals 1 to 6, or none
unfoldable pub refusal_of : Inputs → Buffers → Option Refusal
refusal_of i b =
    or_else 1 (scratch_fault b)
    (or_else 2 (library_fault (texts_in i) i.library)
    (refusal_of_image b (image_read (texts_in i) i.image)))
