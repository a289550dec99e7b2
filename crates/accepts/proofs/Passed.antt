-- "Numbers 1 to 6 are tried in that order before the walk": what inputs that pass them all have, of each refusal by itself. Assumes nothing.
use Rattle.std.specs.Prelude.{ℕ, ◌+◌, ◌≤◌, ◌<◌, ◌≡◌, refl, Bool, true, false, ◌||◌, cond, List, length, ltb}
use Rattle.std.proofs.Common.{arith, ltb-false}
use Rattle.std.proofs.Math.Option.{Option, none, some}
pub use Rattle.facts.specs.Tests.{no-some}
use Rattle.facts.specs.Tests.{neither}
use Rattle.tok.specs.Step.{Result, Refusal}
use Rattle.tok.specs.Reader.{Cursor}
use Rattle.library.specs.LibraryFault.{library_fault}
use Rattle.ast.specs.Image.{slot_count}
use Rattle.ast.specs.Outline.{Outline}
use Rattle.ast.specs.ImageFault.{Outlines}
use Rattle.ast.specs.Claims.{claims_fault}
use Rattle.ast.specs.Depth.{depth_fault}
use Rattle.ast.specs.Room.{function_words, room_fault}
use Rattle.reader.specs.Reads.{Reads, reads, faults}
use Rattle.image_laws.specs.OutlineAt.{outlines_in}
use Rattle.image_laws.proofs.Accepted.{Accepted, read-gives}
use Rattle.refusals.specs.Inputs.{Inputs, Buffers, texts_in}
use Rattle.refusals.specs.Refusals.{or_else, refusal_of_outlines, refusal_of_image, refusal_of}
use Rattle.accepts.specs.Passed.{Passed}

-- this cause has no place, and no later one
tried : (n : ℕ) (f : Option ℕ) (later : Option Refusal) → or_else n f later ≡ none → (f ≡ none) × (later ≡ none)
unfolding or_else
tried n (some p) later e = absurd (no-some e)
tried n none later e = (refl, e)

untold : (t : Bool) → ◌≡◌ {A = Option ℕ} (cond t (some 0) none) none → t ≡ false
untold true e = absurd (no-some e)
untold false e = refl

room : (slots functions v : ℕ) (os : List Outline) → room_fault slots functions v os ≡ none → (v < slots) × (function_words os ≤ functions)
unfolding room_fault
room slots functions v os e =
    let h = neither _ _ (untold (ltb slots (v + 1) || ltb functions (function_words os)) e) in
    let l = ltb-false slots (v + 1) h.0 in
    (omega arith, ltb-false functions (function_words os) h.1)

read-passed : (b : Buffers) {words : List ℕ} {to : ℕ} {A : Type 0} {r : Result Cursor ℕ Outlines} → Reads words (outlines_in words) to A r → refusal_of_image b r ≡ none
    → A × (refusal_of_outlines b (outlines_in words) ≡ none)
unfolding refusal_of_image
read-passed b (reads least w a) e = (a, e)
read-passed b (faults place) e = absurd (no-some e)

pub passed : (i : Inputs) (b : Buffers) → refusal_of i b ≡ none → Passed i b
unfolding refusal_of refusal_of_outlines outlines_in
passed i b e =
    let one = tried 1 _ _ e in
    let two = tried 2 _ _ one.1 in
    let three = read-passed b (read-gives (texts_in i) i.image) two.1 in
    let four = tried 4 _ _ three.1 in
    let five = tried 5 _ _ four.1 in
    let six = tried 6 _ _ five.1 in
    let r = room (length b.slots) (length b.functions) (slot_count i.image) (outlines_in i.image).nodes six.0 in
    record { library = two.0; image = three.0; claims = four.0; depth = five.0; slots = r.0; functions = r.1 }
