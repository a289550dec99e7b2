-- The causes one after the other, one law for each way out. Assumes nothing.
use Prim.Native.Nat.{ℕ, ◌+◌, ◌≤◌, ◌<◌}
use mathlib.Core.Bool.{Bool, true, false, ◌||◌, cond}
use mathlib.Core.Path.{◌≡◌, refl, sym, ap, ap₂, ◌∙◌}
use mathlib.Core.Option.{Option, none, some}
use mathlib.Core.List.{List}
use lib.ListN.{length}
use lib.Dec.{ltb}
use borrow.Author.Tests.{lt-ltb, le-ltb}
use Rattle.std.specs.Prelude.{Result, Ok, Err, ⊤}
use Rattle.std.specs.Result.{result_or}
use Rattle.tok.specs.Step.{Refusal, refusal}
use Rattle.reader.specs.declared.Fault.{Fault}
use Rattle.reader.specs.Reading.{offending}
use Rattle.library.specs.LibraryFault.{library_fault}
use Rattle.ast.specs.ImageFault.{image_read, image_fault}
use Rattle.ast.specs.Image.{node_count, slot_count}
use Rattle.ast.specs.Room.{function_words, room_fault}
use Rattle.image_laws.specs.OutlineAt.{outlines_from, outlines_in}
use Rattle.image_laws.proofs.Accepted.{accepted, accepted-read, refused-read}
use Rattle.claims.specs.Marks.{claims_in}
use Rattle.claims.specs.MarkLaws.{claims-accepted}
use Rattle.depth.specs.Depths.{depth_in}
use Rattle.depth.specs.DepthLaws.{depth-accepted}
use Rattle.refusals.specs.Inputs.{Inputs, Buffers, texts_in}
use Rattle.refusals.specs.Refusals.{or_else, scratch_fault, refusal_of_outlines, refusal_of_image, refusal_of}
use Rattle.refuse.specs.declared.Cause.TheVariants.{Room}
use Rattle.refuse.specs.Answer.{refusal_in, room_in}

-- refusal 6 has place 0 only
room-place : (slots functions : ℕ) (words : List ℕ) (place : ℕ) → room_in slots functions words ≡ some place → place ≡ 0
unfolding room_fault
room-place slots functions words place e = by (ltb slots (slot_count words + 1) || ltb functions (function_words (outlines_from words 0 (node_count words)))) e
  where
    by : (t : Bool) → cond t (some 0) none ≡ some place → place ≡ 0
    by true e = cc
    by false e = cc

module _ (i : Inputs) (b : Buffers) where
  abbrev by-room : Option Refusal
  by-room = or_else 6 (room_in (length b.slots) (length b.functions) i.image) none

  abbrev by-depth : Option Refusal
  by-depth = or_else 5 (depth_in i.image) by-room

  abbrev by-claims : Option Refusal
  by-claims = or_else 4 (claims_in i.image) by-depth

  abbrev by-image : Option Refusal
  by-image = refusal_of_image b (image_read (texts_in i) i.image)

  pub scratch-short : length b.scratch < 16384 → some (refusal 1 0) ≡ refusal_of i b
  unfolding refusal_of or_else scratch_fault
  scratch-short h = sym (rw (lt-ltb (length b.scratch) 16384 h) refl)

  module _ (h : 16384 ≤ length b.scratch) where
    scratch-enough : refusal_of i b ≡ or_else 2 (library_fault (texts_in i) i.library) by-image
    unfolding refusal_of or_else scratch_fault
    scratch-enough = rw (le-ltb (length b.scratch) 16384 h) refl

    pub library-refused : (place : ℕ) → library_fault (texts_in i) i.library ≡ some place → some (refusal 2 place) ≡ refusal_of i b
    unfolding or_else
    library-refused place e = sym (scratch-enough ∙ ap (λ f. or_else 2 f by-image) e)

    module _ (library-read : library_fault (texts_in i) i.library ≡ none) where
      after-library : refusal_of i b ≡ by-image
      unfolding or_else
      after-library = scratch-enough ∙ ap (λ f. or_else 2 f by-image) library-read

      pub image-refused : (place : ℕ) → some place ≡ image_fault (texts_in i) i.image → some (refusal 3 place) ≡ refusal_of i b
      unfolding refusal_of_image
      image-refused place e = sym (after-library ∙ ap (refusal_of_image b) (refused-read (texts_in i) i.image place (sym e)))

      -- what 4 to 6 are asked of an accepted image
      module _ (read : none ≡ image_fault (texts_in i) i.image) where
        after-image : refusal_of i b ≡ by-claims
        unfolding refusal_of_image refusal_of_outlines outlines_in
        after-image =
            let a = accepted (texts_in i) i.image (sym read) in
            after-library
            ∙ ap (refusal_of_image b) (accepted-read (texts_in i) i.image (sym read)).1
            ∙ ap₂ (λ c d. or_else 4 c (or_else 5 d by-room)) (sym (claims-accepted a)) (sym (depth-accepted a))

        pub claims-refused : (place : ℕ) → some place ≡ claims_in i.image → some (refusal 4 place) ≡ refusal_of i b
        unfolding or_else
        claims-refused place e = sym (after-image ∙ ap (λ f. or_else 4 f by-depth) (sym e))

        module _ (once : none ≡ claims_in i.image) where
          after-claims : refusal_of i b ≡ by-depth
          unfolding or_else
          after-claims = after-image ∙ ap (λ f. or_else 4 f by-depth) (sym once)

          pub depth-refused : (place : ℕ) → some place ≡ depth_in i.image → some (refusal 5 place) ≡ refusal_of i b
          unfolding or_else
          depth-refused place e = sym (after-claims ∙ ap (λ f. or_else 5 f by-room) (sym e))

          module _ (shallow : none ≡ depth_in i.image) where
            after-depth : refusal_of i b ≡ by-room
            unfolding or_else
            after-depth = after-claims ∙ ap (λ f. or_else 5 f by-room) (sym shallow)

            room-short : (place : ℕ) → some place ≡ room_in (length b.slots) (length b.functions) i.image → some (refusal 6 0) ≡ refusal_of i b
            unfolding or_else
            room-short place e =
                ap (λ k. some (refusal 6 k)) (sym (room-place (length b.slots) (length b.functions) i.image place (sym e)))
                ∙ sym (after-depth ∙ ap (λ f. or_else 6 f none) (sym e))

            room-enough : none ≡ room_in (length b.slots) (length b.functions) i.image → none ≡ refusal_of i b
            unfolding or_else
            room-enough e = sym (after-depth ∙ ap (λ f. or_else 6 f none) (sym e))

            pub room-last : (r : Result ⊤ Fault) → offending r ≡ room_in (length b.slots) (length b.functions) i.image
                → refusal_in (result_or r (Err Room)) ≡ refusal_of i b
            room-last (Ok passed) e = room-enough e
            room-last (Err fault) e = room-short fault.0 e
