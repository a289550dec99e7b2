-- Refusals 1 to 6 ask only for lengths of the buffers: longer ones pass where shorter ones do. None of them has the number 0. Assumes nothing.
use Rattle.std.specs.Prelude.{ℕ, ◌+◌, ◌≡◌, refl, Bool, true, false, ◌||◌, cond, length}
use Rattle.std.proofs.Common.{arith, true≢false}
use Rattle.std.proofs.Math.Option.{Option, none, some}
use Rattle.std.proofs.Math.Dec.{ltb}
use borrow.Author.Tests.{ltb-false, le-ltb}
use Rattle.facts.specs.Tests.{neither, no-some}
use Rattle.tok.specs.Step.{Result, ok, refused, Refusal}
use Rattle.tok.specs.Reader.{Cursor}
use Rattle.ast.specs.ImageFault.{Outlines}
use Rattle.ast.specs.Room.{function_words, room_fault}
use Rattle.refusals.specs.Inputs.{Inputs, Buffers}
use Rattle.refusals.specs.Refusals.{or_else, scratch_words, scratch_fault, refusal_of_outlines, refusal_of_image, refusal_of}
use Rattle.rules.specs.Promises.{Longer}

record Neither (f : Option ℕ) (l : Option Refusal) : Type 0 where
  this : f ≡ none
  later : l ≡ none

else_none : (n : ℕ) (f : Option ℕ) (l : Option Refusal) → or_else n f l ≡ none → Neither f l
unfolding or_else
else_none n (some p) l e = absurd (no-some e)
else_none n none l e = record { this = refl; later = e }

none_else : (n : ℕ) {f : Option ℕ} {l : Option Refusal} → f ≡ none → l ≡ none → or_else n f l ≡ none
unfolding or_else
none_else n e h = rw e h

cond-none : (b : Bool) → ◌≡◌ {A = Option ℕ} (cond b (some 0) none) none → b ≡ false
cond-none true e = absurd (no-some e)
cond-none false e = refl

module _ {b b' : Buffers} (long : Longer b b') where
  scratch-longer : scratch_fault b ≡ none → scratch_fault b' ≡ none
  unfolding scratch_fault
  scratch-longer e =
      let l = ltb-false (length b.scratch) scratch_words (cond-none (ltb (length b.scratch) scratch_words) e) in
      rw (le-ltb (length b'.scratch) scratch_words (omega (arith, long.scratch)))

  room-longer : (o : Outlines) → room_fault (length b.slots) (length b.functions) o.slots o.nodes ≡ none
      → room_fault (length b'.slots) (length b'.functions) o.slots o.nodes ≡ none
  unfolding room_fault
  room-longer o e =
      let h = neither _ _ (cond-none (ltb (length b.slots) (o.slots + 1) || ltb (length b.functions) (function_words o.nodes)) e) in
      let s = ltb-false (length b.slots) (o.slots + 1) h.0 in
      let f = ltb-false (length b.functions) (function_words o.nodes) h.1 in
      rw (le-ltb (length b'.slots) (o.slots + 1) (omega (arith, long.slots)), le-ltb (length b'.functions) (function_words o.nodes) (omega (arith, long.functions)))

  outlines-longer : (o : Outlines) → refusal_of_outlines b o ≡ none → refusal_of_outlines b' o ≡ none
  unfolding refusal_of_outlines
  outlines-longer o e =
      let h = else_none 4 _ _ e in
      let k = else_none 5 _ _ h.later in
      let m = else_none 6 _ _ k.later in
      none_else 4 h.this (none_else 5 k.this (none_else 6 (room-longer o m.this) refl))

  image-longer : (x : Result Cursor ℕ Outlines) → refusal_of_image b x ≡ none → refusal_of_image b' x ≡ none
  unfolding refusal_of_image
  image-longer (refused p) e = absurd (no-some e)
  image-longer (ok o c) e = outlines-longer o e

  pub refusal-longer : (i : Inputs) → refusal_of i b ≡ none → refusal_of i b' ≡ none
  unfolding refusal_of
  refusal-longer i e =
      let h = else_none 1 _ _ e in
      let k = else_none 2 _ _ h.later in
      none_else 1 (scratch-longer h.this) (none_else 2 k.this (image-longer _ k.later))

-- the numbers
unfoldable pub Numbered : Option Refusal → Type 0
Numbered none = Unit {0}
Numbered (some r) = r.number ≡ 0 → ⊥

numbered_else : (n : ℕ) → (n ≡ 0 → ⊥) → (f : Option ℕ) (l : Option Refusal) → Numbered l → Numbered (or_else n f l)
unfolding or_else Numbered
numbered_else n z (some p) l h = z
numbered_else n z none l h = h

numbered-outlines : (b : Buffers) (o : Outlines) → Numbered (refusal_of_outlines b o)
unfolding refusal_of_outlines Numbered
numbered-outlines b o = numbered_else 4 (λ e. omega arith) _ _ (numbered_else 5 (λ e. omega arith) _ _ (numbered_else 6 (λ e. omega arith) _ none tt))

numbered-image : (b : Buffers) (x : Result Cursor ℕ Outlines) → Numbered (refusal_of_image b x)
unfolding refusal_of_image Numbered
numbered-image b (refused p) = λ e. omega arith
numbered-image b (ok o c) = numbered-outlines b o

pub numbered : (i : Inputs) (b : Buffers) → Numbered (refusal_of i b)
unfolding refusal_of
numbered i b = numbered_else 1 (λ e. omega arith) _ _ (numbered_else 2 (λ e. omega arith) _ _ (numbered-image b _))
