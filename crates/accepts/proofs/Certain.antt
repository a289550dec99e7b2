-- `ImagePlaceCertain`, `LibraryPlaceCertain`: the words up to and including the offending word decide refusals 2 and 3. By what the two fault
-- definitions say of such lists (crate `certain`); a refusal of the walk has another number. Assumes nothing.
use Prim.Native.Nat.{ℕ, ◌+◌, ◌≤◌, ◌<◌}
use Rattle.std.proofs.Common.{arith, ap, ◌∙◌}
use Rattle.std.specs.Prelude.{◌≡◌, List}
use Rattle.std.proofs.Math.Path.{refl, sym}
use Rattle.std.proofs.Math.Option.{Option, none, some}
use Rattle.facts.specs.Tests.{no-some}
use Rattle.tok.specs.Step.{Result, ok, refused, Refusal, refusal}
use Rattle.tok.specs.Reader.{Cursor, fault_of}
use Rattle.library.specs.LibraryFault.{library_fault}
use Rattle.ast.specs.Image.{root_count, slot_count}
use Rattle.ast.specs.Node.{roots_of}
use Rattle.ast.specs.ImageFault.{Outlines, image_read, image_fault}
use Rattle.image_laws.proofs.Accepted.{refused-read}
use Rattle.refusals.specs.Inputs.{Inputs, Buffers, texts_in}
use Rattle.refusals.specs.Refusals.{or_else, scratch_fault, refusal_of_outlines, refusal_of_image, refusal_of}
use Rattle.rules.specs.World.{World}
use Rattle.rules.specs.Steps.{Done}
use Rattle.rules.specs.Walk.{walk, walk_of}
use Rattle.rules.specs.Check.{end_of, unless_refused, check_of}
use Rattle.rules.specs.Promises.{AgreesTo, RefusedAlike, with_image, with_library}
use Rattle.laws.specs.Keeps.{Keeps, kept, stopped}
use Rattle.laws.specs.Grow.{Walked, full, deep, told, walk_grows}
use Rattle.certain.specs.ImageCertain.{image_certain}
use Rattle.certain.proofs.LibraryCertain.{library_certain}
use Rattle.certain.specs.LibraryText.{library-alone}
use Rattle.accepts.proofs.Passed.{passed}
use Rattle.accepts.proofs.LowSlots.{low-slots}

-- ── A number from 1 to 6 comes from before the walk ──

late : {n : ℕ} → Walked n → 7 ≤ n
late full = omega arith
late deep = omega arith
late told = omega arith

walk-number : {R : World → World → Type 0} {s : World} (b : Buffers) (x : Result World Refusal Done) → Keeps R Walked s x → (n : ℕ) → 1 ≤ n → n ≤ 6 → (end_of b x).number ≡ n → ⊥
unfolding end_of
walk-number b (ok a u) (kept g) n low high e = omega arith
walk-number b (refused r) (stopped q) n low high e = omega (arith, late q)

module _ (i : Inputs) (b : Buffers) (n : ℕ) (low : 1 ≤ n) (high : n ≤ 6) where
  not-walked : refusal_of i b ≡ none → (end_of b (walk_of i b)).number ≡ n → ⊥
  unfolding walk_of walk roots_of
  not-walked p e =
      let v : ℕ = slot_count i.image in
      walk-number b (walk_of i b) (walk_grows v i b (root_count i.image) (low-slots (passed i b p).image (λ slot. slot < v + 1) (λ slot l. omega arith))) n low high e

  before-walk : (o : Option Refusal) → refusal_of i b ≡ o → (unless_refused o i b).number ≡ n → o ≡ some (refusal n (unless_refused o i b).place)
  unfolding unless_refused
  before-walk none p e = absurd (not-walked p e)
  before-walk (some r) p e = rw (← e) refl

  refused-before : (check_of i b).number ≡ n → refusal_of i b ≡ some (refusal n (check_of i b).place)
  unfolding check_of
  refused-before e = before-walk (refusal_of i b) refl e

-- what such a refusal makes of the check
check_refused : (i : Inputs) (b : Buffers) (n p : ℕ) → refusal_of i b ≡ some (refusal n p) → ((check_of i b).number ≡ n) × ((check_of i b).place ≡ p)
unfolding check_of unless_refused
check_refused i b n p e = (rw e refl, rw e refl)

-- ── Which cause a number tells ──

abbrev refusal_number : Option Refusal → ℕ
refusal_number none = 0
refusal_number (some r) = r.number

abbrev refusal_place : Option Refusal → ℕ
refusal_place none = 0
refusal_place (some r) = r.place

-- not this cause: a later one
else_later : (n m : ℕ) (f : Option ℕ) (later : Option Refusal) (p : ℕ) → (n ≡ m → ⊥) → or_else n f later ≡ some (refusal m p) → (f ≡ none) × (later ≡ some (refusal m p))
unfolding or_else
else_later n m (some q) later p d e = absurd (d (ap refusal_number e))
else_later n m none later p d e = (refl, e)

-- 4 to 6 have numbers of their own
outlines-late : (b : Buffers) (o : Outlines) (n p : ℕ) → n ≤ 3 → refusal_of_outlines b o ≡ some (refusal n p) → ⊥
unfolding refusal_of_outlines
outlines-late b o n p l e =
    no-some (sym (else_later 6 n _ none p (λ z. omega arith) (else_later 5 n _ _ p (λ z. omega arith) (else_later 4 n _ _ p (λ z. omega arith) e).1).1).1)

-- 3
image-three : (b : Buffers) (r : Result Cursor ℕ Outlines) (p : ℕ) → refusal_of_image b r ≡ some (refusal 3 p) → r ≡ refused p
unfolding refusal_of_image
image-three b (refused q) p e = ap refused (ap refusal_place e)
image-three b (ok o c) p e = absurd (outlines-late b o 3 p (omega arith) e)

image-two : (b : Buffers) (r : Result Cursor ℕ Outlines) (p : ℕ) → refusal_of_image b r ≡ some (refusal 2 p) → ⊥
unfolding refusal_of_image
image-two b (refused q) p e = let z : ◌≡◌ {A = ℕ} 3 2 = ap refusal_number e in omega arith
image-two b (ok o c) p e = outlines-late b o 2 p (omega arith) e

-- 2
library-two : (f : Option ℕ) (b : Buffers) (r : Result Cursor ℕ Outlines) (p : ℕ) → or_else 2 f (refusal_of_image b r) ≡ some (refusal 2 p) → f ≡ some p
unfolding or_else
library-two (some q) b r p e = ap some (ap refusal_place e)
library-two none b r p e = absurd (image-two b r p e)

-- ── The laws ──

module _ (i : Inputs) (b : Buffers) where
  pub image-place : (image : List ℕ) → (check_of i b).number ≡ 3 → AgreesTo (check_of i b).place i.image image → RefusedAlike (check_of i b) (check_of (with_image i image) b)
  unfolding refusal_of image_fault fault_of or_else refusal_of_image
  image-place image e a =
      let p : ℕ = (check_of i b).place in
      let scratch = else_later 1 3 (scratch_fault b) _ p (λ z. omega arith) (refused-before i b 3 (omega arith) (omega arith) e) in
      let library = else_later 2 3 (library_fault (texts_in i) i.library) _ p (λ z. omega arith) scratch.1 in
      let first : image_read (texts_in i) i.image ≡ refused p = image-three b _ p library.1 in
      let second : image_read (texts_in i) image ≡ refused p = refused-read (texts_in i) image p (image_certain (texts_in i) i.image image p (ap fault_of first) a) in
      let h = check_refused (with_image i image) b 3 p (rw (scratch.0, library.0, second) refl) in
      record { number = h.0 ∙ sym e; place = h.1 }

  pub library-place : (script image library : List ℕ) → (check_of i b).number ≡ 2 → AgreesTo (check_of i b).place i.library library
      → RefusedAlike (check_of i b) (check_of (with_library i script image library) b)
  unfolding refusal_of or_else
  library-place script image library e a =
      let p : ℕ = (check_of i b).place in
      let scratch = else_later 1 2 (scratch_fault b) _ p (λ z. omega arith) (refused-before i b 2 (omega arith) (omega arith) e) in
      let first = library-two (library_fault (texts_in i) i.library) b _ p scratch.1 in
      let second = library-alone i.script script i.library_text library ∙ library_certain (texts_in i) i.library library p first a in
      let h = check_refused (with_library i script image library) b 2 p (rw (scratch.0, second) refl) in
      record { number = h.0 ∙ sym e; place = h.1 }
