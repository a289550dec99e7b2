-- The rules of the kinds that hold lists, by place, as `RecordLaws` has the others. Assumes nothing.
use Prim.Native.Nat.{ℕ, ◌+◌, ◌*◌, ◌-◌, ◌/◌, ◌%◌, ◌≤◌, ◌<◌}
use Rattle.std.specs.Prelude.{true, ◌&&◌, ◌≡◌, List, [], get_or, leb}
use Rattle.std.proofs.Math.Bool.{and-eq-true_iff}
use Rattle.std.proofs.Math.Path.{ap}
use native.Mathlib.Omega.{arith}
use Rattle.std.proofs.Math.Dec.{ltb}
use borrow.Author.Tests.{ltb-true, leb-true}
use Rattle.ast.specs.Image.{word_at, record_length}
use Rattle.ast.specs.Outline.{Outline, Counts, typed_name}
use Rattle.ast.specs.NodeRecords.{good_arguments, fn, callable, no_node, call, imports, named_part, record_node, array}
use Rattle.reader.specs.Reads.{reads, reads_then, reads_to, reads-as, reads-next}
use Rattle.image_laws.specs.OutlineAt.{parts_from, fn_parts, call_parts, record_parts, array_parts}
use Rattle.image_laws.specs.RecordWords.{FnWords, CallReads, ImportWords, RecordWords, ArrayWords}
use Rattle.image_laws.proofs.RecordLaws.{named, under, parts-give, names-give, pairs-give, here_at, Rest}

module _ (c : Counts) (before : List Outline) (image : List ℕ) (n at : ℕ) where
  -- "slots (an Fn's argument slots too) below V", and the arguments within the record
  good-arguments : (k : ℕ) → good_arguments (here_at c before image n at) k ≡ true
      → (2 * k ≤ record_length image at - 2 - 3) × (word_at image (at + 1) + k < c.slots)
  unfolding good_arguments
  good-arguments k e =
      let both = (and-eq-true_iff (leb (2 * k) (record_length image at - 2 - 3)) _).0 e in
      (leb-true _ _ both.0, ltb-true _ _ both.1)

  pub fn-gives : 5 ≤ record_length image at → Rest c before image n at fn (word_at image (at + 4)) (fn_parts image at) (FnWords c image n at)
  unfolding fn typed_name
  fn-gives long least =
      let k : ℕ = word_at image (at + 4) in
      let e : record_length image at - 2 - 3 - 2 * k ≡ record_length image at - (5 + 2 * k) = omega arith in
      reads_then _ (named c.text image at 2 least)
      λ l₁ w₁ m. reads_then _ (under c.types image at 3 l₁)
      λ l₂ w₂ y. reads_then _ (reads-next (good_arguments (here_at c before image n at)) _ image at 4 l₂)
      λ l₃ w₃ g. reads_then _ (pairs-give c.text c.types image k (at + 5) l₃ w₃)
      λ l₄ w₄ a. rw e
      (let both = good-arguments k g in
      reads_then _ (parts-give n image (record_length image at - (5 + 2 * k)) (at + 5 + 2 * k) l₄ w₄)
      λ l₅ w₅ b. reads_to (at + record_length image at) (λ _. omega arith)
      (reads l₅ w₅ (record { long = omega arith; slots = both.1; name = m; ret = y; args = a; body = b })))

  pub call-gives : 3 ≤ record_length image at → Rest c before image n at call 0 (call_parts image at) (CallReads c before image n at)
  unfolding call
  call-gives long least =
      let t : ℕ = word_at image (at + 2) in
      let e : record_length image at - 2 - 1 ≡ record_length image at - 3 = omega arith in
      reads_then _ (reads-next (λ p. ltb p n && callable (get_or before p no_node)) _ image at 2 least)
      λ l₁ w₁ g. rw e
      (let both = (and-eq-true_iff (ltb t n) _).0 g in
      reads_then _ (parts-give n image (record_length image at - 3) (at + 3) l₁ w₁)
      λ l₂ w₂ b. reads_to (at + record_length image at) (λ _. omega arith)
      (reads l₂ w₂ (record { long = long; target = record { under = ltb-true t n both.0 }; callable = both.1; args = b })))

  pub array-gives : 3 ≤ record_length image at → Rest c before image n at array 0 (array_parts image at) (ArrayWords c image n at)
  unfolding array
  array-gives long least =
      let e : record_length image at - 2 - 1 ≡ record_length image at - 3 = omega arith in
      reads_then _ (named c.text image at 2 least)
      λ l₁ w₁ t. rw e
      (reads_then _ (parts-give n image (record_length image at - 3) (at + 3) l₁ w₁)
      λ l₂ w₂ b. reads_to (at + record_length image at) (λ _. omega arith) (reads l₂ w₂ (record { long = long; token = t; members = b })))

  pub import_gives : 3 ≤ record_length image at → Rest c before image n at imports 0 [] (ImportWords c image n at)
  unfolding imports
  import_gives long least =
      let e : record_length image at - 2 - 1 ≡ record_length image at - 3 = omega arith in
      reads_then _ (named c.text image at 2 least)
      λ l₁ w₁ t. rw e
      (reads_then _ (names-give c.text image (record_length image at - 3) (at + 3) l₁ w₁)
      λ l₂ w₂ b. reads_to (at + record_length image at) (λ _. omega arith) (reads l₂ w₂ (record { long = long; token = t; paths = b })))

  pub record_gives : 3 ≤ record_length image at → (record_length image at - 3) % 2 ≡ 0
      → Rest c before image n at record_node 0 (record_parts image at) (RecordWords c image n at)
  unfolding record_node named_part
  record_gives long even least =
      let k : ℕ = (record_length image at - 3) / 2 in
      let e : (record_length image at - 2 - 1) / 2 ≡ (record_length image at - 3) / 2 = ap (λ m. m / 2) (omega arith) in
      let p : at + 3 + 1 ≡ at + 4 = omega arith in
      let whole : 3 + 2 * ((record_length image at - 3) / 2) ≡ record_length image at = omega arith in
      reads_then _ (named c.text image at 2 least)
      λ l₁ w₁ t. rw e
      (reads_then _ (reads-as (ap (λ b. parts_from image 2 b k) p) (pairs-give c.text n image k (at + 3) l₁ w₁))
      λ l₂ w₂ b. reads_to (at + record_length image at) (λ _. omega arith) (reads l₂ w₂ (record { long = whole; token = t; values = b })))
