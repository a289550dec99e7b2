-- A Record's pairs, as image and slots tell of them once its values are visited: a rule answers its node's own slot, and where it is
-- poisoned leaves no type in it, or Unknown where it read a field of that type (laws, `Told`). Definitions and laws. Assumes nothing.
use Prim.Native.Nat.{ℕ, zero, suc, ◌+◌, ◌*◌, ◌≤◌}
use Rattle.std.specs.Prelude.{◌≡◌, cond, length, get_or, eqb}
use Rattle.std.proofs.Math.Path.{refl}
use Rattle.std.proofs.Common.{ap, ne_eqb}
use mathlib.Core.List.{List, [], ◌∷◌, ◌++◌}
use native.Mathlib.Omega.{arith}
use Rattle.tok.specs.Step.{ok}
use Rattle.ptype.specs.Words.{unknown_word}
use Rattle.ast.specs.Image.{word_at}
use Rattle.ast.specs.Node.{Node, tree_of, slot_of, values_from}
use Rattle.laws.specs.Told.{Tells, knows, poisons, unknown}
use Rattle.rules.specs.declared.Answer.{Answer}
use Rattle.rules.specs.World.{World}
use Rattle.rules.specs.Steps.{ty}
use Rattle.rules.specs.Rules.{value_type}
use Rattle.rules.specs.Visited.{visited_below, visited_in_values, slots_of}
use Rattle.accepts.specs.Count.{total-append, count}
use Rattle.accepts.proofs.OtherSlots.{owned, own-owned}
use Rattle.accepts.proofs.Fresh.{visited_from, Apart}
use Rattle.onerun.specs.Claim.{Run, AnswerOk}
use Rattle.onerun.specs.Claim as C
use Rattle.walking.specs.Visited.{values_at}

-- the type word of a value, of the word in its slot: Unknown where it has no type
unfoldable pub value_of : (word : ℕ) → ℕ
value_of word = cond (eqb word 0) unknown_word word

-- of the value of node n
unfoldable pub node_value : (image slots : List ℕ) → (n : ℕ) → ℕ
node_value image slots n = value_of (get_or slots (slot_of (tree_of image n)) 0)

-- name and type of k values, whose names and node numbers stand from word `at` on
unfoldable pub pairs_read : (image slots : List ℕ) → (at k : ℕ) → List ℕ
pairs_read image slots at zero = []
pairs_read image slots at (suc k) = word_at image at ∷ node_value image slots (word_at image (at + 1)) ∷ pairs_read image slots (at + 2) k

-- ── Laws ──

module _ (image : List ℕ) where
  pub read_length : (slots : List ℕ) (at k : ℕ) → length (pairs_read image slots at k) ≡ 2 * k
  unfolding pairs_read
  read_length slots at zero = refl
  read_length slots at (suc k) = omega (arith, read_length slots (at + 2) k)

  -- one more value
  pub read_more : (slots : List ℕ) (at k : ℕ)
      → pairs_read image slots at (k + 1) ≡ pairs_read image slots at k ++ (word_at image (at + 2 * k) ∷ node_value image slots (word_at image (at + 2 * k + 1)) ∷ [])
  unfolding pairs_read
  read_more slots at zero = let e : at + 2 * 0 ≡ at = omega arith in rw e refl
  read_more slots at (suc k) =
      let n : suc k + 1 ≡ suc (k + 1) = omega arith in
      let p : at + 2 * suc k ≡ at + 2 + 2 * k = omega arith in
      rw (n, p) (ap (λ ps. word_at image at ∷ node_value image slots (word_at image (at + 1)) ∷ ps) (read_more slots (at + 2) k))

  -- visits of other nodes change nothing of it
  module _ {ys : List Node} {slots after : List ℕ} (p : Apart ys slots after) where
    pub read-still : (at k : ℕ) → ((a : ℕ) → 1 ≤ owned a (visited_in_values (values_at image at k)) → owned a ys ≡ 0) → pairs_read image after at k ≡ pairs_read image slots at k
    unfolding pairs_read node_value visited_in_values values_from
    read-still at zero h = refl
    read-still at (suc k) h =
        let x : Node = tree_of image (word_at image (at + 1)) in
        let rest : List Node = visited_in_values (values_at image (at + 2) k) in
        let both : (a : ℕ) → owned a (visited_from x ++ rest) ≡ owned a (visited_from x) + owned a rest = λ a. total-append (λ y. count a (slots_of y)) (visited_from x) rest in
        rw (p.same (slot_of x) (h (slot_of x) (omega (arith, own-owned x (visited_below x), both (slot_of x)))), read-still (at + 2) k (λ a l. h a (omega (arith, both a)))) refl

-- THE LAW of a value whose slot had no type before
pub value-told : (r : Run) {F : Type 0} {slot : ℕ} {x : Answer} {u : World} → Tells F slot 0 (ok x u) → AnswerOk r u x → value_type x u ≡ ok (value_of (get_or u.slots slot 0)) u
unfolding value_type value_of ty
value-told r {slot = slot} {u = u} (knows k) (C.known e) = rw (ne_eqb (get_or u.slots slot 0) 0 e.other) refl
value-told r (poisons e) o = rw e refl
value-told r (unknown f e) o = rw e refl
