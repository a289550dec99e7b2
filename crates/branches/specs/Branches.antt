-- What the branches of a Match answered, as image and slots tell it once all are visited: a rule answers its node's own slot, and where it
-- is poisoned leaves no type in it, or Unknown where it read a field of that type (laws, `Told`). Definitions, and laws of lists of them.
-- Assumes nothing.
use Prim.Native.Nat.{ℕ, zero, suc, ◌+◌, ◌*◌, ◌≤◌}
use Rattle.std.specs.Prelude.{◌≡◌, Bool, cond, get_or, eqb}
use Rattle.std.proofs.Math.Path.{refl}
use Rattle.std.proofs.Common.{ap}
use mathlib.Core.List.{List, [], ◌∷◌, ◌++◌}
use native.Mathlib.Omega.{arith}
use Rattle.tok.specs.Word.{kind_of}
use Rattle.ast.specs.Image.{word_at, slot_count, node_place, record_kind}
use Rattle.ast.specs.Node.{Node, nodes_from, cases_from, cases_end, tree_of, slot_of}
use Rattle.ast.specs.Outline.{Counts}
use Rattle.image_laws.specs.RecordWords.{CasesWords, default_words, case_words}
use Rattle.laws.specs.SlotsOf.{last_node}
use Rattle.rules.specs.declared.Answer.{Answer}
use Rattle.rules.specs.declared.Answer.TheVariants.{Known, Poison}
use Rattle.rules.specs.Visited.{visited_among, visited_in_cases, slots_of}
use Rattle.rules.specs.Rules.{Branch}
use Rattle.accepts.specs.Count.{total-append, count}
use Rattle.accepts.proofs.OtherSlots.{owned}
use Rattle.accepts.proofs.Fresh.{visited_from, Apart, end-owned}

-- of the word in a node's slot, and whether the node reads a field
unfoldable pub answer_of : (word : ℕ) → (field : Bool) → (slot : ℕ) → Answer
answer_of word field slot = cond (eqb word 0) Poison (cond (eqb (kind_of word) 11) (cond field Poison (Known slot)) (Known slot))

-- node n is a Field
abbrev pub is_field : (image : List ℕ) → (n : ℕ) → Bool
is_field image n = eqb (record_kind image (node_place image n)) 8

-- what node n answered
unfoldable pub node_answer : (image slots : List ℕ) → (n : ℕ) → Answer
node_answer image slots n = answer_of (get_or slots (slot_of (tree_of image n)) 0) (is_field image n) (slot_of (tree_of image n))

-- "a block answers its last node's slot or V": k nodes, whose numbers stand from word `at` on
unfoldable pub body_answer : (image slots : List ℕ) → (at k : ℕ) → Answer
body_answer image slots at zero = Known (slot_count image)
body_answer image slots at (suc k) = node_answer image slots (word_at image (at + k))

-- the branch of the case at word `at`
abbrev pub branch_at : (image slots : List ℕ) → (at : ℕ) → Branch
branch_at image slots at = record { token = word_at image at; answer = body_answer image slots (at + 3) (word_at image (at + 2)) }

-- k cases from word `at` on
unfoldable pub branches_from : (image slots : List ℕ) → (at k : ℕ) → List Branch
branches_from image slots at zero = []
branches_from image slots at (suc k) = branch_at image slots at ∷ branches_from image slots (at + 3 + word_at image (at + 2)) k

-- ── Laws ──

-- three words each at least
pub cases-few : {c : Counts} {image : List ℕ} {n end at k : ℕ} → CasesWords c image n end at k → at + 3 * k + 1 ≤ end
cases-few (default_words t l b) = omega arith
cases-few (case_words t q body others) = let l = cases-few others in omega arith

module _ (image : List ℕ) where
  -- the word after one more case
  pub end_more : (at k : ℕ) → cases_end image at (k + 1) ≡ cases_end image at k + 3 + word_at image (cases_end image at k + 2)
  unfolding cases_end
  end_more at zero = refl
  end_more at (suc k) = let e : suc k + 1 ≡ suc (k + 1) = omega arith in rw e (end_more (at + 3 + word_at image (at + 2)) k)

  -- one more case is done
  pub branches-more : (slots : List ℕ) (at k : ℕ) → branches_from image slots at (k + 1) ≡ branches_from image slots at k ++ (branch_at image slots (cases_end image at k) ∷ [])
  unfolding branches_from cases_end
  branches-more slots at zero = refl
  branches-more slots at (suc k) =
      let n : suc k + 1 ≡ suc (k + 1) = omega arith in
      rw n (ap (λ bs. branch_at image slots at ∷ bs) (branches-more slots (at + 3 + word_at image (at + 2)) k))

  -- the last node of a body
  pub last-is : (at k : ℕ) → last_node (tree_of image (word_at image at)) (nodes_from (tree_of image) image (at + 1) k) ≡ tree_of image (word_at image (at + k))
  unfolding last_node nodes_from
  last-is at zero = let e : at + 0 ≡ at = omega arith in rw e refl
  last-is at (suc k) = let e : at + suc k ≡ at + 1 + k = omega arith in rw e (last-is (at + 1) k)

  -- its slot is one of those that the body's visited nodes own
  last-owned : (at k : ℕ) → 1 ≤ owned (slot_of (tree_of image (word_at image (at + k)))) (visited_among (nodes_from (tree_of image) image at (suc k)))
  unfolding nodes_from
  last-owned at k = rw (last-is at k) at (end-owned (tree_of image (word_at image at)) (nodes_from (tree_of image) image (at + 1) k))

  -- ── Visits of other nodes change nothing of it ──

  module _ {ys : List Node} {slots after : List ℕ} (p : Apart ys slots after) where
    body-still : (at k : ℕ) → ((a : ℕ) → 1 ≤ owned a (visited_among (nodes_from (tree_of image) image at k)) → owned a ys ≡ 0) → body_answer image after at k ≡ body_answer image slots at k
    unfolding body_answer node_answer
    body-still at zero h = refl
    body-still at (suc k) h = rw (p.same (slot_of (tree_of image (word_at image (at + k)))) (h _ (last-owned at k))) refl

    pub branches-still : (at k : ℕ) → ((a : ℕ) → 1 ≤ owned a (visited_in_cases (cases_from (tree_of image) image at k)) → owned a ys ≡ 0)
        → branches_from image after at k ≡ branches_from image slots at k
    unfolding branches_from cases_from visited_in_cases
    branches-still at zero h = refl
    branches-still at (suc k) h =
        let x : List Node = visited_from (tree_of image (word_at image (at + 1))) in
        let body : List Node = visited_among (nodes_from (tree_of image) image (at + 3) (word_at image (at + 2))) in
        let rest : List Node = visited_in_cases (cases_from (tree_of image) image (at + 3 + word_at image (at + 2)) k) in
        let both : (a : ℕ) → owned a (x ++ body ++ rest) ≡ owned a x + owned a body + owned a rest = λ a.
        omega (arith, total-append (λ y. count a (slots_of y)) (x ++ body) rest, total-append (λ y. count a (slots_of y)) x body) in
        rw (body-still (at + 3) (word_at image (at + 2)) (λ a l. h a (omega (arith, both a))), branches-still (at + 3 + word_at image (at + 2)) k (λ a l. h a (omega (arith, both a)))) refl
