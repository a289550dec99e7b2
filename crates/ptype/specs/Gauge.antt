-- How deep types are found to be by marks of their field lists (`Depths`), and the marks after it, as the code has them: whatever the marks say.
-- Definitions.
use Rattle.std.specs.Prelude.{ℕ, zero, suc, ◌+◌, ◌-◌, min, max, ◌≡◌, cond, List, ltb, leb, eqb, get_or, set}
use Rattle.tok.specs.Word.{kind_of, payload_of}
use Rattle.tok.specs.Text.{Texts}
use Rattle.ptype.specs.Words.{inner_word, field_count}
use Rattle.ptype.specs.Kinds.{wraps}
use Rattle.ptype.specs.Marks.{Depths}

-- a depth, and the marks after it was found
pub record Gauged : Type 0 where
  pub depth : ℕ
  pub known : List ℕ

abbrev pub gauged : ℕ → List ℕ → Gauged
gauged d known = record { depth = d; known = known }

-- one level more
abbrev pub deeper : Gauged → Gauged
deeper m = gauged (1 + m.depth) m.known

-- the deepest of n fields from index `at` on, or `most` if that is deeper; `go` says how deep a type word is
unfoldable pub gauge_fields : (go : ℕ → List ℕ → Gauged) → (types : List ℕ) → (at n most : ℕ) → (known : List ℕ) → Gauged
gauge_fields go types at zero most known = gauged most known
gauge_fields go types at (suc n) most known =
    gauge_fields go types (at + 2) n (max most (go (get_or types (at + 1) 0) known).depth) (go (get_or types (at + 1) 0) known).known

-- what the levels did not cut is marked, as far as there are marks
abbrev pub noted : (levels q : ℕ) → Gauged → Gauged
noted f q m = gauged m.depth (cond (leb m.depth f) (set m.known q (m.depth + 1)) m.known)

-- a Record's deepest field: by the mark of its list, or field by field
unfoldable pub gauge_list : (go : ℕ → List ℕ → Gauged) → (types : List ℕ) → (levels w : ℕ) → (known : List ℕ) → Gauged
gauge_list go types f w known =
    cond (ltb 0 (get_or known (payload_of w) 0)) (gauged (min (f + 1) (get_or known (payload_of w) 0 - 1)) known)
    (noted f (payload_of w) (gauge_fields go types (payload_of w + 1) (field_count types w) 0 known))

-- a type, as deep as `levels` says
unfoldable pub gauge : (types : List ℕ) → (levels w : ℕ) → (known : List ℕ) → Gauged
gauge types zero w known = gauged 1 known
gauge types (suc f) w known =
    cond (wraps (kind_of w)) (deeper (gauge types f (inner_word types w) known))
    (cond (eqb (kind_of w) 8) (deeper (gauge_list (gauge types f) types f w known)) (gauged 1 known))

-- That is how deep it is, where the marks are right; and they stay so.
pub record Right (types known : List ℕ) (d : Texts → ℕ) (m : Gauged) : Type 0 where
  pub depth : Depths types known → (t : Texts) → m.depth ≡ d t
  pub marks : Depths types known → Depths types m.known
