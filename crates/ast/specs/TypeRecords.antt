-- The five kinds of type record (document 01, "Words"): "0 Atom (token, kind 1 to 5), 1 Foreign (token), 2 Option,
-- 3 Array (inner), 4 Record (token, pairs)". Definitions.
use Rattle.std.specs.Prelude.{ℕ, zero, suc, ◌+◌, ◌-◌, ◌/◌, ◌%◌, Bool, false, ◌&&◌, List, [], ◌∷◌, get_or, leb, eqb}
use Rattle.utf8.specs.Rfc3629.{range}
use Rattle.tok.specs.Word.{kind_of, payload_of}
use Rattle.tok.specs.Step.{◌>>=◌, return}
use Rattle.tok.specs.Reader.{Read, word, owing, below, many}
use Rattle.ast.specs.Outline.{Counts, token, name}

-- how the words after the first are read: `number` is the type's own, `left` how many they are
abbrev pub TypeRule : Type 0
TypeRule = Counts → (number left : ℕ) → Read (Unit {0})

-- 0 Atom (token, kind 1 to 5)
unfoldable pub type_atom : TypeRule
type_atom c number left = do
  _ ← token c
  _ ← word (range 1 5)
  return tt

-- 1 Foreign (token)
unfoldable pub type_foreign : TypeRule
type_foreign c number left = do
  _ ← token c
  return tt

-- 2 Option, 3 Array (inner): "A part's number is smaller than its owner's."
unfoldable pub type_inner : TypeRule
type_inner c number left = do
  _ ← below number
  return tt

unfoldable pub type_field : Counts → (number : ℕ) → Read ℕ
type_field c number = do
  _ ← name c
  below number

-- 4 Record (token, pairs)
unfoldable pub type_record : TypeRule
type_record c number left = do
  _ ← token c
  _ ← many ((left - 1) / 2) (type_field c number)
  return tt

-- which lengths a kind may have, and its rule
pub record TypeKind : Type 0 where
  pub long : ℕ → Bool
  pub rest : TypeRule

unfoldable pub type_kinds : List TypeKind
type_kinds =
    record { long = λ k. eqb k 3; rest = type_atom }
    ∷ record { long = λ k. eqb k 2; rest = type_foreign }
    ∷ record { long = λ k. eqb k 2; rest = type_inner }
    ∷ record { long = λ k. eqb k 2; rest = type_inner }
    ∷ record { long = λ k. leb 2 k && eqb (k % 2) 0; rest = type_record }
    ∷ []

abbrev no_type_kind : TypeKind
no_type_kind = record { long = λ _. false; rest = λ c number left. return tt }

unfoldable pub type_kind : (head : ℕ) → TypeKind
type_kind head = get_or type_kinds (kind_of head) no_type_kind

unfoldable pub good_type_head : (head : ℕ) → Bool
good_type_head head = (type_kind head).long (payload_of head)

-- Two words of a type record are owed by T already.
unfoldable pub type_expression : Counts → (number : ℕ) → Read (Unit {0})
type_expression c number = do
  head ← owing good_type_head (λ w. payload_of w - 2)
  (type_kind head).rest c number (payload_of head - 1)

-- `count` type expressions, the first of this number
unfoldable pub type_expressions : Counts → (count number : ℕ) → Read (Unit {0})
type_expressions c zero number = return tt
type_expressions c (suc count) number = do
  _ ← type_expression c number
  type_expressions c count (number + 1)
