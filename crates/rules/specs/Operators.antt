-- Operators and casts (typecheck/lib.rs: `fuse`, the Unary arm, `cast`). Definitions.
use Rattle.std.specs.Prelude.{ℕ, Bool, ◌&&◌, ◌||◌, List, [], ◌∷◌, get_or, eqb, leb}
use Rattle.tok.specs.Word.{kind_of, word_of}
use Rattle.tok.specs.Step.{◌>>=◌, ◌>>◌, when}
use Rattle.ptype.specs.Ty.{same_ty}
use Rattle.err.specs.Message.{class_of, unsupported, incompatible, bad_unary, redundant_cast, bad_cast}
use Rattle.rules.specs.declared.Answer.{Answer}
use Rattle.rules.specs.World.{Ctx, Walk}
use Rattle.rules.specs.Steps.{ty, tree, set_known, report, poison}

-- "The operator rules stand as a table of tables": class, then left kind (0 to 5: none, Void, Bool, Int, Double, Str), then right kind;
-- the kind of the result, or 0. Kinds from 6 on have no row: no operator takes them.
abbrev pub Table : Type 0
Table = List (List ℕ)

-- "+ - * / take Int, Int or Double, Double"
unfoldable pub arithmetic : Table
arithmetic =
    (0 ∷ 0 ∷ 0 ∷ 0 ∷ 0 ∷ 0 ∷ [])
    ∷ (0 ∷ 0 ∷ 0 ∷ 0 ∷ 0 ∷ 0 ∷ [])
    ∷ (0 ∷ 0 ∷ 0 ∷ 0 ∷ 0 ∷ 0 ∷ [])
    ∷ (0 ∷ 0 ∷ 0 ∷ 3 ∷ 0 ∷ 0 ∷ [])
    ∷ (0 ∷ 0 ∷ 0 ∷ 0 ∷ 4 ∷ 0 ∷ [])
    ∷ (0 ∷ 0 ∷ 0 ∷ 0 ∷ 0 ∷ 0 ∷ [])
    ∷ []

-- "% Int, Int"
unfoldable pub remainder : Table
remainder =
    (0 ∷ 0 ∷ 0 ∷ 0 ∷ 0 ∷ 0 ∷ [])
    ∷ (0 ∷ 0 ∷ 0 ∷ 0 ∷ 0 ∷ 0 ∷ [])
    ∷ (0 ∷ 0 ∷ 0 ∷ 0 ∷ 0 ∷ 0 ∷ [])
    ∷ (0 ∷ 0 ∷ 0 ∷ 3 ∷ 0 ∷ 0 ∷ [])
    ∷ (0 ∷ 0 ∷ 0 ∷ 0 ∷ 0 ∷ 0 ∷ [])
    ∷ (0 ∷ 0 ∷ 0 ∷ 0 ∷ 0 ∷ 0 ∷ [])
    ∷ []

-- "== and != two Int, two Bool or two Str": Bool
unfoldable pub equality : Table
equality =
    (0 ∷ 0 ∷ 0 ∷ 0 ∷ 0 ∷ 0 ∷ [])
    ∷ (0 ∷ 0 ∷ 0 ∷ 0 ∷ 0 ∷ 0 ∷ [])
    ∷ (0 ∷ 0 ∷ 2 ∷ 0 ∷ 0 ∷ 0 ∷ [])
    ∷ (0 ∷ 0 ∷ 0 ∷ 2 ∷ 0 ∷ 0 ∷ [])
    ∷ (0 ∷ 0 ∷ 0 ∷ 0 ∷ 0 ∷ 0 ∷ [])
    ∷ (0 ∷ 0 ∷ 0 ∷ 0 ∷ 0 ∷ 2 ∷ [])
    ∷ []

-- "< and > as +": Bool
unfoldable pub order : Table
order =
    (0 ∷ 0 ∷ 0 ∷ 0 ∷ 0 ∷ 0 ∷ [])
    ∷ (0 ∷ 0 ∷ 0 ∷ 0 ∷ 0 ∷ 0 ∷ [])
    ∷ (0 ∷ 0 ∷ 0 ∷ 0 ∷ 0 ∷ 0 ∷ [])
    ∷ (0 ∷ 0 ∷ 0 ∷ 2 ∷ 0 ∷ 0 ∷ [])
    ∷ (0 ∷ 0 ∷ 0 ∷ 0 ∷ 2 ∷ 0 ∷ [])
    ∷ (0 ∷ 0 ∷ 0 ∷ 0 ∷ 0 ∷ 0 ∷ [])
    ∷ []

unfoldable pub operator_tables : List Table
operator_tables = arithmetic ∷ remainder ∷ equality ∷ order ∷ []

unfoldable pub result_kind : (op leftKind rightKind : ℕ) → ℕ
result_kind op l r = get_or (get_or (get_or operator_tables (class_of op) []) l []) r 0

-- Typechecker::fuse, of two slots: the table's type; else 4 where both types are equal, 5 where they differ
unfoldable pub fuse : Ctx → (n slot token op : ℕ) → (left right : ℕ) → Walk Answer
fuse c n slot token op left right = do
  l ← ty left
  r ← ty right
  lt ← tree c l
  rt ← tree c r
  when (eqb (result_kind op (kind_of l) (kind_of r)) 0)
      (when (same_ty lt rt) (poison n (unsupported token op lt)) (poison n (incompatible token op lt rt)))
      (set_known slot (word_of (result_kind op (kind_of l) (kind_of r)) 0))

-- the Unary arm: (Plus | Minus, Int) => Int, (Plus | Minus, Double) => Double, else 6
unfoldable pub unary : Ctx → (n slot token op : ℕ) → (right : ℕ) → Walk Answer
unary c n slot token op right = do
  r ← ty right
  rt ← tree c r
  when (leb op 1 && (eqb (kind_of r) 3 || eqb (kind_of r) 4)) (set_known slot (word_of (kind_of r) 0)) (poison n (bad_unary token op rt))

-- (Int, Double) | (Double, Int) | (Bool, Int) | (Int, Bool)
unfoldable pub castable : (from to : ℕ) → Bool
castable f t = (eqb f 3 && eqb t 4) || ((eqb f 4 && eqb t 3) || ((eqb f 2 && eqb t 3) || (eqb f 3 && eqb t 2)))

-- Typechecker::cast: a cast to the same type is reported, yet known, as the cast's own type
unfoldable pub cast : Ctx → (n slot token : ℕ) → (left to : ℕ) → Walk Answer
cast c n slot token left to = do
  i ← ty left
  it ← tree c i
  ot ← tree c to
  when (castable (kind_of i) (kind_of to)) (set_known slot to)
      (when (same_ty it ot) (report n (redundant_cast token it) >> set_known slot to) (poison n (bad_cast token it ot)))
