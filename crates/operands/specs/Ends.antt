-- What the rules of one and two operands do beside visiting these, by the words of the node's record, which stands at word `at` of the
-- image (document 01's table, "Rest of each"). Definitions.
use Rattle.std.specs.Prelude.{ℕ, ◌+◌, true, false, List, eqb}
use Rattle.ast.specs.Image.{word_at, record_kind}
use Rattle.ast.specs.TypeExpr.{type_of}
use Rattle.rules.specs.declared.Answer.{Answer}
use Rattle.rules.specs.World.{Ctx, Walk}
use Rattle.rules.specs.Steps.{known, type_from_expr}
use Rattle.rules.specs.Operators.{fuse, unary, cast}
use Rattle.rules.specs.Rules.{field}
use Rattle.names.specs.Bound.{let_end}

-- by the kind of a node of one operand: 3 Unary, 4 Let, else 8 Field
unfoldable pub by_kind : {A : Type 0} → (kind : ℕ) → (unary binding field : A) → A
by_kind k u l f = elim (eqb k 3) [ true ↦ u | false ↦ elim (eqb k 4) [ true ↦ l | false ↦ f ] ]

-- the number of its operand: "3 Unary | token, operator, right", "4 Let | name, right", "8 Field | target, name"
unfoldable pub operand_at : (image : List ℕ) → (at : ℕ) → ℕ
operand_at image at = by_kind (record_kind image at) (word_at image (at + 4)) (word_at image (at + 3)) (word_at image (at + 2))

-- after the operand
unfoldable pub one_end : Ctx → (image : List ℕ) → (n at : ℕ) → Answer → Walk Answer
one_end c image n at a =
    by_kind (record_kind image at)
    (known a (λ i. unary c n (word_at image (at + 1)) (word_at image (at + 2)) (word_at image (at + 3)) i))
    (let_end n (word_at image (at + 1)) (word_at image (at + 2)) a)
    (known a (λ i. field c n (word_at image (at + 1)) (word_at image (at + 3)) i))

-- the words of scratch that it takes: a let binds a name
unfoldable pub one_room : (image : List ℕ) → (at : ℕ) → ℕ
one_room image at = by_kind (record_kind image at) 0 2 0

-- "2 Bin | token, operator, left, right": after both
unfoldable pub bin_end : Ctx → (image : List ℕ) → (n at : ℕ) → (left right : Answer) → Walk Answer
bin_end c image n at l r = known l (λ i. known r (λ j. fuse c n (word_at image (at + 1)) (word_at image (at + 2)) (word_at image (at + 3)) i j))

-- "9 Cast | token, left, type": the type's word, before the operand
unfoldable pub cast_type : Ctx → (image : List ℕ) → (n at : ℕ) → Walk ℕ
cast_type c image n at = type_from_expr c n (type_of image (word_at image (at + 4)))

-- after it
unfoldable pub cast_end : Ctx → (image : List ℕ) → (n at to : ℕ) → Answer → Walk Answer
cast_end c image n at to a = known a (λ i. cast c n (word_at image (at + 1)) (word_at image (at + 2)) i to)
