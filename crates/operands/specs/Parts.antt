-- THE LAWS: each rule of one or two operands is the visits of these, with the parts of `Ends` before and after. By the rule's own equation.
-- Assumes nothing.
use Rattle.std.specs.Prelude.{ℕ, ◌+◌, ◌≡◌, List, eqb}
use Rattle.std.proofs.Math.Path.{refl, ap}
use Rattle.std.proofs.Common.{◌∙◌, ne_eqb}
use Rattle.std.proofs.Math.Bool.{true, false}
use Rattle.tok.specs.Step.{◌>>=◌}
use Rattle.ast.specs.Image.{word_at, record_kind}
use Rattle.ast.specs.Node.{Node, read_bin, read_unary, read_let, read_field, read_cast}
use Rattle.rules.specs.declared.Answer.{Answer}
use Rattle.rules.specs.World.{Ctx, World, Walk}
use Rattle.rules.specs.Steps.{known}
use Rattle.rules.specs.Operators.{unary}
use Rattle.rules.specs.Rules.{field, node}
use Rattle.names.specs.Bound.{let_parts_lem}
use Rattle.operands.specs.Ends.{by_kind, operand_at, one_end, one_room, bin_end, cast_type, cast_end}

-- ── By the kind ──

module _ {A : Type 0} (u l f : A) where
  pub by-unary : {k : ℕ} → k ≡ 3 → by_kind k u l f ≡ u
  unfolding by_kind
  by-unary e = rw e refl

  pub by_let : {k : ℕ} → k ≡ 4 → by_kind k u l f ≡ l
  unfolding by_kind
  by_let e = rw e refl

  pub by_field : {k : ℕ} → (k ≡ 3 → ⊥) → (k ≡ 4 → ⊥) → by_kind k u l f ≡ f
  unfolding by_kind
  by_field {k} a b = ap (λ x. elim x [ true ↦ u | false ↦ elim (eqb k 4) [ true ↦ l | false ↦ f ] ]) (ne_eqb k 3 a) ∙ ap (λ x. elim x [ true ↦ l | false ↦ f ]) (ne_eqb k 4 b)

-- ── The rules ──

module _ (c : Ctx) (go : ℕ → Node) (image : List ℕ) (n at : ℕ) where
  pub bin-parts : (w : World) → node c (read_bin go image n at) w ≡ ◌>>=◌ (node c (go (word_at image (at + 4)))) (λ l. ◌>>=◌ (node c (go (word_at image (at + 5)))) (λ r. bin_end c image n at l r)) w
  unfolding node bin_end
  bin-parts w = refl

  pub cast-parts : (w : World) → node c (read_cast go image n at) w ≡ ◌>>=◌ (cast_type c image n at) (λ to. ◌>>=◌ (node c (go (word_at image (at + 3)))) (λ l. cast_end c image n at to l)) w
  unfolding node cast_type cast_end
  cast-parts w = refl

  -- the operand's visit, and what comes after it
  abbrev pub one_rule : Walk Answer
  one_rule = ◌>>=◌ (node c (go (operand_at image at))) (λ a. one_end c image n at a)

  unary-parts : (w : World) → node c (read_unary go image n at) w ≡ ◌>>=◌ (node c (go (word_at image (at + 4))))
      (λ a. known a (λ i. unary c n (word_at image (at + 1)) (word_at image (at + 2)) (word_at image (at + 3)) i)) w
  unfolding node
  unary-parts w = refl

  field-parts : (w : World) → node c (read_field go image n at) w ≡ ◌>>=◌ (node c (go (word_at image (at + 2)))) (λ a. known a (λ i. field c n (word_at image (at + 1)) (word_at image (at + 3)) i)) w
  unfolding node
  field-parts w = refl

  pub one-unary : record_kind image at ≡ 3 → (w : World) → node c (read_unary go image n at) w ≡ one_rule w
  unfolding operand_at one_end by_kind
  one-unary e w = rw e (unary-parts w)

  pub one_let : record_kind image at ≡ 4 → (w : World) → node c (read_let go image n at) w ≡ one_rule w
  unfolding operand_at one_end by_kind
  one_let e w = rw e (let_parts_lem c n (word_at image (at + 1)) (word_at image (at + 2)) (go (word_at image (at + 3))) w)

  pub one_field : record_kind image at ≡ 8 → (w : World) → node c (read_field go image n at) w ≡ one_rule w
  unfolding operand_at one_end by_kind
  one_field e w = rw e (field-parts w)

-- the operand's number, and the words of scratch that are taken after it
module _ (image : List ℕ) (at : ℕ) where
  pub at-unary : record_kind image at ≡ 3 → operand_at image at ≡ word_at image (at + 4)
  unfolding operand_at
  at-unary e = by-unary (word_at image (at + 4)) (word_at image (at + 3)) (word_at image (at + 2)) e

  pub at_let : record_kind image at ≡ 4 → operand_at image at ≡ word_at image (at + 3)
  unfolding operand_at
  at_let e = by_let (word_at image (at + 4)) (word_at image (at + 3)) (word_at image (at + 2)) e

  pub at_field : record_kind image at ≡ 8 → operand_at image at ≡ word_at image (at + 2)
  unfolding operand_at by_kind
  at_field e = rw e refl

  -- a Field is what is left
  pub at-other : (record_kind image at ≡ 3 → ⊥) → (record_kind image at ≡ 4 → ⊥) → operand_at image at ≡ word_at image (at + 2)
  unfolding operand_at
  at-other a b = by_field (word_at image (at + 4)) (word_at image (at + 3)) (word_at image (at + 2)) a b

  pub room-unary : record_kind image at ≡ 3 → one_room image at ≡ 0
  unfolding one_room
  room-unary e = by-unary 0 2 0 e

  pub room_let : record_kind image at ≡ 4 → one_room image at ≡ 2
  unfolding one_room
  room_let e = by_let 0 2 0 e

  pub room-field : record_kind image at ≡ 8 → one_room image at ≡ 0
  unfolding one_room by_kind
  room-field e = rw e refl
