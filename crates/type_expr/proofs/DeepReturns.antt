-- Each return of `deep_part`, and of the loop over it, over variables for what the calls gave. By the law that more than 32 levels are refused.
-- Assumes nothing.
use Rattle.std.specs.Prelude.{ℕ, ◌+◌, ◌<◌, ◌≡◌, refl, List, length, Result as Answered, Ok, Err}
use Rattle.std.proofs.Common.{arith, ◌∙◌}
use Rattle.tok.specs.Text.{Texts}
use Rattle.tok.specs.Step.{Result, ok, refused, Step, Refusal, refusal, next}
use Rattle.ptype.specs.Add.{Buffer, buffer, add_record, add_wrap}
use Rattle.add.specs.declared.AddError.{AddError}
use Rattle.add.specs.declared.Arena.{Arena}
use Rattle.add.specs.Answer.{Added, number_of, buffer_of, answer_of, result_of, Allocates}
use Rattle.ast.specs.TypeExpr.{TypeExpr, TypeFields, OptionType, ArrayType, RecordType}
use Rattle.ast.specs.TypeFrom.{type_from, fields_from_exprs}
use Rattle.places.specs.Levels.{levels_of, most_levels}
use Rattle.type_expr.specs.Trees.{Numbered, tree}
use Rattle.type_expr.specs.LevelLaws.{Atoms, deep-refused}
use Rattle.type_expr.specs.Onward.{Onward}

abbrev from : TypeExpr → Texts → (n : ℕ) → Step Buffer Refusal ℕ
from x T n = type_from T n x

-- what holds the part meets what the part meets
module _ (x : TypeExpr) (i : Numbered) (kind : ℕ) (a : Arena) (is : (T : Texts) (n : ℕ) → from x T n (buffer_of a) ≡ next (type_from T n (tree i) (buffer_of a)) (add_wrap T n kind))
    (deep : 33 < levels_of x) (levels : levels_of x ≡ 1 + levels_of (tree i)) (atoms : Atoms (tree i)) where
  part-inner : Onward (levels_of x) (from x) a (Ok i) a
  part-inner = record {
    lent = refl;
    keeps = refl;
    is = λ T n. meets T n (type_from T n (tree i) (buffer_of a)) refl;
    part = λ p z. let y : ◌≡◌ {A = Numbered} i p = cc in rw y at below;
  }
    where
      below : levels_of (tree i) < levels_of x
      below = omega (arith, levels)

      meets : (T : Texts) (n : ℕ) (r : Result Buffer Refusal ℕ) → type_from T n (tree i) (buffer_of a) ≡ r → from x T n (buffer_of a) ≡ type_from T n (tree i) (buffer_of a)
      meets T n (ok w b) z = absurd (deep-refused T n (tree i) (buffer_of a) w b atoms (omega (arith, levels)) z)
      meets T n (refused y) z = rw (is T n, z)

module _ {x : TypeExpr} {i : Numbered} (a : Arena) (deep : 33 < levels_of x) (atoms : Atoms x) where
  pub part-option : OptionType (tree i) ≡ x → Onward (levels_of x) (from x) a (Ok i) a
  unfolding type_from levels_of Atoms
  part-option e = part-inner x i 6 a (λ T n. rw (← e)) deep (rw (← e)) (rw (← e) at atoms)

  pub part-array : ArrayType (tree i) ≡ x → Onward (levels_of x) (from x) a (Ok i) a
  unfolding type_from levels_of Atoms
  part-array e = part-inner x i 7 a (λ T n. rw (← e)) deep (rw (← e)) (rw (← e) at atoms)

pub part_record : {x : TypeExpr} {token : ℕ} {fs : TypeFields} {r : Answered Numbered AddError} {a a₁ : Arena} → RecordType token fs ≡ x
    → Onward (1 + most_levels fs) (λ T n b. next (fields_from_exprs T n fs b) (add_record T n)) a r a₁ → Onward (levels_of x) (from x) a r a₁
unfolding type_from levels_of
part_record e o = rw (← e) record { lent = o.lent; keeps = o.keeps; is = o.is; part = o.part }

-- ── The loop ──

-- the type t on the arena a₀ meets what the type `here` meets on the arena a
pub record Same (t : TypeExpr) (a₀ a : Arena) (here : Numbered) : Type 0 where
  pub is : (T : Texts) (n : ℕ) → type_from T n t (buffer_of a₀) ≡ type_from T n (tree here) (buffer_of a)
  pub lent : a.words.ghost_name ≡ a₀.words.ghost_name
  pub keeps : length a.words.now ≡ length a₀.words.now

module _ {t : TypeExpr} {a₀ a : Arena} {here : Numbered} (h : Same t a₀ a here) {a₁ : Arena} where
  pub same_next : {levels : ℕ} {p : Numbered} → Onward levels (λ T n. type_from T n (tree here)) a (Ok p) a₁ → Same t a₀ a₁ p
  same_next o = record { is = λ T n. h.is T n ∙ o.is T n; lent = o.lent ∙ h.lent; keeps = o.keeps ∙ h.keeps }

  -- the arena was made of these words, and they are what it leaves
  module _ {old : List ℕ} {used : ℕ} (m : (a₀.words.now ≡ old) × (a₀.used ≡ used)) where
    pub same_stop : {levels : ℕ} {e : AddError} → Onward levels (λ T n. type_from T n (tree here)) a (Err e) a₁
        → (T : Texts) (n : ℕ) → type_from T n t (buffer old used) ≡ refused (refusal (number_of e) n)
    same_stop o T n = rw (← m.0, ← m.1) (h.is T n ∙ o.is T n)

    pub same_end : {new : List ℕ} {r : Answered ℕ AddError} {x : Added} → Allocates (λ T n. type_from T n (tree here)) a r a₁ → x ≡ answer_of r a₁.used → new ≡ a₁.words.now
        → (T : Texts) (n : ℕ) → type_from T n t (buffer old used) ≡ result_of n x new
    same_end g ex el T n = rw (← m.0, ← m.1, ex, el) (h.is T n ∙ g.result T n)
