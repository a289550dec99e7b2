-- A type expression's word means the type that the expression means (`type_meant`). By induction on it. Assumes nothing.
use Rattle.std.specs.Prelude.{ℕ, ◌≤◌, ◌≡◌, false}
use Rattle.std.proofs.Common.{arith}
use Rattle.std.proofs.Math.Path.{refl}
use Rattle.tok.specs.Text.{Texts, name_bytes}
use Rattle.tok.specs.Word.{payload_of, word_of}
use Rattle.tok.proofs.WordLaws.{kind_of-word_of, payload_of_lt}
use Rattle.tok.proofs.NameLaws.{name_bytes-payload}
use Rattle.ptype.specs.Ty.{plain, named, depth_of, contains_slot, any_slot}
use Rattle.ptype.specs.Add.{Buffer}
use Rattle.ast.specs.TypeExpr.{TypeExpr, TypeFields, AtomType, ForeignType, OptionType, ArrayType, RecordType, no_type, type_field}
use Rattle.ast.specs.TypeFrom.{type_from, fields_from_exprs}
use Rattle.tworuns.specs.Means as M
use Rattle.tworuns.specs.Operators.{plain-low}
use Rattle.onerun.specs.Claim.{Run, NameAt, Is}
use Rattle.onerun.specs.Claim as C
use Rattle.onerun.specs.Grows.{is_grow}
use Rattle.onerun.specs.Logic.{GivesT, typed, t_next}
use Rattle.onerun.proofs.Types.{PairsAre, no_pairs, more-pairs, t_wrap, t_record}
use Rattle.onerun.specs.Proper.{ProperType, ProperTypes}
use Rattle.onerun.proofs.Functions.{Below}
use Rattle.rules.specs.Functions.{type_meant, fields_meant}

-- a type expression has no slot
mutual
  unfolding contains_slot type_meant

  pub no-slot : (t : Texts) (e : TypeExpr) → contains_slot (type_meant t e) ≡ false
  no-slot t (AtomType token k) = refl
  no-slot t (ForeignType token) = refl
  no-slot t (OptionType e) = no-slot t e
  no-slot t (ArrayType e) = no-slot t e
  no-slot t (RecordType token fs) = no-slots t fs

  no-slots : (t : Texts) (fs : TypeFields) → any_slot (fields_meant t fs) ≡ false
  no-slots t no_type = refl
  no-slots t (type_field name e fs) = rw (no-slot t e, no-slots t fs) refl

module _ (r : Run) where
  atom-is : (b : Buffer) (k : ℕ) → 1 ≤ k → k ≤ 5 → Is r b (word_of k 0) (plain k)
  unfolding depth_of
  atom-is b k l h = record { means = M.flat (kind_of-word_of k 0 (omega arith)) (plain-low k h) (λ e. rw e); low = omega arith; fine = C.flat l (λ q e. omega arith) }

  foreign-is : (b : Buffer) (token : ℕ) → NameAt r token → Is r b (word_of 9 (payload_of token)) (named 9 (name_bytes r.ctx.texts token))
  unfolding depth_of
  foreign-is b token n = record {
    means = M.called (kind_of-word_of 9 (payload_of token) (payload_of_lt token)) refl
        (name_bytes-payload r.ctx.texts 9 token);
    low = omega arith;
    fine = C.called n;
  }

  module _ (n : ℕ) where
    mutual
      unfolding type_from type_meant ProperType

      pub t_expr : (t : TypeExpr) → ProperType (Below r) (NameAt r) t → (b : Buffer) → GivesT r (λ d w. Is r d w (type_meant r.ctx.texts t)) b (type_from r.ctx.texts n t b)
      t_expr (AtomType token k) h b = typed (M.grown-same b) (atom-is b k h.low h.high)
      t_expr (ForeignType token) h b = typed (M.grown-same b) (foreign-is b token h)
      t_expr (OptionType t) h b = t_next r _ (t_expr t h b) (λ w d g x. t_wrap r n 6 w refl x)
      t_expr (ArrayType t) h b = t_next r _ (t_expr t h b) (λ w d g x. t_wrap r n 7 w refl x)
      t_expr (RecordType token fs) h b = t_next r _ (t_exprs fs h b) (λ ps d g x. t_record r n ps x)

      t_exprs : (fs : TypeFields) → ProperTypes (Below r) (NameAt r) fs → (b : Buffer)
          → GivesT r (λ d ps. PairsAre r d ps (fields_meant r.ctx.texts fs)) b (fields_from_exprs r.ctx.texts n fs b)
      t_exprs no_type h b = typed (M.grown-same b) (no_pairs r b)
      t_exprs (type_field name t fs) h b =
          t_next r _ (t_expr t h.1 b) (λ w d g x. t_next r _ (t_exprs fs h.2 d) (λ ps e k q. typed (M.grown-same e) (more-pairs r h.0 (is_grow r k x) q)))
