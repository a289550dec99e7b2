-- A type expression that is added adds as many words as `size_of` says, and gets the word that `word_before` says. By induction on the
-- type expression. Assumes nothing.
use Prim.Native.Nat.{ℕ, zero, suc, ◌+◌, ◌-◌, ◌*◌, ◌/◌, ◌≤◌, min}
use Rattle.std.specs.Prelude.{◌≡◌, List, [], ◌∷◌, leb, length, get_or}
use Rattle.std.proofs.Math.Path.{refl, ap}
use Rattle.std.proofs.Common.{sym, ◌∙◌, arith, leb-true}
use Rattle.tok.specs.Word.{word_of}
use Rattle.tok.specs.Text.{Texts}
use Rattle.tok.specs.Step.{ok, Step, Refusal, refusal, next, return, give, refuse, when}
use Rattle.ptype.specs.Ty.{depth_of}
use Rattle.ptype.specs.Words.{ty_of}
use Rattle.ptype.proofs.UnfoldLaws.{one_less}
use Rattle.ptype.specs.Add.{Buffer, buffer, append, type_room, add_type, add_wrap, add_record, write}
use Rattle.add.specs.Parts.{opened}
use Rattle.add.specs.StepLaws.{next-ok, when-ok}
use Rattle.ast.specs.TypeExpr.{TypeExpr, TypeFields, AtomType, ForeignType, OptionType, ArrayType, RecordType, no_type, type_field, type_fields_from}
use Rattle.ast.specs.TypeFrom.{type_from, fields_from_exprs}
use Rattle.type_expr.specs.Sizes.{fields_in, size_of, sizes_of, word_before, pairs_after}

-- a type that was added: its word, and the words used with it
record Placed (kind long : ℕ) (b : Buffer) (w : ℕ) (b' : Buffer) : Type 0 where
  word : w ≡ word_of kind b.used
  used : b'.used ≡ b.used + long

placed : (T : Texts) (n kind : ℕ) (new : List ℕ) (b : Buffer) (w : ℕ) (b' : Buffer) → add_type T n kind new b ≡ ok w b' → Placed kind (length new) b w b'
unfolding add_type append
placed T n kind new b w b' e =
    let added : Step Buffer Refusal ℕ = give (word_of kind b.used) (append b new) in
    let deep = depth_of (ty_of T (append b new).words (word_of kind b.used)) in
    let x = when-ok (leb (b.used + length new) (type_room b)) (when (leb deep 32) added (refuse (refusal 8 n))) (refusal 7 n) b w b' e in
    let y = when-ok (leb deep 32) added (refusal 8 n) b w b' x.1 in
    let z : append b new ≡ b' = cc y.1 in
    record { word = cc y.1; used = rw (← z) }

-- a Record that was opened had room
pub opened-room : (n fields : ℕ) (l : List ℕ) (used w : ℕ) (b' : Buffer) → opened n fields (buffer l used) ≡ ok w b' → used + (1 + 2 * fields) ≤ 8192
unfolding opened
opened-room n fields l used w b' e =
    let out : Step Buffer Refusal ℕ = give (word_of 8 used) (buffer (write l used (fields ∷ [])) (used + (1 + 2 * fields))) in
    let x = when-ok (leb (used + (1 + 2 * fields)) (min (length l) 8192)) out (refusal 7 n) (buffer l used) w b' e in
    omega (arith, leb-true (used + (1 + 2 * fields)) (min (length l) 8192) x.0)

pub record Sized (b : Buffer) (t : TypeExpr) (w : ℕ) (b' : Buffer) : Type 0 where
  pub used : b'.used ≡ b.used + size_of t
  pub word : w ≡ word_before (b.used + size_of t) t

pub record AllSized (b : Buffer) (fs : TypeFields) (pairs : List ℕ) (b' : Buffer) : Type 0 where
  pub used : b'.used ≡ b.used + sizes_of fs
  pub are : pairs ≡ pairs_after b.used fs

pairs-long : (used : ℕ) (fs : TypeFields) → length (pairs_after used fs) ≡ 2 * fields_in fs
unfolding pairs_after fields_in
pairs-long used no_type = refl
pairs-long used (type_field name t fs) = omega (arith, pairs-long (used + size_of t) fs)

module _ (T : Texts) (n : ℕ) where
  mutual
    unfolding type_from size_of word_before pairs_after add_wrap add_record

    pub size_type : (t : TypeExpr) (b : Buffer) (w : ℕ) (b' : Buffer) → type_from T n t b ≡ ok w b' → Sized b t w b'
    size_type (AtomType token k) b w b' e =
        let x : b ≡ b' = cc in
        record { used = rw (← x) (omega arith); word = cc }
    size_type (ForeignType token) b w b' e =
        let x : b ≡ b' = cc in
        record { used = rw (← x) (omega arith); word = cc }
    size_type (OptionType t) b w b' e =
        let x = next-ok (type_from T n t b) (add_wrap T n 6) w b' e in
        let i = size_type t b x.0 x.1 x.2 in
        let p = placed T n 6 (x.0 ∷ []) x.1 w b' x.3 in
        record { used = omega (arith, p.used, i.used); word = omega (arith, p.word, i.used) }
    size_type (ArrayType t) b w b' e =
        let x = next-ok (type_from T n t b) (add_wrap T n 7) w b' e in
        let i = size_type t b x.0 x.1 x.2 in
        let p = placed T n 7 (x.0 ∷ []) x.1 w b' x.3 in
        record { used = omega (arith, p.used, i.used); word = omega (arith, p.word, i.used) }
    size_type (RecordType token fs) b w b' e =
        let x = next-ok (fields_from_exprs T n fs b) (add_record T n) w b' e in
        let i = size-fields fs b x.0 x.1 x.2 in
        let p = placed T n 8 (length x.0 / 2 ∷ x.0) x.1 w b' x.3 in
        let l : length x.0 ≡ 2 * fields_in fs = ap length i.are ∙ pairs-long b.used fs in
        record { used = omega (arith, p.used, i.used, l); word = omega (arith, p.word, i.used) }

    pub size-fields : (fs : TypeFields) (b : Buffer) (pairs : List ℕ) (b' : Buffer) → fields_from_exprs T n fs b ≡ ok pairs b' → AllSized b fs pairs b'
    size-fields no_type b pairs b' e =
        let x : b ≡ b' = cc in
        record { used = rw (← x) (omega arith); are = cc }
    size-fields (type_field name t fs) b pairs b' e =
        let rest : ℕ → Step Buffer Refusal (List ℕ) = λ new s. next (fields_from_exprs T n fs s) (λ others. return (name ∷ new ∷ others)) in
        let x = next-ok (type_from T n t b) rest pairs b' e in
        let y = next-ok (fields_from_exprs T n fs x.1) (λ others. return (name ∷ x.0 ∷ others)) pairs b' x.3 in
        let i = size_type t b x.0 x.1 x.2 in
        let j = size-fields fs x.1 y.0 y.1 y.2 in
        let z : y.1 ≡ b' = cc y.3 in
        let l : name ∷ x.0 ∷ y.0 ≡ pairs = cc y.3 in
        record {
          used = rw (← z) (omega (arith, i.used, j.used));
          are = sym l ∙ rw (j.are, i.word, i.used);
        }

-- The fields of a record, the first and the others.
module _ (go : ℕ → TypeExpr) (image : List ℕ) where
  pub fields-long : (at left : ℕ) → fields_in (type_fields_from go image at left) ≡ left
  unfolding type_fields_from fields_in
  fields-long at zero = refl
  fields-long at (suc left) = ap suc (fields-long (at + 2) left)

  pub fields-none : (at : ℕ) {left : ℕ} → left ≡ 0 → type_fields_from go image at left ≡ no_type
  unfolding type_fields_from
  fields-none at e = rw e

  pub fields-first : (at : ℕ) {left : ℕ} → (left ≡ 0 → ⊥)
      → type_fields_from go image at left ≡ type_field (get_or image at 0) (go (get_or image (at + 1) 0)) (type_fields_from go image (at + 2) (left - 1))
  unfolding type_fields_from
  fields-first at d = ap (type_fields_from go image at) (one_less d)

  pub sizes_none : (at left : ℕ) → left ≡ 0 → sizes_of (type_fields_from go image at left) ≡ 0
  unfolding size_of
  sizes_none at left e = ap sizes_of (fields-none at e)

  pub sizes_first : (at left : ℕ) {x : ℕ} → (left ≡ 0 → ⊥) → x ≡ get_or image (at + 1) 0
      → sizes_of (type_fields_from go image at left) ≡ size_of (go x) + sizes_of (type_fields_from go image (at + 2) (left - 1))
  unfolding size_of
  sizes_first at left d e = ap sizes_of (fields-first at d) ∙ rw e
