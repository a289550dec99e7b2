-- The types of an accepted image as trees: the same words give the same tree, and one law for each kind. Assumes nothing but that.
use Prim.Native.Nat.{ℕ, zero, suc, ◌+◌, ◌*◌, ◌-◌, ◌/◌}
use Rattle.std.specs.Prelude.{◌≡◌, List, get_or}
use Rattle.std.proofs.Math.Path.{sym, ap}
use Rattle.std.proofs.Common.{◌∙◌, arith}
use Rattle.tok.specs.Word.{kind_of, payload_of}
use Rattle.ast.specs.Image.{word_at, type_place, record_kind, record_length}
use Rattle.ast.specs.TypeExpr.{TypeExpr, TypeReader, read_atom_type, type_readers}
use Rattle.ast.specs.Outline.{Counts}
use Rattle.image_laws.proofs.TypeLaws.{TypeRead, type-atom-words, type-foreign-words, type-option-words, type-array-words, type_record_words}
use Rattle.trees.specs.SameWords.{SameWords, Agree, same_first, same_from, fields-same}

-- the reader of the kind that stands at a place
unfoldable pub read_type : TypeReader
read_type go image at = get_or type_readers (record_kind image at) read_atom_type go image at

pub type_as : (go : ℕ → TypeExpr) (image : List ℕ) (at k : ℕ) → record_kind image at ≡ k → read_type go image at ≡ get_or type_readers k read_atom_type go image at
unfolding read_type
type_as go image at k e = ap (λ (x : ℕ). get_or type_readers x read_atom_type go image at) e

module _ {c : Counts} {image image' : List ℕ} {t at' : ℕ} {go go' : ℕ → TypeExpr} (a : Agree t go go') (r : TypeRead c image t)
    (s : SameWords image image' (type_place image t) at' (record_length image (type_place image t))) where
  head : word_at image' at' ≡ word_at image (type_place image t)
  head = same_first s (let l = r.words.long in omega arith)

  by : (k : ℕ) → record_kind image (type_place image t) ≡ k → get_or type_readers k read_atom_type go' image' at' ≡ get_or type_readers k read_atom_type go image (type_place image t)
      → read_type go' image' at' ≡ read_type go image (type_place image t)
  by k e h = type_as go' image' at' k (ap kind_of head ∙ e) ∙ (h ∙ sym (type_as go image (type_place image t) k e))

  pub by_kind : (k : ℕ) → record_kind image (type_place image t) ≡ k → read_type go' image' at' ≡ read_type go image (type_place image t)
  unfolding type_readers
  by_kind zero e = let w = (type-atom-words r e).long in by 0 e (rw (s.same 1 (omega arith), s.same 2 (omega arith)))
  by_kind (suc zero) e = let w = (type-foreign-words r e).long in by 1 e (rw (s.same 1 (omega arith)))
  by_kind (suc (suc zero)) e = let w = type-option-words r e in let l = w.long in by 2 e (rw (s.same 1 (omega arith), a.agree (word_at image (type_place image t + 1)) w.inner.under))
  by_kind (suc (suc (suc zero))) e = let w = type-array-words r e in let l = w.long in by 3 e (rw (s.same 1 (omega arith), a.agree (word_at image (type_place image t + 1)) w.inner.under))
  by_kind (suc (suc (suc (suc zero)))) e =
      let w = type_record_words r e in
      let l = w.long in
      by 4 e
      (rw (
        s.same 1 (omega arith),
        ap payload_of head,
        fields-same image image' a ((record_length image (type_place image t) - 2) / 2) (type_place image t + 2) (at' + 2)
            (same_from s 2 (2 * ((record_length image (type_place image t) - 2) / 2)) (omega arith)) w.fields,
      ))
  by_kind (suc (suc (suc (suc (suc k))))) e = absurd (let l = r.words.kind in omega arith)
