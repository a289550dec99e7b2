-- The types of an accepted image as trees: the same words give the same tree, and one law for each kind. Assumes nothing but that.
use Prim.Native.Nat.{ℕ, zero, suc, ◌+◌, ◌*◌, ◌-◌, ◌/◌, ◌<◌}
use Rattle.std.specs.Prelude.{◌≡◌, refl, List, get_or}
use Rattle.std.proofs.Math.Path.{sym, ap}
use Rattle.std.proofs.Common.{◌∙◌, arith}
use Rattle.tok.specs.Word.{kind_of, payload_of}
use Rattle.ast.specs.Image.{word_at, type_count, type_place, record_kind, record_length}
use Rattle.ast.specs.TypeExpr.{TypeExpr, TypeReader, read_atom_type, read_foreign_type, read_option_type, read_array_type, read_record_type, type_readers, type_within, type_of}
use Rattle.ast.specs.Outline.{Counts}
use Rattle.image_laws.proofs.TypeLaws.{TypeRead, type-atom-words, type-foreign-words, type-option-words, type-array-words, type_record_words}
use Rattle.image_laws.proofs.Accepted.{Accepted}
use Rattle.trees.specs.SameWords.{SameWords, Agree, same_self, same_first, same_from, fields-same}
use Rattle.trees.specs.TypeTrees.{read_type, type_as, by_kind}

-- ── The same words, the same tree ──

module _ {c : Counts} {image image' : List ℕ} {t at' : ℕ} {go go' : ℕ → TypeExpr} (a : Agree t go go') (r : TypeRead c image t)
    (same : SameWords image image' (type_place image t) at' (record_length image (type_place image t))) where
  pub type-same : read_type go' image' at' ≡ read_type go image (type_place image t)
  type-same = by_kind a r same (record_kind image (type_place image t)) refl

-- ── One law for each kind ──

module _ {text image : List ℕ} (a : Accepted text image) where
  -- "A part's number is smaller than its owner's": any two numbers of levels that are enough give the same tree
  type-enough : (f g t : ℕ) → t < f → t < g → t < type_count image → type_within image f t ≡ type_within image g t
  unfolding type_within read_type
  type-enough zero g t h k l = absurd (omega arith)
  type-enough (suc f) zero t h k l = absurd (omega arith)
  type-enough (suc f) (suc g) t h k l =
      sym (type-same {go = type_within image f} {go' = type_within image g}
      (record { agree = λ p q. sym (type-enough f g p (omega arith) (omega arith) (omega arith)) }) (a.type t l) (same_self image (type_place image t) _))

  pub type-step : (t : ℕ) → t < type_count image → type_of image t ≡ read_type (type_of image) image (type_place image t)
  unfolding type_of type_within read_type
  type-step t l =
      sym (type-same {go = type_within image t} {go' = type_of image}
      (record { agree = λ p q. type-enough (suc p) t p (omega arith) (omega arith) (omega arith) }) (a.type t l) (same_self image (type_place image t) _))

  module _ (t : ℕ) (l : t < type_count image) where
    law : (k : ℕ) → record_kind image (type_place image t) ≡ k → type_of image t ≡ get_or type_readers k read_atom_type (type_of image) image (type_place image t)
    law k e = type-step t l ∙ type_as (type_of image) image (type_place image t) k e

    pub tree-type-atom : record_kind image (type_place image t) ≡ 0 → type_of image t ≡ read_atom_type (type_of image) image (type_place image t)
    unfolding type_readers
    tree-type-atom e = law 0 e

    pub tree-type-foreign : record_kind image (type_place image t) ≡ 1 → type_of image t ≡ read_foreign_type (type_of image) image (type_place image t)
    unfolding type_readers
    tree-type-foreign e = law 1 e

    pub tree-type-option : record_kind image (type_place image t) ≡ 2 → type_of image t ≡ read_option_type (type_of image) image (type_place image t)
    unfolding type_readers
    tree-type-option e = law 2 e

    pub tree-type-array : record_kind image (type_place image t) ≡ 3 → type_of image t ≡ read_array_type (type_of image) image (type_place image t)
    unfolding type_readers
    tree-type-array e = law 3 e

    pub tree-type_record : record_kind image (type_place image t) ≡ 4 → type_of image t ≡ read_record_type (type_of image) image (type_place image t)
    unfolding type_readers
    tree-type_record e = law 4 e
