-- A type expression gives words of one type in two runs. By induction on it. Assumes nothing.
use Rattle.std.specs.Prelude.{ℕ, ◌≡◌, List, [], ◌∷◌}
use Rattle.std.proofs.Math.Nat.{max-le}
use Rattle.std.proofs.Common.{arith, ◌∙◌}
use Rattle.std.proofs.Math.Path.{refl, sym}
use Rattle.tok.specs.Word.{payload_of, word_of}
use Rattle.tok.specs.Text.{name_bytes}
use Rattle.tok.proofs.WordLaws.{kind_of-word_of, payload_of_lt}
use Rattle.tok.proofs.NameLaws.{name_bytes-payload}
use Rattle.ptype.specs.Ty.{plain, named, no_field, field, depth_of}
use Rattle.ptype.specs.Add.{Buffer}
use Rattle.ptype.specs.Kinds.{Plain}
use Rattle.ptype.specs.Inside.{Lies}
use Rattle.ast.specs.TypeExpr.{TypeExpr, TypeFields, AtomType, ForeignType, OptionType, ArrayType, RecordType, no_type, type_field}
use Rattle.ast.specs.TypeFrom.{type_from, fields_from_exprs}
use Rattle.tworuns.specs.Means.{flat, called, grown-same}
use Rattle.tworuns.specs.Runs.{Runs, SameType, SameName, Used, type_grow}
use Rattle.tworuns.specs.Sound.{SoundType, SoundTypes}
use Rattle.tworuns.specs.Logic.{Typed, typed, t_next, Words}
use Rattle.tworuns.specs.Types.{SamePairs, no_pair, pair, t_wrap, t_record}

-- a word of nothing but a kind
pub plain-same : (r : Runs) (b b' : Buffer) (k : ℕ) → Plain k → SameType r b b' (word_of k 0) (word_of k 0)
unfolding depth_of
plain-same r b b' k p =
    record { tree = plain k; left = flat (kind_of-word_of k 0 (omega arith)) p (λ e. rw e); right = flat (kind_of-word_of k 0 (omega arith)) p (λ e. rw e); low = omega arith; word = λ z. refl }

module _ (r : Runs) where
  abbrev pub Pairs : Buffer → Buffer → List ℕ → List ℕ → Type 0
  Pairs b b' ps ps' = SamePairs r b b' ps ps'

  pub no_pairs : (b b' : Buffer) → SamePairs r b b' [] []
  unfolding depth_of
  no_pairs b b' = record { fields = no_field; left = no_pair; right = no_pair; low = omega arith; words = λ z. refl }

  -- one name and type before others
  pub more-pairs : {b b' : Buffer} {n n' w w' : ℕ} {ps ps' : List ℕ} → SameName r n n' → SameType r b b' w w' → SamePairs r b b' ps ps' → SamePairs r b b' (n ∷ w ∷ ps) (n' ∷ w' ∷ ps')
  unfolding depth_of
  more-pairs {n = n} {w = w} n' h x = record {
    fields = field (name_bytes r.first.texts n) h.tree x.fields;
    left = pair refl h.left x.left;
    right = pair (sym n'.bytes) h.right x.right;
    low = max-le h.low x.low;
    words = λ z. rw (n'.word z, h.word z, x.words z);
  }

  -- names that lie in the first run's texts are the same names in the second's
  abbrev pub Names : Type 0
  Names = (w : ℕ) → Lies r.first.texts w → name_bytes r.first.texts w ≡ name_bytes r.second.texts w

  abbrev pub In : ℕ → Type 0
  In w = Lies r.first.texts w

  pub same_name : Names → (w : ℕ) → In w → SameName r w w
  same_name names w l = record { bytes = names w l; word = λ z. refl }

  foreign-same : Names → (b b' : Buffer) (token : ℕ) → In token → SameType r b b' (word_of 9 (payload_of token)) (word_of 9 (payload_of token))
  unfolding depth_of
  foreign-same names b b' token l =
      let e = kind_of-word_of 9 (payload_of token) (payload_of_lt token) in
      record {
        tree = named 9 (name_bytes r.first.texts token);
        left = called e refl (name_bytes-payload r.first.texts 9 token);
        right = called e refl (name_bytes-payload r.second.texts 9 token ∙ sym (names token l));
        low = omega arith;
        word = λ z. refl;
      }

  module _ (P : ℕ → Type 0) (names : Names) (n : ℕ) where
    mutual
      unfolding type_from SoundType

      pub t_type_from : (t : TypeExpr) → SoundType P In t → {b b' : Buffer} → Used r b b' → Typed r (Words r) b b' (type_from r.first.texts n t b) (type_from r.second.texts n t b')
      t_type_from (AtomType token k) h {b} {b'} u = typed (grown-same b) (grown-same b') u (plain-same r b b' k h)
      t_type_from (ForeignType token) h {b} {b'} u = typed (grown-same b) (grown-same b') u (foreign-same names b b' token h)
      t_type_from (OptionType t) h u = t_next r _ _ (t_type_from t h u) (λ w w' d d' g g' v x. t_wrap r v n 6 w w' refl x)
      t_type_from (ArrayType t) h u = t_next r _ _ (t_type_from t h u) (λ w w' d d' g g' v x. t_wrap r v n 7 w w' refl x)
      t_type_from (RecordType token fs) h u = t_next r _ _ (t_fields_from fs h u) (λ ps ps' d d' g g' v x. t_record r v n ps ps' x)

      pub t_fields_from : (fs : TypeFields) → SoundTypes P In fs → {b b' : Buffer} → Used r b b'
          → Typed r Pairs b b' (fields_from_exprs r.first.texts n fs b) (fields_from_exprs r.second.texts n fs b')
      t_fields_from no_type h {b} {b'} u = typed (grown-same b) (grown-same b') u (no_pairs b b')
      t_fields_from (type_field name t fs) h u =
          t_next r _ _ (t_type_from t h.1 u) (λ w w' d d' g g' v x. t_next r _ _ (t_fields_from fs h.2 v)
          (λ ps ps' e e' k k' y q. typed (grown-same e) (grown-same e') y (more-pairs (same_name names name h.0) (type_grow r k k' w w' x) q)))
