-- Adding types: the word that is given means the type that it should, of which the same is claimed. Assumes nothing.
use Rattle.std.specs.Prelude.{ℕ, ◌/◌, ◌≤◌, ◌≡◌, true, false, List, [], ◌∷◌, length}
use Rattle.std.proofs.Math.Nat.{max-le}
use Rattle.std.proofs.Common.{arith}
use Rattle.std.proofs.Math.Path.{refl}
use Rattle.tok.specs.Word.{payload_of, word_of}
use Rattle.tok.specs.Text.{name_bytes}
use Rattle.tok.specs.Step.{Result, Refusal}
use Rattle.tok.proofs.WordLaws.{kind_of-word_of, payload_of_lt}
use Rattle.tok.proofs.NameLaws.{name_bytes-payload}
use Rattle.ptype.specs.Ty.{Ty, Fields, plain, wrap, rec, named, no_field, field, depth_of, deepest, contains_slot, any_slot}
use Rattle.ptype.specs.Words.{void_word, unknown_word}
use Rattle.ptype.specs.Add.{Buffer, add_wrap, add_record}
use Rattle.ptype.specs.Kinds.{wraps, Plain}
use Rattle.ast.specs.TypeExpr.{TypeExpr, TypeFields, AtomType, ForeignType, OptionType, ArrayType, RecordType, no_type, type_field}
use Rattle.ast.specs.TypeFrom.{type_from, fields_from_exprs}
use Rattle.tworuns.specs.Means.{grown-same}
use Rattle.tworuns.specs.Means as M
use Rattle.tworuns.specs.Types.{PairsMean, no_pair, pair, means-wrap, means_record}
use Rattle.tworuns.specs.ExprTrees.{Adds, adds, stops, one_type}
use Rattle.tworuns.specs.Operators.{plain-low}
use Rattle.onerun.specs.Claim.{Run, OfNames, NameAt, flat, wrapped, recorded, called, FineFields, no_more, one_more, Is, Good}
use Rattle.onerun.specs.Grows.{typed_grow}
use Rattle.onerun.specs.Logic.{GivesT, typed, stopped_t, t_next, t_map}
use Rattle.onerun.specs.Proper.{ProperType, ProperTypes}

module _ (r : Run) where
  -- Names and type words in a list, as the fields that they are.
  pub record PairsAre (b : Buffer) (ps : List ℕ) (fs : Fields) : Type 0 where
    pub pairs : PairsMean r.ctx.texts b.words b.used ps fs
    pub low : deepest fs ≤ 32
    pub fine : FineFields r fs

  pub no_pairs : (b : Buffer) → PairsAre b [] no_field
  unfolding depth_of
  no_pairs b = record { pairs = no_pair; low = omega arith; fine = no_more }

  pub more-pairs : {b : Buffer} {n w : ℕ} {ps : List ℕ} {x : Ty} {fs : Fields} → NameAt r n → Is r b w x → PairsAre b ps fs → PairsAre b (n ∷ w ∷ ps) (field (name_bytes r.ctx.texts n) x fs)
  unfolding depth_of
  more-pairs m h rest = record { pairs = pair refl h.means rest.pairs; low = max-le h.low rest.low; fine = one_more m h.fine rest.fine }

  -- One step: new words for one type.
  t_adds : {A : Type 0} {Q : Buffer → A → Type 0} {b : Buffer} {y : Result Buffer Refusal A} → Adds Q b y → GivesT r Q b y
  t_adds (adds g q) = typed g q
  t_adds stops = stopped_t

  pub t_wrap : {b : Buffer} (n k inner : ℕ) {x : Ty} → wraps k ≡ true → Is r b inner x → GivesT r (λ d w. Is r d w (wrap k x)) b (add_wrap r.ctx.texts n k inner b)
  unfolding add_wrap depth_of
  t_wrap {b} n k inner {x} h i =
      t_map r (λ w d y. record { means = y.means; low = y.low; fine = wrapped i.fine })
      (t_adds (one_type r.ctx.texts n k (inner ∷ []) (wrap k x) (omega (arith, i.low)) (λ f. means-wrap b k inner h i.means f)))

  pub t_record : {b : Buffer} (n : ℕ) (ps : List ℕ) {fs : Fields} → PairsAre b ps fs → GivesT r (λ d w. Is r d w (rec fs)) b (add_record r.ctx.texts n ps b)
  unfolding add_record depth_of
  t_record {b} n ps {fs} i =
      t_map r (λ w d y. record { means = y.means; low = y.low; fine = recorded i.fine })
      (t_adds (one_type r.ctx.texts n 8 (length ps / 2 ∷ ps) (rec fs) (omega (arith, i.low)) (λ f. means_record b ps i.pairs (omega arith))))

  -- The same of types free of slots.
  pub record PairsTyped (b : Buffer) (ps : List ℕ) : Type 0 where
    pub fields : Fields
    pub are : PairsAre b ps fields
    pub no_slot : r.clean → any_slot fields ≡ false

  pub no-typed : (b : Buffer) → PairsTyped b []
  unfolding contains_slot
  no-typed b = record { fields = no_field; are = no_pairs b; no_slot = λ q. refl }

  pub more-typed : {b : Buffer} {n w : ℕ} {ps : List ℕ} → NameAt r n → Good r b w → PairsTyped b ps → PairsTyped b (n ∷ w ∷ ps)
  unfolding contains_slot
  more-typed {n = n} m h rest = record {
    fields = field (name_bytes r.ctx.texts n) h.tree rest.fields;
    are = more-pairs m h.is rest.are;
    no_slot = λ q. rw (h.no_slot q, rest.no_slot q) refl;
  }

  pub t_wrap_good : {b : Buffer} (n k inner : ℕ) → wraps k ≡ true → Good r b inner → GivesT r (Good r) b (add_wrap r.ctx.texts n k inner b)
  unfolding contains_slot
  t_wrap_good {b} n k inner h i = t_map r (λ w d y. record { tree = wrap k i.tree; is = y; no_slot = i.no_slot }) (t_wrap n k inner h i.is)

  pub t_record_good : {b : Buffer} (n : ℕ) (ps : List ℕ) → PairsTyped b ps → GivesT r (Good r) b (add_record r.ctx.texts n ps b)
  unfolding contains_slot
  t_record_good {b} n ps i = t_map r (λ w d y. record { tree = rec i.fields; is = y; no_slot = i.no_slot }) (t_record n ps i.are)

  -- a word of nothing but a kind
  pub plain-good : (b : Buffer) (k : ℕ) → Plain k → 1 ≤ k → (r.clean → k ≡ 11 → ⊥) → Good r b (word_of k 0)
  unfolding depth_of contains_slot
  plain-good b k p l u = record {
    tree = plain k;
    is = record { means = M.flat (kind_of-word_of k 0 (omega arith)) p (λ e. rw e); low = omega arith; fine = flat l u };
    no_slot = λ q. refl;
  }

  pub low-good : (b : Buffer) (k : ℕ) → 1 ≤ k → k ≤ 5 → Good r b (word_of k 0)
  low-good b k l h = plain-good b k (plain-low k h) l (λ q e. omega arith)

  pub void-good : (b : Buffer) → Good r b void_word
  void-good b = low-good b 1 (omega arith) (omega arith)

  pub unknown-good : (b : Buffer) → OfNames r → Good r b unknown_word
  unknown-good b l = plain-good b 11 (record { no_wrap = refl; no_record = λ e. omega arith; no_name = refl }) (omega arith) (λ q e. l q)

  foreign-good : (b : Buffer) (token : ℕ) → NameAt r token → Good r b (word_of 9 (payload_of token))
  unfolding depth_of contains_slot
  foreign-good b token n = record {
    tree = named 9 (name_bytes r.ctx.texts token);
    is = record {
      means = M.called (kind_of-word_of 9 (payload_of token) (payload_of_lt token)) refl (name_bytes-payload r.ctx.texts 9 token);
      low = omega arith;
      fine = called n;
    };
    no_slot = λ q. refl;
  }

  -- Type expressions.
  module _ (P : ℕ → Type 0) (n : ℕ) where
    mutual
      unfolding type_from ProperType

      pub t_type_from : (t : TypeExpr) → ProperType P (NameAt r) t → (b : Buffer) → GivesT r (Good r) b (type_from r.ctx.texts n t b)
      t_type_from (AtomType token k) h b = typed (grown-same b) (low-good b k h.low h.high)
      t_type_from (ForeignType token) h b = typed (grown-same b) (foreign-good b token h)
      t_type_from (OptionType t) h b = t_next r _ (t_type_from t h b) (λ w d g x. t_wrap_good n 6 w refl x)
      t_type_from (ArrayType t) h b = t_next r _ (t_type_from t h b) (λ w d g x. t_wrap_good n 7 w refl x)
      t_type_from (RecordType token fs) h b = t_next r _ (t_fields_from fs h b) (λ ps d g x. t_record_good n ps x)

      pub t_fields_from : (fs : TypeFields) → ProperTypes P (NameAt r) fs → (b : Buffer) → GivesT r PairsTyped b (fields_from_exprs r.ctx.texts n fs b)
      t_fields_from no_type h b = typed (grown-same b) (no-typed b)
      t_fields_from (type_field name t fs) h b =
          t_next r _ (t_type_from t h.1 b) (λ w d g x. t_next r _ (t_fields_from fs h.2 d)
          (λ ps e k q. typed (grown-same e) (more-typed h.0 (typed_grow r k x) q)))
