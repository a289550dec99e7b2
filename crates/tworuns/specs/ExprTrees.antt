-- A type expression gives a word of the type that it means. By induction on it. Assumes nothing.
use Rattle.std.specs.Prelude.{ℕ, ◌+◌, ◌/◌, ◌≤◌, min, ◌≡◌, Bool, List, [], ◌∷◌}
use Rattle.std.proofs.Math.Nat.{max-le}
use native.Mathlib.Omega.{arith}
use Rattle.std.proofs.Math.Path.{refl}
use Rattle.std.proofs.Math.Bool.{true, false}
use Rattle.std.proofs.Math.Dec.{leb}
use Rattle.std.proofs.Math.ListN.{length}
use borrow.Author.Tests.{leb-true}
use Rattle.tok.specs.Word.{payload_of, word_of}
use Rattle.tok.specs.Text.{Texts, name_bytes}
use Rattle.tok.specs.Step.{Result, ok, refused, Step, Refusal, refusal, next, give, refuse, when}
use Rattle.tok.proofs.WordLaws.{kind_of-word_of, payload_of_lt}
use Rattle.tok.proofs.NameLaws.{name_bytes-payload}
use Rattle.ptype.specs.Ty.{Ty, Fields, plain, wrap, rec, named, no_field, field, depth_of, deepest}
use Rattle.ptype.specs.Words.{ty_of}
use Rattle.ptype.specs.Add.{Buffer, append, type_room, add_type, add_wrap, add_record}
use Rattle.ptype.specs.Kinds.{wraps, Plain}
use Rattle.ast.specs.TypeExpr.{TypeExpr, TypeFields, AtomType, ForeignType, OptionType, ArrayType, RecordType, no_type, type_field}
use Rattle.ast.specs.TypeFrom.{type_from, fields_from_exprs}
use Rattle.rules.specs.Functions.{type_meant, fields_meant}
use Rattle.tworuns.specs.Means.{Means, flat, called, means-ty_of, means_grow, Grown, grown-same, grown-trans}
use Rattle.tworuns.specs.Sound.{SoundType, SoundTypes}
use Rattle.tworuns.specs.Types.{PairsMean, no_pair, pair, means-wrap, means_record}
use Rattle.tworuns.specs.Written.{grown-append}

-- a step of the types buffer: it grew, and of the answer Q holds; or a refusal
pub data Adds {A : Type 0} (Q : Buffer → A → Type 0) (b : Buffer) : Result Buffer Refusal A → Type 0 where
  adds : {a : A} {d : Buffer} → Grown b d → Q d a → Adds Q b (ok a d)
  stops : {e : Refusal} → Adds Q b (refused e)

adds-next : {A B : Type 0} {P : Buffer → A → Type 0} {Q : Buffer → B → Type 0} {b : Buffer} {x : Result Buffer Refusal A} (f : A → Step Buffer Refusal B) → Adds P b x
    → ((a : A) (d : Buffer) → Grown b d → P d a → Adds Q d (f a d)) → Adds Q b (next x f)
adds-next {B = B} {Q = Q} {b = b} f (adds {a = a} {d = d} g p) k = more (k a d g p)
  where
    more : {y : Result Buffer Refusal B} → Adds Q d y → Adds Q b y
    more (adds h q) = adds (grown-trans g h) q
    more stops = stops
adds-next f stops k = stops

module _ (t : Texts) where
  -- a word of a type, and names and type words of fields
  pub record WordOf (x : Ty) (b : Buffer) (w : ℕ) : Type 0 where
    pub means : Means t b.words b.used w x
    pub low : depth_of x ≤ 32

  record PairsOf (fs : Fields) (b : Buffer) (ps : List ℕ) : Type 0 where
    pairs : PairsMean t b.words b.used ps fs
    low : deepest fs ≤ 32

  pub word_grow : {x : Ty} {b d : Buffer} {w : ℕ} → Grown b d → WordOf x b w → WordOf x d w
  word_grow g h = record { means = means_grow g h.means; low = h.low }

  -- and `ty_of` finds it
  pub word-tree : {x : Ty} {b : Buffer} {w : ℕ} → WordOf x b w → ty_of t b.words w ≡ x
  word-tree h = means-ty_of h.means (omega (arith, h.low))

  pub one_type : {b : Buffer} (n k : ℕ) (new : List ℕ) (x : Ty) → depth_of x ≤ 33
      → (b.used + length new ≤ min (length b.words) 8192 → Means t (append b new).words (append b new).used (word_of k b.used) x) → Adds (WordOf x) b (add_type t n k new b)
  unfolding add_type when
  one_type {b} n k new x low m = go (leb (b.used + length new) (type_room b)) refl
    where
      deep : Means t (append b new).words (append b new).used (word_of k b.used) x → (h : Bool) → leb (depth_of (ty_of t (append b new).words (word_of k b.used))) 32 ≡ h
          → Adds (WordOf x) b (when h (give (word_of k b.used) (append b new)) (refuse (refusal 8 n)) b)
      deep i true e = adds (grown-append b new) (record { means = i; low = leb-true (depth_of x) 32 (rw (means-ty_of i low) at e) })
      deep i false e = stops

      go : (h : Bool) → leb (b.used + length new) (type_room b) ≡ h
          → Adds (WordOf x) b
          (when h (when (leb (depth_of (ty_of t (append b new).words (word_of k b.used))) 32) (give (word_of k b.used) (append b new)) (refuse (refusal 8 n))) (refuse (refusal 7 n)) b)
      go true e = deep (m (leb-true (b.used + length new) (type_room b) e)) (leb (depth_of (ty_of t (append b new).words (word_of k b.used))) 32) refl
      go false e = stops

  wrap-type : {b : Buffer} (n k inner : ℕ) {x : Ty} → wraps k ≡ true → WordOf x b inner → Adds (WordOf (wrap k x)) b (add_wrap t n k inner b)
  unfolding add_wrap depth_of
  wrap-type {b} n k inner {x} h i = one_type n k (inner ∷ []) (wrap k x) (omega (arith, i.low)) (λ f. means-wrap b k inner h i.means f)

  record_type : {b : Buffer} (n : ℕ) (ps : List ℕ) {fs : Fields} → PairsOf fs b ps → Adds (WordOf (rec fs)) b (add_record t n ps b)
  unfolding add_record depth_of
  record_type {b} n ps {fs} i = one_type n 8 (length ps / 2 ∷ ps) (rec fs) (omega (arith, i.low)) (λ f. means_record b ps i.pairs (omega arith))

  plain_word : (b : Buffer) (k : ℕ) → Plain k → WordOf (plain k) b (word_of k 0)
  unfolding depth_of
  plain_word b k p = record { means = flat (kind_of-word_of k 0 (omega arith)) p (λ e. rw e); low = omega arith }

  foreign-word : (b : Buffer) (token : ℕ) → WordOf (named 9 (name_bytes t token)) b (word_of 9 (payload_of token))
  unfolding depth_of
  foreign-word b token = record { means = called (kind_of-word_of 9 (payload_of token) (payload_of_lt token)) refl (name_bytes-payload t 9 token); low = omega arith }

  no_pairs : (b : Buffer) → PairsOf no_field b []
  unfolding depth_of
  no_pairs b = record { pairs = no_pair; low = omega arith }

  more-pairs : {b : Buffer} {n w : ℕ} {ps : List ℕ} {x : Ty} {fs : Fields} → WordOf x b w → PairsOf fs b ps → PairsOf (field (name_bytes t n) x fs) b (n ∷ w ∷ ps)
  unfolding depth_of
  more-pairs h rest = record { pairs = pair refl h.means rest.pairs; low = max-le h.low rest.low }

  -- THE LAW
  module _ (P N : ℕ → Type 0) (n : ℕ) where
    mutual
      unfolding type_from SoundType type_meant

      pub expr-word : (e : TypeExpr) → SoundType P N e → (b : Buffer) → Adds (WordOf (type_meant t e)) b (type_from t n e b)
      expr-word (AtomType token k) h b = adds (grown-same b) (plain_word b k h)
      expr-word (ForeignType token) h b = adds (grown-same b) (foreign-word b token)
      expr-word (OptionType e) h b = adds-next _ (expr-word e h b) (λ w d g x. wrap-type n 6 w refl x)
      expr-word (ArrayType e) h b = adds-next _ (expr-word e h b) (λ w d g x. wrap-type n 7 w refl x)
      expr-word (RecordType token fs) h b = adds-next _ (expr-pairs fs h b) (λ ps d g x. record_type n ps x)

      expr-pairs : (fs : TypeFields) → SoundTypes P N fs → (b : Buffer) → Adds (PairsOf (fields_meant t fs)) b (fields_from_exprs t n fs b)
      expr-pairs no_type h b = adds (grown-same b) (no_pairs b)
      expr-pairs (type_field name e fs) h b =
          adds-next _ (expr-word e h.1 b) (λ w d g x. adds-next _ (expr-pairs fs h.2 d)
          (λ ps d₁ g₁ q. adds (grown-same d₁) (more-pairs (word_grow g₁ x) q)))
