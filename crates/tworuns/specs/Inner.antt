-- Two words of one type, taken apart: the words inside are of one type too, and the fields of one name and type. Assumes nothing.
use Prim.Native.Nat.{ℕ, suc, ◌+◌, ◌-◌, ◌≤◌, ◌<◌}
use native.Mathlib.Omega.{arith}
use Rattle.std.specs.Prelude.{◌≡◌, true, false, List, eqb, get_or}
use Rattle.std.proofs.Math.Path.{sym, ap}
use Rattle.std.proofs.Common.{◌∙◌, inl, inr, true≢false}
use Rattle.std.proofs.Math.Dec.{eqb-suc-zero}
use Rattle.tok.specs.Word.{kind_of, payload_of}
use Rattle.tok.specs.Text.{name_bytes}
use Rattle.ptype.specs.Ty.{Ty, Fields, wrap, rec, field, depth_of, deepest}
use Rattle.ptype.specs.Words.{inner_word, field_count}
use Rattle.ptype.specs.Add.{Buffer}
use Rattle.ptype.specs.Kinds.{wraps, names, one_of}
use Rattle.tworuns.specs.Means.{Means, flat, wrapped, recorded, called, FieldsMean, one_more, fields_grow, Grown}
use Rattle.tworuns.specs.Runs.{Runs, SameType, SameName, Used}
use Rattle.tworuns.specs.Types.{used-read}

module _ (r : Runs) (b b' : Buffer) where
  -- two words of the type x
  pub record TypeIs (w w' : ℕ) (x : Ty) : Type 0 where
    pub left : Means r.first.texts b.words b.used w x
    pub right : Means r.second.texts b'.words b'.used w' x
    pub low : depth_of x ≤ 32
    pub word : r.strict → w ≡ w'

  -- two lists of the fields fs: k from index `at` on, and k' from index at' on
  pub record FieldsAre (at k at' k' : ℕ) (fs : Fields) : Type 0 where
    pub left : FieldsMean r.first.texts b.words b.used at k fs
    pub right : FieldsMean r.second.texts b'.words b'.used at' k' fs
    pub low : deepest fs ≤ 32
    pub place : r.strict → at ≡ at'

  -- the first of several
  pub record FirstField (at k at' k' : ℕ) (n : List ℕ) (x : Ty) (fs : Fields) : Type 0 where
    pub name : SameName r (get_or b.words at 0) (get_or b'.words at' 0)
    pub bytes : name_bytes r.first.texts (get_or b.words at 0) ≡ n
    pub type : TypeIs (get_or b.words (at + 1) 0) (get_or b'.words (at' + 1) 0) x
    pub rest : FieldsAre (at + 2) (k - 1) (at' + 2) (k' - 1) fs
    pub some : eqb k 0 ≡ false
    pub some' : eqb k' 0 ≡ false

-- the fields of two Records
pub record SameFields (r : Runs) (b b' : Buffer) (w w' : ℕ) : Type 0 where
  pub fields : Fields
  pub are : FieldsAre r b b' (payload_of w + 1) (field_count b.words w) (payload_of w' + 1) (field_count b'.words w') fields

pub no_name : (k : ℕ) → wraps k ≡ true → names k ≡ true → ⊥
no_name k h i = elim (one_of 6 7 k h) [ inl e ↦ true≢false (sym (rw e at i)) | inr e ↦ true≢false (sym (rw e at i)) ]

module _ {r : Runs} {b b' : Buffer} where
  pub type-is : {w w' : ℕ} (h : SameType r b b' w w') → TypeIs r b b' w w' h.tree
  type-is h = record { left = h.left; right = h.right; low = h.low; word = h.word }

  pub is-type : {w w' : ℕ} {x : Ty} → TypeIs r b b' w w' x → SameType r b b' w w'
  is-type {x = x} h = record { tree = x; left = h.left; right = h.right; low = h.low; word = h.word }

  module _ (u : Used r b b') where
    word_at : {a a' : ℕ} → a < b.used → (r.strict → a ≡ a') → r.strict → get_or b.words a 0 ≡ get_or b'.words a' 0
    word_at {a} {a'} l e z = used-read r (u z) a l ∙ ap (λ (p : ℕ). get_or b'.words p 0) (e z)

    open_inner : {w w' k : ℕ} {x : Ty} → Means r.first.texts b.words b.used w (wrap k x) → Means r.second.texts b'.words b'.used w' (wrap k x)
        → depth_of (wrap k x) ≤ 32 → (r.strict → w ≡ w') → (wraps k ≡ true) × TypeIs r b b' (inner_word b.words w) (inner_word b'.words w') x
    unfolding depth_of
    open_inner (wrapped e i l m) (wrapped e' i' l' m') low q = (i, record { left = m; right = m'; low = omega arith; word = word_at l (λ z. ap payload_of (q z)) })

    open_fields : {w w' : ℕ} {fs : Fields} → Means r.first.texts b.words b.used w (rec fs) → Means r.second.texts b'.words b'.used w' (rec fs)
        → depth_of (rec fs) ≤ 32 → (r.strict → w ≡ w')
        → FieldsAre r b b' (payload_of w + 1) (field_count b.words w) (payload_of w' + 1) (field_count b'.words w') fs
    unfolding depth_of
    open_fields (recorded e l m) (recorded e' l' m') low q = record { left = m; right = m'; low = omega arith; place = λ z. ap (λ (v : ℕ). payload_of v + 1) (q z) }

    -- of an Option or Array, and of a Record
    pub open_wrap : {w w' k : ℕ} {x : Ty} → TypeIs r b b' w w' (wrap k x) → (wraps k ≡ true) × TypeIs r b b' (inner_word b.words w) (inner_word b'.words w') x
    open_wrap h = open_inner h.left h.right h.low h.word

    pub open_record : {w w' : ℕ} {fs : Fields} → TypeIs r b b' w w' (rec fs)
        → FieldsAre r b b' (payload_of w + 1) (field_count b.words w) (payload_of w' + 1) (field_count b'.words w') fs
    open_record h = open_fields h.left h.right h.low h.word

    open_first : {at k at' k' : ℕ} {n : List ℕ} {x : Ty} {fs : Fields} → FieldsMean r.first.texts b.words b.used at k (field n x fs)
        → FieldsMean r.second.texts b'.words b'.used at' k' (field n x fs) → deepest (field n x fs) ≤ 32 → (r.strict → at ≡ at') → FirstField r b b' at k at' k' n x fs
    unfolding depth_of
    open_first {at} {at' = at'} (one_more {k = j} q l m ms) (one_more {k = j'} q' l' m' ms') low e = record {
      name = record { bytes = q ∙ sym q'; word = word_at (omega arith) e };
      bytes = q;
      type = record { left = m; right = m'; low = omega arith; word = word_at l (λ z. ap (λ (p : ℕ). p + 1) (e z)) };
      rest = record { left = rw (less j) ms; right = rw (less j') ms'; low = omega arith; place = λ z. ap (λ (p : ℕ). p + 2) (e z) };
      some = eqb-suc-zero j;
      some' = eqb-suc-zero j';
    }
      where
        less : (i : ℕ) → suc i - 1 ≡ i
        less i = omega arith

    pub open_field : {at k at' k' : ℕ} {n : List ℕ} {x : Ty} {fs : Fields} → FieldsAre r b b' at k at' k' (field n x fs) → FirstField r b b' at k at' k' n x fs
    open_field h = open_first h.left h.right h.low h.place

    -- Where the kind says what the words hold.
    pub inner-same : {w w' : ℕ} → SameType r b b' w w' → wraps (kind_of w) ≡ true → SameType r b b' (inner_word b.words w) (inner_word b'.words w')
    inner-same {w} {w'} h i = by h.left h.right h.low
      where
        by : {x : Ty} → Means r.first.texts b.words b.used w x → Means r.second.texts b'.words b'.used w' x → depth_of x ≤ 32
            → SameType r b b' (inner_word b.words w) (inner_word b'.words w')
        by (flat e p z) m low = absurd (true≢false (sym i ∙ (ap wraps e ∙ p.no_wrap)))
        by (wrapped e j l m) m' low = is-type (open_inner (wrapped e j l m) m' low h.word).1
        by (recorded e l m) m' low = absurd (true≢false (sym i ∙ ap wraps e))
        by (called {k = k} e j q) m' low = absurd (no_name k (rw e at i) j)

    pub fields-same : {w w' : ℕ} → SameType r b b' w w' → kind_of w ≡ 8 → SameFields r b b' w w'
    fields-same {w} {w'} h i = by h.left h.right h.low
      where
        by : {x : Ty} → Means r.first.texts b.words b.used w x → Means r.second.texts b'.words b'.used w' x → depth_of x ≤ 32 → SameFields r b b' w w'
        by (flat e p z) m' low = absurd (p.no_record (sym e ∙ i))
        by (wrapped e j l m) m' low = absurd (true≢false (sym j ∙ ap wraps (sym e ∙ i)))
        by (recorded {fs = fs} e l m) m' low = record { fields = fs; are = open_fields (recorded e l m) m' low h.word }
        by (called e j q) m' low = absurd (true≢false (sym j ∙ ap names (sym e ∙ i)))

-- As the buffers grow, they stay.
pub fields-are_grow : {r : Runs} {b b' d d' : Buffer} {at k at' k' : ℕ} {fs : Fields} → Grown b d → Grown b' d' → FieldsAre r b b' at k at' k' fs → FieldsAre r d d' at k at' k' fs
fields-are_grow g g' h = record { left = fields_grow g h.left; right = fields_grow g' h.right; low = h.low; place = h.place }
