-- A word of a type, taken apart: of the words inside, and of the fields, the same is claimed. Assumes nothing.
use Rattle.std.specs.Prelude.{ℕ, suc, ◌+◌, ◌-◌, ◌≤◌, ◌≡◌, true, List, get_or}
use Rattle.std.proofs.Common.{arith, sym, ◌∙◌}
use Rattle.std.proofs.Math.Path.{ap}
use Rattle.std.proofs.Math.Bool.{false, true≢false}
use Rattle.std.proofs.Math.Dec.{eqb, eqb-suc-zero}
use Rattle.facts.specs.Tests.{neither}
use Rattle.tok.specs.Word.{kind_of, payload_of}
use Rattle.tok.specs.Text.{name_bytes}
use Rattle.ptype.specs.Ty.{Ty, Fields, wrap, rec, no_field, field, depth_of, deepest, contains_slot, any_slot}
use Rattle.ptype.specs.Words.{inner_word, field_count}
use Rattle.ptype.specs.Add.{Buffer}
use Rattle.ptype.specs.Kinds.{wraps, names}
use Rattle.tworuns.specs.Means.{Means, FieldsMean, fields_grow, Grown}
use Rattle.tworuns.specs.Means as M
use Rattle.tworuns.specs.Inner.{no_name}
use Rattle.onerun.specs.Claim.{Run, Name, Fine, flat, wrapped, recorded, called, FineFields, no_more, one_more, Is, Typed}

less : (i : ℕ) → suc i - 1 ≡ i
less i = omega arith

module _ (r : Run) where
  -- k fields from index `at` on
  pub record FieldsAre (b : Buffer) (at k : ℕ) (fs : Fields) : Type 0 where
    pub means : FieldsMean r.ctx.texts b.words b.used at k fs
    pub low : deepest fs ≤ 32
    pub fine : FineFields r fs

  pub record FieldsTyped (free : Type 0) (b : Buffer) (at k : ℕ) : Type 0 where
    pub fields : Fields
    pub are : FieldsAre b at k fields
    pub no_slot : free → any_slot fields ≡ false

  -- where one is left
  pub record FirstTyped (free : Type 0) (b : Buffer) (at k : ℕ) : Type 0 where
    pub type : Typed r free b (get_or b.words (at + 1) 0)
    pub rest : FieldsTyped free b (at + 2) (k - 1)

  -- the first of several
  pub record FirstField (b : Buffer) (at k : ℕ) (n : List ℕ) (x : Ty) (fs : Fields) : Type 0 where
    pub bytes : name_bytes r.ctx.texts (get_or b.words at 0) ≡ n
    pub name : Name r n
    pub type : Is r b (get_or b.words (at + 1) 0) x
    pub rest : FieldsAre b (at + 2) (k - 1) fs
    pub some : eqb k 0 ≡ false

  pub fields-are_grow : {b d : Buffer} {at k : ℕ} {fs : Fields} → Grown b d → FieldsAre b at k fs → FieldsAre d at k fs
  fields-are_grow g h = record { means = fields_grow g h.means; low = h.low; fine = h.fine }

  module _ {b : Buffer} where
    open_inner : {w k : ℕ} {x : Ty} → Means r.ctx.texts b.words b.used w (wrap k x) → depth_of (wrap k x) ≤ 32 → Fine r (wrap k x) → (wraps k ≡ true) × Is r b (inner_word b.words w) x
    unfolding depth_of
    open_inner (M.wrapped e h l m) low (wrapped f) = (h, record { means = m; low = omega arith; fine = f })

    pub open_wrap : {w k : ℕ} {x : Ty} → Is r b w (wrap k x) → (wraps k ≡ true) × Is r b (inner_word b.words w) x
    open_wrap h = open_inner h.means h.low h.fine

    open_fields : {w : ℕ} {fs : Fields} → Means r.ctx.texts b.words b.used w (rec fs) → depth_of (rec fs) ≤ 32 → Fine r (rec fs) → FieldsAre b (payload_of w + 1) (field_count b.words w) fs
    unfolding depth_of
    open_fields (M.recorded e l m) low (recorded f) = record { means = m; low = omega arith; fine = f }

    pub open_record : {w : ℕ} {fs : Fields} → Is r b w (rec fs) → FieldsAre b (payload_of w + 1) (field_count b.words w) fs
    open_record h = open_fields h.means h.low h.fine

    open_first : {at k : ℕ} {n : List ℕ} {x : Ty} {fs : Fields} → FieldsMean r.ctx.texts b.words b.used at k (field n x fs) → deepest (field n x fs) ≤ 32 → FineFields r (field n x fs)
        → FirstField b at k n x fs
    unfolding depth_of
    open_first (M.one_more {k = j} q l m ms) low (one_more y f fs) = record {
      bytes = q;
      name = y;
      type = record { means = m; low = omega arith; fine = f };
      rest = record { means = rw (less j) ms; low = omega arith; fine = fs };
      some = eqb-suc-zero j;
    }

    pub open_field : {at k : ℕ} {n : List ℕ} {x : Ty} {fs : Fields} → FieldsAre b at k (field n x fs) → FirstField b at k n x fs
    open_field h = open_first h.means h.low h.fine

    -- Where the kind says what the word holds.
    module _ {free : Type 0} where
      pub inner-typed : {w : ℕ} → Typed r free b w → wraps (kind_of w) ≡ true → Typed r free b (inner_word b.words w)
      unfolding contains_slot
      inner-typed {w} h i = by h.is.means h.is.low h.is.fine h.no_slot
        where
          by : {x : Ty} → Means r.ctx.texts b.words b.used w x → depth_of x ≤ 32 → Fine r x → (free → contains_slot x ≡ false) → Typed r free b (inner_word b.words w)
          by (M.flat e p z) low f n = absurd (true≢false (sym i ∙ (ap wraps e ∙ p.no_wrap)))
          by (M.wrapped {x = x} e j l m) low f n = record { tree = x; is = (open_inner (M.wrapped e j l m) low f).1; no_slot = n }
          by (M.recorded e l m) low f n = absurd (true≢false (sym i ∙ ap wraps e))
          by (M.called {k = k} e j q) low f n = absurd (no_name k (rw e at i) j)

      pub fields-typed : {w : ℕ} → Typed r free b w → kind_of w ≡ 8 → FieldsTyped free b (payload_of w + 1) (field_count b.words w)
      unfolding contains_slot
      fields-typed {w} h i = by h.is.means h.is.low h.is.fine h.no_slot
        where
          by : {x : Ty} → Means r.ctx.texts b.words b.used w x → depth_of x ≤ 32 → Fine r x → (free → contains_slot x ≡ false) → FieldsTyped free b (payload_of w + 1) (field_count b.words w)
          by (M.flat e p z) low f n = absurd (p.no_record (sym e ∙ i))
          by (M.wrapped e j l m) low f n = absurd (true≢false (sym j ∙ ap wraps (sym e ∙ i)))
          by (M.recorded {fs = fs} e l m) low f n = record { fields = fs; are = open_fields (M.recorded e l m) low f; no_slot = n }
          by (M.called e j q) low f n = absurd (true≢false (sym j ∙ ap names (sym e ∙ i)))

      pub first-typed : {at k : ℕ} → FieldsTyped free b at k → eqb k 0 ≡ false → FirstTyped free b at k
      unfolding contains_slot
      first-typed {at} {k} h e = by h.fields h.are h.no_slot
        where
          none_left_lem : {j : ℕ} → FieldsMean r.ctx.texts b.words b.used at j no_field → eqb j 0 ≡ false → ⊥
          none_left_lem M.no_more e = true≢false e

          by : (fs : Fields) → FieldsAre b at k fs → (free → any_slot fs ≡ false) → FirstTyped free b at k
          by no_field a n = absurd (none_left_lem a.means e)
          by (field m x fs) a n =
              let f = open_field a in
              record {
                type = record { tree = x; is = f.type; no_slot = λ q. (neither (contains_slot x) (any_slot fs) (n q)).0 };
                rest = record { fields = fs; are = f.rest; no_slot = λ q. (neither (contains_slot x) (any_slot fs) (n q)).1 };
              }
