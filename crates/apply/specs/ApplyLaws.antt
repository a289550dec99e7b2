-- The word that `apply_within` gives, by the buffer as it is at the time, means the type with types put for its slots. By induction on the depth. Assumes nothing.
use Rattle.std.specs.Prelude.{◌≡◌, Bool, List, ◌∷◌, get_or}
use Rattle.std.proofs.Math.Path.{refl, sym}
use Rattle.std.proofs.Common.{◌∙◌, inl, inr, arith, le_trans, eqb-true}
use Rattle.std.proofs.Math.Bool.{true, false, true≢false}
use Rattle.std.proofs.Math.Option.{Option}
use Rattle.std.proofs.Math.Option as Option
use Prim.Native.Nat.{ℕ, zero, suc, ◌+◌, ◌*◌, ◌<◌, ◌≤◌}
use Rattle.std.proofs.Math.Dec.{eqb}
use Rattle.std.proofs.lemmas.Bool.{eqb-false}
use Rattle.tok.specs.Word.{kind_of, payload_of}
use Rattle.tok.specs.Text.{Texts, name_bytes}
use Rattle.tok.specs.Step.{Result, ok, Step, Refusal, next, return}
use Rattle.ptype.specs.Ty.{Ty, Fields, plain, wrap, rec, named, no_field, field, depth_of, deepest}
use Rattle.ptype.specs.Words.{ty_of, unfolded, inner_word, field_count, fields_from, fields_of}
use Rattle.ptype.specs.Kinds.{wraps, names, one_of, shape, is_plain, is_wrap, is_record, is_named}
use Rattle.ptype.proofs.UnfoldLaws.{unfolded-plain, unfolded-named}
use Rattle.ptype.proofs.DepthLaws.{unfolded-enough, ty_of-wrap, ty_of_record}
use Rattle.ptype.specs.Inside.{Within, wrapped, in_field}
use Rattle.ptype.proofs.InsideLaws.{throughout_here, throughout_inside}
use Rattle.ptype.specs.Add.{Buffer, add_wrap, add_record}
use Rattle.ptype.specs.Slots.{Binding, bound_to, bound_or, has_bound_slot}
use Rattle.add.specs.Means.{Means, PairsMean, none, pair, Grown}
use Rattle.add.specs.StepLaws.{next-ok, of-answer}
use Rattle.add.specs.AddLaws.{grown-same, grown-then, means-grown, word-grown, wrap-means, record_means}
use Rattle.slots.specs.BindLaws.{if_true, if_false}
use Rattle.slots.specs.Substitute.{Filling, substitute, substitute_fields}
use Rattle.slots.specs.SubstituteLaws.{substitute-none}
use Rattle.apply.specs.StepLaws.{inside-slot, inside-wrap, inside_record, inside-rest, within-free, within-inside}
use Rattle.apply.specs.Apply.{apply_pairs, apply_inside, apply_within, whole}

-- a kind that holds a name holds neither a type nor fields
no_wrap_lem : (k : ℕ) → names k ≡ true → wraps k ≡ false
no_wrap_lem k h = elim (one_of 9 10 k h) [ inl e ↦ rw e | inr e ↦ rw e ]

no-list : (k : ℕ) → names k ≡ true → k ≡ 8 → ⊥
no-list k h e = elim (one_of 9 10 k h) [ inl z ↦ omega arith | inr z ↦ omega arith ]

-- what a slot is bound to, as a word and as a type
pub data FilledBy (texts : Texts) (b : Buffer) : Option ℕ → Option Ty → Type 0 where
  unbound : FilledBy texts b Option.none Option.none
  bound : {w : ℕ} {u : Ty} → Means texts b w u → FilledBy texts b (Option.some w) (Option.some u)

-- the bindings mean the filling f
pub record Fills (texts : Texts) (f : Filling) (bs : List Binding) (b : Buffer) : Type 0 where
  pub each : (s : List ℕ) → FilledBy texts b (bound_to s bs) (f s)

filled-grown : {texts : Texts} {b b' : Buffer} {o : Option ℕ} {u : Option Ty} → Grown b b' → FilledBy texts b o u → FilledBy texts b' o u
filled-grown g unbound = unbound
filled-grown g (bound m) = bound (means-grown g m)

fills_grown : {texts : Texts} {f : Filling} {bs : List Binding} {b b' : Buffer} → Grown b b' → Fills texts f bs b → Fills texts f bs b'
fills_grown g h = record { each = λ s. filled-grown g (h.each s) }

filled_none : {texts : Texts} {b : Buffer} {o : Option ℕ} {u : Option Ty} → FilledBy texts b o u → o ≡ Option.none → u ≡ Option.none
filled_none unbound e = refl
filled_none (bound m) e = cc

-- a slot, or what it is bound to
slot-means : {texts : Texts} {b : Buffer} {w : ℕ} {t : Ty} {o : Option ℕ} {u : Option Ty} → Means texts b w t → FilledBy texts b o u → Means texts b (bound_or w o) (Option.get_or u t)
unfolding bound_or
slot-means m unbound = m
slot-means m (bound x) = x

-- `left` fields from index `at` on in the used words, less than f deep
pub data FieldsAt (texts : Texts) (b : Buffer) (f : ℕ) : (at left : ℕ) → Fields → Type 0 where
  done : {at : ℕ} → FieldsAt texts b f at zero no_field
  more : {at left : ℕ} {t : Ty} {fs : Fields} → at + 2 ≤ b.used → Means texts b (get_or b.words (at + 1) 0) t → depth_of t < f → FieldsAt texts b f (at + 2) left fs
      → FieldsAt texts b f at (suc left) (field (name_bytes texts (get_or b.words at 0)) t fs)

pub fields-grown : {texts : Texts} {b b' : Buffer} {f at left : ℕ} {fs : Fields} → Grown b b' → FieldsAt texts b f at left fs → FieldsAt texts b' f at left fs
fields-grown g done = done
fields-grown {b = b} {b' = b'} g (more {at = at} l m d fs) =
    let x : get_or b.words at 0 ≡ get_or b'.words at 0 = word-grown at g (omega arith) in
    let y : get_or b.words (at + 1) 0 ≡ get_or b'.words (at + 1) 0 = word-grown (at + 1) g (omega arith) in
    rw x (more (le_trans l g.more) (rw y at (means-grown g m)) d (fields-grown g fs))

-- the fields that stand in the buffer, if they refer into the used words and are less than f deep
fields-from : (texts : Texts) (b : Buffer) (f at k : ℕ) → at + 2 * k ≤ b.used
    → ((i j : ℕ) → i < k → j ≡ at + 2 * i + 1 → (deep : ℕ) → Within b.words b.used deep (get_or b.words j 0))
    → deepest (fields_from (ty_of texts b.words) texts b.words at k) < f → deepest (fields_from (ty_of texts b.words) texts b.words at k) ≤ 32
    → FieldsAt texts b f at k (fields_from (ty_of texts b.words) texts b.words at k)
unfolding fields_from depth_of
fields-from texts b f at zero l within d s = done
fields-from texts b f at (suc k) l within d s =
    more {at = at} (omega arith) (record { within = within 0 (at + 1) (omega arith) (omega arith); is = refl; shallow = omega arith }) (omega arith)
    (fields-from texts b f (at + 2) k (omega arith) (λ i j p e. within (suc i) j (omega arith) (omega arith)) (omega arith) (omega arith))

-- What stands inside a word that means a type.
module _ {texts : Texts} {b : Buffer} {w : ℕ} {t : Ty} (m : Means texts b w t) where
  pub depth-here : depth_of (ty_of texts b.words w) ≤ 32
  depth-here = rw m.is m.shallow

  pub inner-is : wraps (kind_of w) ≡ true → t ≡ wrap (kind_of w) (ty_of texts b.words (inner_word b.words w))
  inner-is h = sym m.is ∙ ty_of-wrap texts b.words w h depth-here

  pub inner-means : wraps (kind_of w) ≡ true → Means texts b (inner_word b.words w) (ty_of texts b.words (inner_word b.words w))
  unfolding depth_of
  inner-means h = record {
    within = λ deep. throughout_inside refl (m.within (suc deep)) (wrapped h);
    is = refl;
    shallow = omega (arith, rw (inner-is h) at m.shallow);
  }

  pub fields-is : kind_of w ≡ 8 → t ≡ rec (fields_of (ty_of texts b.words) texts b.words w)
  fields-is h = sym m.is ∙ ty_of_record texts b.words w h depth-here

  pub fields-mean : (f : ℕ) → kind_of w ≡ 8 → depth_of t ≤ f → FieldsAt texts b f (payload_of w + 1) (field_count b.words w) (fields_of (ty_of texts b.words) texts b.words w)
  unfolding depth_of
  fields-mean f h d =
      fields-from texts b f (payload_of w + 1) (field_count b.words w) ((throughout_here {deep = 1} refl (m.within 1)).to_fields h)
      (λ i j l e deep. rw e (throughout_inside refl (m.within (suc deep)) (in_field h i l))) (omega (arith, rw (fields-is h) at d)) (omega (arith, rw (fields-is h) at m.shallow))

  pub flat-is : wraps (kind_of w) ≡ false → (kind_of w ≡ 8 → ⊥) → names (kind_of w) ≡ false → t ≡ plain (kind_of w)
  unfolding ty_of
  flat-is a c d = sym m.is ∙ unfolded-plain texts b.words w {deep = 33} refl refl (record { no_wrap = a; no_record = c; no_name = d })

  pub named-is : names (kind_of w) ≡ true → t ≡ named (kind_of w) (name_bytes texts w)
  unfolding ty_of
  named-is h = sym m.is ∙ unfolded-named texts b.words w {deep = 33} refl refl h

  -- as many levels as it is deep are enough
  pub levels-enough : (deep : ℕ) → depth_of t ≤ deep → unfolded texts b.words deep w ≡ t
  unfolding ty_of
  levels-enough deep d = sym (unfolded-enough texts b.words 33 deep w (rw m.is (omega (arith, m.shallow))) (rw m.is d)) ∙ m.is

-- The word given means the type with types put for its slots, and the buffer has only grown.
pub record Applied (texts : Texts) (f : Filling) (t : Ty) (b : Buffer) (w : ℕ) (b' : Buffer) : Type 0 where
  pub means : Means texts b' w (substitute f t)
  pub grown : Grown b b'

-- nothing was added
unchanged : {texts : Texts} {f : Filling} {t : Ty} {b : Buffer} {w w' : ℕ} {b' : Buffer} → Means texts b w (substitute f t)
    → ◌≡◌ {A = Result Buffer Refusal ℕ} (ok w b) (ok w' b') → Applied texts f t b w' b'
unchanged {texts} {f} {t} {b} m e = of-answer (λ w' b'. Applied texts f t b w' b') e (record { means = m; grown = grown-same b })

module _ (texts : Texts) (n : ℕ) (f : Filling) (bs : List Binding) where
  -- what holds of the words that are less than `deep` deep
  abbrev Applies : (deep : ℕ) → Type 0
  Applies deep =
      (w : ℕ) (t : Ty) (b : Buffer) (w' : ℕ) (b' : Buffer) → Fills texts f bs b → Means texts b w t → depth_of t < deep
      → apply_within texts n bs whole deep w b ≡ ok w' b' → Applied texts f t b w' b'

  -- fields, one after the other
  fields_applied : (deep : ℕ) → Applies deep → (left : ℕ) {b : Buffer} {at : ℕ} {fs : Fields} → FieldsAt texts b deep at left fs → (pairs : List ℕ) (b' : Buffer) → Fills texts f bs b
      → apply_pairs (apply_within texts n bs whole deep) whole at left b ≡ ok pairs b' → PairsMean texts b' pairs (substitute_fields f fs) × Grown b b'
  unfolding apply_pairs substitute
  fields_applied deep h zero {b = b} done pairs b' fills e = of-answer (λ ps s. PairsMean texts s ps no_field × Grown b s) e (none, grown-same b)
  fields_applied deep h (suc left) {b = b} (more {at = at} {t = t} {fs = gs} l m d fs) pairs b' fills e =
      let go = apply_within texts n bs whole deep in
      let rest : ℕ → Step Buffer Refusal (List ℕ) = λ new s. next (apply_pairs go whole (at + 2) left s) (λ others. return (get_or b.words at 0 ∷ new ∷ others)) in
      let x = next-ok (go (get_or b.words (at + 1) 0) b) rest pairs b' e in
      let y = next-ok (apply_pairs go whole (at + 2) left x.1) (λ others. return (get_or b.words at 0 ∷ x.0 ∷ others)) pairs b' x.3 in
      let a = h (get_or b.words (at + 1) 0) t b x.0 x.1 fills m d x.2 in
      let r = fields_applied deep h left (fields-grown a.grown fs) y.0 y.1 (fills_grown a.grown fills) y.2 in
      of-answer (λ ps s. PairsMean texts s ps (field (name_bytes texts (get_or b.words at 0)) (substitute f t) (substitute_fields f gs)) × Grown b s) y.3
      (pair (means-grown r.1 a.means) r.0, grown-then a.grown r.1)

  -- a word with a bound slot, by what it holds
  module _ (deep : ℕ) (h : Applies deep) (w : ℕ) (t : Ty) (b : Buffer) (w' : ℕ) (b' : Buffer) (fills : Fills texts f bs b) (m : Means texts b w t) (d : depth_of t ≤ deep)
      (e : apply_inside texts n bs whole (apply_within texts n bs whole deep) w b ≡ ok w' b') where
    rest_applied : (kind_of w ≡ 10 → ⊥) → wraps (kind_of w) ≡ false → (kind_of w ≡ 8 → ⊥) → substitute f t ≡ t → Applied texts f t b w' b'
    rest_applied ns nw n8 s = unchanged (rw s m) (sym (inside-rest texts n bs whole (apply_within texts n bs whole deep) w b refl ns nw n8) ∙ e)

    wrap_applied : wraps (kind_of w) ≡ true → Applied texts f t b w' b'
    unfolding substitute depth_of
    wrap_applied p =
        let go = apply_within texts n bs whole deep in
        let x = next-ok (go (inner_word b.words w) b) (add_wrap texts n (kind_of w)) w' b' (sym (inside-wrap texts n bs whole go w b refl (λ z. true≢false (sym (rw z at p))) p) ∙ e) in
        let a = h (inner_word b.words w) (ty_of texts b.words (inner_word b.words w)) b x.0 x.1 fills (inner-means m p) (omega (arith, rw (inner-is m p) at d)) x.2 in
        let y = wrap-means n (kind_of w) x.0 p a.means x.3 in
        rw (inner-is m p) (record { means = y.0; grown = grown-then a.grown y.1 })

    record_applied : kind_of w ≡ 8 → Applied texts f t b w' b'
    unfolding substitute depth_of
    record_applied p =
        let go = apply_within texts n bs whole deep in
        let fields = apply_pairs go whole (payload_of w + 1) (field_count b.words w) in
        let x = next-ok (fields b) (add_record texts n) w' b' (sym (inside_record texts n bs whole go w b refl (λ z. omega arith) (rw p) p) ∙ e) in
        let a = fields_applied deep h (field_count b.words w) (fields-mean m deep p d) x.0 x.1 fills x.2 in
        let y = record_means n a.0 x.3 in
        rw (fields-is m p) (record { means = y.0; grown = grown-then a.1 y.1 })

    named_applied : names (kind_of w) ≡ true → Applied texts f t b w' b'
    unfolding substitute
    named_applied p = by (eqb (kind_of w) 10) refl
      where
        by : (q : Bool) → eqb (kind_of w) 10 ≡ q → Applied texts f t b w' b'
        by true z =
            let s : substitute f t ≡ Option.get_or (f (name_bytes texts w)) t =
            rw (named-is m p) (if_true (Option.get_or (f (name_bytes texts w)) (named (kind_of w) (name_bytes texts w))) (named (kind_of w) (name_bytes texts w)) (eqb (kind_of w) 10) z) in
            unchanged (rw s (slot-means m (fills.each (name_bytes texts w)))) (sym (inside-slot texts n bs whole (apply_within texts n bs whole deep) w b refl (eqb-true (kind_of w) 10 z)) ∙ e)
        by false z =
            let s : substitute f t ≡ t =
            rw (named-is m p) (if_false (Option.get_or (f (name_bytes texts w)) (named (kind_of w) (name_bytes texts w))) (named (kind_of w) (name_bytes texts w)) (eqb (kind_of w) 10) z) in
            rest_applied (eqb-false (kind_of w) 10 z) (no_wrap_lem (kind_of w) p) (no-list (kind_of w) p) s

    inside_applied : Applied texts f t b w' b'
    unfolding substitute
    inside_applied = elim (shape (kind_of w)) [
      | is_plain p ↦ rest_applied (λ z. true≢false (rw z at p.no_name)) p.no_wrap p.no_record (rw (flat-is m p.no_wrap p.no_record p.no_name))
      | is_wrap p ↦ wrap_applied p
      | is_record p ↦ record_applied p
      | is_named p ↦ named_applied p
    ]

  -- THE LAW OF SUBSTITUTION, to any depth
  pub within_applied : (deep : ℕ) → Applies deep
  within_applied zero w t b w' b' fills m d e =
      let z : ⊥ = omega arith in
      absurd z
  within_applied (suc deep) w t b w' b' fills m d e = by (within_applied deep) (has_bound_slot bs t) refl
    where
      is : unfolded texts b.words (suc deep) w ≡ t
      is = levels-enough m (suc deep) (omega arith)

      by : Applies deep → (q : Bool) → has_bound_slot bs t ≡ q → Applied texts f t b w' b'
      by less true h = inside_applied deep less w t b w' b' fills m (omega arith) (sym (within-inside texts n bs whole w b refl (rw is h)) ∙ e)
      by less false h =
          unchanged (rw (substitute-none f bs (λ s. filled_none (fills.each s)) t h) m) (sym (within-free texts n bs whole w b refl (rw is h)) ∙ e)
