-- `apply_word` is `apply_slot_binding` of ptype, of the tree that the word means: what the code does by the words used at the start is what
-- the rules say of the type, by the buffer as it is at the time, since the buffer only grows. By induction on the depth. Assumes nothing.
use Rattle.std.specs.Prelude.{◌≡◌, Bool, eqb, take}
use Rattle.std.proofs.Math.Path.{refl}
use Rattle.std.proofs.Common.{sym, ap, ◌∙◌, true≢false, arith, take-take, eqb-true}
use Rattle.std.proofs.Math.Bool.{true, false}
use Rattle.std.proofs.Math.Option.{Option, none, some}
use mathlib.Core.List.{List, ◌∷◌}
use Prim.Native.Nat.{ℕ, zero, suc, ◌+◌, ◌*◌, ◌<◌, ◌≤◌}
use Rattle.std.proofs.Math.Decide.{ℕ_discrete}
use Rattle.std.proofs.Math.ListN.{get_or}
use Rattle.tok.specs.Word.{kind_of, payload_of}
use Rattle.tok.specs.Text.{Texts, name_bytes}
use Rattle.tok.specs.Step.{Result, ok, refused, Step, Refusal, next, return, when}
use Rattle.ptype.specs.Ty.{Ty, Fields, plain, wrap, rec, named, depth_of}
use Rattle.ptype.specs.Words.{ty_of, unfolded, inner_word, field_count, fields_of}
use Rattle.ptype.specs.Kinds.{wraps, names, shape, is_plain, is_wrap, is_record, is_named}
use Rattle.ptype.proofs.InsideLaws.{throughout_here}
use Rattle.ptype.specs.Add.{Buffer, buffer, add_wrap, add_record}
use Rattle.ptype.specs.Slots.{Binding, bound_to, bound_or, is_some, has_bound_slot, any_bound_slot, apply_slot_binding, apply_fields}
use Rattle.add.specs.Means.{Means, Grown}
use Rattle.add.specs.StepLaws.{next-ok, of-answer}
use Rattle.add.specs.AddLaws.{grown-same, grown-then, means-grown, word-grown, wrap-grown, record_grown}
use Rattle.slots.specs.BindLaws.{if_true, if_false}
use Rattle.slots.specs.Substitute.{Filling}
use Rattle.apply.specs.Apply.{apply_pairs, apply_inside, apply_within, apply_word, whole, only}
use Rattle.apply.specs.StepLaws.{inside-slot, inside-wrap, inside_record, inside-rest, within-free, within-inside}
use Rattle.apply.specs.ApplyLaws.{FieldsAt, done, more, fields-grown, inner-is, inner-means, fields-is, fields-mean, flat-is, named-is, levels-enough, Fills, Applied, within_applied}

-- The buffer only grows, whatever its words are.
abbrev Grows : (ℕ → Step Buffer Refusal ℕ) → Type 0
Grows go = (w : ℕ) (b : Buffer) (w' : ℕ) (b' : Buffer) → go w b ≡ ok w' b' → Grown b b'

pairs_grow : (seen : Buffer → List ℕ) (go : ℕ → Step Buffer Refusal ℕ) → Grows go → (left at : ℕ) (b : Buffer) (pairs : List ℕ) (b' : Buffer)
    → apply_pairs go seen at left b ≡ ok pairs b' → Grown b b'
unfolding apply_pairs
pairs_grow seen go h zero at b pairs b' e = of-answer (λ _ s. Grown b s) e (grown-same b)
pairs_grow seen go h (suc left) at b pairs b' e =
    let rest : ℕ → Step Buffer Refusal (List ℕ) = λ new s. next (apply_pairs go seen (at + 2) left s) (λ others. return (get_or (seen b) at 0 ∷ new ∷ others)) in
    let x = next-ok (go (get_or (seen b) (at + 1) 0) b) rest pairs b' e in
    let y = next-ok (apply_pairs go seen (at + 2) left x.1) (λ others. return (get_or (seen b) at 0 ∷ x.0 ∷ others)) pairs b' x.3 in
    of-answer (λ _ s. Grown b s) y.3 (grown-then (h (get_or (seen b) (at + 1) 0) b x.0 x.1 x.2) (pairs_grow seen go h left (at + 2) x.1 y.0 y.1 y.2))

module _ (texts : Texts) (n : ℕ) (bs : List Binding) (seen : Buffer → List ℕ) where
  inside_grows : (go : ℕ → Step Buffer Refusal ℕ) → Grows go → Grows (apply_inside texts n bs seen go)
  inside_grows go h w b w' b' e = slot (ℕ_discrete (kind_of w) 10)
    where
      list : (kind_of w ≡ 10 → ⊥) → wraps (kind_of w) ≡ false → Dec (kind_of w ≡ 8) → Grown b b'
      list ns nw (yes p) =
          let x = next-ok (apply_pairs go seen (payload_of w + 1) (field_count (seen b) w) b) (add_record texts n) w' b' (sym (inside_record texts n bs seen go w b refl ns nw p) ∙ e) in
          grown-then (pairs_grow seen go h (field_count (seen b) w) (payload_of w + 1) b x.0 x.1 x.2) (record_grown texts n x.0 x.1 w' b' x.3)
      list ns nw (no p) = of-answer (λ _ s. Grown b s) (sym (inside-rest texts n bs seen go w b refl ns nw p) ∙ e) (grown-same b)

      inner : (kind_of w ≡ 10 → ⊥) → (q : Bool) → wraps (kind_of w) ≡ q → Grown b b'
      inner ns true p =
          let x = next-ok (go (inner_word (seen b) w) b) (add_wrap texts n (kind_of w)) w' b' (sym (inside-wrap texts n bs seen go w b refl ns p) ∙ e) in
          grown-then (h (inner_word (seen b) w) b x.0 x.1 x.2) (wrap-grown texts n (kind_of w) x.0 x.1 w' b' x.3)
      inner ns false p = list ns p (ℕ_discrete (kind_of w) 8)

      slot : Dec (kind_of w ≡ 10) → Grown b b'
      slot (yes p) = of-answer (λ _ s. Grown b s) (sym (inside-slot texts n bs seen go w b refl p) ∙ e) (grown-same b)
      slot (no p) = inner p (wraps (kind_of w)) refl

  pub within_grows : (deep : ℕ) → Grows (apply_within texts n bs seen deep)
  unfolding apply_within
  within_grows zero w b w' b' e = of-answer (λ _ s. Grown b s) e (grown-same b)
  within_grows (suc deep) w b w' b' e = by (within_grows deep) (has_bound_slot bs (unfolded texts (seen b) (suc deep) w)) refl
    where
      by : Grows (apply_within texts n bs seen deep) → (q : Bool) → has_bound_slot bs (unfolded texts (seen b) (suc deep) w) ≡ q → Grown b b'
      by ih true h = inside_grows (apply_within texts n bs seen deep) ih w b w' b' (sym (within-inside texts n bs seen w b refl h) ∙ e)
      by ih false h = of-answer (λ _ s. Grown b s) (sym (within-free texts n bs seen w b refl h) ∙ e) (grown-same b)

-- The used words alone, and the buffer with all of its words.
abbrev used-only : Buffer → Buffer
used-only b = buffer (take b.used b.words) b.used

only-used : (b : Buffer) → Grown b (used-only b)
only-used b = record { front = record { front = sym (take-take b.used b.used b.words (omega arith)) }; more = omega arith }

used_grows : (b : Buffer) → Grown (used-only b) b
used_grows b = record { front = record { front = take-take b.used b.used b.words (omega arith) }; more = omega arith }

-- what is inside an Option or an Array is less deep
inner-less : {texts : Texts} {b : Buffer} {w : ℕ} {t : Ty} {f : ℕ} (m : Means texts b w t) → wraps (kind_of w) ≡ true → depth_of t < suc f → depth_of (ty_of texts b.words (inner_word b.words w)) < f
unfolding depth_of
inner-less m p d = omega (arith, rw (inner-is m p) at d)

module _ (texts : Texts) (n : ℕ) (bs : List Binding) where
  -- The same by the tree, of a word that means a type less than `deep` deep.
  abbrev Same : (deep : ℕ) → Type 0
  Same deep = (w : ℕ) (t : Ty) (b : Buffer) → Means texts b w t → depth_of t < deep → apply_within texts n bs whole deep w b ≡ apply_slot_binding texts n bs t w b

  fields-same : (deep : ℕ) → Same deep → (left : ℕ) {b : Buffer} {at : ℕ} {fs : Fields} → FieldsAt texts b deep at left fs
      → apply_pairs (apply_within texts n bs whole deep) whole at left b ≡ apply_fields texts n bs fs at b
  unfolding apply_pairs apply_slot_binding
  fields-same deep h zero done = refl
  fields-same deep h (suc left) {b = b} (more {at = at} {t = t} {fs = gs} l m d fs) =
      rw (← h (get_or b.words (at + 1) 0) t b m d)
      (by (λ new s e. fields-same deep h left (fields-grown (within_grows texts n bs whole deep (get_or b.words (at + 1) 0) b new s e) fs))
      (apply_within texts n bs whole deep (get_or b.words (at + 1) 0) b) refl)
    where
      by : ((new : ℕ) (s : Buffer) → apply_within texts n bs whole deep (get_or b.words (at + 1) 0) b ≡ ok new s
          → apply_pairs (apply_within texts n bs whole deep) whole (at + 2) left s ≡ apply_fields texts n bs gs (at + 2) s)
          → (r : Result Buffer Refusal ℕ) → apply_within texts n bs whole deep (get_or b.words (at + 1) 0) b ≡ r
          → next r (λ new s. next (apply_pairs (apply_within texts n bs whole deep) whole (at + 2) left s) (λ others. return (get_or b.words at 0 ∷ new ∷ others)))
          ≡ next r (λ new s. next (apply_fields texts n bs gs (at + 2) s) (λ others. return (get_or b.words at 0 ∷ new ∷ others)))
      by same (ok new s) e = rw (same new s e)
      by same (refused x) e = refl

  -- by what the word holds
  module _ (deep : ℕ) (h : Same deep) (w : ℕ) (t : Ty) (b : Buffer) (m : Means texts b w t) (d : depth_of t < suc deep) where
    is : unfolded texts b.words (suc deep) w ≡ t
    is = levels-enough m (suc deep) (omega arith)

    free : has_bound_slot bs t ≡ false → apply_within texts n bs whole (suc deep) w b ≡ ok w b
    free e = within-free texts n bs whole w b refl (rw is e)

    goes : has_bound_slot bs t ≡ true → apply_within texts n bs whole (suc deep) w b ≡ apply_inside texts n bs whole (apply_within texts n bs whole deep) w b
    goes e = within-inside texts n bs whole w b refl (rw is e)

    wrap-same : wraps (kind_of w) ≡ true → apply_within texts n bs whole (suc deep) w b ≡ apply_slot_binding texts n bs t w b
    unfolding apply_slot_binding has_bound_slot when depth_of
    wrap-same p = by (has_bound_slot bs u) refl
      where
        u : Ty
        u = ty_of texts b.words (inner_word b.words w)

        by : (q : Bool) → has_bound_slot bs u ≡ q → apply_within texts n bs whole (suc deep) w b ≡ apply_slot_binding texts n bs t w b
        by true z =
            goes (rw (inner-is m p) z)
            ∙ inside-wrap texts n bs whole (apply_within texts n bs whole deep) w b refl (λ k. true≢false (sym (rw k at p))) p
            ∙ rw (h (inner_word b.words w) u b (inner-means m p) (omega (arith, rw (inner-is m p) at d)), inner-is m p, z)
        by false z = free (rw (inner-is m p) z) ∙ rw (inner-is m p, z)

    record_same : kind_of w ≡ 8 → apply_within texts n bs whole (suc deep) w b ≡ apply_slot_binding texts n bs t w b
    unfolding apply_slot_binding has_bound_slot when depth_of
    record_same p = by (any_bound_slot bs fs) refl
      where
        fs : Fields
        fs = fields_of (ty_of texts b.words) texts b.words w

        by : (q : Bool) → any_bound_slot bs fs ≡ q → apply_within texts n bs whole (suc deep) w b ≡ apply_slot_binding texts n bs t w b
        by true z =
            goes (rw (fields-is m p) z)
            ∙ inside_record texts n bs whole (apply_within texts n bs whole deep) w b refl (λ k. omega arith) (rw p) p
            ∙ rw (fields-same deep h (field_count b.words w) (fields-mean m deep p (omega arith)), fields-is m p, z)
        by false z = free (rw (fields-is m p) z) ∙ rw (fields-is m p, z)

    named-same : names (kind_of w) ≡ true → apply_within texts n bs whole (suc deep) w b ≡ apply_slot_binding texts n bs t w b
    unfolding apply_slot_binding has_bound_slot bound_or
    named-same p = by (eqb (kind_of w) 10) refl
      where
        s : List ℕ
        s = name_bytes texts w

        tree : {x : ℕ} → apply_slot_binding texts n bs (named (kind_of w) s) w b ≡ ok x b → apply_slot_binding texts n bs t w b ≡ ok x b
        tree e = rw (named-is m p) e

        has : {q : Bool} → has_bound_slot bs (named (kind_of w) s) ≡ q → has_bound_slot bs t ≡ q
        has e = rw (named-is m p) e

        slot : eqb (kind_of w) 10 ≡ true → (o : Option ℕ) → bound_to s bs ≡ o → apply_within texts n bs whole (suc deep) w b ≡ apply_slot_binding texts n bs t w b
        slot z o e = go o e
          where
            bound : has_bound_slot bs (named (kind_of w) s) ≡ is_some (bound_to s bs)
            bound = if_true (is_some (bound_to s bs)) false (eqb (kind_of w) 10) z

            put : apply_slot_binding texts n bs (named (kind_of w) s) w b ≡ ok (bound_or w (bound_to s bs)) b
            put = ap (λ (step : Step Buffer Refusal ℕ). step b) (if_true (return (bound_or w (bound_to s bs))) (return w) (eqb (kind_of w) 10) z)

            go : (o : Option ℕ) → bound_to s bs ≡ o → apply_within texts n bs whole (suc deep) w b ≡ apply_slot_binding texts n bs t w b
            go none y = free (has (bound ∙ rw y)) ∙ sym (tree (put ∙ rw y))
            go (some x) y = goes (has (bound ∙ rw y)) ∙ inside-slot texts n bs whole (apply_within texts n bs whole deep) w b refl (eqb-true (kind_of w) 10 z) ∙ sym (tree put)

        by : (q : Bool) → eqb (kind_of w) 10 ≡ q → apply_within texts n bs whole (suc deep) w b ≡ apply_slot_binding texts n bs t w b
        by true z = slot z (bound_to s bs) refl
        by false z =
            free (has (if_false (is_some (bound_to s bs)) false (eqb (kind_of w) 10) z))
            ∙ sym (tree (ap (λ (step : Step Buffer Refusal ℕ). step b) (if_false (return (bound_or w (bound_to s bs))) (return w) (eqb (kind_of w) 10) z)))

    flat-same : wraps (kind_of w) ≡ false → (kind_of w ≡ 8 → ⊥) → names (kind_of w) ≡ false → apply_within texts n bs whole (suc deep) w b ≡ apply_slot_binding texts n bs t w b
    unfolding apply_slot_binding has_bound_slot
    flat-same x y z = free (rw (flat-is m x y z)) ∙ rw (flat-is m x y z)

    level-same : apply_within texts n bs whole (suc deep) w b ≡ apply_slot_binding texts n bs t w b
    level-same = elim (shape (kind_of w)) [
      | is_plain p ↦ flat-same p.no_wrap p.no_record p.no_name
      | is_wrap p ↦ wrap-same p
      | is_record p ↦ record_same p
      | is_named p ↦ named-same p
    ]

  within_same : (deep : ℕ) → Same deep
  within_same zero w t b m d =
      let z : ⊥ = omega arith in
      absurd z
  within_same (suc deep) w t b m d = level-same deep (within_same deep) w t b m d

  -- What was used at the start stays as it was, so it makes no difference to read only that.
  module _ (b₀ : Buffer) where
    abbrev SameRead : (deep : ℕ) → Type 0
    SameRead deep =
        (w : ℕ) (t : Ty) (b : Buffer) → Means texts b₀ w t → Grown b₀ b → depth_of t < deep → apply_within texts n bs (only b₀.words) deep w b ≡ apply_within texts n bs whole deep w b

    fields_read : (deep : ℕ) → SameRead deep → (left : ℕ) {at : ℕ} {fs : Fields} → FieldsAt texts b₀ deep at left fs → (b : Buffer) → Grown b₀ b
        → apply_pairs (apply_within texts n bs (only b₀.words) deep) (only b₀.words) at left b ≡ apply_pairs (apply_within texts n bs whole deep) whole at left b
    unfolding apply_pairs
    fields_read deep h zero done b g = refl
    fields_read deep h (suc left) (more {at = at} {t = t} l m d fs) b g =
        let x : get_or b₀.words at 0 ≡ get_or b.words at 0 = word-grown at g (omega arith) in
        let y : get_or b₀.words (at + 1) 0 ≡ get_or b.words (at + 1) 0 = word-grown (at + 1) g (omega arith) in
        rw (h (get_or b₀.words (at + 1) 0) t b m g d, y, x)
        (by (λ new s e. fields_read deep h left fs s (grown-then g (within_grows texts n bs whole deep (get_or b.words (at + 1) 0) b new s e)))
        (apply_within texts n bs whole deep (get_or b.words (at + 1) 0) b) refl)
      where
        by : ((new : ℕ) (s : Buffer) → apply_within texts n bs whole deep (get_or b.words (at + 1) 0) b ≡ ok new s
            → apply_pairs (apply_within texts n bs (only b₀.words) deep) (only b₀.words) (at + 2) left s ≡ apply_pairs (apply_within texts n bs whole deep) whole (at + 2) left s)
            → (r : Result Buffer Refusal ℕ) → apply_within texts n bs whole deep (get_or b.words (at + 1) 0) b ≡ r
            → next r (λ new s. next (apply_pairs (apply_within texts n bs (only b₀.words) deep) (only b₀.words) (at + 2) left s) (λ others. return (get_or b.words at 0 ∷ new ∷ others)))
            ≡ next r (λ new s. next (apply_pairs (apply_within texts n bs whole deep) whole (at + 2) left s) (λ others. return (get_or b.words at 0 ∷ new ∷ others)))
        by same (ok new s) e = rw (same new s e)
        by same (refused x) e = refl

    module _ (deep : ℕ) (h : SameRead deep) (w : ℕ) (t : Ty) (b : Buffer) (m : Means texts b₀ w t) (g : Grown b₀ b) (d : depth_of t < suc deep) where
      abbrev old : Buffer → List ℕ
      old = only b₀.words

      abbrev Alike : Type 0
      Alike = apply_inside texts n bs old (apply_within texts n bs old deep) w b ≡ apply_inside texts n bs whole (apply_within texts n bs whole deep) w b

      inside-read : Alike
      inside-read = slot (ℕ_discrete (kind_of w) 10)
        where
          list : (kind_of w ≡ 10 → ⊥) → wraps (kind_of w) ≡ false → Dec (kind_of w ≡ 8) → Alike
          list ns nw (yes p) =
              let l : payload_of w + 1 + 2 * field_count b₀.words w ≤ b₀.used = (throughout_here {deep = 1} refl (m.within 1)).to_fields p in
              let x : field_count b₀.words w ≡ field_count b.words w = ap payload_of (word-grown (payload_of w) g (omega arith)) in
              inside_record texts n bs old (apply_within texts n bs old deep) w b refl ns nw p
              ∙ ap (λ r. next r (add_record texts n)) (fields_read deep h (field_count b₀.words w) (fields-mean m deep p (omega arith)) b g)
              ∙ rw x (sym (inside_record texts n bs whole (apply_within texts n bs whole deep) w b refl ns nw p))
          list ns nw (no p) = inside-rest texts n bs old (apply_within texts n bs old deep) w b refl ns nw p ∙ sym (inside-rest texts n bs whole (apply_within texts n bs whole deep) w b refl ns nw p)

          inner : (kind_of w ≡ 10 → ⊥) → (q : Bool) → wraps (kind_of w) ≡ q → Alike
          inner ns true p =
              let l : payload_of w < b₀.used = (throughout_here {deep = 1} refl (m.within 1)).to_inner p in
              let x : inner_word b₀.words w ≡ inner_word b.words w = word-grown (payload_of w) g l in
              inside-wrap texts n bs old (apply_within texts n bs old deep) w b refl ns p
              ∙ ap (λ r. next r (add_wrap texts n (kind_of w))) (h (inner_word b₀.words w) (ty_of texts b₀.words (inner_word b₀.words w)) b (inner-means m p) g (inner-less m p d))
              ∙ rw x (sym (inside-wrap texts n bs whole (apply_within texts n bs whole deep) w b refl ns p))
          inner ns false p = list ns p (ℕ_discrete (kind_of w) 8)

          slot : Dec (kind_of w ≡ 10) → Alike
          slot (yes p) = inside-slot texts n bs old (apply_within texts n bs old deep) w b refl p ∙ sym (inside-slot texts n bs whole (apply_within texts n bs whole deep) w b refl p)
          slot (no p) = inner p (wraps (kind_of w)) refl

      level-read : apply_within texts n bs old (suc deep) w b ≡ apply_within texts n bs whole (suc deep) w b
      level-read = by (has_bound_slot bs t) refl
        where
          is : unfolded texts b.words (suc deep) w ≡ t
          is = levels-enough (means-grown g m) (suc deep) (omega arith)

          was : unfolded texts b₀.words (suc deep) w ≡ t
          was = levels-enough m (suc deep) (omega arith)

          by : (q : Bool) → has_bound_slot bs t ≡ q → apply_within texts n bs old (suc deep) w b ≡ apply_within texts n bs whole (suc deep) w b
          by true z = within-inside texts n bs old w b refl (rw was z) ∙ inside-read ∙ sym (within-inside texts n bs whole w b refl (rw is z))
          by false z = within-free texts n bs old w b refl (rw was z) ∙ sym (within-free texts n bs whole w b refl (rw is z))

    within-read : (deep : ℕ) → SameRead deep
    within-read zero w t b m g d =
        let z : ⊥ = omega arith in
        absurd z
    within-read (suc deep) w t b m g d = level-read deep (within-read deep) w t b m g d

  word_read : {w : ℕ} {t : Ty} {b : Buffer} → Means texts b w t → apply_word texts n bs w b ≡ apply_within texts n bs whole 33 w b
  unfolding apply_word
  word_read {w} {t} {b} m = within-read (used-only b) 33 w t b (means-grown (only-used b) m) (used_grows b) (omega (arith, m.shallow))

  -- THE LAW OF WORDS AND TREES
  pub apply-tree : {w : ℕ} {t : Ty} {b : Buffer} → Means texts b w t → apply_word texts n bs w b ≡ apply_slot_binding texts n bs t w b
  apply-tree {w} {t} {b} m = word_read m ∙ within_same 33 w t b m (omega (arith, m.shallow))

  -- Where the bindings mean the filling f, the word given means the type with that filling put in.
  pub apply-means : (f : Filling) {b b' : Buffer} {w w' : ℕ} {t : Ty} → Fills texts f bs b → Means texts b w t → apply_word texts n bs w b ≡ ok w' b' → Applied texts f t b w' b'
  apply-means f {b} {b'} {w} {w'} {t} fills m e = within_applied texts n f bs 33 w t b w' b' fills m (omega (arith, m.shallow)) (sym (word_read m) ∙ e)

  -- So `apply_slot_binding` of a word that means a type gives a word that means the type with the filling put in.
  pub substitution_means : (f : Filling) {b b' : Buffer} {w w' : ℕ} {t : Ty} → Fills texts f bs b → Means texts b w t → apply_slot_binding texts n bs t w b ≡ ok w' b' → Applied texts f t b w' b'
  substitution_means f fills m e = apply-means f fills m (apply-tree m ∙ e)

  -- A type without a bound slot: the same word, and nothing is added.
  pub apply-unbound : (w : ℕ) (b : Buffer) → has_bound_slot bs (ty_of texts (take b.used b.words) w) ≡ false → apply_word texts n bs w b ≡ ok w b
  unfolding apply_word ty_of
  apply-unbound w b h = within-free texts n bs (only (take b.used b.words)) w b refl h

  -- Whatever the word is, the buffer only grows.
  pub apply_grows : (w : ℕ) (b : Buffer) {w' : ℕ} {b' : Buffer} → apply_word texts n bs w b ≡ ok w' b' → Grown b b'
  unfolding apply_word
  apply_grows w b {w'} {b'} e = within_grows texts n bs (only (take b.used b.words)) 33 w b w' b' e

-- Of a type without a bound slot it gives the same word, and nothing is added.
pub substitution_unbound : (texts : Texts) (n : ℕ) (bs : List Binding) (t : Ty) (w : ℕ) (b : Buffer) → has_bound_slot bs t ≡ false → apply_slot_binding texts n bs t w b ≡ ok w b
unfolding apply_slot_binding has_bound_slot when bound_or
substitution_unbound texts n bs (plain k) w b h = refl
substitution_unbound texts n bs (wrap k t) w b h = rw h
substitution_unbound texts n bs (rec fs) w b h = rw h
substitution_unbound texts n bs (named k s) w b h = by (eqb k 10) (bound_to s bs) h
  where
    by : (q : Bool) (o : Option ℕ) → elim q [ true ↦ is_some o | false ↦ false ] ≡ false
        → (elim q as (λ _. Step Buffer Refusal ℕ) [ true ↦ return (bound_or w o) | false ↦ return w ]) b ≡ ok w b
    by true none e = refl
    by true (some x) e = cc
    by false o e = refl
