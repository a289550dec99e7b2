-- Each return of `apply_fields`, over variables for what the calls gave: by the fields that are left; and the pairs that are set. By
-- unfolding the definitions, the laws of a Record added in parts, and those of sizes. Assumes nothing.
use Rattle.std.specs.Prelude.{Result as Answered, Ok, Err}
use mathlib.Core.Path.{◌≡◌, refl, sym, ap, ◌∙◌}
use mathlib.Core.List.{List, [], ◌∷◌}
use Prim.Native.Nat.{ℕ, ◌+◌, ◌-◌, ◌*◌, ◌≤◌, ◌<◌, ◌^◌}
use native.Mathlib.Nat.{zero-add}
use native.Mathlib.Omega.{arith}
use lib.ListN.{get_or, length, take}
use lib.Seq.{take-take}
use Rattle.tok.specs.Word.{payload_of}
use Rattle.tok.specs.Text.{Texts}
use Rattle.tok.specs.Step.{ok, Step, Refusal, next, return}
use Rattle.ptype.proofs.UnfoldLaws.{one_less}
use Rattle.ptype.specs.Add.{Buffer, write}
use Rattle.ptype.specs.Slots.{Binding}
use Rattle.add.specs.declared.AddError.{AddError}
use Rattle.add.specs.declared.Arena.{Arena}
use Rattle.add.specs.Answer.{buffer_of, Allocates, Adds}
use Rattle.add.specs.Goes.{Goes, goes_all, goes_next}
use Rattle.add.specs.Parts.{opened, paired, record_from}
use Rattle.add.specs.WriteLaws.{write_nil, write-append, length-write}
use Rattle.apply.specs.Apply.{apply_pairs, apply_within, only}
use Rattle.apply.specs.TreeLaws.{within_grows}
use Rattle.apply.specs.Sizes.{sizes_of, size_within, word_before, pairs_after}
use Rattle.apply.specs.SizeLaws.{OpenedAt, opened-at, AllSized, pairs-sized, within-sized}
use Rattle.apply.specs.Setting.{Setting}
use Rattle.apply.proofs.Returns.{front-write}

module _ (T : Texts) (n : ℕ) (bs : List Binding) (old : List ℕ) (deep : ℕ) where
  abbrev go : ℕ → Step Buffer Refusal ℕ
  go = apply_within T n bs (only old) deep

  -- the steps of `left` fields from index `at` on
  abbrev steps : (at left : ℕ) → Step Buffer Refusal (List ℕ)
  steps at left = apply_pairs go (only old) at left

  -- the front stays as it was, and as much as was used is used
  front_kept : (base : ℕ) (b : Buffer) (x : ℕ) {w : ℕ} {b₁ : Buffer} → base ≤ b.used → go x b ≡ ok w b₁ → (take base b₁.words ≡ take base b.words) × (b.used ≤ b₁.used)
  front_kept base b x {w} {b₁} h g =
      let grown = within_grows T n bs (only old) deep x b w b₁ g in
      (sym (take-take base b.used b₁.words h) ∙ ap (take base) (sym grown.front.front) ∙ take-take base b.used b.words h, grown.more)

  module _ (here : ℕ) (b : Buffer) {left x : ℕ} (d : left ≡ 0 → ⊥) (ex : x ≡ get_or old (here + 1) 0) where
    first-is : steps here left b ≡ next (go x b) (λ new s. next (steps (here + 2) (left - 1) s) (λ others. return (get_or old here 0 ∷ new ∷ others)))
    unfolding apply_pairs
    first-is = ap (λ m. steps here m b) (one_less d) ∙ rw (← ex)

  -- After the loop: the pairs are those that go by the words used.
  module _ (at fields : ℕ) (b b' : Buffer) (here : ℕ) {left : ℕ} (h : Goes (steps at fields b) (steps here left b')) (z : left ≡ 0) where
    whole_is : steps at fields b ≡ ok (h.before []) b'
    unfolding apply_pairs
    whole_is = h.is ∙ rw z

    sized : AllSized T bs old deep at fields b (h.before []) b'
    sized = pairs-sized T n bs old deep (within-sized T n bs old deep) fields at b (h.before []) b' whole_is

    after_is : steps at fields b ≡ ok (pairs_after T bs old deep b.used at fields) b'
    after_is = whole_is ∙ rw sized.are

-- ── The loop that puts types for the slots of the fields ──

-- where it stands: `left` fields from index `here` on are left
pub record Applying (T : Texts) (bs : List Binding) (deep base : ℕ) (a₀ : Arena) (at fields : ℕ) (a : Arena) (here left : ℕ) : Type 0 where
  pub goes : (n : ℕ) → Goes (steps T n bs (take base a₀.words.now) deep at fields (buffer_of a₀)) (steps T n bs (take base a₀.words.now) deep here left (buffer_of a))
  pub front : take base a.words.now ≡ take base a₀.words.now
  pub lent : a.words.ghost_name ≡ a₀.words.ghost_name
  pub keeps : length a.words.now ≡ length a₀.words.now
  pub past : base ≤ a.used
  pub reads : here + 2 * left < 2 ^ 40

pub applying_all : (T : Texts) (bs : List Binding) (deep base : ℕ) (a : Arena) (at fields : ℕ) {here left : ℕ} → here ≡ at → left ≡ fields → base ≤ a.used → at + 2 * fields < 2 ^ 40
    → Applying T bs deep base a at fields a here left
applying_all T bs deep base a at fields eh el p r = rw (eh, el) record { goes = λ n. goes_all _; front = refl; lent = refl; keeps = refl; past = p; reads = r }

-- the steps of the whole Record
abbrev record-steps : Texts → List Binding → (old : List ℕ) → (deep at fields n : ℕ) → Step Buffer Refusal ℕ
record-steps T bs old deep at fields n = record_from n fields 0 (steps T n bs old deep at fields)

module _ {T : Texts} {bs : List Binding} {deep base : ℕ} {a₀ : Arena} {at fields : ℕ} {a : Arena} {here left : ℕ} (h : Applying T bs deep base a₀ at fields a here left) where
  module _ (d : left ≡ 0 → ⊥) {x : ℕ} {seen : List ℕ} (es : seen ≡ take base a.words.now) (ex : x ≡ get_or seen (here + 1) 0) where
    word-old : x ≡ get_or (take base a₀.words.now) (here + 1) 0
    word-old = ex ∙ ap (λ l. get_or l (here + 1) 0) (es ∙ h.front)

    step-old : {r : Answered ℕ AddError} {a₁ : Arena} → Allocates (λ _ n. apply_within T n bs (only (take base a.words.now)) deep x) a r a₁
        → Allocates (λ _ n. apply_within T n bs (only (take base a₀.words.now)) deep x) a r a₁
    step-old g = rw h.front at g

    pub applying_stop : {e : AddError} {a₁ : Arena} → Allocates (λ _ n. apply_within T n bs (only (take base a.words.now)) deep x) a (Err e) a₁
        → Allocates (λ _ n. record-steps T bs (take base a₀.words.now) deep at fields n) a₀ (Err e) a₁
    unfolding record_from
    applying_stop g = record {
      lent = g.lent ∙ h.lent;
      keeps = g.keeps ∙ h.keeps;
      result = λ _ n. rw ((h.goes n).is, first-is T n bs (take base a₀.words.now) deep here (buffer_of a) d word-old, (step-old g).result T n);
    }

    pub applying_next : {a₁ : Arena} {w here' left' : ℕ} → here' ≡ here + 2 → left' ≡ left - 1 → Allocates (λ _ n. apply_within T n bs (only (take base a.words.now)) deep x) a (Ok w) a₁
        → Applying T bs deep base a₀ at fields a₁ here' left'
    applying_next {a₁} {w} eh el g =
        let old = take base a₀.words.now in
        let g' = step-old g in
        let f = front_kept T 0 bs old deep base (buffer_of a) x h.past (g'.result T 0) in
        rw (eh, el) record {
          goes = λ n. goes_next (steps T n bs old deep (here + 2) (left - 1)) (get_or old here 0) w (buffer_of a₁) (h.goes n)
              (first-is T n bs old deep here (buffer_of a) d word-old ∙ rw (g'.result T n));
          front = f.0 ∙ h.front;
          lent = g.lent ∙ h.lent;
          keeps = g.keeps ∙ h.keeps;
          past = omega (arith, h.past, f.1);
          reads = omega (arith, h.reads, d);
        }

  -- and after it
  module _ (z : left ≡ 0) {a₁ : Arena} where
    pub record_stop : {e : AddError} → Adds (λ _ n. opened n fields) a (Err e) a₁ → Allocates (λ _ n. record-steps T bs (take base a₀.words.now) deep at fields n) a₀ (Err e) a₁
    unfolding record_from
    record_stop g = record {
      lent = g.allocates.lent ∙ h.lent;
      keeps = g.allocates.keeps ∙ h.keeps;
      result = λ _ n. rw (after_is T n bs (take base a₀.words.now) deep at fields (buffer_of a₀) (buffer_of a) here (h.goes n) z, g.allocates.result T n);
    }

    module _ {w : ℕ} (g : Adds (λ _ n. opened n fields) a (Ok w) a₁) where
      at-end : OpenedAt fields a.used w a.words.now a₁.words.now
      at-end = opened-at 0 fields a.words.now a.used w a₁.words.now a₁.used (g.allocates.result T 0)

      front-old : take base a₁.words.now ≡ take base a₀.words.now
      front-old = rw at-end.after (front-write base a.used a.words.now (fields ∷ []) h.past) ∙ h.front

      pub record_setting : {q : ℕ} → base ≤ length a₁.words.now → at + 2 * fields < 2 ^ 40 → q ≡ payload_of w
          → Setting T bs (take base a₁.words.now) deep a₀.used at fields (q + 1) base (length a₁.words.now)
      record_setting c b hq =
          let old = take base a₀.words.now in
          let whole = sized T 0 bs old deep at fields (buffer_of a₀) (buffer_of a) here (h.goes 0) z in
          let word : payload_of w ≡ a.used = rw at-end.word (omega (arith, at-end.room)) in
          rw front-old record {
            fits = omega (arith, whole.used, at-end.room);
            reads = b;
            writes = omega (arith, at-end.room);
            past = omega (arith, h.past);
            lent = c;
          }

      pub record_put : {q : ℕ} {a₂ : Arena} → q ≡ payload_of w → a₂.words.ghost_name ≡ a₁.words.ghost_name → a₂.used ≡ a₁.used
          → a₂.words.now ≡ write a₁.words.now (q + 1) (pairs_after T bs (take base a₁.words.now) deep a₀.used at fields)
          → Allocates (λ _ n. record-steps T bs (take base a₀.words.now) deep at fields n) a₀ (Ok w) a₂
      unfolding record_from paired
      record_put {q} hq el eu h₂ =
          let old = take base a₀.words.now in
          let place : payload_of w + 1 + 2 * 0 ≡ payload_of w + 1 = omega arith in
          let e = rw front-old at h₂ in
          record {
            lent = el ∙ g.allocates.lent ∙ h.lent;
            keeps = ap length e ∙ length-write a₁.words.now (q + 1) (pairs_after T bs old deep a₀.used at fields) ∙ g.allocates.keeps ∙ h.keeps;
            result = λ _ n. rw (after_is T n bs old deep at fields (buffer_of a₀) (buffer_of a) here (h.goes n) z, g.allocates.result T n, e, eu, hq, place);
          }

-- How many words fields add: the first, and the others.
module _ (size : ℕ → ℕ) (old : List ℕ) (here left : ℕ) where
  pub sizes_all : (here' left' : ℕ) → here' ≡ here → left' ≡ left → sizes_of size old here left ≡ 0 + sizes_of size old here' left'
  sizes_all here' left' eh el = rw (eh, el) (sym (zero-add _))

  pub sizes_none : left ≡ 0 → sizes_of size old here left ≡ 0
  unfolding sizes_of
  sizes_none z = rw z

  pub sizes_first : {x : ℕ} → (left ≡ 0 → ⊥) → x ≡ get_or old (here + 1) 0 → sizes_of size old here left ≡ size x + sizes_of size old (here + 2) (left - 1)
  unfolding sizes_of
  sizes_first d e = ap (sizes_of size old here) (one_less d) ∙ rw e

  pub sizes_next : {x : ℕ} (here' left' : ℕ) → here' ≡ here + 2 → left' ≡ left - 1 → (left ≡ 0 → ⊥) → x ≡ get_or old (here + 1) 0
      → sizes_of size old here left ≡ size x + sizes_of size old here' left'
  sizes_next here' left' eh el d e = rw (eh, el) (sizes_first d e)

-- ── The loop that sets the pairs ──

-- Pairs set one after the other.
module _ (T : Texts) (bs : List Binding) (old : List ℕ) (deep : ℕ) (l : List ℕ) (here end to : ℕ) {left : ℕ} where
  pub pairs_end : left ≡ 0 → write l to (pairs_after T bs old deep end here left) ≡ l
  unfolding pairs_after
  pairs_end z = rw z (write_nil l to)

  pub pairs_next : {x name w size : ℕ} {l' : List ℕ} → (left ≡ 0 → ⊥) → name ≡ get_or old here 0 → x ≡ get_or old (here + 1) 0 → size ≡ size_within T bs old deep x
      → w ≡ word_before T bs old deep (end + size) size x → l' ≡ write l to (name ∷ w ∷ [])
      → write l to (pairs_after T bs old deep end here left) ≡ write l' (to + 2) (pairs_after T bs old deep (end + size) (here + 2) (left - 1))
  unfolding pairs_after
  pairs_next {x} {name} {w} {size} d en ex es ew e =
      ap (λ m. write l to (pairs_after T bs old deep end here m)) (one_less d)
      ∙ rw (← ex, ← en, ← es, ← ew, e) (write-append l to (name ∷ w ∷ []) (pairs_after T bs old deep (end + size) (here + 2) (left - 1)))

-- where it stands: all pairs written are those of the `left` fields from index `here` on, written from `to` on over what was set
pub record Writing (T : Texts) (bs : List Binding) (deep base : ℕ) (l₀ : List ℕ) (used at fields place : ℕ) (l : List ℕ) (end here left to : ℕ) : Type 0 where
  pub front : take base l ≡ take base l₀
  pub long : length l ≡ length l₀
  pub setting : Setting T bs (take base l₀) deep end here left to base (length l₀)
  pub is : write l₀ place (pairs_after T bs (take base l₀) deep used at fields) ≡ write l to (pairs_after T bs (take base l₀) deep end here left)

pub writing_all : {T : Texts} {bs : List Binding} {deep base : ℕ} (l : List ℕ) {used at fields place here left to : ℕ} → here ≡ at → left ≡ fields → to ≡ place
    → Setting T bs (take base l) deep used at fields place base (length l) → Writing T bs deep base l used at fields place l used here left to
writing_all l eh el et s = rw (eh, el, et) record { front = refl; long = refl; setting = s; is = refl }

module _ {T : Texts} {bs : List Binding} {deep base : ℕ} {l₀ : List ℕ} {used at fields place : ℕ} {l : List ℕ} {end here left to : ℕ}
    (h : Writing T bs deep base l₀ used at fields place l end here left to) where
  pub writing_end : left ≡ 0 → l ≡ write l₀ place (pairs_after T bs (take base l₀) deep used at fields)
  writing_end z = sym (h.is ∙ pairs_end T bs (take base l₀) deep l here end to z)

  module _ (d : left ≡ 0 → ⊥) {x : ℕ} (ex : x ≡ get_or (take base l) (here + 1) 0) where
    type-old : x ≡ get_or (take base l₀) (here + 1) 0
    type-old = rw h.front at ex

    first : sizes_of (size_within T bs (take base l₀) deep) (take base l₀) here left
        ≡ size_within T bs (take base l₀) deep x + sizes_of (size_within T bs (take base l₀) deep) (take base l₀) (here + 2) (left - 1)
    first = sizes_first (size_within T bs (take base l₀) deep) (take base l₀) here left d type-old

    pub size_fits : size_within T bs (take base l) deep x ≤ 8192
    size_fits = rw h.front (omega (arith, first, h.setting.fits))

    module _ {size : ℕ} (es : size ≡ size_within T bs (take base l) deep x) where
      size-old : size ≡ size_within T bs (take base l₀) deep x
      size-old = rw h.front at es

      pub size-ends : end + size ≤ 8192
      size-ends = omega (arith, first, size-old, h.setting.fits)

      pub writing_next : {name w here' left' to' : ℕ} {l' : List ℕ} → here' ≡ here + 2 → left' ≡ left - 1 → to' ≡ to + 2 → name ≡ get_or (take base l) here 0
          → w ≡ word_before T bs (take base l) deep (end + size) size x
          → l' ≡ write l to (name ∷ w ∷ []) → Writing T bs deep base l₀ used at fields place l' (end + size) here' left' to'
      writing_next {name} {w} eh el et en ew e = rw (eh, el, et) record {
        front = rw e (front-write base to l (name ∷ w ∷ []) h.setting.past) ∙ h.front;
        long = rw e (length-write l to (name ∷ w ∷ [])) ∙ h.long;
        setting = record {
          fits = omega (arith, first, size-old, h.setting.fits);
          reads = omega (arith, h.setting.reads, d);
          writes = omega (arith, h.setting.writes, d);
          past = omega (arith, h.setting.past);
          lent = h.setting.lent;
        };
        is = h.is ∙ pairs_next T bs (take base l₀) deep l here end to d (rw h.front at en) type-old size-old (rw h.front at ew) e;
      }
