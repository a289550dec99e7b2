-- Adding types in two runs: Option, Array and Record of words of one type give words of one type. Assumes nothing.
use Prim.Native.Nat.{ℕ, suc, ◌+◌, ◌/◌, ◌^◌, ◌≤◌, ◌<◌, min}
use Rattle.std.proofs.Common.{add-zero, sym, ◌∙◌, true≢false, get_or-take, leb-true, le-leb}
use native.Mathlib.Omega.{arith}
use Rattle.std.specs.Prelude.{◌≡◌, Bool, leb}
use Rattle.std.proofs.Math.Path.{refl, ap}
use Rattle.std.proofs.Math.Bool.{true, false}
use mathlib.Core.List.{List, [], ◌∷◌}
use Rattle.std.proofs.Math.ListN.{get_or, length}
use Rattle.tok.specs.Word.{payload_of, word_of}
use Rattle.tok.specs.Text.{Texts, name_bytes}
use Rattle.tok.specs.Step.{ok, refusal, give, refuse, when}
use Rattle.tok.proofs.WordLaws.{kind_of-word_of, payload_of-word_of}
use Rattle.ptype.specs.Ty.{Ty, Fields, wrap, rec, no_field, field, depth_of, deepest}
use Rattle.ptype.specs.Words.{ty_of, field_count}
use Rattle.ptype.specs.Add.{Buffer, append, type_room, add_type, add_wrap, add_record}
use Rattle.ptype.specs.Kinds.{wraps}
use Rattle.laws.specs.Writes.{length-write}
use Rattle.tworuns.specs.Means.{Means, wrapped, recorded, FieldsMean, no_more, one_more, means-ty_of, means_grow, Grown}
use Rattle.tworuns.specs.Runs.{Runs, SameType, SameUsed, Used}
use Rattle.tworuns.specs.Logic.{Typed, typed, stopped, cut, Words}
use Rattle.tworuns.specs.Written.{get_d_written, take-written, grown-append}

-- Names and type words in a list, as the fields that they are.
pub data PairsMean (t : Texts) (types : List ℕ) (used : ℕ) : List ℕ → Fields → Type 0 where
  no_pair : PairsMean t types used [] no_field
  pair : {n w : ℕ} {m : List ℕ} {x : Ty} {ps : List ℕ} {fs : Fields} → name_bytes t n ≡ m → Means t types used w x → PairsMean t types used ps fs
      → PairsMean t types used (n ∷ w ∷ ps) (field m x fs)

-- the same fields in two runs
pub record SamePairs (r : Runs) (b b' : Buffer) (ps ps' : List ℕ) : Type 0 where
  pub fields : Fields
  pub left : PairsMean r.first.texts b.words b.used ps fields
  pub right : PairsMean r.second.texts b'.words b'.used ps' fields
  pub low : deepest fields ≤ 32
  pub words : r.strict → ps ≡ ps'

pub pairs_grow : {t : Texts} {b d : Buffer} {ps : List ℕ} {fs : Fields} → Grown b d → PairsMean t b.words b.used ps fs → PairsMean t d.words d.used ps fs
pairs_grow g no_pair = no_pair
pairs_grow g (pair n m ms) = pair n (means_grow g m) (pairs_grow g ms)

pairs-long : {t t' : Texts} {b b' : Buffer} {ps ps' : List ℕ} {fs : Fields} → PairsMean t b.words b.used ps fs → PairsMean t' b'.words b'.used ps' fs
    → length ps ≡ length ps'
pairs-long no_pair no_pair = refl
pairs-long (pair n m ms) (pair n' m' ms') = ap (λ (k : ℕ). suc (suc k)) (pairs-long ms ms')

-- Pairs that stand in a buffer are fields there.
pairs-stand : {t : Texts} {d : Buffer} {ps : List ℕ} {fs : Fields} → PairsMean t d.words d.used ps fs
    → (at : ℕ) → ((i : ℕ) → i < length ps → get_or d.words (at + i) 0 ≡ get_or ps i 0) → at + length ps ≤ d.used → FieldsMean t d.words d.used at (length ps / 2) fs
pairs-stand no_pair at h l = no_more
pairs-stand {t} {d} (pair {n = n} {w = w} {m = m} {x = x} {ps = ps} {fs = fs} q means rest) at h l =
    let half : length (n ∷ w ∷ ps) / 2 ≡ suc (length ps / 2) = omega arith in
    let name : get_or d.words at 0 ≡ n = ap (λ (p : ℕ). get_or d.words p 0) (sym (add-zero at)) ∙ h 0 (omega arith) in
    rw half (one_more {at = at} {k = length ps / 2} {n = m} {x = x} {fs = fs} (rw name q) (omega arith) (rw (h 1 (omega arith)) means)
    (pairs-stand rest (at + 2) (λ i k. ap (λ (p : ℕ). get_or d.words p 0) (omega arith) ∙ h (suc (suc i)) (omega arith)) (omega arith)))

-- A word of a kind and a place, where the buffer has its limit.
module _ (b : Buffer) (new : List ℕ) (some : 1 ≤ length new) (fits : b.used + length new ≤ min (length b.words) 8192) where
  place-low : b.used < 2 ^ 28
  place-low = omega arith

  at_place : (i : ℕ) → i < length new → get_or (append b new).words (b.used + i) 0 ≡ get_or new i 0
  unfolding append
  at_place i h = get_d_written b.words b.used new (omega arith) i h

  at-word : (k : ℕ) → get_or (append b new).words (payload_of (word_of k b.used)) 0 ≡ get_or new 0 0
  at-word k = rw (payload_of-word_of k b.used place-low) (ap (λ (p : ℕ). get_or (append b new).words p 0) (sym (add-zero b.used)) ∙ at_place 0 some)

module _ {t : Texts} (b : Buffer) where
  pub means-wrap : (k inner : ℕ) {x : Ty} → wraps k ≡ true → Means t b.words b.used inner x → b.used + 1 ≤ min (length b.words) 8192
      → Means t (append b (inner ∷ [])).words (append b (inner ∷ [])).used (word_of k b.used) (wrap k x)
  unfolding append
  means-wrap k inner {x} h m fits =
      let p = place-low b (inner ∷ []) (omega arith) fits in
      wrapped {x = x} (kind_of-word_of k b.used p) h (rw (payload_of-word_of k b.used p) (omega arith))
      (rw (at-word b (inner ∷ []) (omega arith) fits k) (means_grow (grown-append b (inner ∷ [])) m))

  pub means_record : (ps : List ℕ) {fs : Fields} → PairsMean t b.words b.used ps fs → b.used + (1 + length ps) ≤ min (length b.words) 8192
      → Means t (append b (length ps / 2 ∷ ps)).words (append b (length ps / 2 ∷ ps)).used (word_of 8 b.used) (rec fs)
  unfolding append
  means_record ps {fs} m fits =
      let new : List ℕ = length ps / 2 ∷ ps in
      let fit : b.used + length new ≤ min (length b.words) 8192 = omega arith in
      let p : b.used < 2 ^ 28 = place-low b new (omega arith) fit in
      let e : payload_of (word_of 8 b.used) ≡ b.used = payload_of-word_of 8 b.used p in
      let c : field_count (append b new).words (word_of 8 b.used) ≡ length ps / 2 = ap payload_of (at-word b new (omega arith) fit 8) ∙ omega arith in
      recorded {fs = fs} (kind_of-word_of 8 b.used p) (rw (c, e) (omega arith))
      (rw (c, e) (pairs-stand (pairs_grow (grown-append b new) m) (b.used + 1)
      (λ i h. ap (λ (q : ℕ). get_or (append b new).words q 0) (omega arith) ∙ at_place b new (omega arith) fit (suc i) (omega arith)) (omega arith)))

module _ (r : Runs) where
  -- the used words of two buffers that are alike word for word
  pub used-read : {b b' : Buffer} → SameUsed r b b' → (j : ℕ) → j < b.used → get_or b.words j 0 ≡ get_or b'.words j 0
  used-read {b} {b'} u j l = sym (get_or-take b.used b.words j 0 l) ∙ (ap (λ (x : List ℕ). get_or x j 0) u.front ∙ get_or-take b.used b'.words j 0 l)

  module _ {b b' : Buffer} (u : Used r b b') (n k : ℕ) (new new' : List ℕ) (long : length new ≡ length new') (words : r.strict → new ≡ new')
      (fits : b.used + length new ≤ min (length b.words) 8192) where
    fits_too : r.strict → b'.used + length new' ≤ min (length b'.words) 8192
    fits_too z = omega (arith, (u z).used, (u z).long)

    used-append : Used r (append b new) (append b' new')
    unfolding append
    used-append z =
        let v = u z in
        let e = v.used in
        let fit : b.used + length new' ≤ length b'.words = omega (arith, fits_too z) in
        record {
          used = omega arith;
          front = rw (take-written b.words b.used new (omega arith), long, ← e, take-written b'.words b.used new' fit, v.front, words z);
          long = rw (length-write b.words b.used new, length-write b'.words b'.used new') v.long;
        }

  -- One step: new words for one type, whose word means the same tree in both. The second run may be refused for want of room.
  pub t_add : {b b' : Buffer} → Used r b b' → (n k : ℕ) (new new' : List ℕ) (x : Ty) → length new ≡ length new' → (r.strict → new ≡ new') → depth_of x ≤ 33
      → (b.used + length new ≤ min (length b.words) 8192 → Means r.first.texts (append b new).words (append b new).used (word_of k b.used) x)
      → (b'.used + length new' ≤ min (length b'.words) 8192 → Means r.second.texts (append b' new').words (append b' new').used (word_of k b'.used) x)
      → Typed r (Words r) b b' (add_type r.first.texts n k new b) (add_type r.second.texts n k new' b')
  unfolding add_type when
  t_add {b} {b'} u n k new new' x long words low m m' = go (leb (b.used + length new) (type_room b)) refl (leb (b'.used + length new') (type_room b')) refl
    where
      deep : (d d' : Bool) → d ≡ d' → (d ≡ true → Typed r (Words r) b b' (ok (word_of k b.used) (append b new)) (ok (word_of k b'.used) (append b' new')))
          → Typed r (Words r) b b' (when d (give (word_of k b.used) (append b new)) (refuse (refusal 8 n)) b) (when d' (give (word_of k b'.used) (append b' new')) (refuse (refusal 8 n)) b')
      deep true d' e h = rw (← e) (h refl)
      deep false d' e h = stopped

      go : (a : Bool) → leb (b.used + length new) (type_room b) ≡ a → (a' : Bool) → leb (b'.used + length new') (type_room b') ≡ a'
          → Typed r (Words r) b b'
          (when a
          (when (leb (depth_of (ty_of r.first.texts (append b new).words (word_of k b.used))) 32) (give (word_of k b.used) (append b new)) (refuse (refusal 8 n)))
          (refuse (refusal 7 n)) b)
          (when a'
          (when (leb (depth_of (ty_of r.second.texts (append b' new').words (word_of k b'.used))) 32) (give (word_of k b'.used) (append b' new')) (refuse (refusal 8 n)))
          (refuse (refusal 7 n)) b')
      go false e a' e' = stopped
      go true e false e' =
          cut (λ z. true≢false (sym (le-leb (b'.used + length new') (type_room b') (fits_too u n k new new' long words (leb-true (b.used + length new) (type_room b) e) z)) ∙ e'))
      go true e true e' =
          let f : b.used + length new ≤ min (length b.words) 8192 = leb-true (b.used + length new) (type_room b) e in
          let left = m f in
          let right = m' (leb-true (b'.used + length new') (type_room b') e') in
          let p = means-ty_of left low in
          let q = means-ty_of right low in
          deep _ _ (ap (λ (y : Ty). leb (depth_of y) 32) (p ∙ sym q))
          (λ d. typed (grown-append b new) (grown-append b' new') (used-append u n k new new' long words f)
          (record { tree = x; left = left; right = right; low = leb-true (depth_of x) 32 (rw p at d); word = λ z. ap (word_of k) (u z).used }))

  pub t_wrap : {b b' : Buffer} → Used r b b' → (n k inner inner' : ℕ) → wraps k ≡ true → SameType r b b' inner inner'
      → Typed r (Words r) b b' (add_wrap r.first.texts n k inner b) (add_wrap r.second.texts n k inner' b')
  unfolding add_wrap depth_of
  t_wrap {b} {b'} u n k inner inner' h x =
      t_add u n k (inner ∷ []) (inner' ∷ []) (wrap k x.tree) refl (λ z. ap (λ (w : ℕ). w ∷ []) (x.word z)) (omega (arith, x.low))
      (λ f. means-wrap b k inner h x.left f) (λ f. means-wrap b' k inner' h x.right f)

  pub t_record : {b b' : Buffer} → Used r b b' → (n : ℕ) (ps ps' : List ℕ) → SamePairs r b b' ps ps'
      → Typed r (Words r) b b' (add_record r.first.texts n ps b) (add_record r.second.texts n ps' b')
  unfolding add_record depth_of
  t_record {b} {b'} u n ps ps' x =
      t_add u n 8 (length ps / 2 ∷ ps) (length ps' / 2 ∷ ps') (rec x.fields) (ap suc (pairs-long x.left x.right)) (λ z. ap (λ (l : List ℕ). length l / 2 ∷ l) (x.words z)) (omega (arith, x.low))
      (λ f. means_record b ps x.left (omega arith)) (λ f. means_record b' ps' x.right (omega arith))
