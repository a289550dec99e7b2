-- An added type is the one it should be, and what a word meant before it means after. By the law of growing buffers.
-- Assumes nothing.
use Rattle.std.specs.Prelude.{◌≡◌, refl, true, List, [], ◌∷◌, ℕ, zero, suc, ◌+◌, ◌*◌, ◌/◌, ◌<◌, ◌≤◌, min, leb, length, get_or, take}
use Rattle.std.proofs.Common.{sym, ap, ◌∙◌, le_trans, add-zero, take-take, get_or-take, leb-true}
use native.Mathlib.Omega.{arith}
use Rattle.tok.specs.Word.{kind_of, payload_of, word_of}
use Rattle.tok.specs.Text.{Texts}
use Rattle.tok.specs.Step.{Step, Refusal, refusal, ok, give, refuse, when}
use Rattle.ptype.specs.Ty.{Ty, Fields, wrap, rec, depth_of}
use Rattle.ptype.specs.Words.{ty_of, inner_word, field_count, fields_from}
use Rattle.ptype.specs.Kinds.{wraps}
use Rattle.ptype.specs.Inside.{Within, Refers, below}
use Rattle.ptype.proofs.InsideLaws.{throughout_wrap, throughout_record, refers-wrap, refers_record, within_more}
use Rattle.ptype.proofs.GrowLaws.{ty_of_grow, within_grow, agree-append}
use Rattle.ptype.proofs.DepthLaws.{ty_of-wrap, ty_of_record}
use Rattle.ptype.specs.Add.{Buffer, type_room, append, add_type, add_wrap, add_record}
use Rattle.add.specs.StepLaws.{when-ok}
use Rattle.add.specs.WriteLaws.{get_d_write_in}
use Rattle.add.specs.Means.{Means, PairsMean, none, pair, Grown}

-- Buffers grow from step to step,
pub grown-same : (b : Buffer) → Grown b b
grown-same b = record { front = record { front = refl }; more = omega arith }

pub grown-then : {b b' b'' : Buffer} → Grown b b' → Grown b' b'' → Grown b b''
grown-then {b} {b'} {b''} g h = record {
  front = record {
    front =
        g.front.front
        ∙ sym (take-take b.used b'.used b'.words g.more)
        ∙ ap (take b.used) h.front.front
        ∙ take-take b.used b'.used b''.words g.more;
  };
  more = le_trans g.more h.more;
}

-- and what was meant stays.
pub means-grown : {texts : Texts} {b b' : Buffer} {w : ℕ} {t : Ty} → Grown b b' → Means texts b w t → Means texts b' w t
means-grown {texts} g m = record {
  within = λ deep. within_more g.more (within_grow g.front (m.within deep));
  is = sym (ty_of_grow g.front texts (m.within 33)) ∙ m.is;
  shallow = m.shallow;
}

pub pairs-grown : {texts : Texts} {b b' : Buffer} {pairs : List ℕ} {fs : Fields} → Grown b b' → PairsMean texts b pairs fs → PairsMean texts b' pairs fs
pairs-grown g none = none
pairs-grown g (pair m ms) = pair (means-grown g m) (pairs-grown g ms)

-- a word that is used stays where it stands
pub word-grown : {b b' : Buffer} (j : ℕ) → Grown b b' → j < b.used → get_or b.words j 0 ≡ get_or b'.words j 0
word-grown {b} {b'} j g l =
    sym (get_or-take b.used b.words j 0 l) ∙ ap (λ ws. get_or ws j 0) g.front.front ∙ get_or-take b.used b'.words j 0 l

-- A step that adds a type, answered: there was room, the new words stand after those used, and the new type is at most 32 deep.
record IsAdded (texts : Texts) (kind : ℕ) (new : List ℕ) (b : Buffer) (w : ℕ) (b' : Buffer) : Type 0 where
  room : b.used + length new ≤ min (length b.words) 8192
  word : w ≡ word_of kind b.used
  after : b' ≡ append b new
  depth : depth_of (ty_of texts (append b new).words (word_of kind b.used)) ≤ 32

is-added : (texts : Texts) (n kind : ℕ) (new : List ℕ) (b : Buffer) (w : ℕ) (b' : Buffer) → add_type texts n kind new b ≡ ok w b' → IsAdded texts kind new b w b'
unfolding add_type
is-added texts n kind new b w b' e =
    let added : Step Buffer Refusal ℕ = give (word_of kind b.used) (append b new) in
    let deep = depth_of (ty_of texts (append b new).words (word_of kind b.used)) in
    let x = when-ok (leb (b.used + length new) (type_room b)) (when (leb deep 32) added (refuse (refusal 8 n))) (refusal 7 n) b w b' e in
    let y = when-ok (leb deep 32) added (refusal 8 n) b w b' x.1 in
    record {
      room = leb-true (b.used + length new) (type_room b) x.0;
      word = cc y.1;
      after = cc y.1;
      depth = leb-true deep 32 y.0;
    }

-- The buffer after it has grown.
module _ {texts : Texts} {kind : ℕ} {new : List ℕ} {b : Buffer} {w : ℕ} {b' : Buffer} (a : IsAdded texts kind new b w b') where
  grown-added : Grown b b'
  unfolding append
  grown-added = rw a.after (record { front = agree-append b new; more = omega arith })

  -- the new words, and the new type's word
  new-at : (i : ℕ) → i < length new → get_or b'.words (b.used + i) 0 ≡ get_or new i 0
  unfolding append
  new-at i l = rw a.after (get_d_write_in b.words b.used new i l (omega (arith, a.room)))

  kind-added : kind_of w ≡ kind
  kind-added = rw a.word (omega (arith, a.room))

  place-added : payload_of w ≡ b.used
  place-added = rw a.word (omega (arith, a.room))

  depth-added : depth_of (ty_of texts b'.words w) ≤ 32
  depth-added = rw (a.after, a.word) a.depth

  used-added : b'.used ≡ b.used + length new
  unfolding append
  used-added = rw a.after

-- However a type is added, the buffer only grows.
pub wrap-grown : (texts : Texts) (n k inner : ℕ) (b : Buffer) (w : ℕ) (b' : Buffer) → add_wrap texts n k inner b ≡ ok w b' → Grown b b'
unfolding add_wrap
wrap-grown texts n k inner b w b' e = grown-added (is-added texts n k (inner ∷ []) b w b' e)

pub record_grown : (texts : Texts) (n : ℕ) (pairs : List ℕ) (b : Buffer) (w : ℕ) (b' : Buffer) → add_record texts n pairs b ≡ ok w b' → Grown b b'
unfolding add_record
record_grown texts n pairs b w b' e = grown-added (is-added texts n 8 (length pairs / 2 ∷ pairs) b w b' e)

-- An Option or an Array of a word means the Option or the Array of what that word means.
pub wrap-means : {texts : Texts} {b b' : Buffer} {w : ℕ} {t : Ty} (n k inner : ℕ) → wraps k ≡ true → Means texts b inner t → add_wrap texts n k inner b ≡ ok w b'
    → Means texts b' w (wrap k t) × Grown b b'
unfolding add_wrap depth_of
wrap-means {texts} {b} {b'} {w} {t} n k inner h m e = (record { within = within; is = is; shallow = rw is at (depth-added a) }, grown-added a)
  where
    a : IsAdded texts k (inner ∷ []) b w b'
    a = is-added texts n k (inner ∷ []) b w b' e

    m' : Means texts b' inner t
    m' = means-grown (grown-added a) m

    kind : wraps (kind_of w) ≡ true
    kind = rw (kind-added a) h

    inside : inner_word b'.words w ≡ inner
    inside = ap (λ j. get_or b'.words j 0) (place-added a ∙ sym (add-zero b.used)) ∙ new-at a 0 (omega arith)

    within : (deep : ℕ) → Within b'.words b'.used deep w
    within zero = below
    within (suc deep) = throughout_wrap (refers-wrap kind (omega (arith, place-added a, used-added a))) kind (rw inside (m'.within deep))

    is : ty_of texts b'.words w ≡ wrap k t
    is = ty_of-wrap texts b'.words w kind (depth-added a) ∙ rw (kind-added a, inside, m'.is)

-- Pairs that mean fields: two words for each, the fields that they mean where they stand in the buffer, and their types' words.
pairs-even : {texts : Texts} {b : Buffer} {pairs : List ℕ} {fs : Fields} → PairsMean texts b pairs fs → length pairs ≡ 2 * (length pairs / 2)
pairs-even none = refl
pairs-even (pair m ms) = omega (arith, pairs-even ms)

pairs-fields : {texts : Texts} {b : Buffer} {pairs : List ℕ} {fs : Fields} → PairsMean texts b pairs fs → (at k : ℕ) → length pairs ≡ 2 * k
    → ((i : ℕ) → i < length pairs → get_or b.words (at + i) 0 ≡ get_or pairs i 0) → fields_from (ty_of texts b.words) texts b.words at k ≡ fs
unfolding fields_from
pairs-fields none at zero e h = refl
pairs-fields none at (suc k) e h =
    let z : ⊥ = omega arith in
    absurd z
pairs-fields (pair m ms) at zero e h =
    let z : ⊥ = omega arith in
    absurd z
pairs-fields {texts} {b} (pair {name = name} {w = w} {pairs = pairs} m ms) at (suc k) e h =
    let x : get_or b.words at 0 ≡ name = ap (λ j. get_or b.words j 0) (sym (add-zero at)) ∙ h 0 (omega arith) in
    let y : get_or b.words (at + 1) 0 ≡ w = h 1 (omega arith) in
    let next : (i : ℕ) → i < length pairs → get_or b.words (at + 2 + i) 0 ≡ get_or pairs i 0 =
    λ i l. let z : at + 2 + i ≡ at + suc (suc i) = omega arith in rw z (h (suc (suc i)) (omega arith)) in
    rw (x, y, m.is, pairs-fields ms (at + 2) k (omega arith) next)

pairs-within : {texts : Texts} {b : Buffer} {pairs : List ℕ} {fs : Fields} → PairsMean texts b pairs fs → (i : ℕ) → 2 * i + 1 < length pairs → (deep : ℕ)
    → Within b.words b.used deep (get_or pairs (2 * i + 1) 0)
pairs-within none i l deep =
    let z : ⊥ = omega arith in
    absurd z
pairs-within (pair m ms) zero l deep = m.within deep
pairs-within (pair m ms) (suc i) l deep =
    let e : 2 * suc i + 1 ≡ suc (suc (2 * i + 1)) = omega arith in
    rw e (pairs-within ms i (omega arith) deep)

-- A Record of pairs means the Record of the fields that they mean.
pub record_means : {texts : Texts} {b b' : Buffer} {w : ℕ} {pairs : List ℕ} {fs : Fields} (n : ℕ) → PairsMean texts b pairs fs → add_record texts n pairs b ≡ ok w b'
    → Means texts b' w (rec fs) × Grown b b'
unfolding add_record depth_of
record_means {texts} {b} {b'} {w} {pairs} {fs} n ms e = (record { within = within; is = is; shallow = rw is at (depth-added a) }, grown-added a)
  where
    a : IsAdded texts 8 (length pairs / 2 ∷ pairs) b w b'
    a = is-added texts n 8 (length pairs / 2 ∷ pairs) b w b' e

    ms' : PairsMean texts b' pairs fs
    ms' = pairs-grown (grown-added a) ms

    at : (i : ℕ) → i < length pairs → get_or b'.words (payload_of w + 1 + i) 0 ≡ get_or pairs i 0
    at i l =
        let z : payload_of w + 1 + i ≡ b.used + suc i = omega (arith, place-added a) in
        rw z (new-at a (suc i) (omega arith))

    count : field_count b'.words w ≡ length pairs / 2
    count =
        let c = ap (λ j. get_or b'.words j 0) (place-added a ∙ sym (add-zero b.used)) ∙ new-at a 0 (omega arith) in
        ap payload_of c ∙ omega (arith, a.room)

    even : length pairs ≡ 2 * (length pairs / 2)
    even = pairs-even ms

    refers : Refers b'.words b'.used w
    refers = refers_record (kind-added a) (rw count (omega (arith, place-added a, used-added a, even)))

    within : (deep : ℕ) → Within b'.words b'.used deep w
    within zero = below
    within (suc deep) =
        throughout_record refers (kind-added a)
        (λ i l. let z : payload_of w + 1 + 2 * i + 1 ≡ payload_of w + 1 + (2 * i + 1) = omega arith in
        let s : 2 * i + 1 < length pairs = omega (arith, l, count, even) in
        rw (z, at (2 * i + 1) s) (pairs-within ms' i s deep))

    is : ty_of texts b'.words w ≡ rec fs
    is =
        ty_of_record texts b'.words w (kind-added a) (depth-added a)
        ∙ ap rec (ap (λ k. fields_from (ty_of texts b'.words) texts b'.words (payload_of w + 1) k) count ∙ pairs-fields ms' (payload_of w + 1) (length pairs / 2) even at)
