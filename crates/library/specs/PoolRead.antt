-- What reading the pool has shown: of each pool word that it is a field count with a whole list of pairs, a name, or a type word.
-- By induction over the words read. Assumes nothing.
use Prim.Native.Nat.{ℕ, zero, suc, ◌+◌, ◌*◌, ◌-◌, ◌/◌, ◌≤◌, ◌<◌}
use Rattle.std.specs.Prelude.{◌≡◌, List, ◌⊎◌}
use Rattle.std.proofs.Math.Path.{refl, subst}
use Rattle.std.proofs.Common.{sym, ap, ◌∙◌, inl, inr, lt-ltb, le-ltb, eq-eqb, ne_eqb, leb-true}
use Rattle.std.proofs.Math.Bool.{true}
use native.Mathlib.Omega.{arith}
use Rattle.std.proofs.Math.Decide.{dec_lt, ℕ_discrete}
use Rattle.std.proofs.Math.ListN.{get_or}
use Rattle.std.proofs.Math.Dec.{leb}
use Rattle.tok.specs.Word.{kind_of, payload_of}
use Rattle.tok.specs.Name.{good_name, in_library}
use Rattle.tok.proofs.NameLaws.{good_name-kind}
use Rattle.reader.specs.Reading.{standing}
use Rattle.reader.specs.Reads.{Within, Reads, reads, reads-map, reads_then, reads_word}
use Rattle.library.specs.Pool.{Pool, pool_word, good_type, fields, good_pool_word, pairs_after, pool_from}
use Rattle.library.specs.TypeWords.{TypeKind, good_type-true}

-- the pair at pool index i: "a name and a type word for each field"
pub record PairFine (p : Pool) (i : ℕ) : Type 0 where
  pub name : good_name in_library p.texts.library (pool_word p i) ≡ true
  pub type : good_type p (i + 1) (pool_word p (i + 1)) ≡ true

-- the field count at pool index i
pub record ListFine (p : Pool) (i : ℕ) : Type 0 where
  pub whole : i + 1 + 2 * payload_of (pool_word p i) ≤ p.size
  pub pairs : (k : ℕ) → k < payload_of (pool_word p i) → PairFine p (i + 1 + 2 * k)

-- the word at pool index i, by its kind
pub record WordFine (p : Pool) (i : ℕ) : Type 0 where
  pub list : kind_of (pool_word p i) ≡ 0 → ListFine p i
  pub name : kind_of (pool_word p i) ≡ 12 → good_name in_library p.texts.library (pool_word p i) ≡ true
  pub type : TypeKind (kind_of (pool_word p i)) → good_type p i (pool_word p i) ≡ true
  pub kinds : (kind_of (pool_word p i) ≡ 0) ⊎ ((kind_of (pool_word p i) ≡ 12) ⊎ TypeKind (kind_of (pool_word p i)))

-- A pool that was accepted.
pub record PoolFine (p : Pool) : Type 0 where
  pub each : (i : ℕ) → i < p.size → WordFine p i

name-fine : (p : Pool) (i : ℕ) → good_name in_library p.texts.library (pool_word p i) ≡ true → WordFine p i
name-fine p i e =
    let k : kind_of (pool_word p i) ≡ 12 = good_name-kind _ _ (pool_word p i) e in
    record { list = λ z. absurd (omega arith); name = λ _. e; type = λ t. absurd (omega (arith, t.high)); kinds = inr (inl k) }

type-fine : (p : Pool) (i : ℕ) → good_type p i (pool_word p i) ≡ true → WordFine p i
type-fine p i e =
    let t = (good_type-true p i (pool_word p i) e).kind in
    record { list = λ z. absurd (omega (arith, t.low)); name = λ k. absurd (omega (arith, t.high)); type = λ _. e; kinds = inr (inr t) }

list-fine : (p : Pool) (i : ℕ) → kind_of (pool_word p i) ≡ 0 → ListFine p i → WordFine p i
list-fine p i k l = record { list = λ _. l; name = λ h. absurd (omega arith); type = λ t. absurd (omega (arith, t.low)); kinds = inl k }

-- the words of n pairs from index i on
pairs-fine : (p : Pool) (n i j : ℕ) → ((k : ℕ) → k < n → PairFine p (i + 2 * k)) → i ≤ j → j < i + 2 * n → WordFine p j
pairs-fine p n i j h l m =
    let k : ℕ = (j - i) / 2 in
    let f = h k (omega arith) in
    elim (ℕ_discrete (i + 2 * k) j) [
      | yes e ↦ subst (WordFine p) e (name-fine p (i + 2 * k) f.name)
      | no d ↦ subst (WordFine p) (omega arith) (type-fine p (i + 2 * k + 1) f.type)
    ]

-- a field count and its pairs, or a type word
module _ (p : Pool) (i v : ℕ) where
  head-within : good_pool_word p i v ≡ true → i < p.size → i + 1 + 2 * pairs_after v ≤ p.size
  unfolding good_pool_word
  head-within e l = elim (ℕ_discrete (kind_of v) 0) [
    | yes z ↦
        let h = rw (eq-eqb (kind_of v) 0 z) at e in
        rw (eq-eqb (kind_of v) 0 z) (leb-true _ _ h)
    | no z ↦ rw (ne_eqb (kind_of v) 0 z) (omega arith)
  ]

  head-fine : v ≡ pool_word p i → good_pool_word p i v ≡ true → ((k : ℕ) → k < pairs_after v → PairFine p (i + 1 + 2 * k))
      → (j : ℕ) → i ≤ j → j < i + 1 + 2 * pairs_after v → WordFine p j
  unfolding good_pool_word
  head-fine ev e h j l m = elim (ℕ_discrete (kind_of v) 0) [
    | yes z ↦
        let c : pairs_after v ≡ payload_of v = rw (eq-eqb (kind_of v) 0 z) refl in
        let f : leb (i + 1 + 2 * payload_of v) p.size ≡ true = rw (eq-eqb (kind_of v) 0 z) at e in
        elim (ℕ_discrete i j) [
          | yes ij ↦
              subst (WordFine p) ij (list-fine p i (sym (ap kind_of ev) ∙ z) (record {
                whole = rw (← ev) (leb-true _ _ f);
                pairs = λ k b. h k (rw c (rw (← ev) at b));
              }))
          | no d ↦ pairs-fine p (pairs_after v) (i + 1) j h (omega arith) (omega arith)
        ]
    | no z ↦
        let c : pairs_after v ≡ 0 = rw (ne_eqb (kind_of v) 0 z) refl in
        let f : good_type p i v ≡ true = rw (ne_eqb (kind_of v) 0 z) at e in
        let ij : i ≡ j = omega arith in
        subst (WordFine p) ij (type-fine p i (rw (← ev) f))
  ]

-- what a turn has shown, and what those after it have
turn-fine : (p : Pool) (i end : ℕ) → ((j : ℕ) → i ≤ j → j < end → WordFine p j) → ((j : ℕ) → end ≤ j → j < p.size → WordFine p j)
    → (j : ℕ) → i ≤ j → j < p.size → WordFine p j
turn-fine p i end f g j l m = elim (dec_lt j end) [ yes b ↦ f j l b | no d ↦ g j (omega arith) m ]

-- ── Reading it ──

-- the pool words are words 2 to P + 1 of the list
pub record PoolIn (p : Pool) (words : List ℕ) : Type 0 where
  pub at : (i : ℕ) → i < p.size → get_or words (i + 2) 0 ≡ pool_word p i

module _ (p : Pool) (ws : List ℕ) (holds : PoolIn p ws) where
  word-is : (i at : ℕ) → at ≡ i + 2 → i < p.size → get_or ws at 0 ≡ pool_word p i
  word-is i at e l = rw e (holds.at i l)

  more-pairs : (n i : ℕ) → PairFine p i → ((k : ℕ) → k < n → PairFine p (i + 2 + 2 * k)) → (k : ℕ) → k < suc n → PairFine p (i + 2 * k)
  more-pairs n i f h zero l = subst (PairFine p) (omega arith) f
  more-pairs n i f h (suc k) l = subst (PairFine p) (omega arith) (h k (omega arith))

  -- n pairs from index i on
  fields_read : (n i at least end to : ℕ) → at ≡ i + 2 → end ≡ i + 2 * n → to ≡ end + 2 → end ≤ p.size → Within ws at
      → Reads ws end to ((k : ℕ) → k < n → PairFine p (i + 2 * k)) (fields p n i (standing ws at least))
  unfolding fields
  fields_read zero i at least end to ea ee et h w =
      let e : end ≡ i = omega arith in
      let d : to ≡ at = omega arith in
      rw (d, e) (reads least w (λ k l. absurd (omega arith)))
  fields_read (suc n) i at least end to ea ee et h w =
      reads_then _ (reads_word _ _ ws at least) (λ l₁ w₁ f₁.
      reads_then _ (reads_word _ _ ws (at + 1) l₁) (λ l₂ w₂ f₂.
      reads-map (more-pairs n i (record {
        name = subst (λ v. good_name in_library p.texts.library v ≡ true) (word-is i at ea (omega arith)) f₁;
        type = subst (λ v. good_type p (i + 1) v ≡ true) (word-is (i + 1) (at + 1) (omega arith) (omega arith)) f₂;
      }))
      (fields_read n (i + 2) (at + 1 + 1) l₂ end to (omega arith) (omega arith) et h w₂)))

  -- one turn: a field count and its pairs, or a type word
  pool-read : (turns i at least to : ℕ) → at ≡ i + 2 → to ≡ p.size + 2 → p.size ≤ i + turns → i ≤ p.size → Within ws at
      → Reads ws tt to ((j : ℕ) → i ≤ j → j < p.size → WordFine p j) (pool_from p turns i (standing ws at least))
  unfolding pool_from
  pool-read zero i at least to ea et ht hi w =
      let d : to ≡ at = omega arith in
      rw d (reads least w (λ j l m. absurd (omega arith)))
  pool-read (suc turns) i at least to ea et ht hi w = elim (dec_lt i p.size) [
    | yes l ↦
        let v : ℕ = get_or ws at 0 in
        let end : ℕ = i + 1 + 2 * pairs_after v in
        rw (lt-ltb i p.size l)
        (reads_then _ (reads_word _ _ ws at least) (λ l₁ w₁ f₁.
        let m : end ≤ p.size = head-within p i v f₁ l in
        reads_then _ (fields_read (pairs_after v) (i + 1) (at + 1) l₁ end (end + 2) (omega arith) refl refl m w₁) (λ l₂ w₂ f₂.
        reads-map (turn-fine p i end (head-fine p i v (word-is i at ea l) f₁ f₂))
        (pool-read turns end (end + 2) l₂ to refl et (omega arith) m w₂))))
    | no d ↦
        let e : to ≡ at = omega arith in
        rw (le-ltb i p.size (omega arith), e) (reads least w (λ j l m. absurd (omega arith)))
  ]

-- "The pool is read forward": where it is accepted, each of its words is fine, and the packages follow it.
pub pool-reads : (p : Pool) (words : List ℕ) → PoolIn p words → (least : ℕ) → Within words 2
    → Reads words tt (p.size + 2) (PoolFine p) (pool_from p p.size 0 (standing words 2 least))
pool-reads p words holds least w =
    reads-map (λ h. record { each = λ i l. h i (omega arith) l }) (pool-read p words holds p.size 0 2 least (p.size + 2) refl refl (omega arith) (omega arith) w)
