-- Refusal 2: a library that agrees with a refused one up to and including the offending word is refused at the same word. A pool word's rule
-- asks only pool words before it; the rules of packages are asked where the pool stands whole before them. Assumes nothing.
use Prim.Native.Nat.{ℕ, zero, suc, ◌+◌, ◌≤◌, ◌<◌}
use Rattle.std.specs.Prelude.{◌≡◌, List, [], ◌∷◌, get_or, take, drop}
use Rattle.std.proofs.Math.Path.{refl, ap}
use Rattle.std.proofs.Common.{sym, ◌∙◌, arith, zero-add, suc-add, length-take, get_or-take, get_or-drop, take-take, le-ltb}
use Rattle.std.proofs.Math.Decide.{dec_lt}
use Rattle.std.proofs.Math.ListN.{get_or-eq_default}
use Rattle.std.proofs.Math.Seq.{take-nil}
use Rattle.tok.specs.Word.{payload_of}
use Rattle.tok.specs.Text.{Texts}
use Rattle.library.specs.Pool.{Pool, pool_word, good_wrapped, good_record}
use Rattle.library.specs.LibraryFault.{pool_read}
use Rattle.certain.specs.Forward.{Agree, same_word}

pub drop-take : (n m : ℕ) (l : List ℕ) → drop n (take (n + m) l) ≡ take m (drop n l)
drop-take zero m l = ap (λ j. take j l) (zero-add m)
drop-take (suc n) m [] = ap (λ j. drop (suc n) (take j [])) (suc-add n m) ∙ sym (take-nil m)
drop-take (suc n) m (x ∷ xs) = ap (λ j. drop (suc n) (take j (x ∷ xs))) (suc-add n m) ∙ drop-take n m xs

module _ {k : ℕ} {words words' : List ℕ} (agree : Agree k words words') (t : Texts) (size : ℕ) where
  abbrev pool : Pool
  pool = pool_read t words size

  abbrev pool' : Pool
  pool' = pool_read t words' size

  -- a pool that stands whole among the first k words is the same
  pub pool-same : size + 2 ≤ k → pool' ≡ pool
  pool-same l =
      ap (λ ws. record { texts = t; size = size; words = ws }) (cut words' ∙ (ap (λ ws. drop 2 (take (2 + size) ws)) agree.front ∙ sym (cut words)))
    where
      cut : (ws : List ℕ) → take size (drop 2 ws) ≡ drop 2 (take (2 + size) (take k ws))
      cut ws = sym (drop-take 2 size ws) ∙ ap (λ v. drop 2 v) (sym (take-take (2 + size) k ws (omega arith)))

  -- a pool word that stands among them is the same
  pool-word : (i : ℕ) → i + 2 < k → pool_word pool' i ≡ pool_word pool i
  pool-word i l = elim (dec_lt i size) [
    | yes h ↦ inside words' h ∙ (same_word agree (2 + i) (omega arith) ∙ sym (inside words h))
    | no h ↦ outside words' (omega arith) ∙ sym (outside words (omega arith))
  ]
    where
      inside : (ws : List ℕ) → i < size → get_or (take size (drop 2 ws)) i 0 ≡ get_or ws (2 + i) 0
      inside ws h = get_or-take size (drop 2 ws) i 0 h ∙ get_or-drop 2 ws i 0

      outside : (ws : List ℕ) → size ≤ i → get_or (take size (drop 2 ws)) i 0 ≡ 0
      outside ws h = get_or-eq_default (take size (drop 2 ws)) 0 (omega (arith, length-take size (drop 2 ws)))

  -- "A word there only refers to smaller indices than its own": what a type word's rule asks of the pool stands before `own`.
  module _ (own w : ℕ) (l : own + 2 ≤ k) where
    pub wrapped_same : good_wrapped pool' own w ≡ good_wrapped pool own w
    unfolding good_wrapped
    wrapped_same = elim (dec_lt (payload_of w) own) [
      | yes h ↦ rw (pool-word (payload_of w) (omega arith)) refl
      | no h ↦ rw (le-ltb (payload_of w) own (omega arith)) refl
    ]

    pub record_same : good_record pool' own w ≡ good_record pool own w
    unfolding good_record
    record_same = elim (dec_lt (payload_of w) own) [
      | yes h ↦ rw (pool-word (payload_of w) (omega arith)) refl
      | no h ↦ rw (le-ltb (payload_of w) own (omega arith)) refl
    ]
