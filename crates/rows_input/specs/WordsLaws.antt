-- Laws of words read from bytes; the words of an input that fits are read whole into a buffer of 16,384 words. Assumes nothing.
use Rattle.std.specs.Prelude.{ℕ, zero, suc, ◌+◌, ◌*◌, ◌≤◌, ◌≡◌, refl, Bool, true, false, ◌&&◌, List, ◌∷◌, ◌++◌, length, take, leb, eqb}
use Rattle.std.proofs.Common.{sym, ap, ◌∙◌, true≢false, zero-add, suc-add, arith, take_all, leb-true, eqb-true}
use Rattle.ptype.specs.Add.{overwrite}
use Rattle.bench_rows.specs.Bench.{word_in, words_in, image_start, image_length, library_start, library_length, fits, inputs_in}
use Rattle.rows_window.specs.ShowingLaws.{take-over}

pub length-words : (bytes : List ℕ) (at k : ℕ) → length (words_in bytes at k) ≡ k
unfolding words_in
length-words bytes at zero = refl
length-words bytes at (suc k) = ap suc (length-words bytes (at + 4) k)

-- the first i words, and the j words behind them
pub words-split : (bytes : List ℕ) (at i j : ℕ) → words_in bytes at (i + j) ≡ words_in bytes at i ++ words_in bytes (at + 4 * i) j
unfolding words_in
words-split bytes at zero j =
    let e : at + 4 * 0 ≡ at = omega arith in
    rw (zero-add j, e)
words-split bytes at (suc i) j =
    let e : at + 4 * suc i ≡ at + 4 + 4 * i = omega arith in
    rw (suc-add i j, e) (ap (λ l. word_in bytes at ∷ l) (words-split bytes (at + 4) i j))

-- ---- an input that fits
both_true : (a b : Bool) → (a && b) ≡ true → (a ≡ true) × (b ≡ true)
both_true true b h = (refl, h)
both_true false b h = absurd (true≢false (sym h))

fits_says : (bytes : List ℕ) → fits bytes ≡ true → library_start bytes + 4 * library_length bytes ≤ 65536
unfolding fits
fits_says bytes h =
    let s : Bool = eqb (library_start bytes + 4 * library_length bytes) (length bytes) in
    let p = both_true (leb 16 (length bytes)) (leb (length bytes) 65536 && s) h in
    let q = both_true (leb (length bytes) 65536) s p.1 in
    omega (arith, leb-true (length bytes) 65536 q.0, eqb-true (library_start bytes + 4 * library_length bytes) (length bytes) q.1)

-- k words that have room are read whole
words-whole : (bytes o : List ℕ) (at k : ℕ) → k ≤ length o → take k (overwrite o (words_in bytes at k)) ≡ words_in bytes at k
words-whole bytes o at k h =
    let l : length (words_in bytes at k) ≡ k = length-words bytes at k in
    rw (take-over k o (words_in bytes at k) (omega arith) h) (take_all k (words_in bytes at k) (omega arith))

module _ (bytes o : List ℕ) (h : fits bytes ≡ true) (l : 16384 ≤ length o) where
  pub image-whole : take (image_length bytes) (overwrite o (inputs_in bytes).image) ≡ (inputs_in bytes).image
  unfolding inputs_in
  image-whole = words-whole bytes o (image_start bytes) (image_length bytes) (omega (arith, fits_says bytes h))

  pub library-whole : take (library_length bytes) (overwrite o (inputs_in bytes).library) ≡ (inputs_in bytes).library
  unfolding inputs_in
  library-whole = words-whole bytes o (library_start bytes) (library_length bytes) (omega (arith, fits_says bytes h))
