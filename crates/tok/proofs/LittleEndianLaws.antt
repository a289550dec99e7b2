-- A word by the bytes of the rest that begins at it. Assumes nothing.
use Prim.Native.Nat.{ℕ, ◌+◌, ◌*◌, ◌-◌, min}
use mathlib.Core.Path.{◌≡◌, sym, ap, ◌∙◌}
use mathlib.Core.List.{List}
use native.Mathlib.Omega.{arith}
use lib.ListN.{length, take, drop, get_or, length-drop}
use lib.Seq.{get_or-drop, take-length}
use Rattle.facts.specs.Lists.{drop-within}
use Rattle.tok.specs.LittleEndian.{little_endian}

-- the rest begins at the place, or at the end
pub rest_from : (bytes : List ℕ) (at : ℕ) {start : ℕ} → start ≡ min at (length bytes) → take (length bytes - start) (drop start bytes) ≡ drop at bytes
rest_from bytes at {start} e =
    let d : drop start bytes ≡ drop at bytes = rw e (drop-within at bytes) in
    let l : length bytes - start ≡ length (drop start bytes) = sym (length-drop start bytes) in
    rw l (take-length (drop start bytes) ∙ d)

-- the byte k places behind `at` is the rest's byte k
rest_byte : (bytes : List ℕ) (at k : ℕ) {rest : List ℕ} → rest ≡ drop at bytes → get_or rest k 0 ≡ get_or bytes (at + k) 0
rest_byte bytes at k {rest} e = ap (λ l. get_or l k 0) e ∙ get_or-drop at bytes k 0

pub word-of-rest :
    (bytes : List ℕ) (at : ℕ) {rest : List ℕ} {a b c d : ℕ} → rest ≡ drop at bytes →
    a ≡ get_or rest 0 0 → b ≡ get_or rest 1 0 → c ≡ get_or rest 2 0 → d ≡ get_or rest 3 0 →
    a + b * 256 + c * 65536 + d * 16777216 ≡ little_endian bytes at
unfolding little_endian
word-of-rest bytes at {rest} {a} {b} {c} {d} e p q r s =
    let n : at + 0 ≡ at = omega arith in
    let z : a ≡ get_or bytes at 0 = p ∙ rest_byte bytes at 0 e ∙ ap (λ i. get_or bytes i 0) n in
    rw (z, q ∙ rest_byte bytes at 1 e, r ∙ rest_byte bytes at 2 e, s ∙ rest_byte bytes at 3 e) (omega arith)
