-- Laws of words: kind and payload make up a word, and a name's parts lie in the payload. By linear arithmetic.
-- Assumes nothing.
use mathlib.Core.Path.{◌≡◌}
use Prim.Native.Nat.{ℕ, ◌^◌, ◌<◌}
use native.Mathlib.Omega.{arith}
use Rattle.tok.specs.Word.{kind_of, payload_of, word_of, name_length, name_start, name_bit, name_rest}

pub kind_of-word_of : (k p : ℕ) → p < 2 ^ 28 → kind_of (word_of k p) ≡ k
kind_of-word_of k p h = omega arith

pub payload_of-word_of : (k p : ℕ) → p < 2 ^ 28 → payload_of (word_of k p) ≡ p
payload_of-word_of k p h = omega arith

pub payload_of_lt : (w : ℕ) → payload_of w < 2 ^ 28
payload_of_lt w = omega arith

pub word_of-parts : (w : ℕ) → word_of (kind_of w) (payload_of w) ≡ w
word_of-parts w = omega arith

-- Under another kind a payload is the same name.
module _ (k w : ℕ) where
  pub name_length-payload : name_length (word_of k (payload_of w)) ≡ name_length w
  name_length-payload = omega arith

  pub name_start-payload : name_start (word_of k (payload_of w)) ≡ name_start w
  name_start-payload = omega arith

  pub name_bit-payload : name_bit (word_of k (payload_of w)) ≡ name_bit w
  name_bit-payload = omega arith

  pub name_rest-payload : name_rest (word_of k (payload_of w)) ≡ name_rest w
  name_rest-payload = omega arith
