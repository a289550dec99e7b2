-- The library's pool and its type words (document 01, "Words"). Definitions.
use Rattle.std.specs.Prelude.{ℕ, zero, suc, ◌+◌, ◌*◌, Bool, ◌&&◌, ◌||◌, cond, List, length, get_or, leb, ltb, eqb}
use Rattle.utf8.specs.Rfc3629.{range}
use Rattle.tok.specs.Word.{kind_of, payload_of}
use Rattle.tok.specs.Text.{Texts}
use Rattle.tok.specs.Name.{good_name, good_payload, in_library}
use Rattle.tok.specs.Step.{◌>>=◌, return}
use Rattle.tok.specs.Reader.{Read, word}

-- what a reader of library words knows: the texts, P, and the pool words by index
pub record Pool : Type 0 where
  pub texts : Texts
  pub size : ℕ
  pub words : List ℕ

-- the pool of some words, of which there should be `size`; and where there are as many
abbrev pub pool_at : Texts → (size : ℕ) → List ℕ → Pool
pool_at t size words = record { texts = t; size = size; words = words }

abbrev pub pool_in : Texts → List ℕ → Pool
pool_in t words = pool_at t (length words) words

abbrev pub pool_word : Pool → ℕ → ℕ
pool_word p i = get_or p.words i 0

-- "Kinds 1 to 5 and 11 have payload 0"; "Unknown is not allowed."
unfoldable pub good_plain : ℕ → Bool
good_plain w = range 1 5 (kind_of w) && eqb (payload_of w) 0

-- "Option and Array carry the types-buffer index of the inner type word." "A word there only refers to smaller indices
-- than its own": `own` is that index, or P for a type outside the pool, which "may refer to any pool index".
unfoldable pub good_wrapped : Pool → (own : ℕ) → ℕ → Bool
good_wrapped p own w = range 6 7 (kind_of w) && (ltb (payload_of w) own && range 1 10 (kind_of (pool_word p (payload_of w))))

-- "Record carries the index of a field count"; "a Record's whole list stands before it".
unfoldable pub good_record : Pool → (own : ℕ) → ℕ → Bool
good_record p own w =
    eqb (kind_of w) 8
    && (ltb (payload_of w) own
    && (eqb (kind_of (pool_word p (payload_of w))) 0
    && leb (payload_of w + 1 + 2 * payload_of (pool_word p (payload_of w))) own))

-- "Foreign and Slot carry a name payload."
unfoldable pub good_named : Pool → ℕ → Bool
good_named p w = range 9 10 (kind_of w) && good_payload in_library p.texts.library w

-- a type word of the library
unfoldable pub good_type : Pool → (own : ℕ) → ℕ → Bool
good_type p own w = good_plain w || (good_wrapped p own w || (good_record p own w || good_named p w))

abbrev pub name : Pool → Read ℕ
name p = word (good_name in_library p.texts.library)

-- n pairs of a field list, the first at pool index i: "a name and a type word for each field"; the index after them
unfoldable pub fields : Pool → (n i : ℕ) → Read ℕ
fields p zero i = return i
fields p (suc n) i = do
  _ ← name p
  _ ← word (good_type p (i + 1))
  fields p n (i + 2)

-- "a kind 0 word is a field count and its pairs follow, any other is one type word". The pairs stand in the pool too.
unfoldable pub good_pool_word : Pool → (i : ℕ) → ℕ → Bool
good_pool_word p i w = cond (eqb (kind_of w) 0) (leb (i + 1 + 2 * payload_of w) p.size) (good_type p i w)

abbrev pub pairs_after : ℕ → ℕ
pairs_after w = cond (eqb (kind_of w) 0) (payload_of w) 0

-- "The pool is read forward" from index i to P. Each turn reads a word or more, so that P turns are enough.
unfoldable pub pool_from : Pool → (turns i : ℕ) → Read (Unit {0})
pool_from p zero i = return tt
pool_from p (suc turns) i =
    cond (ltb i p.size)
    (do
      w ← word (good_pool_word p i)
      j ← fields p (pairs_after w) (i + 1)
      pool_from p turns j)
    (return tt)
