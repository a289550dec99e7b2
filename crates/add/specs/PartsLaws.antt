-- The parts of adding a Record make up `add_record`. By unfolding and the laws of `write`. Assumes nothing.
use Rattle.std.specs.Prelude.{◌≡◌, refl, Bool, true, false, List, [], ◌∷◌, ℕ, ◌+◌, ◌*◌, ◌/◌, leb, length}
use Rattle.std.proofs.Common.{arith, leb-true}
use Rattle.tok.specs.Word.{word_of}
use Rattle.tok.specs.Text.{Texts}
use Rattle.tok.specs.Step.{Step, Refusal, Result, ok, refused, refusal, when, next, return, give, refuse}
use Rattle.ptype.specs.Ty.{depth_of}
use Rattle.ptype.specs.Words.{ty_of}
use Rattle.ptype.specs.Add.{Buffer, buffer, type_room, write, append, add_type, add_record}
use Rattle.add.specs.Parts.{opened, pair_place, paired, measured, record_from}
use Rattle.add.specs.WriteLaws.{write_nil, write-append, write-back}

when-given : {A : Type 0} (q : Bool) (a : A) (e : Refusal) (b b' : Buffer) → when q (give a b') (refuse e) b ≡ when q (return a) (refuse e) b'
unfolding when
when-given true a e b b' = refl
when-given false a e b b' = refl

-- A Record opened, all of its pairs written, and it is measured: that adds it.
pub record_parts_lem : (t : Texts) (n : ℕ) (pairs : List ℕ) (fields : ℕ) → length pairs ≡ 2 * fields → (b : Buffer)
    → add_record t n pairs b ≡ next (record_from n fields 0 (return pairs) b) (measured t n)
unfolding add_record add_type append record_from opened paired measured when
record_parts_lem t n pairs fields e b = go (leb (b.used + (1 + 2 * fields)) (type_room b)) refl
  where
    h : length pairs / 2 ≡ fields
    h = omega arith

    k : b.used + length (fields ∷ pairs) ≡ b.used + (1 + 2 * fields)
    k = omega arith

    go : (q : Bool) → leb (b.used + (1 + 2 * fields)) (type_room b) ≡ q → add_record t n pairs b ≡ next (record_from n fields 0 (return pairs) b) (measured t n)
    go true p =
        let l = leb-true (b.used + (1 + 2 * fields)) (type_room b) p in
        let place : pair_place (word_of 8 b.used) 0 ≡ b.used + length (fields ∷ []) = omega arith in
        let words = write b.words b.used (fields ∷ pairs) in
        rw (h, k, p, place, ← write-append b.words b.used (fields ∷ []) pairs)
        (when-given (leb (depth_of (ty_of t words (word_of 8 b.used))) 32) (word_of 8 b.used) (refusal 8 n) b (buffer words (b.used + (1 + 2 * fields))))
    go false p = rw (h, k, p)

-- The same where the pairs are given by steps, two words for each field.
pub record_steps : (t : Texts) (n fields : ℕ) (steps : Step Buffer Refusal (List ℕ)) (b : Buffer)
    → ((pairs : List ℕ) (b' : Buffer) → steps b ≡ ok pairs b' → length pairs ≡ 2 * fields)
    → next (steps b) (add_record t n) ≡ next (record_from n fields 0 steps b) (measured t n)
unfolding record_from
record_steps t n fields steps b two = go (steps b) refl
  where
    go : (r : Result Buffer Refusal (List ℕ)) → steps b ≡ r → next (steps b) (add_record t n) ≡ next (record_from n fields 0 steps b) (measured t n)
    go (ok pairs b') e = rw e (record_parts_lem t n pairs fields (two pairs b' e) b')
    go (refused x) e = rw e

-- A recursion over the fields, which writes the pairs on its way back. At the end of the fields the Record is opened,
pub record_end_lem : (n fields k : ℕ) (b : Buffer) → record_from n fields k (return []) b ≡ opened n fields b
unfolding record_from paired
record_end_lem n fields k b = go (opened n fields b)
  where
    go : (r : Result Buffer Refusal ℕ) → next r (paired k []) ≡ r
    go (ok w b') = rw write_nil
    go (refused e) = refl

-- and a field's pair is written once those of the fields after it are.
paired-more : (k name ty : ℕ) (pairs : List ℕ) (w : ℕ) (b : Buffer) → paired k (name ∷ ty ∷ pairs) w b ≡ next (paired (k + 1) pairs w b) (paired k (name ∷ ty ∷ []))
unfolding paired
paired-more k name ty pairs w b =
    let e : pair_place w (k + 1) ≡ pair_place w k + length (name ∷ ty ∷ []) = omega arith in
    rw (e, ← write-back b.words (pair_place w k) (name ∷ ty ∷ []) pairs)

pub record_field : (n fields k name ty : ℕ) (steps : Step Buffer Refusal (List ℕ)) (b : Buffer)
    → record_from n fields k (λ s. next (steps s) (λ pairs. return (name ∷ ty ∷ pairs))) b ≡ next (record_from n fields (k + 1) steps b) (paired k (name ∷ ty ∷ []))
unfolding record_from
record_field n fields k name ty steps b = go (steps b)
  where
    opens : (pairs : List ℕ) (r : Result Buffer Refusal ℕ) → next r (paired k (name ∷ ty ∷ pairs)) ≡ next (next r (paired (k + 1) pairs)) (paired k (name ∷ ty ∷ []))
    opens pairs (ok w b') = paired-more k name ty pairs w b'
    opens pairs (refused e) = refl

    go : (r : Result Buffer Refusal (List ℕ)) → next (next r (λ pairs. return (name ∷ ty ∷ pairs))) (λ pairs b'. next (opened n fields b') (paired k pairs))
        ≡ next (next r (λ pairs b'. next (opened n fields b') (paired (k + 1) pairs))) (paired k (name ∷ ty ∷ []))
    go (ok pairs b') = opens pairs (opened n fields b')
    go (refused e) = refl
