-- Reading forward: a rule never goes back nor past the end, and of two lists that agree in their first k words it reads the same as long as
-- it stands among these. Relations of readings, and their laws. Assumes nothing.
use Prim.Native.Nat.{ℕ, zero, suc, ◌+◌, ◌≤◌, ◌<◌}
use Rattle.std.specs.Prelude.{Bool, true, false, cond, ◌≡◌, take, drop, ltb}
use Rattle.std.proofs.Math.Bool.{and-eq-true_iff}
use Rattle.std.proofs.Math.Path.{refl}
use Rattle.std.proofs.Common.{sym, ap, subst, ◌∙◌, length-take, get_or-take, ltb-true}
use Rattle.std.proofs.Math.Option.{Option, none, some}
use mathlib.Core.List.{List, [], ◌∷◌}
use native.Mathlib.Omega.{arith}
use Rattle.std.proofs.Math.Numerals.{add-one}
use Rattle.std.proofs.Math.Decide.{dec_lt}
use Rattle.std.proofs.Math.ListN.{length, get_or, drop_of_length-le}
use Rattle.std.proofs.Math.Seq.{drop-cons}
use Rattle.tok.specs.Step.{Result, ok, refused, next, ◌>>=◌, return}
use Rattle.tok.specs.Reader.{Cursor, Read, most_words, take_word, owing, many, ends, ends_at, fault_of, unless_long}
use Rattle.reader.specs.Reading.{standing}
use Rattle.reader.specs.Laws.{admitted}

-- ── One reading ──

-- it has come past word n, or found its fault there or later
pub data Past (n : ℕ) {A : Type 0} : Result Cursor ℕ A → Type 0 where
  beyond : {a : A} {c : Cursor} → n < c.at → Past n (ok a c)
  later : (q : ℕ) → n ≤ q → Past n (refused q)

-- it stands in a list of `size` words or at its end, and so does its fault; and both lie within the most words
pub data Inside (size : ℕ) {A : Type 0} : Result Cursor ℕ A → Type 0 where
  stands_in : {a : A} {c : Cursor} → c.at + length c.rest ≡ size → c.at ≤ most_words → Inside size (ok a c)
  fault_in : (q : ℕ) → q ≤ size → q ≤ most_words → Inside size (refused q)

-- from the end of a list it has read nothing, or its fault is there
pub data AtEnd (at : ℕ) {A : Type 0} : Result Cursor ℕ A → Type 0 where
  still : (a : A) (least : ℕ) → AtEnd at (ok a (record { rest = []; at = at; least = least }))
  spent : AtEnd at (refused at)

-- a rule that goes onward only
pub record Onward {A : Type 0} (m : Read A) : Type 0 where
  pub past : (n : ℕ) (c : Cursor) → n < c.at → Past n (m c)
  pub inside : (size : ℕ) (c : Cursor) → c.at + length c.rest ≡ size → c.at ≤ most_words → Inside size (m c)
  pub at_end : (at least : ℕ) → AtEnd at (m (record { rest = []; at = at; least = least }))

module _ {A B : Type 0} (f : A → Read B) (h : (a : A) → Onward (f a)) where
  past-then : {n : ℕ} {r : Result Cursor ℕ A} → Past n r → Past n (next r f)
  past-then {n = n} (beyond {a} {c} l) = (h a).past n c l
  past-then (later q l) = later q l

  inside-then : {size : ℕ} {r : Result Cursor ℕ A} → Inside size r → Inside size (next r f)
  inside-then {size = size} (stands_in {a} {c} e l) = (h a).inside size c e l
  inside-then (fault_in q l m) = fault_in q l m

  at_end-then : {at : ℕ} {r : Result Cursor ℕ A} → AtEnd at r → AtEnd at (next r f)
  at_end-then {at = at} (still a least) = (h a).at_end at least
  at_end-then spent = spent

pub onward-return : {A : Type 0} (a : A) → Onward (return a)
onward-return a = record { past = λ n c l. beyond l; inside = λ size c e l. stands_in e l; at_end = λ at least. still a least }

pub onward_then : {A B : Type 0} (m : Read A) (f : A → Read B) → Onward m → ((a : A) → Onward (f a)) → Onward (◌>>=◌ m f)
onward_then m f h g = record {
  past = λ n c l. past-then f g (h.past n c l);
  inside = λ size c e l. inside-then f g (h.inside size c e l);
  at_end = λ at least. at_end-then f g (h.at_end at least);
}

-- one word
module _ (rule : ℕ → Bool) (owes : ℕ → ℕ) (at least : ℕ) where
  tried-past : (n : ℕ) (b : Bool) (w : ℕ) (c : Cursor) → n ≤ at → n < c.at → Past n (cond b (ok w c) (refused at))
  tried-past n true w c h l = beyond l
  tried-past n false w c h l = later at h

  word-past : (n : ℕ) (l : List ℕ) → n ≤ at → Past n (take_word rule owes at least l)
  unfolding take_word
  word-past n [] h = later at h
  word-past n (w ∷ l) h = tried-past n (admitted rule owes at least w) w _ h (omega arith)

  tried-inside : (size w : ℕ) (l : List ℕ) (b : Bool) → admitted rule owes at least w ≡ b → at + length (w ∷ l) ≡ size → at ≤ most_words
      → Inside size (cond b (ok w (record { rest = l; at = at + 1; least = least + owes w })) (refused at))
  tried-inside size w l true e h m =
      let below : at < most_words = ltb-true at most_words ((and-eq-true_iff (ltb at most_words) _).0 e).0 in
      let rest : at + 1 + length l ≡ size = omega arith in
      let to : at + 1 ≤ most_words = omega arith in
      stands_in rest to
  tried-inside size w l false e h m = fault_in at (omega arith) m

  word-inside : (size : ℕ) (l : List ℕ) → at + length l ≡ size → at ≤ most_words → Inside size (take_word rule owes at least l)
  unfolding take_word
  word-inside size [] h m = fault_in at (omega arith) m
  word-inside size (w ∷ l) h m = tried-inside size w l (admitted rule owes at least w) refl h m

pub onward-word : (rule : ℕ → Bool) (owes : ℕ → ℕ) → Onward (owing rule owes)
unfolding take_word
onward-word rule owes = record {
  past = λ n c l. word-past rule owes c.at c.least n c.rest (omega arith);
  inside = λ size c e l. word-inside rule owes c.at c.least size c.rest e l;
  at_end = λ at least. spent;
}

-- the end
ends-past : (n at : ℕ) (c : Cursor) (l : List ℕ) → n < at → n < c.at → Past n (ends_at at c l)
unfolding ends_at
ends-past n at c [] h l = beyond l
ends-past n at c (w ∷ rest) h l = later at (omega arith)

ends-inside : (size : ℕ) (c : Cursor) (l : List ℕ) → c.at + length c.rest ≡ size → c.at ≤ most_words → Inside size (ends_at c.at c l)
unfolding ends_at
ends-inside size c [] e m = stands_in e m
ends-inside size c (w ∷ rest) e m = fault_in c.at (omega arith) m

onward-ends : Onward ends
unfolding ends_at
onward-ends = record {
  past = λ n c l. ends-past n c.at c c.rest l l;
  inside = λ size c e l. ends-inside size c c.rest e l;
  at_end = λ at least. still tt least;
}

pub onward-many : {A : Type 0} (n : ℕ) (m : Read A) → Onward m → Onward (many n m)
unfolding many
onward-many zero m h = onward-return []
onward-many (suc n) m h = onward_then m _ h (λ a. onward_then (many n m) _ (onward-many n m h) (λ others. onward-return (a ∷ others)))

-- ── Two lists that agree in their first k words ──

pub record Agree (k : ℕ) (words words' : List ℕ) : Type 0 where
  pub front : take k words' ≡ take k words

module _ {k : ℕ} {words words' : List ℕ} (agree : Agree k words words') where
  pub same_word : (i : ℕ) → i < k → get_or words' i 0 ≡ get_or words i 0
  same_word i l = sym (get_or-take k words' i 0 l) ∙ (ap (λ ws. get_or ws i 0) agree.front ∙ get_or-take k words i 0 l)

  same_length : (i : ℕ) → i < k → i < length words → i < length words'
  same_length i h l =
      let e : length (take k words') ≡ length (take k words) = ap (λ (ws : List ℕ). length ws) agree.front in
      omega (arith, length-take k words', length-take k words)

  same_end : (i : ℕ) → i < k → length words ≤ i → length words' ≤ i
  same_end i h l =
      let e : length (take k words') ≡ length (take k words) = ap (λ (ws : List ℕ). length ws) agree.front in
      omega (arith, length-take k words', length-take k words)

-- Reading the two came to the same, answer and place, within these words, and P holds of both; or it found the same fault; or the first
-- has come past these words, and nothing is said of the second; or the first list ends with them, and there the second has a word left.
pub data Alike (k : ℕ) (words words' : List ℕ) {A : Type 0} (P : A → ℕ → Type 0) : Result Cursor ℕ A → Result Cursor ℕ A → Type 0 where
  both : (a : A) (at least : ℕ) → at ≤ k → P a at → Alike k words words' P (ok a (standing words at least)) (ok a (standing words' at least))
  stopped : (q : ℕ) → Alike k words words' P (refused q) (refused q)
  passed : {r r' : Result Cursor ℕ A} → Past k r → Alike k words words' P r r'
  over : (a : A) (least : ℕ) → drop k words ≡ [] → Alike k words words' P (ok a (standing words k least)) (refused k)

-- a rule that reads both lists alike from any place within these words on, and comes to a place of which P holds
pub record ForwardTo (k : ℕ) (words words' : List ℕ) (P : ℕ → Type 0) {A : Type 0} (m : Read A) : Type 0 where
  pub alike : (at least : ℕ) → at ≤ k → Alike k words words' (λ _ to. P to) (m (standing words at least)) (m (standing words' at least))
  pub onward : Onward m

abbrev pub Any : ℕ → Type 0
Any to = Unit {0}

abbrev pub Forward : (k : ℕ) (words words' : List ℕ) {A : Type 0} (m : Read A) → Type 0
Forward k words words' m = ForwardTo k words words' Any m

module _ {k : ℕ} {words words' : List ℕ} where
  over-next : {A : Type 0} {P : A → ℕ → Type 0} {r : Result Cursor ℕ A} → drop k words ≡ [] → AtEnd k r → Alike k words words' P r (refused k)
  over-next {P = P} e (still a least) = subst (λ l. Alike k words words' P (ok a (record { rest = l; at = k; least = least })) (refused k)) e (over a least e)
  over-next e spent = stopped k

  -- one rule after another; the second may rest on what the first has shown
  pub alike_then : {A B : Type 0} {P : A → ℕ → Type 0} {Q : B → ℕ → Type 0} {r r' : Result Cursor ℕ A} (f f' : A → Read B)
      → Alike k words words' P r r'
      → ((a : A) (at least : ℕ) → at ≤ k → P a at → Alike k words words' Q (f a (standing words at least)) (f' a (standing words' at least)))
      → ((a : A) → Onward (f a)) → Alike k words words' Q (next r f) (next r' f')
  alike_then f f' (both a at least l p) h g = h a at least l p
  alike_then f f' (stopped q) h g = stopped q
  alike_then f f' (passed s) h g = passed (past-then f g s)
  alike_then f f' (over a least e) h g = over-next e (subst (λ l. AtEnd k (f a (record { rest = l; at = k; least = least }))) (sym e) ((g a).at_end k least))

  pub alike-map : {A : Type 0} {P Q : A → ℕ → Type 0} {r r' : Result Cursor ℕ A} → ((a : A) (at : ℕ) → P a at → Q a at)
      → Alike k words words' P r r' → Alike k words words' Q r r'
  alike-map h (both a at least l p) = both a at least l (h a at p)
  alike-map h (stopped q) = stopped q
  alike-map h (passed s) = passed s
  alike-map h (over a least e) = over a least e

  pub forward-return : {A : Type 0} (a : A) → Forward k words words' (return a)
  forward-return a = record { alike = λ at least l. both a at least l tt; onward = onward-return a }

  pub forward-then : {A B : Type 0} {P : ℕ → Type 0} (m : Read A) (f : A → Read B) → Forward k words words' m → ((a : A) → ForwardTo k words words' P (f a))
      → ForwardTo k words words' P (◌>>=◌ m f)
  forward-then m f h g = record {
    alike = λ at least l. alike_then f f (h.alike at least l) (λ a to least' l' _. (g a).alike to least' l') (λ a. (g a).onward);
    onward = onward_then m f h.onward (λ a. (g a).onward);
  }

  pub forward-many : {A : Type 0} (n : ℕ) (m : Read A) → Forward k words words' m → Forward k words words' (many n m)
  unfolding many
  forward-many zero m h = forward-return []
  forward-many (suc n) m h = forward-then m _ h (λ a. forward-then (many n m) _ (forward-many n m h) (λ others. forward-return (a ∷ others)))

-- ── One word, and the end ──

module _ {k : ℕ} {words words' : List ℕ} (agree : Agree k words words') where
  tried : (b : Bool) (w at least : ℕ) → at + 1 ≤ k
      → Alike k words words' (λ _ n. n ≡ at + 1) (cond b (ok w (standing words (at + 1) least)) (refused at)) (cond b (ok w (standing words' (at + 1) least)) (refused at))
  tried true w at least l = both w (at + 1) least l refl
  tried false w at least l = stopped at

  -- a word, by two rules that are the same of every word at that place
  module _ (rule rule' : ℕ → Bool) (owes : ℕ → ℕ) (at least : ℕ) where
    within : at < k → ((w : ℕ) → rule' w ≡ rule w)
        → Alike k words words' (λ _ n. n ≡ at + 1) (owing rule owes (standing words at least)) (owing rule' owes (standing words' at least))
    unfolding take_word
    within h same = elim (dec_lt at (length words)) [
      | yes l ↦
          let w : ℕ = get_or words at 0 in
          rw (drop-cons words at 0 l, drop-cons words' at 0 (same_length agree at h l), same_word agree at h, same w, add-one at)
          (rw (add-one at) at (tried (admitted rule owes at least w) w at (least + owes w) (omega arith)))
      | no l ↦
          let e : length words ≤ at = omega arith in
          rw (drop_of_length-le words e, drop_of_length-le words' (same_end agree at h e)) (stopped at)
    ]

    pub alike-word : at ≤ k → (at < k → (w : ℕ) → rule' w ≡ rule w)
        → Alike k words words' (λ _ n. n ≡ at + 1) (owing rule owes (standing words at least)) (owing rule' owes (standing words' at least))
    alike-word l same = elim (dec_lt at k) [
      | yes h ↦ within h (same h)
      | no h ↦ passed (word-past rule owes at least k (drop at words) (omega arith))
    ]

  pub forward-word : (rule : ℕ → Bool) (owes : ℕ → ℕ) → Forward k words words' (owing rule owes)
  forward-word rule owes = record {
    alike = λ at least l. alike-map (λ _ _ _. tt) (alike-word rule rule owes at least l (λ _ w. refl));
    onward = onward-word rule owes;
  }

  -- "nothing after": a word that is left among the first k is there in both
  abbrev Ended : Unit {0} → ℕ → Type 0
  Ended _ to = length words' ≤ to

  end-over : (at least : ℕ) → at ≡ k → length words ≤ k → Alike k words words' Ended (ok tt (standing words at least)) (refused at)
  end-over at least z e = subst (λ n. Alike k words words' Ended (ok tt (standing words n least)) (refused n)) (sym z) (over tt least (drop_of_length-le words e))

  module _ (at least : ℕ) (l : at ≤ k) where
    word-left : at < length words → Alike k words words' Ended (ends (standing words at least)) (ends (standing words' at least))
    unfolding ends_at
    word-left m = elim (dec_lt at k) [
      | yes h ↦ rw (drop-cons words at 0 m, drop-cons words' at 0 (same_length agree at h m)) (stopped at)
      | no h ↦ rw (drop-cons words at 0 m) (passed (later at (omega arith)))
    ]

    no-word-left : length words ≤ at → Alike k words words' Ended (ends (standing words at least)) (ends (standing words' at least))
    unfolding ends_at
    no-word-left e = elim (dec_lt at (length words')) [
      | yes h ↦ elim (dec_lt at k) [
        | yes b ↦ absurd (omega (arith, same_end agree at b e))
        | no b ↦ rw (drop_of_length-le words e, drop-cons words' at 0 h) (rw (drop_of_length-le words e) at (end-over at least (omega arith) (omega arith)))
      ]
      | no h ↦
          let e' : length words' ≤ at = omega arith in
          let here : Alike k words words' Ended (ok (tt {0}) (standing words at least)) (ok (tt {0}) (standing words' at least)) = both tt at least l e' in
          rw (drop_of_length-le words e, drop_of_length-le words' e') (rw (drop_of_length-le words e, drop_of_length-le words' e') at here)
    ]

    alike-ends : Alike k words words' Ended (ends (standing words at least)) (ends (standing words' at least))
    alike-ends = elim (dec_lt at (length words)) [ yes m ↦ word-left m | no m ↦ no-word-left (omega arith) ]

  -- the end, and what was read
  pub forward-ends : {A : Type 0} (a : A) → ForwardTo k words words' (λ to. length words' ≤ to) (◌>>=◌ ends (λ _. return a))
  forward-ends a = record {
    alike = λ at least l. alike_then _ _ (alike-ends at least l) (λ _ to least' l' e. both a to least' l' e) (λ _. onward-return a);
    onward = onward_then ends _ onward-ends (λ _. onward-return a);
  }

-- ── What is refused ──

some-none : {P : Type 0} {n : ℕ} → ◌≡◌ {A = Option ℕ} (some n) none → P
some-none e = let z : ◌≡◌ {A = ℕ} 0 1 = cc in absurd (omega arith)

-- "first offending word, or its length"; "a buffer over 8,192 words offends at word 8,192" at the latest
pub record PlaceIn (words : List ℕ) (p : ℕ) : Type 0 where
  pub in_list : p ≤ length words
  pub in_most : p ≤ most_words

pub place_in : {A : Type 0} {r : Result Cursor ℕ A} (words : List ℕ) (p : ℕ) → Inside (length words) r → fault_of r ≡ some p → PlaceIn words p
unfolding fault_of
place_in words p (stands_in h m) e = some-none (sym e)
place_in words p (fault_in q l m) e = let z : q ≡ p = cc in record { in_list = omega arith; in_most = omega arith }

module _ {A : Type 0} {k : ℕ} {words words' : List ℕ} where
  -- A fault among the first k words is the same in both.
  pub alike-fault : {P : A → ℕ → Type 0} {r r' : Result Cursor ℕ A} (p : ℕ) → p < k → Alike k words words' P r r' → fault_of r ≡ some p → fault_of r' ≡ some p
  unfolding fault_of
  alike-fault p l (both a at least h q) e = some-none (sym e)
  alike-fault p l (stopped q) e = e
  alike-fault p l (passed (beyond h)) e = some-none (sym e)
  alike-fault p l (passed (later q h)) e = let z : q ≡ p = cc in absurd (omega arith)
  alike-fault p l (over a least h) e = some-none (sym e)

  -- Where the first k words are a whole list without a fault, a word after them offends.
  pub alike-after : {r r' : Result Cursor ℕ A} → k ≡ length words → k < length words' → Inside (length words) r
      → Alike k words words' (λ _ to. length words' ≤ to) r r' → fault_of r ≡ none → fault_of r' ≡ some k
  unfolding fault_of
  alike-after z l i (both a at least h q) e = absurd (omega arith)
  alike-after z l i (stopped q) e = some-none e
  alike-after z l (stands_in {c = c} s m) (passed (beyond h)) e = absurd (omega arith)
  alike-after z l i (passed (later q h)) e = some-none e
  alike-after z l i (over a least h) e = refl

-- "a text over its limit comes first, with place 0", whatever the words are
pub long-fault : {A : Type 0} (r r' : Result Cursor ℕ A) (p : ℕ) (long : Bool) → (fault_of r ≡ some p → fault_of r' ≡ some p)
    → fault_of (unless_long long r) ≡ some p → fault_of (unless_long long r') ≡ some p
unfolding unless_long
long-fault r r' p true h e = e
long-fault r r' p false h e = h e

pub long-place : {A : Type 0} (r : Result Cursor ℕ A) (words : List ℕ) (p : ℕ) (long : Bool) → (fault_of r ≡ some p → PlaceIn words p) → fault_of (unless_long long r) ≡ some p → PlaceIn words p
unfolding unless_long fault_of
long-place r words p true h e = let z : 0 ≡ p = cc in record { in_list = omega arith; in_most = omega arith }
long-place r words p false h e = h e

pub long_after : {A : Type 0} (r r' : Result Cursor ℕ A) (p : ℕ) (long : Bool) → (fault_of r ≡ none → fault_of r' ≡ some p)
    → fault_of (unless_long long r) ≡ none → fault_of (unless_long long r') ≡ some p
unfolding unless_long fault_of
long_after r r' p true h e = some-none e
long_after r r' p false h e = h e
