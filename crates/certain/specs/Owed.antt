-- Every word that is read was owed by the counts and lengths before it, so that in a list within the limit the fault lies before word 8,192:
-- what a rule is owed, and its laws. Assumes nothing.
use Rattle.std.specs.Prelude.{ℕ, zero, suc, ◌+◌, ◌*◌, ◌≤◌, ◌<◌, Bool, true, false, cond, ◌≡◌, length, take, ltb}
use Rattle.std.proofs.Math.Bool.{and-eq-true_iff}
use Rattle.std.proofs.Math.Path.{refl}
use Rattle.std.proofs.Common.{sym, subst, ◌∙◌, arith, length-take, take-take, leb-true}
use Rattle.std.proofs.Math.Option.{Option, none, some}
use mathlib.Core.List.{List, [], ◌∷◌}
use Rattle.std.proofs.Math.Decide.{dec_lt}
use Rattle.tok.specs.Step.{Result, ok, refused, next, ◌>>=◌, return}
use Rattle.tok.specs.Reader.{Cursor, Read, most_words, take_word, owing, word, many, ends, ends_at, fault_of, unless_long}
use Rattle.reader.specs.Laws.{admitted}

-- where reading stands in a list within the limit: x words are owed
pub record Owing (x : ℕ) (c : Cursor) : Type 0 where
  pub owed : c.at + x ≡ c.least
  pub in_most : c.least ≤ most_words
  pub in_list : c.at + length c.rest ≤ most_words

-- reading answered what P holds of, and x words are owed; or its fault lies before word 8,192
pub data Paid (x : ℕ) {A : Type 0} (P : A → Type 0) : Result Cursor ℕ A → Type 0 where
  paid : (a : A) (c : Cursor) → P a → Owing x c → Paid x P (ok a c)
  short : (q : ℕ) → q < most_words → Paid x P (refused q)

-- a rule that is owed n words, and more by what it reads, and reads them all
pub record OwedTo (n : ℕ) {A : Type 0} (P : A → Type 0) (m : Read A) : Type 0 where
  pub pays : (x : ℕ) (c : Cursor) → Owing (n + x) c → Paid x P (m c)

abbrev pub Owed : (n : ℕ) {A : Type 0} (m : Read A) → Type 0
Owed n m = OwedTo n (λ _. Unit {0}) m

pub owed_as : {A : Type 0} {P : A → Type 0} {m : Read A} (n n' : ℕ) → n ≡ n' → OwedTo n P m → OwedTo n' P m
owed_as {P = P} {m = m} n n' e h = subst (λ k. OwedTo k P m) e h

owing_as : {c : Cursor} (x y : ℕ) → x ≡ y → Owing x c → Owing y c
owing_as {c} x y e h = subst (λ k. Owing k c) e h

pub owed-return : {A : Type 0} {P : A → Type 0} (a : A) → P a → OwedTo 0 P (return a)
owed-return a p = record { pays = λ x c h. paid a c p (owing_as (0 + x) x (omega arith) h) }

paid-then : {A B : Type 0} {P : A → Type 0} {Q : B → Type 0} {r : Result Cursor ℕ A} (x n : ℕ) (f : A → Read B) → Paid (n + x) P r
    → ((a : A) → P a → OwedTo n Q (f a)) → Paid x Q (next r f)
paid-then x n f (paid a c p o) h = (h a p).pays x c o
paid-then x n f (short q l) h = short q l

pub owed-then : {A B : Type 0} {P : A → Type 0} {Q : B → Type 0} (n n' : ℕ) (m : Read A) (f : A → Read B) → OwedTo n P m
    → ((a : A) → P a → OwedTo n' Q (f a)) → OwedTo (n + n') Q (◌>>=◌ m f)
owed-then n n' m f h g = record { pays = λ x c o. paid-then x n' f (h.pays (n' + x) c (owing_as (n + n' + x) (n + (n' + x)) (omega arith) o)) g }

-- ── One word ──

module _ (rule : ℕ → Bool) (owes : ℕ → ℕ) (n x : ℕ) where
  -- after it what it owes is owed too
  record Took (w : ℕ) (c : Cursor) : Type 0 where
    good : rule w ≡ true
    more : Owing (n + owes w + x) c

  data Word : Result Cursor ℕ ℕ → Type 0 where
    took : (w : ℕ) (c : Cursor) → Took w c → Word (ok w c)
    fault : (q : ℕ) → q < most_words → Word (refused q)

  tried : (w at least : ℕ) (l : List ℕ) (b : Bool) → admitted rule owes at least w ≡ b → Owing (suc n + x) (record { rest = w ∷ l; at = at; least = least })
      → Word (cond b (ok w (record { rest = l; at = at + 1; least = least + owes w })) (refused at))
  tried w at least l true e h =
      let a = (and-eq-true_iff (ltb at most_words) _).0 e in
      let b = (and-eq-true_iff (rule w) _).0 a.1 in
      took w (record { rest = l; at = at + 1; least = least + owes w }) (record {
        good = b.0;
        more = record { owed = omega (arith, h.owed); in_most = leb-true _ _ b.1; in_list = omega (arith, h.in_list) };
      })
  tried w at least l false e h = fault at (omega (arith, h.owed, h.in_most))

  one : (at least : ℕ) (l : List ℕ) → Owing (suc n + x) (record { rest = l; at = at; least = least }) → Word (take_word rule owes at least l)
  unfolding take_word
  one at least [] h = fault at (omega (arith, h.owed, h.in_most))
  one at least (w ∷ l) h = tried w at least l (admitted rule owes at least w) refl h

  word-then : {B : Type 0} {Q : B → Type 0} {r : Result Cursor ℕ ℕ} (f : ℕ → Read B) → Word r → ((w : ℕ) → rule w ≡ true → OwedTo (n + owes w) Q (f w)) → Paid x Q (next r f)
  word-then f (took w c t) g = (g w t.good).pays x c t.more
  word-then f (fault q l) g = short q l

-- a word, then what is owed besides and by it
pub owing-then : {B : Type 0} {Q : B → Type 0} (n : ℕ) (rule : ℕ → Bool) (owes : ℕ → ℕ) (f : ℕ → Read B) → ((w : ℕ) → rule w ≡ true → OwedTo (n + owes w) Q (f w))
    → OwedTo (suc n) Q (◌>>=◌ (owing rule owes) f)
owing-then n rule owes f h = record { pays = λ x c o. word-then rule owes n x f (one rule owes n x c.at c.least c.rest o) h }

-- a word that owes none
pub owed-word : (n : ℕ) (rule : ℕ → Bool) {B : Type 0} {Q : B → Type 0} (f : ℕ → Read B) → ((w : ℕ) → rule w ≡ true → OwedTo n Q (f w)) → OwedTo (suc n) Q (◌>>=◌ (word rule) f)
owed-word n rule f h = owing-then n rule (λ _. 0) f (λ w e. owed_as n (n + 0) (omega arith) (h w e))

last_word : {rule : ℕ → Bool} {x : ℕ} {r : Result Cursor ℕ ℕ} → Word rule (λ _. 0) 0 x r → Paid x (λ _. Unit {0}) r
last_word {x = x} (took w c t) = paid w c tt (owing_as (0 + 0 + x) x (omega arith) t.more)
last_word (fault q l) = short q l

pub owed-last : (rule : ℕ → Bool) → Owed 1 (word rule)
owed-last rule = record { pays = λ x c o. last_word (one rule (λ _. 0) 0 x c.at c.least c.rest o) }

-- ── The same again and again ──

unfoldable pub times : (k n : ℕ) → ℕ
times zero n = 0
times (suc k) n = n + times k n

pub times-one : (k : ℕ) → times k 1 ≡ k
unfolding times
times-one zero = refl
times-one (suc k) = omega (arith, times-one k)

pub times-two : (k : ℕ) → times k 2 ≡ 2 * k
unfolding times
times-two zero = refl
times-two (suc k) = omega (arith, times-two k)

pub owed-many : {A : Type 0} (k n : ℕ) (m : Read A) → Owed n m → Owed (times k n) (many k m)
unfolding many times
owed-many zero n m h = owed-return [] tt
owed-many (suc k) n m h =
    owed-then n (times k n) m _ h λ a _.
    owed_as (times k n + 0) (times k n) (omega arith) (owed-then (times k n) 0 (many k m) _ (owed-many k n m h) λ others _. owed-return (a ∷ others) tt)

pub owed-words : (k : ℕ) (rule : ℕ → Bool) → Owed k (many k (word rule))
owed-words k rule = owed_as (times k 1) k (times-one k) (owed-many k 1 (word rule) (owed-last rule))

pub owed-pairs : {A : Type 0} (k : ℕ) (m : Read A) → Owed 2 m → Owed (2 * k) (many k m)
owed-pairs k m h = owed_as (times k 2) (2 * k) (times-two k) (owed-many k 2 m h)

-- ── The end ──

ends-paid : (x : ℕ) (c : Cursor) (l : List ℕ) → c.at + length l ≤ most_words → Owing x c → Paid x (λ _. Unit {0}) (ends_at c.at c l)
unfolding ends_at
ends-paid x c [] l h = paid tt c tt h
ends-paid x c (w ∷ rest) l h = short c.at (omega arith)

pub owed-ends : Owed 0 ends
owed-ends = record { pays = λ x c h. ends-paid x c c.rest h.in_list (owing_as (0 + x) x (omega arith) h) }

-- ── What is refused ──

pub paid-fault : {A : Type 0} {x : ℕ} {P : A → Type 0} (r : Result Cursor ℕ A) (p : ℕ) (long : Bool) → Paid x P r → fault_of (unless_long long r) ≡ some p → p < most_words
unfolding fault_of unless_long
paid-fault r p true h e = let z : 0 ≡ p = cc in omega arith
paid-fault r p false (paid a c q o) e = let z : ◌≡◌ {A = ℕ} 0 1 = cc in absurd (omega arith)
paid-fault r p false (short q l) e = let z : q ≡ p = cc in omega arith

-- ── At word 8,192 ──

-- a list whose first 8,192 words are accepted, and that goes on
pub record GoesOn (fault : List ℕ → Option ℕ) (words : List ℕ) : Type 0 where
  pub more : most_words < length words
  pub accepted : fault (take most_words words) ≡ none

-- A list offends at word 8,192 only so: by what is said of a fault's place.
module _ (fault : List ℕ → Option ℕ) (certain : (words words' : List ℕ) (p : ℕ) → fault words ≡ some p → take (p + 1) words' ≡ take (p + 1) words → fault words' ≡ some p)
    (before : (words : List ℕ) (p : ℕ) → length words ≤ most_words → fault words ≡ some p → p < most_words) (words : List ℕ) (e : fault words ≡ some most_words) where
  pub goes_on : GoesOn fault words
  goes_on = record { more = longer (dec_lt most_words (length words)); accepted = none_of (fault (take most_words words)) refl }
    where
      longer : Dec (most_words < length words) → most_words < length words
      longer (yes l) = l
      longer (no l) = absurd (omega (arith, before words most_words (omega arith) e))

      none_of : (o : Option ℕ) → fault (take most_words words) ≡ o → o ≡ none
      none_of none f = refl
      none_of (some q) f =
          let l : q < most_words = before (take most_words words) q (omega (arith, length-take most_words words)) f in
          let g : fault words ≡ some q = certain (take most_words words) words q f (sym (take-take (q + 1) most_words words (omega arith))) in
          let z : q ≡ most_words = some_inj (sym g ∙ e) in
          absurd (omega arith)
        where
          some_inj : {a b : ℕ} → ◌≡◌ {A = Option ℕ} (some a) (some b) → a ≡ b
          some_inj h = cc
