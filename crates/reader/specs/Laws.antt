-- Laws of reading forward: one word, and one rule after another. Each says what the definitions come to where the code's reading stands.
-- Assumes nothing.
use Rattle.std.specs.Prelude.{ℕ, ◌+◌, ◌≤◌, ◌<◌, Bool, true, false, ◌&&◌, cond, ◌≡◌, List, [], ◌∷◌, length, get_or, drop, leb, ltb, Result, Ok, Err}
use Rattle.std.proofs.Math.Path.{refl}
use Rattle.std.proofs.Common.{sym, ap, ◌∙◌, add-zero, add-one, drop_of_length-le, drop-cons, get_or-drop}
use Rattle.tok.specs.Step.{next, ◌>>=◌, return}
use Rattle.tok.specs.Step as step
use Rattle.tok.specs.Reader.{Cursor, Read, most_words, take_word, owing, ends, ends_at, start, unless_long, fault_of, most_bytes}
use Rattle.reader.specs.declared.Fault.{Fault}
use Rattle.reader.specs.Reading.{Reader, reading, standing, beginning, next_word, onward, gave, offending}

-- ── One word ──

-- no fault of a word: it lies within the most words, its rule holds, and what it owes lies within them too
abbrev pub admitted : (rule : ℕ → Bool) (owes : ℕ → ℕ) (at least w : ℕ) → Bool
admitted rule owes at least w = ltb at most_words && (rule w && leb (least + owes w) most_words)

module _ (rule : ℕ → Bool) (owes : ℕ → ℕ) (words : List ℕ) (at least : ℕ) where
  -- "first offending word, or its length"
  pub short : (w : ℕ) → length words ≤ at → owing rule owes (standing words at least) ≡ gave w (Err (record { 0 = at }))
  unfolding take_word gave
  short w h = rw (drop_of_length-le words h) refl

  pub offends : (w : ℕ) → at < length words → admitted rule owes at least (get_or words at 0) ≡ false
      → owing rule owes (standing words at least) ≡ gave w (Err (record { 0 = at }))
  unfolding take_word gave
  offends w h e = rw (drop-cons words at 0 h, e) refl

  pub taken : at < length words → admitted rule owes at least (get_or words at 0) ≡ true
      → owing rule owes (standing words at least) ≡ gave (get_or words at 0) (Ok (reading words (at + 1) (least + owes (get_or words at 0))))
  unfolding take_word gave
  taken h e = rw (drop-cons words at 0 h, e, add-one) refl

-- "nothing after"
module _ (words : List ℕ) (at least : ℕ) where
  pub ends_left : at < length words → ends (standing words at least) ≡ gave tt (Err (record { 0 = at }))
  unfolding ends_at gave
  ends_left h = rw (drop-cons words at 0 h) refl

  pub ends_here : length words ≤ at → ends (standing words at least) ≡ gave tt (Ok (reading words at least))
  unfolding ends_at gave
  ends_here h = rw (drop_of_length-le words h) refl

-- A rule counts only at the word that is read: a reader that has tried it there is a reader of the rule.
by_first : (rule : ℕ → Bool) (owes : ℕ → ℕ) (at least : ℕ) (l : List ℕ) (good : Bool) (n : ℕ) → rule (get_or l 0 0) ≡ good → owes (get_or l 0 0) ≡ n
    → take_word rule owes at least l ≡ take_word (λ _. good) (λ _. n) at least l
unfolding take_word
by_first rule owes at least [] good n p q = refl
by_first rule owes at least (w ∷ l) good n p q = rw (p, q) refl

pub by_rule : (rule : ℕ → Bool) (owes : ℕ → ℕ) (from : Reader) (good : Bool) (n : ℕ)
    → rule (next_word from) ≡ good → owes (next_word from) ≡ n
    → onward from (owing rule owes) ≡ onward from (owing (λ _. good) (λ _. n))
by_rule rule owes from good n p q =
    by_first rule owes from.at from.least (drop from.at from.words) good n (rw (get_or-drop, add-zero) p) (rw (get_or-drop, add-zero) q)

-- A word that the code has tried: `w` is the word there, `good` says whether its rule holds of it, and `n` how many words it owes.
pub owed : (rule : ℕ → Bool) (owes : ℕ → ℕ) (from : Reader) (to : Result Reader Fault) (w n : ℕ) (good : Bool)
    → w ≡ next_word from → good ≡ rule w → n ≡ owes w
    → onward from (owing (λ _. good) (λ _. n)) ≡ gave (next_word from) to → onward from (owing rule owes) ≡ gave w to
owed rule owes from to w n good p q o e = by_rule rule owes from good n (rw p at (sym q)) (rw p at (sym o)) ∙ e ∙ ap (λ a. gave a to) (sym p)

-- ── One rule after another ──

-- a rule that reads nothing more
pub onward-return : {A : Type 0} (from : Reader) (a : A) → onward from (return a) ≡ gave a (Ok from)
unfolding gave
onward-return from a = refl

module _ {A B : Type 0} (from : Reader) (m : Read A) (f : A → Read B) (a : A) where
  pub onward_then : (mid : Reader) → onward from m ≡ gave a (Ok mid) → onward from (◌>>=◌ m f) ≡ onward mid (f a)
  unfolding gave
  onward_then mid e = rw e refl

  -- a fault ends all
  pub onward_stops : (fault : Fault) (b : B) → onward from m ≡ gave a (Err fault) → onward from (◌>>=◌ m f) ≡ gave b (Err fault)
  unfolding gave
  onward_stops fault b e = rw e refl

-- the last rule, of which an answer is made
pub onward_last : {A B : Type 0} (f : A → B) (a : A) (to : Result Reader Fault) (r : step.Result Cursor ℕ A) → r ≡ gave a to
    → next r (λ x. return (f x)) ≡ gave (f a) to
unfolding gave
onward_last f a (Ok to) r e = rw e refl
onward_last f a (Err fault) r e = rw e refl

-- ── The beginning and the end ──

-- "a text over its limit comes first, with place 0"
module _ {A : Type 0} (words : List ℕ) (n least : ℕ) (m : Read A) where
  -- the beginning, by whether the text is too long
  abbrev begins : Bool → Result Reader Fault
  begins b = cond b (Err (record { 0 = 0 })) (Ok (reading words 0 least))

  begun : (b : Bool) (from : Reader) → begins b ≡ Ok from
      → unless_long b (m (start least words)) ≡ onward from m
  unfolding unless_long
  begun true from e = cc
  begun false from e = let same : ◌≡◌ {A = Reader} (reading words 0 least) from = cc in rw (sym same) refl

  too_long : (b : Bool) (fault : Fault) (a : A) → begins b ≡ Err fault
      → unless_long b (m (start least words)) ≡ gave a (Err fault)
  unfolding unless_long gave
  too_long true fault a e = let same : ◌≡◌ {A = Fault} (record { 0 = 0 }) fault = cc in rw (sym same) refl
  too_long false fault a e = cc

  pub onward_begun : (from : Reader) → beginning n words least ≡ Ok from → unless_long (ltb most_bytes n) (m (start least words)) ≡ onward from m
  onward_begun from e = begun (ltb most_bytes n) from e

  pub onward_long : (fault : Fault) (a : A) → beginning n words least ≡ Err fault → unless_long (ltb most_bytes n) (m (start least words)) ≡ gave a (Err fault)
  onward_long fault a e = too_long (ltb most_bytes n) fault a e

pub fault-gave : {A : Type 0} (a : A) (r : Result Reader Fault) → fault_of (gave a r) ≡ offending r
unfolding fault_of gave
fault-gave a (Ok to) = refl
fault-gave a (Err fault) = refl
