-- What a rule reads, by place: the answer that stands at a word, up to the word after it, and what its tests have shown of the words
-- between. With it, what readers accept is what decoders find there. A relation and its laws.
-- Assumes nothing.
use Rattle.std.specs.Prelude.{ℕ, suc, ◌+◌, ◌≤◌, ◌<◌, Bool, ◌&&◌, ◌≡◌, List, length, get_or, ltb, Ok, Err}
use Rattle.std.specs.Prelude as rust
use Rattle.std.proofs.Math.Bool.{true, false, and-eq-true_iff}
use Rattle.std.proofs.Math.Path.{refl, subst}
use Rattle.std.proofs.Common.{sym, ap, ◌∙◌, arith, ltb-true}
use Rattle.std.proofs.Math.Decide.{dec_lt}
use Rattle.std.proofs.Math.Dec.{leb}
use Rattle.tok.specs.Step.{Result, ok, refused, next}
use Rattle.tok.specs.Reader.{Cursor, Read, most_words, owing, ends}
use Rattle.reader.specs.declared.Fault.{Fault}
use Rattle.reader.specs.Reading.{Reader, standing, gave}
use Rattle.reader.specs.Laws.{admitted, short, taken, offends, ends_left, ends_here}

-- a place that reading has come to: all before it are words of the list, and of the most that there may be
pub record Within (words : List ℕ) (to : ℕ) : Type 0 where
  pub in_list : to ≤ length words
  pub in_most : to ≤ most_words

-- Reading answered `a`, came to word `to` and showed P; or it found a fault.
pub data Reads {A : Type 0} (words : List ℕ) (a : A) (to : ℕ) (P : Type 0) : Result Cursor ℕ A → Type 0 where
  reads : (least : ℕ) → Within words to → P → Reads words a to P (ok a (standing words to least))
  faults : (place : ℕ) → Reads words a to P (refused place)

-- one rule after another: the second may rest on what the first has shown
pub reads_then : {A B : Type 0} {words : List ℕ} {a : A} {b : B} {mid to : ℕ} {P Q : Type 0} {r : Result Cursor ℕ A} (f : A → Read B)
    → Reads words a mid P r → ((least : ℕ) → Within words mid → P → Reads words b to Q (f a (standing words mid least))) → Reads words b to Q (next r f)
reads_then f (reads least w p) k = k least w p
reads_then f (faults place) k = faults place

-- nothing more is read
pub reads-done : {A : Type 0} {words : List ℕ} {a : A} {P : Type 0} (at to least : ℕ) → at ≡ to → Within words at → P
    → Reads words a to P (ok a (standing words at least))
reads-done {words = words} {a = a} {P = P} at to least e w p = subst (λ t. Reads words a t P (ok a (standing words at least))) e (reads least w p)

within-next : {words : List ℕ} {at : ℕ} → at < length words → ltb at most_words ≡ true → Within words (at + 1)
within-next {at = at} h e = let l : at < 8192 = ltb-true at 8192 e in record { in_list = omega arith; in_most = omega arith }

-- a word, of which its rule holds
module _ (rule : ℕ → Bool) (owes : ℕ → ℕ) (words : List ℕ) (at least : ℕ) where
  abbrev AtWord : Result Cursor ℕ ℕ → Type 0
  AtWord r = Reads words (get_or words at 0) (at + 1) (rule (get_or words at 0) ≡ true) r

  at-word : (h : at < length words) (b : Bool) → admitted rule owes at least (get_or words at 0) ≡ b → AtWord (owing rule owes (standing words at least))
  unfolding gave
  at-word h true e =
      let both : (ltb at most_words ≡ true) × ((rule (get_or words at 0) && leb (least + owes (get_or words at 0)) most_words) ≡ true) = (and-eq-true_iff (ltb at most_words) _).0 e in
      subst AtWord (sym (taken rule owes words at least h e)) (reads _ (within-next h both.0) ((and-eq-true_iff _ _).0 both.1).0)
  at-word h false e = subst AtWord (sym (offends rule owes words at least 0 h e)) (faults at)

  pub reads_word : Reads words (get_or words at 0) (at + 1) (rule (get_or words at 0) ≡ true) (owing rule owes (standing words at least))
  unfolding gave
  reads_word = elim (dec_lt at (length words)) [
    | yes h ↦ at-word h _ refl
    | no h ↦ subst AtWord (sym (short rule owes words at least 0 (omega arith))) (faults at)
  ]

-- the same, with the place counted from a base: the word after it is one more from there
pub reads-next : (rule : ℕ → Bool) (owes : ℕ → ℕ) (words : List ℕ) (base k least : ℕ)
    → Reads words (get_or words (base + k) 0) (base + suc k) (rule (get_or words (base + k) 0) ≡ true) (owing rule owes (standing words (base + k) least))
reads-next rule owes words base k least =
    let e : base + k + 1 ≡ base + suc k = omega arith in
    rw e at (reads_word rule owes words (base + k) least)

-- the end of the list
pub reads_end : (words : List ℕ) (at least : ℕ) → Within words at → Reads words tt at (length words ≡ at) (ends (standing words at least))
unfolding gave
reads_end words at least w = elim (dec_lt at (length words)) [
  | yes h ↦ subst (Reads words tt at (length words ≡ at)) (sym (ends_left words at least h)) (faults at)
  | no h ↦ subst (Reads words tt at (length words ≡ at)) (sym (ends_here words at least (omega arith))) (reads least w (omega (arith, w.in_list)))
]

-- ── What is shown, and where reading stands, said another way ──

module _ {A : Type 0} {words : List ℕ} {a : A} {to : ℕ} {P : Type 0} where
  pub reads-show : {Q : Type 0} {r : Result Cursor ℕ A} → (Within words to → P → Q) → Reads words a to P r → Reads words a to Q r
  reads-show f (reads least w p) = reads least w (f w p)
  reads-show f (faults place) = faults place

  pub reads-map : {Q : Type 0} {r : Result Cursor ℕ A} → (P → Q) → Reads words a to P r → Reads words a to Q r
  reads-map f = reads-show (λ _ p. f p)

  pub reads_to : {r : Result Cursor ℕ A} (other : ℕ) → (P → to ≡ other) → Reads words a to P r → Reads words a other P r
  reads_to other e (reads least w p) = subst (λ n. Reads words a n P (ok a (standing words to least))) (e p) (reads least w p)
  reads_to other e (faults place) = faults place

  pub reads-as : {r : Result Cursor ℕ A} {b : A} → a ≡ b → Reads words a to P r → Reads words b to P r
  reads-as {r} e h = rw e at h

  -- what was read, among what is shown
  pub reads_self : {r : Result Cursor ℕ A} → Reads words a to P r → Reads words a to ((after : ℕ) × (r ≡ ok a (standing words to after)) × P) r
  reads_self (reads least w p) = reads least w (least, refl, p)
  reads_self (faults place) = faults place

-- ── What is known of a reading by it ──

module _ {A : Type 0} {words : List ℕ} {a : A} {to : ℕ} {P : Type 0} where
  -- an answer that was read is the one that stands there, the place the one after it, and the tests have held
  pub reads-answer : {r : Result Cursor ℕ A} {b : A} {c : Cursor} → Reads words a to P r → r ≡ ok b c → b ≡ a
  reads-answer (reads least w p) e = cc
  reads-answer (faults place) e = cc

  pub reads-place : {r : Result Cursor ℕ A} {b : A} {c : Cursor} → Reads words a to P r → r ≡ ok b c → c.at ≡ to
  reads-place (reads least w p) e = cc
  reads-place (faults place) e = cc

  pub reads-within : {r : Result Cursor ℕ A} {b : A} {c : Cursor} → Reads words a to P r → r ≡ ok b c → Within words to
  reads-within (reads least w p) e = w
  reads-within (faults place) e = let z : ◌≡◌ {A = ℕ} 0 1 = cc in absurd (omega arith)

  pub reads-shown : {r : Result Cursor ℕ A} {b : A} {c : Cursor} → Reads words a to P r → r ≡ ok b c → P
  reads-shown (reads least w p) e = p
  reads-shown (faults place) e = let z : ◌≡◌ {A = ℕ} 0 1 = cc in absurd (omega arith)

-- and what is known where reading has come to a place
module _ {A : Type 0} {words : List ℕ} {a : A} {end : ℕ} {P : Type 0} {r : Result Cursor ℕ A} (to : Reader) (b : A) (h : Reads words a end P r) (e : r ≡ gave b (Ok to)) where
  pub onward-place : to.at ≡ end
  unfolding gave
  onward-place = reads-place h e

  pub onward-shown : P
  unfolding gave
  onward-shown = reads-shown h e

  pub onward-within : Within words end
  unfolding gave
  onward-within = reads-within h e

-- so that an answer found on the way may be said by place
pub gave-there : {A : Type 0} {words : List ℕ} (to : rust.Result Reader Fault) (a b : A) (end : ℕ) {P : Type 0} (r : Result Cursor ℕ A)
    → Reads words a end P r → r ≡ gave b to → r ≡ gave a to
unfolding gave
gave-there (Ok to) a b end r h e = e ∙ ap (λ x. ok x (standing to.words to.at to.least)) (reads-answer h e)
gave-there (Err fault) a b end r h e = e
