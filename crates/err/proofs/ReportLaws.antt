-- The step of one diagnostic, from the writing of its texts and of its record: with room for all of it every part is written, and else
-- some part had none. Assumes nothing.
use Rattle.std.specs.Prelude.{ℕ, ◌+◌, ◌*◌, ◌-◌, ◌≤◌, ◌<◌, min, ◌≡◌, Bool, true, false, ◌&&◌, List, ◌++◌, None, Ok}
use Rattle.std.proofs.Math.Path.{sym, ap}
use Rattle.std.proofs.Common.{◌∙◌, le-leb, leb-true, leb-false, ltb-true}
use native.Mathlib.Omega.{arith}
use Rattle.std.proofs.Math.Dec.{leb, ltb}
use Rattle.std.proofs.Math.ListN.{length, length-append}
use Rattle.std.proofs.lemmas.Bool.{lt-leb}
use Rattle.facts.specs.Tests.{both, by-test, and-false}
use Rattle.tok.specs.Step.{ok, refused, refusal, when}
use Rattle.tok.specs.declared.Span.{Span}
use Rattle.ptype.specs.Add.{write, append}
use Rattle.err.specs.declared.Counts.{Counts}
use Rattle.err.specs.Message.{Diagnostic}
use Rattle.err.specs.Report.{six_words, most_diagnostics, most_bytes, has_room, added, tell, output, ended, Reports, fits, placed, placed_answer}

-- ---- tests
module _ (a : Bool) (k n l : ℕ) where
  -- the room that is asked for, where the texts lie in the buffer: the buffer's length then plays no part
  within : k ≤ l → (a && leb k (min l n)) ≡ (a && leb k n)
  within h = ap (λ b. a && b) (by-test (leb k n)
      (λ e. le-leb k (min l n) (omega (arith, leb-true k n e)) ∙ sym e)
      (λ e. lt-leb k (min l n) (omega (arith, leb-false k n e)) ∙ sym e))

-- ---- the step
abbrev whole : (code : ℕ) → Span → (message primary : List ℕ) → Diagnostic
whole code span message primary = record { code = code; span = span; message = message; primary = primary }

module _ (ds ms : List ℕ) (c : Counts) (code : ℕ) (span : Span) (message primary : List ℕ) where
  tells-room :
      has_room (output ds ms c) (whole code span message primary) ≡ true → (n : ℕ) →
      tell n (whole code span message primary) (output ds ms c) ≡ ok tt (added (output ds ms c) (whole code span message primary))
  unfolding tell when
  tells-room e n = rw e

  tells_none : has_room (output ds ms c) (whole code span message primary) ≡ false → (n : ℕ) → tell n (whole code span message primary) (output ds ms c) ≡ refused (refusal 9 n)
  unfolding tell when
  tells_none e n = rw e

-- ---- the parts of `fits`
pub record Fits (ds : List ℕ) (c : Counts) (m p : ℕ) : Type 0 where
  pub record_lent : 6 * c.diagnostics + 6 ≤ length ds
  pub record_free : c.diagnostics < most_diagnostics ds
  pub starts : c.bytes ≤ m
  pub ordered : m ≤ p
  pub ends : p ≤ 65536

module _ (ds : List ℕ) (c : Counts) (m p : ℕ) where
  pub fits-facts : fits ds c m p ≡ true → Fits ds c m p
  fits-facts e =
      let q = both (ltb c.diagnostics (most_diagnostics ds)) (leb c.bytes m && (leb m p && leb p 65536)) e in
      let r = both (leb c.bytes m) (leb m p && leb p 65536) q.1 in
      let s = both (leb m p) (leb p 65536) r.1 in
      let k = ltb-true c.diagnostics (most_diagnostics ds) q.0 in
      record {
        record_lent = omega arith;
        record_free = k;
        starts = leb-true c.bytes m r.0;
        ordered = leb-true m p s.0;
        ends = leb-true p 65536 s.1;
      }

  -- where the texts are in order, only the record and the limit are left
  fits-ordered : c.bytes ≤ m → m ≤ p → fits ds c m p ≡ (ltb c.diagnostics (most_diagnostics ds) && leb p 65536)
  fits-ordered h k = rw (le-leb c.bytes m h, le-leb m p k)

-- ---- the texts and the record make the step
module _ {ds ms ms' : List ℕ} {c : Counts} {code : ℕ} {span : Span} {message primary : List ℕ} where
  -- a text had no room
  pub no_room : length ms < c.bytes + length (message ++ primary) → Reports (whole code span message primary) ds ms c ds ms' None
  unfolding ended
  no_room h =
      let l = lt-leb (c.bytes + length (message ++ primary)) (most_bytes ms) (omega arith) in
      let none = ap (λ b. ltb c.diagnostics (most_diagnostics ds) && b) l ∙ and-false (ltb c.diagnostics (most_diagnostics ds)) in
      record { step = λ n. tells_none ds ms c code span message primary none n }

  -- both texts were written: there is room for all exactly where the record fits
  pub all-written :
      {m p : ℕ} → c.bytes + length (message ++ primary) ≤ length ms → m ≡ c.bytes + length message → p ≡ c.bytes + length (message ++ primary) →
      ms' ≡ write ms c.bytes (message ++ primary) →
      Reports (whole code span message primary) ds ms c (placed ds c code span (Ok tt) m p) ms' (placed_answer ds c (Ok tt) m p)
  unfolding placed placed_answer ended append six_words
  all-written {m} {p} l em ep e =
      let j = length-append message primary in
      let n₁ : length message ≡ m - c.bytes = omega arith in
      let n₂ : length primary ≡ p - m = omega arith in
      let n₃ : c.bytes + length (message ++ primary) ≡ p = omega arith in
      let h : has_room (output ds ms c) (whole code span message primary) ≡ fits ds c m p
      = ap (λ k. ltb c.diagnostics (most_diagnostics ds) && leb k (most_bytes ms)) n₃
      ∙ within (ltb c.diagnostics (most_diagnostics ds)) p 65536 (length ms) (omega arith)
      ∙ sym (fits-ordered ds c m p (omega arith) (omega arith)) in
      by-test (fits ds c m p)
      (λ f. record { step = λ n. tells-room ds ms c code span message primary (h ∙ f) n ∙ rw (f, n₃, n₁, n₂, e) })
      (λ f. record { step = λ n. tells_none ds ms c code span message primary (h ∙ f) n ∙ rw f })
