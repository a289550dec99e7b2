-- What is written into the rest of the message buffer is written in the whole buffer from the first free byte on. Assumes nothing.
use Rattle.std.specs.Prelude.{ℕ, ◌+◌, ◌≤◌, ◌<◌, ◌≡◌, List, [], ◌∷◌, ◌++◌, ⊤, Option, Ok, Err}
use Rattle.std.specs.Prelude.{Result as Answered}
use Rattle.std.proofs.Math.Path.{ap}
use Rattle.std.proofs.Common.{◌∙◌, append-nil, zero-add, suc-add, add-zero}
use native.Mathlib.Omega.{arith}
use Rattle.std.proofs.Math.ListN.{length, length-append}
use Rattle.std.proofs.lemmas.List.{take-append-le}
use Rattle.facts.specs.Tests.{by_order}
use Rattle.tok.specs.declared.Span.{Span}
use Rattle.ptype.specs.Add.{overwrite, write}
use Rattle.display.specs.declared.Full.{Full}
use Rattle.display.specs.Writing.{written}
use Rattle.display.specs.WritingLaws.{written-room, written-full}
use Rattle.err.specs.declared.Counts.{Counts}
use Rattle.err.specs.Message.{Diagnostic}
use Rattle.err.specs.Report.{Reports, placed, placed_answer}
use Rattle.err.proofs.ReportLaws.{no_room, all-written}
use Rattle.err_text.specs.Rest.{first_free, FrontStays, ReportsIn, told}

-- ---- a text in the rest, in the whole
write-before : (before rest : List ℕ) (m : ℕ) (s : List ℕ) → before ++ write rest m s ≡ write (before ++ rest) (length before + m) s
unfolding write overwrite
write-before [] rest m s = rw (zero-add m)
write-before (x ∷ before) rest m s = rw (suc-add (length before) m) (ap (λ l. x ∷ l) (write-before before rest m s))

-- ---- the law of all writers of diagnostics: both texts were written, the span was asked for, and the record was written
module _ (before ds rest : List ℕ) (c : Counts) (code : ℕ) (span : Span) (message primary : List ℕ) (f : length before ≡ first_free (before ++ rest) c) where
  abbrev Told : (texts : Answered ⊤ Full) → (rest' : List ℕ) → (m end : ℕ) → Type 0
  Told texts rest' m end =
      Reports (told code span message primary) ds (before ++ rest) c (placed ds c code span texts (c.bytes + m) (c.bytes + end)) (before ++ rest')
      (placed_answer ds c texts (c.bytes + m) (c.bytes + end))

  -- both texts have room in the rest, which begins behind all bytes that are counted
  told-room : length before ≡ c.bytes → 0 + length (message ++ primary) ≤ length rest → Told (Ok tt) (write rest 0 (message ++ primary)) (0 + length message) (0 + length (message ++ primary))
  told-room e h =
      let l = length-append before rest in
      let j = length-append message primary in
      all-written (omega arith) (omega arith) (omega arith) (rw (write-before before rest 0 (message ++ primary), e, add-zero))

  told-full : length rest < 0 + length (message ++ primary) → (x : Full) (rest' : List ℕ) (m end : ℕ) → Told (Err x) rest' m end
  unfolding placed placed_answer
  told-full h x rest' m end =
      let l = length-append before rest in
      no_room (omega arith)

  told-in-rest :
      (0 + length (message ++ primary) ≤ length rest → length before ≡ c.bytes) → {r : Answered ⊤ Full} {o : List ℕ} (m : ℕ) → (r, (o, m)) ≡ written rest 0 message →
      (texts : Answered ⊤ Full) (rest' : List ℕ) (end : ℕ) → (texts, (rest', end)) ≡ written rest 0 (message ++ primary) → Told texts rest' m end
  told-in-rest k m d texts rest' end e =
      let j = length-append message primary in
      by_order (0 + length (message ++ primary)) (length rest)
      (λ h.
      let g = e ∙ written-room rest 0 (message ++ primary) h in
      let i = d ∙ written-room rest 0 message (omega arith) in
      rw (ap (λ q. q.0) g, ap (λ q. q.1.0) g, ap (λ q. q.1.1) g, ap (λ q. q.1.1) i) (told-room (k h) h))
      (λ h.
      let g = e ∙ written-full rest 0 (message ++ primary) h in
      rw (ap (λ q. q.0) g) (told-full h (record {}) rest' m end))

  -- more bytes are never counted than are lent, where a message that is not empty has room
  counted : 0 < length message → 0 + length (message ++ primary) ≤ length rest → length before ≡ c.bytes
  counted k h =
      let l = length-append before rest in
      let j = length-append message primary in
      by_order c.bytes (length (before ++ rest)) (λ g. omega arith) (λ g. absurd (omega arith))

-- What is known of a writer of a diagnostic: it wrote both texts from the rest's start on, what was lent came back, the span was asked for, and the record
-- was written.
module _ {o ds ds' rest rest₁ rest' back : List ℕ} {n m end code : ℕ} {c : Counts} {span span' : Span} {r texts : Answered ⊤ Full} {answer : Option Counts} where
  pub tells-said :
      (message primary : List ℕ) → 0 < length message → (o ≡ rest) × (n ≡ 0) → (r, (rest₁, m)) ≡ written o n message → (texts, (rest', end)) ≡ written o n (message ++ primary) →
      back ≡ rest' → span' ≡ span →
      (ds' ≡ placed ds c code span' texts (c.bytes + m) (c.bytes + end)) × (answer ≡ placed_answer ds c texts (c.bytes + m) (c.bytes + end)) →
      ReportsIn (told code span message primary) ds rest c ds' back answer
  tells-said message primary k s d e l f p = record {
    whole = λ before g.
        let all = counted before ds rest c code span message primary g k in
        rw (p.0, p.1, f, l) (told-in-rest before ds rest c code span message primary g all m (rw (s.0, s.1) at d) texts rest' end (rw (s.0, s.1) at e));
  }

module _ {o ds ds' rest rest' back : List ℕ} {n end code : ℕ} {c : Counts} {span span' : Span} {texts : Answered ⊤ Full} {answer : Option Counts} where
  -- and no primary message
  pub tells-alone :
      (message : List ℕ) → 0 < length message → (o ≡ rest) × (n ≡ 0) → (texts, (rest', end)) ≡ written o n message → back ≡ rest' → span' ≡ span →
      (ds' ≡ placed ds c code span' texts (c.bytes + end) (c.bytes + end)) × (answer ≡ placed_answer ds c texts (c.bytes + end) (c.bytes + end)) →
      ReportsIn (told code span message []) ds rest c ds' back answer
  tells-alone message k s e l f p = tells-said message [] k s e (rw append-nil e) l f p

  pub tells-rest-alone :
      {x : ℕ} {message : List ℕ} → (o ≡ rest) × (n ≡ 0) → (texts, (rest', end)) ≡ written o n (x ∷ message) → back ≡ rest' → span' ≡ span →
      (ds' ≡ placed ds c code span' texts (c.bytes + end) (c.bytes + end)) × (answer ≡ placed_answer ds c texts (c.bytes + end) (c.bytes + end)) →
      ReportsIn (told code span (x ∷ message) []) ds rest c ds' back answer
  tells-rest-alone {x} {message} s e l f p = tells-alone (x ∷ message) (omega arith) s e l f p

-- ---- the rest that was lent came back behind the bytes before it: what was told in it was told in the whole
pub told_in_whole :
    (front : List ℕ) {d : Diagnostic} {ds ds' ms rest back : List ℕ} {c : Counts} {r : Option Counts} →
    (ms ≡ front ++ rest) × (length front ≡ first_free ms c) → ReportsIn d ds rest c ds' back r → Reports d ds ms c ds' (front ++ back) r
told_in_whole front s p = rw s.0 (p.whole front (rw (← s.0) s.1))

-- and the bytes before the rest stayed
pub front-stays : (front rest back : List ℕ) {ms : List ℕ} (c : Counts) → (ms ≡ front ++ rest) × (length front ≡ first_free ms c) → FrontStays ms c (front ++ back)
front-stays front rest back c s =
    rw (← s.1, s.0, take-append-le (length front) front back (omega arith), take-append-le (length front) front rest (omega arith))

-- Both texts were written into the rest, from its start on, the bytes that are counted lie in the buffer, and the record was written.
pub tells :
    (front message primary : List ℕ) {o ds ds' ms rest rest₁ rest' back : List ℕ} {n m end code : ℕ} {c : Counts} {span : Span} {r texts : Answered ⊤ Full} {answer : Option Counts} →
    c.bytes ≤ length ms → (ms ≡ front ++ rest) × (length front ≡ first_free ms c) → (o ≡ rest) × (n ≡ 0) →
    (r, (rest₁, m)) ≡ written o n message → (texts, (rest', end)) ≡ written o n (message ++ primary) → back ≡ rest' →
    ds' ≡ placed ds c code span texts (c.bytes + m) (c.bytes + end) → answer ≡ placed_answer ds c texts (c.bytes + m) (c.bytes + end) →
    Reports (told code span message primary) ds ms c ds' (front ++ back) answer
tells front message primary {o} {ds} {ds'} {ms} {rest} {rest₁} {rest'} {back} {n} {m} {end} {code} {c} {span} {r} {texts} {answer} h p s d e l x y =
    let f : length front ≡ first_free (front ++ rest) c = rw (← p.0) p.1 in
    rw (p.0, x, y, l) (told-in-rest front ds rest c code span message primary f (λ _. omega arith) m (rw (s.0, s.1) at d) texts rest' end (rw (s.0, s.1) at e))
