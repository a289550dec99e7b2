-- Laws of writers: one text after another is their concatenation. Assumes nothing.
use Rattle.std.specs.Prelude.{ℕ, ◌+◌, ◌-◌, ◌≤◌, ◌<◌, min, max, ◌≡◌, refl, Result, Ok, Err, ⊤, List, ◌++◌}
use Rattle.std.proofs.Common.{sym, ap, ◌∙◌, add_assoc, arith, length-append, le-leb}
use Rattle.std.proofs.Math.ListN.{length}
use Rattle.std.proofs.lemmas.Bool.{lt-leb}
use Rattle.facts.specs.Tests.{by_order}
use Rattle.ptype.specs.Add.{write}
use Rattle.display.specs.declared.Full.{Full}
use Rattle.display.specs.declared.Writer.{Writer}
use Rattle.std.specs.Result.{result_and}
use Rattle.display.specs.WriteLaws.{write-past, length-write, write-append, write-stop}
use Rattle.display.specs.Writing.{Written, written}

module _ (o : List ℕ) (n : ℕ) (s : List ℕ) where
  pub written-room : n + length s ≤ length o → written o n s ≡ (Ok tt, (write o n s, n + length s))
  unfolding written
  written-room h = rw (le-leb (n + length s) (length o) h)

  pub written-full : length o < n + length s → written o n s ≡ (Err (record {}), (write o n s, max n (length o)))
  unfolding written
  written-full h = rw (lt-leb (n + length s) (length o) h)

-- a text after what was written so far: none where that had no room
unfoldable pub written_next : Written → (text : List ℕ) → Written
written_next (Ok x, (o, n)) s = written o n s
written_next (Err x, p) s = (Err x, p)

pub next_ok : (x : ⊤) (o : List ℕ) (n : ℕ) (s : List ℕ) → written_next (Ok x, (o, n)) s ≡ written o n s
unfolding written_next
next_ok x o n s = refl

pub next_full : (x : Full) (p : List ℕ × ℕ) (s : List ℕ) → written_next (Err x, p) s ≡ (Err x, p)
unfolding written_next
next_full x p s = refl

-- The law of writers: a text written after another is both, one after the other.
module _ (o : List ℕ) (n : ℕ) (s t : List ℕ) where
  both-room : n + length s ≤ length o → n + length (s ++ t) ≤ length o → written o n (s ++ t) ≡ written (write o n s) (n + length s) t
  both-room h k =
      let l = length-append s t in
      rw (written-room o n (s ++ t) k, written-room (write o n s) (n + length s) t (simp length-write (omega arith)))
      (simp (length-append, add_assoc, write-append))

  first-room : n + length s ≤ length o → length o < n + length (s ++ t) → written o n (s ++ t) ≡ written (write o n s) (n + length s) t
  first-room h k =
      let l = length-append s t in
      let e : max n (length o) ≡ max (n + length s) (length o) = omega arith in
      rw (written-full o n (s ++ t) k, written-full (write o n s) (n + length s) t (simp length-write (omega arith)))
      (simp (length-write, write-append, e))

  pub written_append : written o n (s ++ t) ≡ written_next (written o n s) t
  written_append =
      let l = length-append s t in
      by_order (n + length s) (length o)
      (λ h. rw (written-room o n s h, next_ok) (by_order (n + length (s ++ t)) (length o) (both-room h) (first-room h)))
      (λ h. rw (written-full o n s h, next_full, written-full o n (s ++ t) (omega arith), write-stop o n s t (omega arith)))

-- A sequence of writers, each asked by `?`, writes all their texts, and stops where the first of them had no room.
pub ruleset writing = (arith, written_append, next_ok, next_full)

-- whatever is answered: the buffer, and the place of the next text
module _ (o : List ℕ) (n : ℕ) (s : List ℕ) where
  pub written_buffer : (written o n s).1.0 ≡ write o n s
  written_buffer = by_order (n + length s) (length o) (λ h. rw (written-room o n s h)) (λ h. rw (written-full o n s h))

  pub written_place : (written o n s).1.1 ≡ n + min (length s) (length o - n)
  written_place =
      by_order (n + length s) (length o)
      (λ h. rw (written-room o n s h) (omega arith))
      (λ h. rw (written-full o n s h) (omega arith))

  pub written_ok : {x : ⊤} {p : List ℕ × ℕ} → (Ok x, p) ≡ written o n s → n + length s ≤ length o
  written_ok {x} {p} e = by_order (n + length s) (length o) (λ h. h) (λ h. let g = ap (λ q. q.0) (e ∙ written-full o n s h) in let z : ◌≡◌ {A = ℕ} 0 1 = cc in absurd (omega arith))

  pub written_err : {x : Full} {p : List ℕ × ℕ} → (Err x, p) ≡ written o n s → length o < n + length s
  written_err {x} {p} e = by_order (n + length s) (length o) (λ h. let g = ap (λ q. q.0) (e ∙ written-room o n s h) in let z : ◌≡◌ {A = ℕ} 0 1 = cc in absurd (omega arith)) (λ h. h)

-- at the end or past it nothing is written, whatever is answered
written-past : (o : List ℕ) (n : ℕ) (s : List ℕ) → length o ≤ n → (written o n s).1 ≡ (o, n)
written-past o n s h =
    by_order (n + length s) (length o)
    (λ k.
    let e : n + length s ≡ n = omega arith in
    rw (written-room o n s k) (rw (write-past o n s h, e)))
    (λ k.
    let e : max n (length o) ≡ n = omega arith in
    rw (written-full o n s k) (rw (write-past o n s h, e)))

-- Both of two writers, by `and` of what they answer: where the first had no room nothing more is written, whatever the second answers.
pub both :
    (o : List ℕ) (n : ℕ) (s t : List ℕ) {o₁ o₂ : List ℕ} {n₁ n₂ : ℕ} {r₁ r₂ r : Result ⊤ Full} →
    (r₁, (o₁, n₁)) ≡ written o n s → (r₂, (o₂, n₂)) ≡ written o₁ n₁ t → r ≡ result_and r₁ r₂ → (r, (o₂, n₂)) ≡ written o n (s ++ t)
both o n s t {o₁} {o₂} {n₁} {n₂} {r₁} {r₂} {r} p q e =
    by_order (n + length s) (length o)
    (λ h.
    let g = p ∙ written-room o n s h in
    let a : written o n (s ++ t) ≡ written o₁ n₁ t = written_append o n s t ∙ ap (λ z. written_next z t) (written-room o n s h) ∙ next_ok tt (write o n s) (n + length s) t ∙ rw (ap (λ z. z.1.0) g, ap (λ z. z.1.1) g) in
    rw (e, ap (λ z. z.0) g) (q ∙ sym a))
    (λ h.
    let g = p ∙ written-full o n s h in
    let l = length-write o n s in
    let a : written o n (s ++ t) ≡ (Err (record {}), (o₁, n₁)) = written_append o n s t ∙ ap (λ z. written_next z t) (sym p) ∙ ap (λ z. written_next (z, (o₁, n₁)) t) (ap (λ z. z.0) g) ∙ next_full (record {}) (o₁, n₁) t in
    let u = written-past o₁ n₁ t (rw (ap (λ z. z.1.0) g, ap (λ z. z.1.1) g) (omega arith)) in
    let i : (o₂, n₂) ≡ (o₁, n₁) = ap (λ z. z.1) q ∙ u in
    rw (e, ap (λ z. z.0) g) (ap (λ z. (Err (record {}), z)) i ∙ sym a))

-- ---- loops
-- Of the text s, begun by w, the text s' is still to be written, by w': whoever writes s' has written s.
abbrev pub Owes : (w : Writer) → (s : List ℕ) → (w' : Writer) → (s' : List ℕ) → Type 0
Owes w s w' s' = (w'.buffer.ghost_name ≡ w.buffer.ghost_name) × (written w.buffer.now w.at s ≡ written w'.buffer.now w'.at s')
