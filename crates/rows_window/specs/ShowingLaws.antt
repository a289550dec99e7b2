-- Laws of windows: one text after another is their concatenation; windows one behind the other show the whole text. Assumes nothing.
use Rattle.std.specs.Prelude.{ℕ, zero, suc, ◌+◌, ◌-◌, ◌≤◌, min, ◌≡◌, refl, Bool, true, false, List, [], ◌∷◌, ◌++◌, length, take, drop, eqb, cond, Result, Ok, Err, ⊤}
use Rattle.std.proofs.Common.{sym, ap, ◌∙◌, true≢false, arith, length-append, length-drop, length-take, eqb-true, leb-true}
use Rattle.std.proofs.Math.Nat.{sub-zero, zero-sub, suc-sub-suc, sub-add-eq}
use Rattle.std.proofs.Math.Seq.{take-length}
use Rattle.facts.specs.Tests.{by_order}
use Rattle.ptype.specs.Add.{overwrite, write}
use Rattle.display.specs.declared.Full.{Full}
use Rattle.display.specs.Sink.{SinkLaws}
use Rattle.display.specs.Writing.{written}
use Rattle.display.specs.WritingLaws.{written_buffer, written_place, written_ok}
use Rattle.display.specs.WriteLaws.{write-past, length-write, write-append}
use Rattle.rows_window.specs.declared.WindowWriter.{WindowWriter}
use Rattle.rows_window.specs.Showing.{Shows, is_full, Shown}

-- what is left of two texts behind k bytes
drop-both : (k : ℕ) (s t : List ℕ) → drop k (s ++ t) ≡ drop k s ++ drop (k - length s) t
drop-both zero s t = rw (zero-sub (length s))
drop-both (suc k) [] t = rw (sub-zero (suc k))
drop-both (suc k) (x ∷ s) t = rw (suc-sub-suc k (length s)) (drop-both k s t)

-- behind a text that was cut off at the end nothing more is written
write-both : (o : List ℕ) (a n : ℕ) (s t : List ℕ) → n ≡ a + min (length s) (length o - a) → write (write o a s) n t ≡ write o a (s ++ t)
write-both o a n s t e =
    by_order (length s) (length o - a)
    (λ h. let m : n ≡ a + length s = omega arith in rw m (sym (write-append o a s t)))
    (λ h.
    write-past (write o a s) n t (rw (length-write o a s) (omega arith))
    ∙ sym (write-past (write o a s) (a + length s) t (rw (length-write o a s) (omega arith)))
    ∙ sym (write-append o a s t))

-- bytes shown of two texts behind k bytes
both-shown : (k s t : ℕ) → s + t - k ≡ (s - k) + (t - (k - s))
both-shown k s t = omega arith

least-both : (a x y z : ℕ) → a + min x z + min y (z - min x z) ≡ a + min (x + y) z
least-both a x y z = omega arith

-- the place behind both
place-both : (k a o s t : ℕ) {m n : ℕ} → m ≡ a + min (s - k) (o - a) → n ≡ m + min (t - (k - s)) (o - m) → n ≡ a + min (s + t - k) (o - a)
place-both k a o s t {m} {n} e f =
    let z : o - m ≡ (o - a) - min (s - k) (o - a) = rw e (sub-add-eq o a (min (s - k) (o - a))) in
    f ∙ rw (z, e, both-shown k s t) (least-both a (s - k) (t - (k - s)) (o - a))

-- The law of writers: a text written after another is both, one after the other. As `◌++◌` is, it is read from the left.
infixl 65 ◌and_then◌
pub ◌and_then◌ : {w w₁ w₂ : WindowWriter} {s t : List ℕ} → Shows w w₁ s → Shows w₁ w₂ t → Shows w w₂ (s ++ t)
◌and_then◌ {w} {w₁} {w₂} {s} {t} p q =
    let o : List ℕ = w.buffer.now in
    let l : length w₁.buffer.now ≡ length o = ap length p.bytes ∙ length-write o w.window.at (drop w.window.skip s) in
    let d : length (drop w.window.skip s) ≡ length s - w.window.skip = length-drop w.window.skip s in
    record {
      buffer = q.buffer ∙ p.buffer;
      bytes =
          q.bytes
          ∙ rw (p.bytes, p.skips, drop-both w.window.skip s t)
          (write-both o w.window.at w₁.window.at (drop w.window.skip s) (drop (w.window.skip - length s) t) (rw d p.place));
      skips = q.skips ∙ rw (p.skips, length-append s t) (sym (sub-add-eq w.window.skip (length s) (length t)));
      place = rw (length-append s t) (place-both w.window.skip w.window.at (length o) (length s) (length t) p.place (rw (p.skips, l) at q.place));
    }

-- the same text in other words
pub shows_as : {w w' : WindowWriter} {s t : List ℕ} → s ≡ t → Shows w w' t → Shows w w' s
shows_as e p = rw e p

-- where the window is full every text leaves all as it is
pub shows_full : (w : WindowWriter) (s : List ℕ) → is_full w ≡ true → Shows w w s
unfolding is_full
shows_full w s h = go (eqb w.window.skip 0) refl
  where
    go : (b : Bool) → eqb w.window.skip 0 ≡ b → Shows w w s
    go true e =
        let z : w.window.skip ≡ 0 = eqb-true w.window.skip 0 e in
        let l : length w.buffer.now ≤ w.window.at = leb-true (length w.buffer.now) w.window.at (rw e at h) in
        record { buffer = refl; bytes = sym (write-past w.buffer.now w.window.at (drop w.window.skip s) l); skips = omega arith; place = omega arith }
    go false e = absurd (true≢false (sym (rw e at h)))

-- ---- a window is a sink
full-is : (w : WindowWriter) (x : Full) → ◌≡◌ {A = Result ⊤ Full} (Err x) (cond (is_full w) (Err (record {})) (Ok tt)) → is_full w ≡ true
full-is w x e = go (is_full w) e
  where
    go : (b : Bool) → ◌≡◌ {A = Result ⊤ Full} (Err x) (cond b (Err (record {})) (Ok tt)) → b ≡ true
    go true k = refl
    go false k = let z : ◌≡◌ {A = ℕ} 0 1 = cc in absurd (omega arith)

module _ (a b : WindowWriter) (s t : List ℕ) where
  window_more : (c : WindowWriter) (x : ⊤) (r : Result ⊤ Full) → Shown a b (Ok x) s → Shown b c r t → Shown a c r (s ++ t)
  window_more c x r p q = (p.0 and_then q.0, q.1)

  window_stop : (x : Full) → Shown a b (Err x) s → Shown a b (Err x) (s ++ t)
  window_stop x p = (p.0 and_then shows_full b t (full-is b x p.1), p.1)

pub window_laws : SinkLaws WindowWriter Shown
window_laws = record {
  more = λ {a} {b} {c} {x} {r} {s} {t} p q. window_more a b s t c x r p q;
  stop = λ {a} {b} {x} {s} t p. window_stop a b s t x p;
}

-- ---- pieces that were written into a buffer of their own
pub take-over : (n : ℕ) (o s : List ℕ) → n ≤ length s → n ≤ length o → take n (overwrite o s) ≡ take n s
unfolding overwrite
take-over zero o s h k = refl
take-over (suc n) [] s h k =
    let z : ⊥ = omega arith in
    absurd z
take-over (suc n) (x ∷ o) [] h k =
    let z : ⊥ = omega arith in
    absurd z
take-over (suc n) (x ∷ o) (y ∷ s) h k = ap (λ l. y ∷ l) (take-over n o s (omega arith) (omega arith))

-- what was written from the start stands in the buffer's front
module _ (o s : List ℕ) {o' : List ℕ} {i n : ℕ} {r : Result ⊤ Full} {x : ⊤} (z : i ≡ 0) (k : r ≡ Ok x) (p : (r, (o', n)) ≡ written o i s) where
  room : i + length s ≤ length o
  room = written_ok o i s (ap (λ q. (q, (o', n))) (sym k) ∙ p)

  end_is : n ≡ length s
  end_is = let m = room in ap (λ q. q.1.1) p ∙ written_place o i s ∙ omega arith

  bytes_are : o' ≡ write o 0 s
  bytes_are = ap (λ q. q.1.0) p ∙ written_buffer o i s ∙ rw z

  front_wrote : take n o' ≡ s
  unfolding write
  front_wrote = let m = room in rw (bytes_are, end_is) (take-over (length s) o s (omega arith) (omega arith) ∙ take-length s)

  pub front-end : {b : List ℕ} → b ≡ o' → n ≤ length b
  front-end e = let m = room in rw (e, bytes_are, length-write o 0 s, end_is) (omega arith)

  pub front-length : {b : List ℕ} → b ≡ o' → n ≡ length (take n b)
  front-length {b} e = let g = front-end e in rw (length-take n b) (omega arith)

  -- so it is the piece that is lent from there
  pub shows_front : {w w' : WindowWriter} {b : List ℕ} → b ≡ o' → Shows w w' (take n b) → Shows w w' s
  shows_front e h = shows_as (sym front_wrote) (rw e at h)
