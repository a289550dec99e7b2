-- One piece through a window, by `display`'s writer, and a number by its digits in a local buffer. Assumes nothing.
use Prim.Native.Nat.{ℕ, zero, suc, ◌+◌, ◌-◌, ◌/◌, ◌%◌, ◌≤◌, min}
use mathlib.Core.Path.{◌≡◌, refl, sym, ap, ◌∙◌}
use mathlib.Core.Bool.{Bool, true, false}
use mathlib.Core.List.{List, [], ◌∷◌}
use native.Mathlib.Omega.{arith}
use lib.ListN.{length, take, drop, length-drop, length-append}
use lib.Seq.{take_all}
use lib.Dec.{ltb, leb, eqb}
use borrow.Author.Tests.{eq-eqb, ne_eqb}
use Rattle.ptype.specs.Show.{digits, decimal}
use Rattle.std.specs.Prelude.{Result, Err, ⊤}
use Rattle.display.specs.declared.Full.{Full}
use Rattle.display.specs.Writing.{written}
use Rattle.display.specs.WritingLaws.{written_buffer, written_place, written_err}
use Rattle.rows_window.specs.declared.WindowWriter.{WindowWriter}
use Rattle.rows_window.specs.Showing.{Shows, is_full}

-- passing over more than there is leaves nothing, as passing over all of it does
drop-least : (k : ℕ) (s : List ℕ) {m : ℕ} → m ≡ min k (length s) → drop m s ≡ drop k s
drop-least zero s {m} e =
    let n : m ≡ 0 = omega arith in
    rw n
drop-least (suc k) [] {m} e =
    let n : m ≡ 0 = omega arith in
    rw n
drop-least (suc k) (x ∷ s) {m} e =
    let n : m ≡ suc (min k (length s)) = omega arith in
    rw n (drop-least k s refl)

-- `put`
pub put_shows :
    {w w' : WindowWriter} {o' : List ℕ} {r : Result ⊤ Full} (s : List ℕ) {m : ℕ} → m ≡ min w.window.skip (length s) →
    (r, (o', w'.window.at)) ≡ written w.buffer.now w.window.at (take (length s - m) (drop m s)) →
    w'.buffer.now ≡ o' → w'.buffer.ghost_name ≡ w.buffer.ghost_name → w'.window.skip ≡ w.window.skip - m → Shows w w' s
put_shows {w} {w'} {o'} {r} s {m} e p f g i =
    let o : List ℕ = w.buffer.now in
    let l : length (drop m s) ≡ length s - m = length-drop m s in
    let rest : take (length s - m) (drop m s) ≡ drop m s = take_all (length s - m) (drop m s) (omega arith) in
    let q : (r, (o', w'.window.at)) ≡ written o w.window.at (drop m s) = rw rest at p in
    let k : length s - m ≡ length s - w.window.skip = omega arith in
    record {
      buffer = g;
      bytes = f ∙ ap (λ z. z.1.0) q ∙ written_buffer o w.window.at (drop m s) ∙ rw (drop-least w.window.skip s e);
      skips = omega arith;
      place = ap (λ z. z.1.1) q ∙ written_place o w.window.at (drop m s) ∙ rw (l, k);
    }

-- `put_decimal`: ten digits have room for every number
digits-short : (most n : ℕ) → length (digits most n) ≤ most
unfolding digits
digits-short zero n = omega arith
digits-short (suc k) n = go (ltb n 10) refl (digits-short k (n / 10))
  where
    go : (b : Bool) → ltb n 10 ≡ b → length (digits k (n / 10)) ≤ k → length (digits (suc k) n) ≤ suc k
    go true e more = rw (e, digits) (omega arith)
    go false e more = rw (e, digits, length-append (digits k (n / 10)) ((48 + n % 10) ∷ [])) (omega arith)

pub decimal-room :
    (o : List ℕ) {o₀ : List ℕ} {i : ℕ} {r : Result ⊤ Full} {x : Full} {p : List ℕ × ℕ} (n : ℕ) →
    (o ≡ o₀) × (i ≡ 0) → (r, p) ≡ written o i (decimal n) → 10 ≤ length o₀ → r ≡ Err x → ⊥
unfolding decimal
decimal-room o {i = i} {p = p} n s e h k =
    let g = written_err o i (digits 10 n) (ap (λ z. (z, p)) (sym k) ∙ e) in
    omega (arith, digits-short 10 n, ap length s.0)

-- `is_full`
module _ (w : WindowWriter) where
  pub full-by-room : w.window.skip ≡ 0 → leb (length w.buffer.now) w.window.at ≡ is_full w
  unfolding is_full
  full-by-room e = rw (eq-eqb w.window.skip 0 e)

  pub passing : (w.window.skip ≡ 0 → ⊥) → eqb w.window.skip 0 ≡ is_full w
  unfolding is_full
  passing n = rw (ne_eqb w.window.skip 0 n)
