-- Going through the entries of the functions buffer, one law for each way on. Assumes nothing.
use Rattle.std.specs.Prelude.{Some, None, Option as Found}
use Prim.Native.Nat.{ℕ, zero, suc, ◌+◌, ◌*◌, ◌-◌, ◌≤◌, ◌<◌}
use mathlib.Core.Path.{◌≡◌, refl, sym, ap, ◌∙◌}
use mathlib.Core.Bool.{Bool, true, false}
use mathlib.Core.Option.{Option, none, some}
use mathlib.Core.List.{List, [], ◌∷◌}
use native.Mathlib.Omega.{arith}
use lib.ListN.{length, get_or}
use Rattle.tok.specs.Text.{Texts, name_bytes, same_bytes}
use Rattle.library.specs.Package.{Signature, Function, find_function}
use Rattle.state.specs.Signatures.{signature_at, entry_at, entry_end, entries_end, entries_back, own_in}
use Rattle.scope.specs.Found.{own_of}

pub end_after : (words : List ℕ) (flags k at : ℕ) → at ≤ entries_end words flags at k
unfolding entries_end
end_after words flags zero at = omega arith
end_after words flags (suc k) at = omega (arith, end_after words flags k (entry_end words flags at))

-- the word after an entry without a flag
entry_next : (words : List ℕ) (at : ℕ) {c : ℕ} → c ≡ get_or words (at + 1) 0 → entry_end words 0 at ≡ at + (3 + 2 * c)
entry_next words at {c} e =
    let z : at + 1 + 0 ≡ at + 1 = omega arith in
    let f : get_or words (at + 1 + 0) 0 ≡ c = ap (λ i. get_or words i 0) z ∙ sym e in
    omega arith

end-next : (words : List ℕ) (at left : ℕ) → 0 < left → entries_end words 0 at left ≡ entries_end words 0 (entry_end words 0 at) (left - 1)
unfolding entries_end
end-next words at left l =
    let s : left ≡ suc (left - 1) = omega arith in
    ap (entries_end words 0 at) s

-- `left` of k entries are left, from `at` on
pub record Left (words : List ℕ) (k at left : ℕ) : Type 0 where
  pub ends : entries_end words 0 0 k ≡ entries_end words 0 at left
  pub within : entries_end words 0 at left ≤ length words

module _ {words : List ℕ} {k : ℕ} where
  pub left-begin : entries_end words 0 0 k ≤ length words → Left words k 0 k
  left-begin h = record { ends = refl; within = h }

  module _ {at left : ℕ} (h : Left words k at left) where
    -- the next entry lies within the buffer
    pub left-room : {c : ℕ} → 0 < left → c ≡ get_or words (at + 1) 0 → at + 3 + 2 * c ≤ length words
    left-room {c} l e =
        let n = end-next words at left l in
        let m = end_after words 0 (left - 1) (entry_end words 0 at) in
        let p = entry_next words at e in
        omega (arith, h.within)

    pub left-more : {c : ℕ} → 0 < left → c ≡ get_or words (at + 1) 0 → Left words k (at + (3 + 2 * c)) (left - 1)
    left-more {c} l e =
        let n = end-next words at left l in
        let p = entry_next words at e in
        record { ends = h.ends ∙ n ∙ ap (λ a. entries_end words 0 a (left - 1)) p; within = rw (← p, ← n) h.within }

    pub left_over : left ≤ 0 → at ≡ entries_end words 0 0 k
    unfolding entries_end
    left_over l =
        let z : left ≡ 0 = omega arith in
        sym (h.ends ∙ ap (entries_end words 0 at) z)

-- Those met so far, newest first, and what was found among them.
pub record Seeks (t : Texts) (wanted words : List ℕ) (k at left : ℕ) (found : Found ℕ) : Type 0 where
  pub met : List Function
  pub all : own_in words k ≡ entries_back words 0 at left met
  pub newest : own_of words found ≡ find_function t wanted met

module _ (t : Texts) (wanted words : List ℕ) (k : ℕ) where
  find_first : (at : ℕ) (fs : List Function) {w : ℕ} {b : List ℕ} {r : Bool} → w ≡ get_or words at 0 → b ≡ name_bytes t w → r ≡ same_bytes wanted b
      → find_function t wanted (entry_at words 0 at ∷ fs) ≡ elim r [ true ↦ some (signature_at words (at + 1) false) | false ↦ find_function t wanted fs ]
  unfolding find_function entry_at
  find_first at fs {r = r} ew eb er =
      let z : at + 1 + 0 ≡ at + 1 = omega arith in
      let e : same_bytes wanted (name_bytes t (get_or words at 0)) ≡ r = sym (er ∙ ap (same_bytes wanted) (eb ∙ ap (name_bytes t) ew)) in
      ap (λ b. elim b [ true ↦ some (signature_at words (at + 1 + 0) false) | false ↦ find_function t wanted fs ]) e
      ∙ ap (λ i. elim r [ true ↦ some (signature_at words i false) | false ↦ find_function t wanted fs ]) z

  back-next : (at left : ℕ) (fs : List Function) → 0 < left → entries_back words 0 at left fs ≡ entries_back words 0 (entry_end words 0 at) (left - 1) (entry_at words 0 at ∷ fs)
  unfolding entries_back
  back-next at left fs l =
      let s : left ≡ suc (left - 1) = omega arith in
      ap (λ n. entries_back words 0 at n fs) s

  pub seek_begin : Seeks t wanted words k 0 k None
  unfolding own_in find_function
  seek_begin = record { met = []; all = refl; newest = refl }

  module _ {at left w c : ℕ} {b : List ℕ} {r : Bool} {found : Found ℕ} (h : Seeks t wanted words k at left found) (l : 0 < left)
      (ew : w ≡ get_or words at 0) (eb : b ≡ name_bytes t w) (er : r ≡ same_bytes wanted b) (ec : c ≡ get_or words (at + 1) 0) where
    onward : (found' : Found ℕ) → own_of words found' ≡ find_function t wanted (entry_at words 0 at ∷ h.met) → Seeks t wanted words k (at + (3 + 2 * c)) (left - 1) found'
    onward found' e =
        let p = entry_next words at ec in
        record {
          met = entry_at words 0 at ∷ h.met;
          all = h.all ∙ back-next at left h.met l ∙ ap (λ a. entries_back words 0 a (left - 1) (entry_at words 0 at ∷ h.met)) p;
          newest = e;
        }

    pub seek_hit : r ≡ true → Seeks t wanted words k (at + (3 + 2 * c)) (left - 1) (Some (at + 1))
    seek_hit y = onward (Some (at + 1)) (sym (find_first at h.met ew eb er ∙ rw y refl))

    pub seek_past : r ≡ false → Seeks t wanted words k (at + (3 + 2 * c)) (left - 1) found
    seek_past n = onward found (h.newest ∙ sym (find_first at h.met ew eb er ∙ rw n refl))

  pub seek_over : {at left : ℕ} {found : Found ℕ} → Seeks t wanted words k at left found → left ≤ 0 → own_of words found ≡ find_function t wanted (own_in words k)
  unfolding entries_back
  seek_over {at} {left} h l =
      let z : left ≡ 0 = omega arith in
      h.newest ∙ ap (find_function t wanted) (sym (h.all ∙ ap (λ n. entries_back words 0 at n h.met) z))
