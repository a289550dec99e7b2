-- Access to packages as the code has it, one law for each way out. Assumes nothing.
use Prim.Native.Nat.{ℕ, zero, suc, ◌+◌, ◌*◌, ◌-◌, ◌≤◌, ◌<◌, min}
use mathlib.Core.Path.{◌≡◌, refl, sym, ap, ◌∙◌}
use mathlib.Core.Bool.{Bool, true, false}
use mathlib.Core.Option.{none, some}
use mathlib.Core.List.{List, []}
use native.Mathlib.Omega.{arith}
use native.Mathlib.Decide.{dec_le}
use lib.ListN.{length, get_or, take, drop, length-drop, drop_of_length-le, get_or-eq_default}
use lib.Seq.{take_all, take-length, take-nil}
use Rattle.tok.specs.Text.{Texts, name_bytes, same_bytes}
use Rattle.library.specs.Package.{Signature, param, params_from, function_at, function_end, functions_end, packages_from, packages_of, find_package}
use Rattle.library.specs.Signatures.{signature_at}
use Rattle.library.specs.PackagesRead.{package_at, package_end}
use Rattle.library.specs.Past.{functions_end-after, packages-held, functions_end-held}

-- ── The pool ──

take-held : (words : List ℕ) (n : ℕ) → take (min n (length words)) words ≡ take n words
take-held words n = elim (dec_le n (length words)) [
  | yes l ↦
      let e : min n (length words) ≡ n = omega arith in
      ap (λ k. take k words) e
  | no l ↦
      let e : min n (length words) ≡ length words = omega arith in
      ap (λ k. take k words) e ∙ take-length words ∙ sym (take_all n words (omega arith))
]

-- a part of a list, each end held to the list's
pub part_held : (words : List ℕ) (s n : ℕ) {start end : ℕ} → start ≡ min s (length words) → end ≡ min (start + n) (length words)
    → take (end - start) (drop start words) ≡ take n (drop s words)
part_held words s n {start} {end} h k = elim (dec_le s (length words)) [
  | yes l ↦
      let e : start ≡ s = omega arith in
      let d : end - start ≡ min n (length (drop s words)) = rw length-drop (omega arith) in
      rw (d, e) (take-held (drop s words) n)
  | no l ↦
      let d : drop s words ≡ [] = drop_of_length-le words {i = s} (omega arith) in
      let e : drop start words ≡ [] = drop_of_length-le words {i = start} (omega arith) in
      rw (d, e) (take-nil (end - start) ∙ sym (take-nil n))
]

-- ── Places ──

-- The loop over functions: `left` of them are left from `at` on.
pub record FunctionsLeft (words : List ℕ) (from k at left : ℕ) : Type 0 where
  pub within : at ≤ length words
  pub rest : min (functions_end words from k) (length words) ≡ min (functions_end words at left) (length words)

functions_end-next : (words : List ℕ) (at k : ℕ) → functions_end words at (suc k) ≡ functions_end words (function_end words at) k
unfolding functions_end
functions_end-next words at k = refl

module _ {words : List ℕ} {from k : ℕ} where
  pub functions-begin : {at left : ℕ} → at ≡ min from (length words) → left ≡ k → FunctionsLeft words from k at left
  functions-begin e f = record { within = omega arith; rest = rw (e, f) (sym (functions_end-held words k from)) }

  module _ {at left : ℕ} (h : FunctionsLeft words from k at left) where
    pub functions-less : {at' left' : ℕ} → left ≡ suc left' → at' ≡ min (function_end words at) (length words) → FunctionsLeft words from k at' left'
    functions-less {at'} {left'} s e = record {
      within = omega arith;
      rest =
          h.rest ∙ ap (λ n. min (functions_end words at n) (length words)) s ∙ ap (λ n. min n (length words)) (functions_end-next words at left')
          ∙ sym (functions_end-held words left' (function_end words at)) ∙ ap (λ n. min (functions_end words n left') (length words)) (sym e);
    }

    pub functions-over : left ≤ 0 → at ≡ min (functions_end words from k) (length words)
    unfolding functions_end
    functions-over l =
        let s : left ≡ 0 = omega arith in
        let m : at ≡ min at (length words) = omega (arith, h.within) in
        m ∙ sym (h.rest ∙ ap (λ n. min (functions_end words at n) (length words)) s)

pub end-past : (words : List ℕ) (at : ℕ) → length words ≤ at → length words ≡ min (package_end words at) (length words)
end-past words at l = omega (arith, functions_end-after words (get_or words (at + 1) 0) (at + 2))

-- ── Finding ──

module _ (t : Texts) (name words : List ℕ) (at : ℕ) where
  package_first : {w : ℕ} {b : List ℕ} {r : Bool} (k : ℕ) → w ≡ get_or words at 0 → b ≡ name_bytes t w → r ≡ same_bytes name b
      → find_package t name (packages_from words at (suc k)) ≡ elim r [ true ↦ some (package_at words at) | false ↦ find_package t name (packages_from words (package_end words at) k) ]
  unfolding find_package packages_from
  package_first k ew eb er = rw (er, eb, ew) refl

-- the loop over packages
module _ (t : Texts) (name words : List ℕ) where
  pub packages-begin : {at left : ℕ} → at ≡ min (2 + get_or words 0 0) (length words) → left ≡ get_or words 1 0
      → find_package t name (packages_of words) ≡ find_package t name (packages_from words at left)
  unfolding packages_of
  packages-begin e f = rw (e, f) (ap (find_package t name) (sym (packages-held words (get_or words 1 0) (2 + get_or words 0 0))))

  module _ (at left : ℕ) (h : find_package t name (packages_of words) ≡ find_package t name (packages_from words at left)) where
    module _ {w left' : ℕ} {b : List ℕ} {r : Bool} (s : left ≡ suc left') (ew : w ≡ get_or words at 0) (eb : b ≡ name_bytes t w) (er : r ≡ same_bytes name b) where
      split : find_package t name (packages_of words) ≡ find_package t name (packages_from words at (suc left'))
      split = h ∙ ap (λ n. find_package t name (packages_from words at n)) s

      pub package_found : r ≡ true → find_package t name (packages_of words) ≡ some (package_at words at)
      package_found y = split ∙ package_first t name words at left' ew eb er ∙ rw y refl

      pub package_past : {at' : ℕ} → r ≡ false → at' ≡ min (package_end words at) (length words)
          → find_package t name (packages_of words) ≡ find_package t name (packages_from words at' left')
      package_past n e =
          split ∙ package_first t name words at left' ew eb er
          ∙ rw (n, e) (ap (find_package t name) (sym (packages-held words left' (package_end words at))))

    pub package_none : left ≤ 0 → find_package t name (packages_of words) ≡ none
    unfolding find_package packages_from
    package_none l =
        let s : left ≡ 0 = omega arith in
        h ∙ ap (λ n. find_package t name (packages_from words at n)) s

-- ── The parts of a signature ──

length-params : (words : List ℕ) (k at : ℕ) → length (params_from words at k) ≡ k
unfolding params_from
length-params words zero at = refl
length-params words (suc k) at = ap suc (length-params words k (at + 2))

get_d_params : (words : List ℕ) (k at i j : ℕ) → i < k → j ≡ at + 2 * i → get_or (params_from words at k) i (param 0 0) ≡ param (get_or words j 0) (get_or words (j + 1) 0)
unfolding params_from
get_d_params words zero at i j l e = absurd (omega arith)
get_d_params words (suc k) at zero j l e =
    let s : j ≡ at = omega arith in
    rw s refl
get_d_params words (suc k) at (suc i) j l e = get_d_params words k (at + 2) i j (omega arith) (omega arith)

-- as a signature that is read at a place has them
module _ (words : List ℕ) (at : ℕ) (f : Bool) {s : Signature} (e : signature_at words at f ≡ s) where
  pub count_of : {w : ℕ} → w ≡ get_or words at 0 → w ≡ length s.params
  unfolding signature_at
  count_of ew = ew ∙ sym (length-params words (get_or words at 0) (at + 1)) ∙ ap (λ s. length s.params) e

  counted : length s.params ≡ get_or words at 0
  counted = sym (count_of refl)

  pub return_of : {n w : ℕ} → n ≡ length s.params → w ≡ get_or words (at + (1 + 2 * n)) 0 → w ≡ s.ret
  unfolding signature_at
  return_of {n} en ew =
      let p : at + (1 + 2 * n) ≡ at + 1 + 2 * get_or words at 0 = omega (arith, counted) in
      ew ∙ ap (λ q. get_or words q 0) p ∙ ap (λ s. s.ret) e

  module _ {i n : ℕ} (en : n ≡ length s.params) where
    param_none : n ≤ i → get_or s.params i (param 0 0) ≡ param 0 0
    param_none l = get_or-eq_default s.params (param 0 0) (omega arith)

    param_is : i < n → get_or s.params i (param 0 0) ≡ param (get_or words (at + (1 + 2 * i)) 0) (get_or words (at + (2 + 2 * i)) 0)
    unfolding signature_at
    param_is l =
        let p : at + (1 + 2 * i) + 1 ≡ at + (2 + 2 * i) = omega arith in
        sym (ap (λ s. get_or s.params i (param 0 0)) e)
        ∙ get_d_params words (get_or words at 0) (at + 1) i (at + (1 + 2 * i)) (omega (arith, counted)) (omega arith)
        ∙ ap (λ q. param (get_or words (at + (1 + 2 * i)) 0) (get_or words q 0)) p

    pub name_none : n ≤ i → 0 ≡ (get_or s.params i (param 0 0)).name
    name_none l = sym (ap (λ a. a.name) (param_none l))

    pub name_is : {k w : ℕ} → i < n → w ≡ get_or words (at + (k + 2 * i)) 0 → k ≡ 1 → w ≡ (get_or s.params i (param 0 0)).name
    name_is l ew ek = ew ∙ ap (λ k. get_or words (at + (k + 2 * i)) 0) ek ∙ sym (ap (λ a. a.name) (param_is l))

    pub type_none : n ≤ i → 0 ≡ (get_or s.params i (param 0 0)).type
    type_none l = sym (ap (λ a. a.type) (param_none l))

    pub type_is : {k w : ℕ} → i < n → w ≡ get_or words (at + (k + 2 * i)) 0 → k ≡ 2 → w ≡ (get_or s.params i (param 0 0)).type
    type_is l ew ek = ew ∙ ap (λ k. get_or words (at + (k + 2 * i)) 0) ek ∙ sym (ap (λ a. a.type) (param_is l))

-- ── The parts of a function ──

module _ (words : List ℕ) (at : ℕ) where
  -- its signature stands after its group name and the flag; past the end of the words it has no arguments, and returns word 0
  pub signature_is : {place : ℕ} {f : Bool} → place ≡ min at (length words) + 2 → f ≡ (function_at words at).sig.with_slots → signature_at words place f ≡ (function_at words at).sig
  unfolding function_at signature_at params_from
  signature_is {place} {f} e ef = elim (dec_le at (length words)) [
    | yes l ↦
        let p : place ≡ at + 2 = omega arith in
        let q : at + 2 + 1 ≡ at + 3 = omega arith in
        rw (ef, p, q) refl
    | no l ↦
        let p : get_or words place 0 ≡ 0 = get_or-eq_default words 0 (omega arith) in
        let q : get_or words (at + 2) 0 ≡ 0 = get_or-eq_default words 0 (omega arith) in
        let r : get_or words (place + 1 + 2 * 0) 0 ≡ 0 = get_or-eq_default words 0 (omega arith) in
        let s : get_or words (at + 3 + 2 * 0) 0 ≡ 0 = get_or-eq_default words 0 (omega arith) in
        rw (ef, p, q, r, s) refl
  ]
