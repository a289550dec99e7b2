-- Going through the packages held, one law for each way on. Assumes nothing.
use Prim.Native.Nat.{ℕ, zero, suc, ◌+◌, ◌-◌, ◌≤◌, ◌<◌}
use mathlib.Core.Path.{◌≡◌, refl, sym, ap, ◌∙◌}
use mathlib.Core.Bool.{Bool, true, false, cond}
use mathlib.Core.Option.{Option, none, some}
use mathlib.Core.List.{List, [], ◌∷◌}
use native.Mathlib.Omega.{arith}
use lib.ListN.{get_or}
use lib.Dec.{ltb}
use borrow.Author.Tests.{lt-ltb, le-ltb}
use Rattle.tok.specs.Text.{Texts, name_bytes, same_bytes}
use Rattle.library.specs.Package.{Package, find_package}
use Rattle.library.specs.PackagesRead.{package_at}
use Rattle.state.specs.Store.{extern_at, held_at, held_size, held_from, held_end}

-- by a package's first word
pub size-one : (w : ℕ) → w < 8192 → 1 ≡ held_size w
size-one w h = rw (lt-ltb w 8192 h)

pub size-more : (w : ℕ) {n : ℕ} → n ≡ w → 8192 ≤ w → (n - 8192) ≡ held_size w
size-more w e h = rw (e, le-ltb w 8192 h)

module _ (library scratch : List ℕ) (at : ℕ) {w : ℕ} (ew : w ≡ get_or scratch at 0) where
  pub of-library : {n : ℕ} → w < 8192 → n ≡ w → package_at library n ≡ held_at library scratch at
  unfolding held_at
  of-library h e = rw (e, lt-ltb (get_or scratch at 0) 8192 (rw (← ew) h), ew)

  pub of-extern : 8192 ≤ w → extern_at scratch (at + 1) ≡ held_at library scratch at
  unfolding held_at
  of-extern h = rw (le-ltb (get_or scratch at 0) 8192 (rw (← ew) h))

  pub name-extern : 8192 ≤ w → get_or scratch (at + 1) 0 ≡ (held_at library scratch at).name
  unfolding extern_at
  name-extern h = ap (λ p. p.name) (of-extern h)

held_after : (scratch : List ℕ) (k at : ℕ) → at ≤ held_end scratch at k
unfolding held_end
held_after scratch zero at = omega arith
held_after scratch (suc k) at = omega (arith, held_after scratch k (at + held_size (get_or scratch at 0)))

-- `left` of k packages are left, from `at` on
pub record Left (t : Texts) (wanted library scratch : List ℕ) (from k at left : ℕ) : Type 0 where
  pub same : find_package t wanted (held_from library scratch from k) ≡ find_package t wanted (held_from library scratch at left)
  pub ends : held_end scratch from k ≡ held_end scratch at left

module _ {t : Texts} {wanted library scratch : List ℕ} {from k : ℕ} where
  pub left-begin : Left t wanted library scratch from k from k
  left-begin = record { same = refl; ends = refl }

  module _ {at left : ℕ} (h : Left t wanted library scratch from k at left) where
    pub left-place : at ≤ held_end scratch from k
    left-place = omega (arith, h.ends, held_after scratch left at)

    pub left_over : left ≤ 0 → none ≡ find_package t wanted (held_from library scratch from k)
    unfolding held_from find_package
    left_over l =
        let z : left ≡ 0 = omega arith in
        sym (h.same ∙ ap (λ n. find_package t wanted (held_from library scratch at n)) z)

    module _ {name : ℕ} {b : List ℕ} {r : Bool} (l : 0 < left) (en : name ≡ (held_at library scratch at).name) (eb : b ≡ name_bytes t name) (er : r ≡ same_bytes wanted b) where
      first : find_package t wanted (held_from library scratch from k)
          ≡ elim r [ true ↦ some (held_at library scratch at) | false ↦ find_package t wanted (held_from library scratch (at + held_size (get_or scratch at 0)) (left - 1)) ]
      unfolding held_from find_package
      first =
          let s : left ≡ suc (left - 1) = omega arith in
          h.same ∙ ap (λ n. find_package t wanted (held_from library scratch at n)) s
          ∙ ap (λ c. elim c [ true ↦ some (held_at library scratch at) | false ↦ find_package t wanted (held_from library scratch (at + held_size (get_or scratch at 0)) (left - 1)) ])
          (sym (er ∙ ap (same_bytes wanted) (eb ∙ ap (name_bytes t) en)))

      pub held_found : {o : Option Package} → o ≡ some (held_at library scratch at) → r ≡ true → o ≡ find_package t wanted (held_from library scratch from k)
      held_found e y = e ∙ sym (first ∙ rw y refl)

      pub held-past : {size w : ℕ} → w ≡ get_or scratch at 0 → size ≡ held_size w → r ≡ false → Left t wanted library scratch from k (at + size) (left - 1)
      unfolding held_end
      held-past ew es n =
          let s : left ≡ suc (left - 1) = omega arith in
          let e = sym (es ∙ ap (λ x. held_size x) ew) in
          record {
            same = first ∙ rw n refl ∙ ap (λ x. find_package t wanted (held_from library scratch (at + x) (left - 1))) e;
            ends = h.ends ∙ ap (held_end scratch at) s ∙ ap (λ x. held_end scratch (at + x) (left - 1)) e;
          }
