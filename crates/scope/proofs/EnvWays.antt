-- Looking for a name in scope, one law for each way on. Assumes nothing.
use Prim.Native.Nat.{ℕ, zero, suc, ◌+◌, ◌*◌, ◌-◌, ◌≤◌, ◌<◌, ◌^◌}
use mathlib.Core.Path.{◌≡◌, refl, sym, ap, ◌∙◌}
use mathlib.Core.Bool.{Bool, true, false, cond}
use mathlib.Core.Option.{Option, none, some}
use mathlib.Core.List.{List, [], ◌∷◌}
use native.Mathlib.Omega.{arith}
use lib.ListN.{get_or}
use lib.Dec.{eqb}
use borrow.Author.Tests.{eqb-true}
use Rattle.tok.specs.Word.{kind_of}
use Rattle.tok.specs.Text.{Texts, name_bytes, same_bytes}
use Rattle.rules.specs.Steps.{env_get}
use Rattle.state.specs.Store.{poisoned, local_name, local_type, local_at, env_up}

pub name-marked : (w : ℕ) {q : Bool} → q ≡ poisoned w → q ≡ true → (w - 2 ^ 28) ≡ local_name w
name-marked w e h = rw (← e, h)

pub name-plain : (w : ℕ) {q : Bool} → q ≡ poisoned w → q ≡ false → w ≡ local_name w
name-plain w e h = rw (← e, h)

-- a word of kind 13 is above the mark
pub marked-above : (w : ℕ) {q : Bool} → q ≡ poisoned w → q ≡ true → 268435456 ≤ w
marked-above w e h =
    let k : kind_of w ≡ 13 = eqb-true (kind_of w) 13 (sym e ∙ h) in
    omega arith

-- The name is looked for among the oldest k of `depth` names.
pub record EnvLeft (t : Texts) (wanted scratch : List ℕ) (base depth k : ℕ) : Type 0 where
  pub same : env_get t wanted (env_up scratch base depth) ≡ env_get t wanted (env_up scratch base k)
  pub within : k ≤ depth

pub env-begin : (t : Texts) (wanted scratch : List ℕ) (base depth : ℕ) → EnvLeft t wanted scratch base depth depth
env-begin t wanted scratch base depth = record { same = refl; within = omega arith }

module _ {t : Texts} {wanted scratch : List ℕ} {base depth k : ℕ} (h : EnvLeft t wanted scratch base depth k) where
  pub env-none : k ≤ 0 → none ≡ env_get t wanted (env_up scratch base depth)
  unfolding env_get env_up
  env-none l =
      let e : k ≡ 0 = omega arith in
      sym (h.same ∙ ap (λ n. env_get t wanted (env_up scratch base n)) e)

  module _ {w name : ℕ} {b : List ℕ} {r : Bool} (l : 0 < k) (ew : w ≡ get_or scratch (2 * (base + (k - 1))) 0) (en : name ≡ local_name w) (eb : b ≡ name_bytes t name)
      (er : r ≡ same_bytes wanted b) where
    -- the newest of k names, and the others
    first : env_get t wanted (env_up scratch base k)
        ≡ elim r [ true ↦ some (local_type w (get_or scratch (2 * (base + (k - 1)) + 1) 0)) | false ↦ env_get t wanted (env_up scratch base (k - 1)) ]
    unfolding env_get env_up local_at
    first =
        let s : k ≡ suc (k - 1) = omega arith in
        let e : same_bytes wanted (name_bytes t (local_name (get_or scratch (2 * (base + (k - 1))) 0))) ≡ r =
        sym (er ∙ ap (same_bytes wanted) (eb ∙ ap (name_bytes t) (en ∙ ap (λ x. local_name x) ew))) in
        ap (λ n. env_get t wanted (env_up scratch base n)) s
        ∙ ap (λ b. elim b [
          | true ↦ some (local_type (get_or scratch (2 * (base + (k - 1))) 0) (get_or scratch (2 * (base + (k - 1)) + 1) 0))
          | false ↦ env_get t wanted (env_up scratch base (k - 1))
        ]) e
        ∙ ap (λ x. elim r [ true ↦ some (local_type x (get_or scratch (2 * (base + (k - 1)) + 1) 0)) | false ↦ env_get t wanted (env_up scratch base (k - 1)) ]) (sym ew)

    pub env-poisoned : {q : Bool} → r ≡ true → q ≡ poisoned w → q ≡ true → some none ≡ env_get t wanted (env_up scratch base depth)
    env-poisoned y eq p = sym (h.same ∙ first ∙ rw (y, ← eq, p) refl)

    pub env-bound : {q : Bool} {type : ℕ} → r ≡ true → q ≡ poisoned w → q ≡ false → type ≡ get_or scratch (2 * (base + (k - 1)) + 1) 0
        → some (some type) ≡ env_get t wanted (env_up scratch base depth)
    env-bound y eq p e = sym (h.same ∙ first ∙ rw (y, ← eq, p, e) refl)

    pub env-past : r ≡ false → EnvLeft t wanted scratch base depth (k - 1)
    env-past n = record { same = h.same ∙ first ∙ rw n refl; within = omega (arith, h.within) }
