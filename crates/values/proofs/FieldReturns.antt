-- Looking up a field, turn by turn. By rewriting with the tests. Assumes nothing.
use Rattle.std.specs.Prelude.{Some, None}
use Prim.Native.Nat.{ℕ, zero, suc, ◌+◌, ◌-◌, ◌<◌, ◌≤◌}
use mathlib.Core.Path.{◌≡◌, sym, ap, ◌∙◌}
use mathlib.Core.Bool.{Bool, true, false}
use mathlib.Core.Option.{Option, some}
use mathlib.Core.List.{List}
use native.Mathlib.Omega.{arith}
use lib.ListN.{get_or}
use Rattle.tok.specs.Text.{Texts, name_bytes, same_name}
use Rattle.rules.specs.Rules.{find_field}
use Rattle.values.specs.Answers.{found_of}

-- ---- the fields one after the other
module _ (T : Texts) (W : List ℕ) (name at : ℕ) where
  -- the first of those left has the name, or another
  find_named : (left : ℕ) → 0 < left → same_name T name (get_or W at 0) ≡ true → find_field T W (name_bytes T name) at left ≡ some (get_or W (at + 1) 0)
  unfolding find_field
  find_named zero h e = absurd (omega arith)
  find_named (suc k) h e = rw (e, find_field)

  find_other : (left : ℕ) → 0 < left → same_name T name (get_or W at 0) ≡ false → find_field T W (name_bytes T name) at left ≡ find_field T W (name_bytes T name) (at + 2) (left - 1)
  unfolding find_field
  find_other zero h e = absurd (omega arith)
  find_other (suc k) h e =
      let z : k ≡ suc k - 1 = omega arith in
      rw (e, find_field) (ap (λ j. find_field T W (name_bytes T name) (at + 2) j) z)

  module _ {left w : ℕ} {same : Bool} {start : Option ℕ} (inv : start ≡ find_field T W (name_bytes T name) at left) where
    pub find_here : {x : ℕ} → 0 < left → w ≡ get_or W at 0 → same ≡ same_name T name w → same ≡ true → x ≡ get_or W (at + 1) 0 → found_of (Some x) ≡ start
    unfolding found_of
    find_here h hw hs e hx = sym (inv ∙ find_named left h (rw (← hw, ← hs) e) ∙ ap some (sym hx))

    pub find_later : 0 < left → w ≡ get_or W at 0 → same ≡ same_name T name w → same ≡ false → start ≡ find_field T W (name_bytes T name) (at + 2) (left - 1)
    find_later h hw hs e = inv ∙ find_other left h (rw (← hw, ← hs) e)

  pub find_none : {left : ℕ} {start : Option ℕ} → start ≡ find_field T W (name_bytes T name) at left → left ≤ 0 → found_of None ≡ start
  unfolding found_of find_field
  find_none {left} inv h =
      let z : left ≡ 0 = omega arith in
      sym (inv ∙ rw z)
