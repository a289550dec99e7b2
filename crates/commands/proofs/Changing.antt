-- The ways out of the functions that change lists: a law for each. Assumes nothing.
use Rattle.std.proofs.Common.{◌≡◌, ℕ, suc, ◌+◌, ◌-◌, ◌/◌, ◌%◌, ◌^◌, ◌<◌, ◌≤◌, List, get_or, set, refl, sym, ◌∙◌, arith, eq-eqb, ne_eqb, le-leb}
use native.Mathlib.Nat.{sub-zero}
use borrow.Author.Tests.{lt-leb}
use Rattle.commands.specs.declared.Lists.{Lists as Lent}
use Rattle.commands.specs.Changes.{low_byte, whole, filled, four_bytes, Lists, lists, on_list, with_registers, patterned, fill_of, data_of, changed}
use Rattle.commands.specs.Becoming.{SameLent}

-- ---- fills
module _ {T : Type 0} (held : ℕ → T) (stride step : ℕ) where
  pub fill_begins : (l : List T) (at count w : ℕ) → filled held l stride at count w step ≡ filled held l stride at (count - 0) w step
  fill_begins l at count w = rw (sub-zero count)

  -- one turn
  pub fill-next :
      (l : List T) (at w count counter : ℕ) {l' x : List T} {at' w' : ℕ} → x ≡ filled held l stride at (count - counter) w step → counter < count →
      l' ≡ set l at (held w) → at' ≡ (at + stride) % 2 ^ 64 → w' ≡ (w + step) % 2 ^ 32 →
      x ≡ filled held l' stride at' (count - (counter + 1)) w' step
  unfolding filled
  fill-next l at w count counter e h el ea ew =
      let n : count - counter ≡ suc (count - (counter + 1)) = omega arith in
      e ∙ rw (n, el, ea, ew)

  pub fill-ends : (l : List T) (at w count counter : ℕ) {x : List T} → x ≡ filled held l stride at (count - counter) w step → count ≤ counter → l ≡ x
  unfolding filled
  fill-ends l at w count counter e h =
      let n : count - counter ≡ 0 = omega arith in
      sym (rw n at e)

-- ---- a list by its number
module _ (s i t l r : List ℕ) (n : ℕ) (f g : List ℕ → List ℕ) where
  on-script : {x : List ℕ} → n ≡ 0 → x ≡ f s → on_list n f g (lists s i t l r) ≡ lists x i t l r
  unfolding on_list
  on-script e p = rw (e, p)

  on-image : {x : List ℕ} → n ≡ 1 → x ≡ g i → on_list n f g (lists s i t l r) ≡ lists s x t l r
  unfolding on_list
  on-image e p = rw (e, p)

  on-text : {x : List ℕ} → n ≡ 2 → x ≡ f t → on_list n f g (lists s i t l r) ≡ lists s i x l r
  unfolding on_list
  on-text e p = rw (e, p)

  on-library : {x : List ℕ} → (n ≡ 0 → ⊥) → (n ≡ 1 → ⊥) → (n ≡ 2 → ⊥) → x ≡ g l → on_list n f g (lists s i t l r) ≡ lists s i t x r
  unfolding on_list
  on-library p q h e =
      let k : n ≡ suc (suc (suc (n - 3))) = omega arith in
      rw (k, e)

-- ---- `fill`
module _ (s i t l r : List ℕ) (value step : ℕ) {list start count : ℕ} (e : list ≡ get_or r 10 0) (es : start ≡ get_or r 11 0) (ec : count ≡ get_or r 12 0) where
  pub fill-script : {x : List ℕ} → list % 4 ≡ 0 → x ≡ filled low_byte s (list / 4) start count value step → fill_of value step (lists s i t l r) ≡ lists x i t l r
  unfolding fill_of
  fill-script h p = on-script s i t l r _ _ _ (rw e at h) (rw (e, es, ec) at p)

  pub fill-image : {x : List ℕ} → list % 4 ≡ 1 → x ≡ filled whole i (list / 4) start count value step → fill_of value step (lists s i t l r) ≡ lists s x t l r
  unfolding fill_of
  fill-image h p = on-image s i t l r _ _ _ (rw e at h) (rw (e, es, ec) at p)

  pub fill-text : {x : List ℕ} → list % 4 ≡ 2 → x ≡ filled low_byte t (list / 4) start count value step → fill_of value step (lists s i t l r) ≡ lists s i x l r
  unfolding fill_of
  fill-text h p = on-text s i t l r _ _ _ (rw e at h) (rw (e, es, ec) at p)

  pub fill-library : {x : List ℕ} → (list % 4 ≡ 0 → ⊥) → (list % 4 ≡ 1 → ⊥) → (list % 4 ≡ 2 → ⊥) → x ≡ filled whole l (list / 4) start count value step
      → fill_of value step (lists s i t l r) ≡ lists s i t x r
  unfolding fill_of
  fill-library p q h k = on-library s i t l r _ _ _ (rw e at p) (rw e at q) (rw e at h) (rw (e, es, ec) at k)

-- ---- `data`
module _ (s i t l : List ℕ) (list at a b : ℕ) where
  pub data_script : {x : List ℕ} → list ≡ 0 → x ≡ four_bytes (four_bytes s at a) (at + 4) b → (r : List ℕ) → data_of list at a b (lists s i t l r) ≡ lists x i t l r
  unfolding data_of
  data_script h p r = on-script s i t l r _ _ _ h p

  pub data_image : {x : List ℕ} → list ≡ 1 → x ≡ set (set i at a) (at + 1) b → (r : List ℕ) → data_of list at a b (lists s i t l r) ≡ lists s x t l r
  unfolding data_of
  data_image h p r = on-image s i t l r _ _ _ h p

  pub data_text : {x : List ℕ} → list ≡ 2 → x ≡ four_bytes (four_bytes t at a) (at + 4) b → (r : List ℕ) → data_of list at a b (lists s i t l r) ≡ lists s i x l r
  unfolding data_of
  data_text h p r = on-text s i t l r _ _ _ h p

  pub data_library : {x : List ℕ} → (list ≡ 0 → ⊥) → (list ≡ 1 → ⊥) → (list ≡ 2 → ⊥) → x ≡ set (set l at a) (at + 1) b → (r : List ℕ) → data_of list at a b (lists s i t l r) ≡ lists s i t x r
  unfolding data_of
  data_library p q h e r = on-library s i t l r _ _ _ p q h e

-- ---- `change`
pub same_lent : (l : Lent) → SameLent l l
same_lent l = (refl, refl, refl, refl, refl)

module _ (s : Lists) (op a b c : ℕ) where
  pub change_pattern : op ≡ 1 → changed op a b c s ≡ with_registers s (patterned a b c s.registers)
  unfolding changed
  change_pattern h = rw (eq-eqb op 1 h) refl

  pub change_fill : (op ≡ 1 → ⊥) → op ≡ 2 → changed op a b c s ≡ fill_of a b s
  unfolding changed
  change_fill n h = rw (ne_eqb op 1 n, eq-eqb op 2 h) refl

  pub change_length : (op ≡ 1 → ⊥) → (op ≡ 2 → ⊥) → op ≡ 3 → changed op a b c s ≡ with_registers s (set s.registers a b)
  unfolding changed
  change_length n m h = rw (ne_eqb op 1 n, ne_eqb op 2 m, eq-eqb op 3 h) refl

  pub change_data : (op ≡ 1 → ⊥) → (op ≡ 2 → ⊥) → (op ≡ 3 → ⊥) → 8 ≤ op → changed op a b c s ≡ data_of (op - 8) a b c s
  unfolding changed
  change_data n m p h = rw (ne_eqb op 1 n, ne_eqb op 2 m, ne_eqb op 3 p, le-leb 8 op h) refl

  pub change_other : (op ≡ 1 → ⊥) → (op ≡ 2 → ⊥) → (op ≡ 3 → ⊥) → op < 8 → changed op a b c s ≡ s
  unfolding changed
  change_other n m p h = rw (ne_eqb op 1 n, ne_eqb op 2 m, ne_eqb op 3 p, lt-leb 8 op h) refl
