-- What refers only into the first words of the buffer, and what holds of every word inside a type: how it is put together and
-- taken apart. By induction on the levels. Assumes nothing.
use Rattle.std.specs.Prelude.{ℕ, zero, suc, ◌+◌, ◌*◌, ◌≤◌, ◌<◌, ◌≡◌, true, false, List, get_or}
use Rattle.std.proofs.Common.{le_trans, le_of_lt, arith, sym, ◌∙◌, true≢false}
use Rattle.std.proofs.Math.Nat.{suc_inj}
use Rattle.tok.specs.Word.{kind_of, payload_of}
use Rattle.ptype.specs.Words.{inner_word, field_count}
use Rattle.ptype.specs.Kinds.{wraps}
use Rattle.ptype.specs.Inside.{field_type, Inside, wrapped, in_field, Throughout, below, level, Refers, Within, Backward}

-- What follows from P holds throughout where P does, and to a lesser depth.
pub throughout_map : {P Q : ℕ → Type 0} {types : List ℕ} {deep w : ℕ} → ((v : ℕ) → P v → Q v) → Throughout P types deep w → Throughout Q types deep w
throughout_map f below = below
throughout_map f (level {w = w} p inside) = level (f w p) (λ v i. throughout_map f (inside v i))

pub throughout_less : {P : ℕ → Type 0} {types : List ℕ} {deep w : ℕ} → Throughout P types (suc deep) w → Throughout P types deep w
throughout_less {deep = zero} h = below
throughout_less {deep = suc f} (level p inside) = level p (λ v i. throughout_less (inside v i))

-- Taken apart, at a level with f levels inside:
pub throughout_here : {P : ℕ → Type 0} {types : List ℕ} {deep f w : ℕ} → deep ≡ suc f → Throughout P types deep w → P w
throughout_here e below = absurd (omega arith)
throughout_here e (level p inside) = p

pub throughout_inside : {P : ℕ → Type 0} {types : List ℕ} {deep f w v : ℕ} → deep ≡ suc f → Throughout P types deep w → Inside types w v → Throughout P types f v
throughout_inside e below i = absurd (omega arith)
throughout_inside {v = v} e (level p inside) i = rw (suc_inj e) at (inside v i)

-- put together, by what the word holds:
no_record : {k : ℕ} → wraps k ≡ true → k ≡ 8 → ⊥
no_record h e = true≢false (sym (rw e at h))

module _ {P : ℕ → Type 0} {types : List ℕ} {f w : ℕ} (p : P w) where
  pub throughout_wrap : wraps (kind_of w) ≡ true → Throughout P types f (inner_word types w) → Throughout P types (suc f) w
  throughout_wrap h t = level p inside
    where
      inside : (v : ℕ) → Inside types w v → Throughout P types f v
      inside v (wrapped k) = t
      inside v (in_field k i l) = absurd (no_record h k)

  pub throughout_record : kind_of w ≡ 8 → ((i : ℕ) → i < field_count types w → Throughout P types f (field_type types w i)) → Throughout P types (suc f) w
  throughout_record h t = level p inside
    where
      inside : (v : ℕ) → Inside types w v → Throughout P types f v
      inside v (wrapped k) = absurd (no_record k h)
      inside v (in_field k i l) = t i l

  pub throughout_flat : wraps (kind_of w) ≡ false → (kind_of w ≡ 8 → ⊥) → Throughout P types (suc f) w
  throughout_flat a b = level p inside
    where
      inside : (v : ℕ) → Inside types w v → Throughout P types f v
      inside v (wrapped k) = absurd (true≢false (sym k ∙ a))
      inside v (in_field k i l) = absurd (b k)

-- One word refers into the first `used`, by what it holds.
module _ {types : List ℕ} {used w : ℕ} where
  pub refers-wrap : wraps (kind_of w) ≡ true → payload_of w < used → Refers types used w
  refers-wrap h l = record { to_inner = λ k. l; to_fields = λ k. absurd (no_record h k) }

  pub refers_record : kind_of w ≡ 8 → payload_of w + 1 + 2 * field_count types w ≤ used → Refers types used w
  refers_record h l = record { to_inner = λ k. absurd (no_record k h); to_fields = λ k. l }

  pub refers-flat : wraps (kind_of w) ≡ false → (kind_of w ≡ 8 → ⊥) → Refers types used w
  refers-flat a b = record { to_inner = λ k. absurd (true≢false (sym k ∙ a)); to_fields = λ k. absurd (b k) }

-- What lies among the first words lies among more of them.
pub refers-more : {types : List ℕ} {used more w : ℕ} → used ≤ more → Refers types used w → Refers types more w
refers-more l r = record { to_inner = λ k. le_trans (r.to_inner k) l; to_fields = λ k. le_trans (r.to_fields k) l }

pub within_more : {types : List ℕ} {used more deep w : ℕ} → used ≤ more → Within types used deep w → Within types more deep w
within_more l h = throughout_map (λ v r. refers-more l r) h

inside-at : (P : ℕ → Type 0) {types : List ℕ} {used w v : ℕ} → Refers types used w → ((j : ℕ) → j < used → P (get_or types j 0)) → Inside types w v → P v
inside-at P {w = w} r at (wrapped k) = at (payload_of w) (r.to_inner k)
inside-at P {w = w} r at (in_field k i l) = at (payload_of w + 1 + 2 * i + 1) (omega (arith, r.to_fields k))

-- In such a buffer a word that refers into the first words does so all the way down.
pub backward_within : {types : List ℕ} {used : ℕ} → Backward types used → (deep w : ℕ) → Refers types used w → Within types used deep w
backward_within b zero w r = below
backward_within {types} {used} b (suc f) w r =
    level r (λ v i. inside-at (Within types used f) r (λ j l. backward_within b f (get_or types j 0) (refers-more (le_of_lt l) (b.each j l))) i)
