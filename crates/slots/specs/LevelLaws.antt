-- One level of binding, by the kinds of both words; and the first of several fields. By the tests. Assumes nothing.
use Rattle.std.specs.Prelude.{◌≡◌, List, ℕ, ◌+◌, ◌-◌, eqb, get_or}
use Rattle.std.proofs.Math.Path.{refl}
use Rattle.std.proofs.Common.{eq-eqb, ne_eqb}
use Rattle.tok.specs.Word.{kind_of, payload_of}
use Rattle.tok.specs.Text.{Texts}
use Rattle.ptype.specs.Ty.{Ty, Fields, plain, wrap, rec, named, field}
use Rattle.ptype.specs.Words.{inner_word, field_count}
use Rattle.ptype.specs.Slots.{Binding, all_bound, and_then, bind_one, bind_slots, bind_fields}
use Rattle.slots.specs.BindLaws.{if_true, if_false}

module _ (t : Texts) (types : List ℕ) (w : ℕ) (bs : List Binding) where
  pub bind-inner : (k : ℕ) (u : Ty) → kind_of w ≡ k → bind_slots t types (wrap k u) w bs ≡ bind_slots t types u (inner_word types w) bs
  unfolding bind_slots
  bind-inner k u e = if_true (bind_slots t types u (inner_word types w) bs) (all_bound bs) (eqb (kind_of w) k) (eq-eqb (kind_of w) k e)

  pub bind-no-inner : (k : ℕ) (u : Ty) → (kind_of w ≡ k → ⊥) → bind_slots t types (wrap k u) w bs ≡ all_bound bs
  unfolding bind_slots
  bind-no-inner k u d = if_false (bind_slots t types u (inner_word types w) bs) (all_bound bs) (eqb (kind_of w) k) (ne_eqb (kind_of w) k d)

  pub bind-listed : (fs : Fields) → kind_of w ≡ 8 → bind_slots t types (rec fs) w bs ≡ bind_fields t types fs (payload_of w + 1) (field_count types w) bs
  unfolding bind_slots
  bind-listed fs e = if_true (bind_fields t types fs (payload_of w + 1) (field_count types w) bs) (all_bound bs) (eqb (kind_of w) 8) (eq-eqb (kind_of w) 8 e)

  pub bind-not-listed : (fs : Fields) → (kind_of w ≡ 8 → ⊥) → bind_slots t types (rec fs) w bs ≡ all_bound bs
  unfolding bind_slots
  bind-not-listed fs d = if_false (bind_fields t types fs (payload_of w + 1) (field_count types w) bs) (all_bound bs) (eqb (kind_of w) 8) (ne_eqb (kind_of w) 8 d)

  pub bind-slot : (k : ℕ) (n : List ℕ) → k ≡ 10 → bind_slots t types (named k n) w bs ≡ bind_one t types n w bs
  unfolding bind_slots
  bind-slot k n e = if_true (bind_one t types n w bs) (all_bound bs) (eqb k 10) (eq-eqb k 10 e)

  pub bind-foreign : (k : ℕ) (n : List ℕ) → (k ≡ 10 → ⊥) → bind_slots t types (named k n) w bs ≡ all_bound bs
  unfolding bind_slots
  bind-foreign k n d = if_false (bind_one t types n w bs) (all_bound bs) (eqb k 10) (ne_eqb k 10 d)

  pub bind-plain : (k : ℕ) → bind_slots t types (plain k) w bs ≡ all_bound bs
  unfolding bind_slots
  bind-plain k = refl

-- the first field, and then the others
pub bind-first : (t : Texts) (types : List ℕ) (n : List ℕ) (u : Ty) (fs : Fields) (at left : ℕ) (bs : List Binding) → (left ≡ 0 → ⊥)
    → bind_fields t types (field n u fs) at left bs ≡ and_then (bind_slots t types u (get_or types (at + 1) 0) bs) (λ more. bind_fields t types fs (at + 2) (left - 1) more)
unfolding bind_slots
bind-first t types n u fs at left bs d =
    if_false (all_bound bs) (and_then (bind_slots t types u (get_or types (at + 1) 0) bs) (λ more. bind_fields t types fs (at + 2) (left - 1) more)) (eqb left 0) (ne_eqb left 0 d)

pub bind-short : (t : Texts) (types : List ℕ) (n : List ℕ) (u : Ty) (fs : Fields) (at left : ℕ) (bs : List Binding) → left ≡ 0
    → bind_fields t types (field n u fs) at left bs ≡ all_bound bs
unfolding bind_slots
bind-short t types n u fs at left bs e =
    if_true (all_bound bs) (and_then (bind_slots t types u (get_or types (at + 1) 0) bs) (λ more. bind_fields t types fs (at + 2) (left - 1) more)) (eqb left 0) (eq-eqb left 0 e)
