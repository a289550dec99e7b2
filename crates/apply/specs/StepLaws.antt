-- One level of `apply_within`, by the kind of the word, whatever is read of the buffer. By the tests. Assumes nothing.
use Rattle.std.specs.Prelude.{◌≡◌, List, ℕ, suc, ◌+◌}
use Rattle.std.proofs.Math.Bool.{true, false}
use borrow.Author.Tests.{eq-eqb, ne_eqb}
use Rattle.tok.specs.Word.{kind_of, payload_of}
use Rattle.tok.specs.Text.{Texts, name_bytes}
use Rattle.tok.specs.Step.{Step, Refusal, ok, next, when}
use Rattle.ptype.specs.Kinds.{wraps}
use Rattle.ptype.specs.Words.{unfolded, inner_word, field_count}
use Rattle.ptype.specs.Add.{Buffer, add_wrap, add_record}
use Rattle.ptype.specs.Slots.{Binding, bound_to, bound_or, has_bound_slot}
use Rattle.apply.specs.Apply.{apply_pairs, apply_inside, apply_within}

-- k is the word's kind, `go` what is put for a word inside
module _ (texts : Texts) (n : ℕ) (bs : List Binding) (seen : Buffer → List ℕ) (go : ℕ → Step Buffer Refusal ℕ) (w : ℕ) (b : Buffer) {k : ℕ} (hk : k ≡ kind_of w) where
  pub inside-slot : k ≡ 10 → apply_inside texts n bs seen go w b ≡ ok (bound_or w (bound_to (name_bytes texts w) bs)) b
  unfolding apply_inside when
  inside-slot e = rw (← hk, e)

  module _ (ns : k ≡ 10 → ⊥) where
    pub inside-wrap : wraps k ≡ true → apply_inside texts n bs seen go w b ≡ next (go (inner_word (seen b) w) b) (add_wrap texts n k)
    unfolding apply_inside when
    inside-wrap h = rw (← hk, ne_eqb k 10 ns, h)

    module _ (nw : wraps k ≡ false) where
      pub inside_record : k ≡ 8 → apply_inside texts n bs seen go w b ≡ next (apply_pairs go seen (payload_of w + 1) (field_count (seen b) w) b) (add_record texts n)
      unfolding apply_inside when
      inside_record e = rw (← hk, ne_eqb k 10 ns, nw, eq-eqb k 8 e)

      pub inside-rest : (k ≡ 8 → ⊥) → apply_inside texts n bs seen go w b ≡ ok w b
      unfolding apply_inside when
      inside-rest d = rw (← hk, ne_eqb k 10 ns, nw, ne_eqb k 8 d)

-- at a level, with f levels inside: a type without a bound slot is returned as it is
module _ (texts : Texts) (n : ℕ) (bs : List Binding) (seen : Buffer → List ℕ) (w : ℕ) (b : Buffer) {deep f : ℕ} (ed : deep ≡ suc f) where
  pub within-free : has_bound_slot bs (unfolded texts (seen b) deep w) ≡ false → apply_within texts n bs seen deep w b ≡ ok w b
  unfolding apply_within when
  within-free h =
      let g : has_bound_slot bs (unfolded texts (seen b) (suc f) w) ≡ false = rw ed at h in
      rw (ed, g)

  pub within-inside : has_bound_slot bs (unfolded texts (seen b) deep w) ≡ true → apply_within texts n bs seen deep w b ≡ apply_inside texts n bs seen (apply_within texts n bs seen f) w b
  unfolding apply_within when
  within-inside h =
      let g : has_bound_slot bs (unfolded texts (seen b) (suc f) w) ≡ true = rw ed at h in
      rw (ed, g)
