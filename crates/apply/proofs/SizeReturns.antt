-- Each return of `applied_size` and `applied_word`, over variables for what the calls gave: by the kind of the word. By the laws of one level
-- of sizes. Assumes nothing.
use mathlib.Core.Path.{◌≡◌, refl, sym, ◌∙◌}
use mathlib.Core.Bool.{Bool, true, false}
use mathlib.Core.List.{List}
use Prim.Native.Nat.{ℕ, ◌+◌, ◌-◌, ◌*◌, ◌≤◌}
use native.Mathlib.Omega.{arith}
use native.Mathlib.Decide.{ℕ_discrete}
use Rattle.tok.specs.Word.{kind_of, payload_of, word_of}
use Rattle.tok.specs.Text.{Texts, name_bytes}
use Rattle.ptype.specs.Kinds.{wraps}
use Rattle.ptype.specs.Words.{inner_word, field_count, unfolded}
use Rattle.ptype.proofs.UnfoldLaws.{one_less}
use Rattle.ptype.specs.Slots.{Binding, bound_to, bound_or, has_bound_slot}
use Rattle.apply.specs.Sizes.{sizes_of, size_within, word_before}
use Rattle.apply.specs.SizeLaws.{size-wrap, size_record, size-rest, word-slot, word_same, word-wrap, word_record, size-free, size-inside, word-level}

module _ (t : Texts) (bs : List Binding) (old : List ℕ) (w deep : ℕ) where
  abbrev size : ℕ
  size = size_within t bs old deep w

  pub none-adds : deep ≡ 0 → size ≡ 0
  unfolding size_within
  none-adds e = rw e

  module _ {k : ℕ} (p : deep ≡ 0 → ⊥) (hk : k ≡ kind_of w) where
    pub rest-adds : wraps k ≡ false → (k ≡ 8 → ⊥) → size ≡ 0
    rest-adds nw d = by (has_bound_slot bs (unfolded t old deep w)) refl
      where
        by : (q : Bool) → has_bound_slot bs (unfolded t old deep w) ≡ q → size ≡ 0
        by true z = size-inside t bs old w (one_less p) z ∙ size-rest t bs old w hk (size_within t bs old (deep - 1)) nw d
        by false z = size-free t bs old w (one_less p) z

    -- a Record that was added anew has words of its own
    pub record_least : (size ≡ 0 → ⊥) → wraps k ≡ false → 1 + 2 * field_count old w ≤ size
    record_least d nw = by (has_bound_slot bs (unfolded t old deep w)) refl (ℕ_discrete k 8)
      where
        by : (q : Bool) → has_bound_slot bs (unfolded t old deep w) ≡ q → Dec (k ≡ 8) → 1 + 2 * field_count old w ≤ size
        by true z (yes e) = omega (arith, size-inside t bs old w (one_less p) z, size_record t bs old w hk (size_within t bs old (deep - 1)) e)
        by true z (no e) = absurd (d (size-inside t bs old w (one_less p) z ∙ size-rest t bs old w hk (size_within t bs old (deep - 1)) nw e))
        by false z x = absurd (d (size-free t bs old w (one_less p) z))

    module _ {q : Bool} (hq : q ≡ has_bound_slot bs (unfolded t old deep w)) where
      pub free-adds : q ≡ false → size ≡ 0
      free-adds e = size-free t bs old w (one_less p) (sym hq ∙ e)

      module _ (has : q ≡ true) where
        pub wrap_adds : {x : ℕ} → wraps k ≡ true → x ≡ inner_word old w → size ≡ size_within t bs old (deep - 1) x + 1
        wrap_adds h hx = size-inside t bs old w (one_less p) (sym hq ∙ has) ∙ size-wrap t bs old w hk (size_within t bs old (deep - 1)) h ∙ rw hx

        pub record_adds : {x m : ℕ} → k ≡ 8 → m ≡ field_count old w → x ≡ payload_of w → size ≡ sizes_of (size_within t bs old (deep - 1)) old (x + 1) m + (1 + 2 * m)
        record_adds e hm hx = size-inside t bs old w (one_less p) (sym hq ∙ has) ∙ size_record t bs old w hk (size_within t bs old (deep - 1)) e ∙ rw (hx, hm)

  module _ (end long : ℕ) where
    pub none-word : deep ≡ 0 → w ≡ word_before t bs old deep end long w
    unfolding word_before
    none-word e = rw e

    module _ {k : ℕ} (p : deep ≡ 0 → ⊥) (hk : k ≡ kind_of w) where
      pub slot-word : {x : ℕ} → k ≡ 10 → x ≡ bound_or w (bound_to (name_bytes t w) bs) → x ≡ word_before t bs old deep end long w
      slot-word e hx = hx ∙ sym (word-level t bs old w (one_less p) end long ∙ word-slot t bs old w hk end long e)

      module _ (ns : k ≡ 10 → ⊥) where
        pub same_word : long ≡ 0 → w ≡ word_before t bs old deep end long w
        same_word z = sym (word-level t bs old w (one_less p) end long ∙ word_same t bs old w hk end long ns z)

        pub wrap-word : {x : ℕ} → (long ≡ 0 → ⊥) → wraps k ≡ true → x ≡ word_of k (end - 1) → x ≡ word_before t bs old deep end long w
        wrap-word z h hx = hx ∙ sym (word-level t bs old w (one_less p) end long ∙ word-wrap t bs old w hk end long ns z h)

        pub record_word : {x m : ℕ} → (long ≡ 0 → ⊥) → wraps k ≡ false → m ≡ field_count old w → x ≡ word_of 8 (end - (1 + 2 * m)) → x ≡ word_before t bs old deep end long w
        record_word z h hm hx = hx ∙ rw hm (sym (word-level t bs old w (one_less p) end long ∙ word_record t bs old w hk end long ns z h))
