-- The functions of a package before the first fault keep the rule on groups. Assumes nothing.
use Prim.Native.Nat.{ℕ, zero, suc, ◌<◌}
use mathlib.Core.Path.{◌≡◌, refl, sym, ap, subst, ◌∙◌}
use mathlib.Core.Logic.{◌⊎◌, inl, inr}
use mathlib.Core.Bool.{Bool, true, false, ◌&&◌, and-eq-true_iff, false≢true}
use mathlib.Core.List.{List}
use native.Mathlib.Omega.{arith}
use lib.ListN.{get_or}
use Rattle.tok.specs.Text.{Texts, name_bytes}
use Rattle.tok.proofs.TextLaws.{same_bytes-true}
use Rattle.library.specs.Package.{Function, function_at, function_end, functions_from, functions_end}
use Rattle.library.specs.PackageRecords.{any_function, same_group}
use Rattle.name_order.specs.Order.{place_in, name_of, Listed, Grouping}
use Rattle.library_groups.specs.Kept.{slotted, GroupsKept, FunctionsListed, ListedEnd, NoneSlotted, FirstFault}
use Rattle.library_groups.proofs.PlaceWays.{ends_rise, ends-first}

-- a test that fails for each of k functions
some-none : (test : Function → Bool) (words : List ℕ) (k at : ℕ) → ((j : ℕ) → j < k → test (function_at words (functions_end words at j)) ≡ false)
    → any_function test (functions_from words at k) ≡ false
unfolding any_function functions_from functions_end
some-none test words zero at h = refl
some-none test words (suc k) at h = rw (h 0 (omega arith)) (some-none test words k (function_end words at) (λ j l. h (suc j) (omega arith)))

not-both : (b : Bool) → (b ≡ true → ⊥) → b ≡ false
not-both true d = absurd (d refl)
not-both false d = refl

name-is : (words : List ℕ) (at : ℕ) → (function_at words at).name ≡ get_or words at 0
unfolding function_at
name-is words at = refl

-- no two functions of a name before r, of which one has slots
kept_by : (t : Texts) (words : List ℕ) (from r : ℕ)
    → ((j k : ℕ) → j < k → functions_end words from k < r → name_bytes t (get_or words (functions_end words from k) 0) ≡ name_bytes t (get_or words (functions_end words from j) 0)
    → (slotted words (functions_end words from j) ≡ true) ⊎ (slotted words (functions_end words from k) ≡ true) → ⊥)
    → GroupsKept t words from r
kept_by t words from r h = record {
  each = λ types k l. record {
    others =
        let name : ℕ = (function_at words (functions_end words from k)).name in
        some-none (λ g. same_group t name g && g.sig.with_slots) words k from (λ j m. not-both _ (λ e.
        let b = (and-eq-true_iff (same_group t name (function_at words (functions_end words from j))) _).0 e in
        h j k m l (same j k b.0) (inl b.1)));
    own = λ y.
        let name : ℕ = (function_at words (functions_end words from k)).name in
        some-none (same_group t name) words k from (λ j m. not-both _ (λ e. h j k m l (same j k e) (inr y)));
  };
}
  where
    same : (j k : ℕ) → same_group t (function_at words (functions_end words from k)).name (function_at words (functions_end words from j)) ≡ true
        → name_bytes t (get_or words (functions_end words from k) 0) ≡ name_bytes t (get_or words (functions_end words from j) 0)
    same j k e =
        ap (name_bytes t) (sym (name-is words (functions_end words from k))) ∙ same_bytes-true _ _ e ∙ ap (name_bytes t) (name-is words (functions_end words from j))

pub kept-none : (t : Texts) (words : List ℕ) (from : ℕ) → GroupsKept t words from from
kept-none t words from = kept_by t words from from (λ j k l m q s. omega (arith, ends-first words from k))

module _ (t : Texts) (words : List ℕ) (from : ℕ) (order : List ℕ) (n end : ℕ) (listed : FunctionsListed words from order n) (ends : ListedEnd words from n end) where
  pub kept_unslotted : {r : Bool} → NoneSlotted words order n r → r ≡ true → GroupsKept t words from end
  kept_unslotted h y = kept_by t words from end (λ j k l m q s. by j k l (ends.only k m) s)
    where
      none : (k : ℕ) → k < n → slotted words (functions_end words from k) ≡ false
      none k l = ap (slotted words) (sym (listed.ranks k l)) ∙ h.none y k l

      by : (j k : ℕ) → j < k → k < n → (slotted words (functions_end words from j) ≡ true) ⊎ (slotted words (functions_end words from k) ≡ true) → ⊥
      by j k l m (inl e) = false≢true (sym (none j (omega arith)) ∙ e)
      by j k l m (inr e) = false≢true (sym (none k m) ∙ e)

  pub kept-grouped : {sorted : List ℕ} {g : Bool} {r : ℕ} → Grouping t words order sorted n g → FirstFault t words sorted n end r → GroupsKept t words from r
  kept-grouped {sorted} {g} {r} s f = kept_by t words from r (λ j k l m q b. by j k l m q b (ends.only k (omega (arith, f.limit))))
    where
      rank : (k : ℕ) → k < n → Listed sorted n (functions_end words from k)
      rank k l = s.rearranged.all _ (record { rank = k; below = l; is = listed.ranks k l })

      by : (j k : ℕ) → j < k → functions_end words from k < r → name_bytes t (get_or words (functions_end words from k) 0) ≡ name_bytes t (get_or words (functions_end words from j) 0)
          → (slotted words (functions_end words from j) ≡ true) ⊎ (slotted words (functions_end words from k) ≡ true) → k < n → ⊥
      by j k l m q b o =
          let x = rank j (omega arith) in
          let y = rank k o in
          let names : name_of t words sorted x.rank ≡ name_of t words sorted y.rank =
          ap (λ p. name_bytes t (get_or words p 0)) x.is ∙ sym q ∙ ap (λ p. name_bytes t (get_or words p 0)) (sym y.is) in
          let rises : place_in (get_or sorted x.rank 0) < place_in (get_or sorted y.rank 0) = omega (arith, x.is, y.is, ends_rise words from k j l) in
          let b' : (slotted words (place_in (get_or sorted x.rank 0)) ≡ true) ⊎ (slotted words (place_in (get_or sorted y.rank 0)) ≡ true) =
          subst (λ p. (slotted words p ≡ true) ⊎ (slotted words (place_in (get_or sorted y.rank 0)) ≡ true)) (sym x.is)
          (subst (λ p. (slotted words (functions_end words from j) ≡ true) ⊎ (slotted words p ≡ true)) (sym y.is) b) in
          omega (arith, f.found x.rank y.rank x.below y.below names rises b', y.is)
