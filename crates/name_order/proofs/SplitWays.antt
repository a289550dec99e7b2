-- Entries told where names begin, one after another, and that sorted names are grouped by it. Assumes nothing.
use Prim.Native.Nat.{ℕ, zero, suc, ◌+◌, ◌-◌, ◌≤◌, ◌<◌}
use mathlib.Core.Path.{◌≡◌, refl, sym, ap, ap₂, ◌∙◌}
use mathlib.Core.Logic.{◌⊎◌, inl, inr}
use mathlib.Core.Bool.{Bool, true, false, true≢false}
use mathlib.Core.List.{List}
use native.Mathlib.Omega.{arith}
use native.Mathlib.Decide.{ℕ_discrete}
use lib.ListN.{length, get_or, set, length-set}
use lib.Seq.{get_or-set_same, get_or-set_other}
use Rattle.tok.specs.Text.{Texts, name_bytes, same_bytes}
use Rattle.tok.proofs.TextLaws.{same_bytes-true}
use Rattle.name_order.specs.Bytes.{bytes_before, before_self, before-trans}
use Rattle.name_order.specs.OrderLaws.{rearranged-then}
use Rattle.name_order.specs.Order.{place_in, new_in, name_of, Rearranged, Split, Grouping}

-- The loop: the entries before rank i are told.
pub record Telling (t : Texts) (words before after : List ℕ) (i : ℕ) : Type 0 where
  pub long : length after ≡ length before
  pub places : (m : ℕ) → place_in (get_or after m 0) ≡ place_in (get_or before m 0)
  pub same : (m : ℕ) → 0 < m → m < i → new_in (get_or after m 0) ≡ false → name_of t words before (m - 1) ≡ name_of t words before m
  pub rising : (m : ℕ) → 0 < m → m < i → new_in (get_or after m 0) ≡ true → bytes_before (name_of t words before (m - 1)) (name_of t words before m) ≡ true

pub telling_begin : {t : Texts} {words order : List ℕ} → Telling t words order order 1
telling_begin = record {
  long = refl;
  places = λ m. refl;
  same = λ m l o e. absurd (omega arith);
  rising = λ m l o e. absurd (omega arith);
}

module _ {t : Texts} {words before after : List ℕ} {i : ℕ} (h : Telling t words before after i) where
  -- the names of two ranks as the code reads them
  name-there : (m : ℕ) → name_of t words after m ≡ name_of t words before m
  name-there m = ap (λ p. name_bytes t (get_or words p 0)) (h.places m)

  module _ (l : 0 < i) (below : i < length before) (a b e : ℕ) (new : Bool) (order : List ℕ) (ea : a ≡ get_or words (place_in (get_or after (i - 1) 0)) 0)
      (eb : b ≡ get_or words (place_in (get_or after i 0)) 0) (en : new ≡ bytes_before (name_bytes t a) (name_bytes t b))
      (ep : place_in e ≡ place_in (get_or after i 0)) (ef : new_in e ≡ new) (eo : order ≡ set after i e)
      (alike : new ≡ false → same_bytes (name_bytes t a) (name_bytes t b) ≡ true) where
    name_a : name_bytes t a ≡ name_of t words before (i - 1)
    name_a = ap (name_bytes t) ea ∙ name-there (i - 1)

    name_b : name_bytes t b ≡ name_of t words before i
    name_b = ap (name_bytes t) eb ∙ name-there i

    here : get_or order i 0 ≡ e
    here = ap (λ o. get_or o i 0) eo ∙ get_or-set_same after i e 0 (rw h.long below)

    elsewhere : (m : ℕ) → (m ≡ i → ⊥) → get_or order m 0 ≡ get_or after m 0
    elsewhere m d = ap (λ o. get_or o m 0) eo ∙ get_or-set_other after i m e 0 d

    pub telling_more : Telling t words before order (i + 1)
    telling_more = record {
      long = ap length eo ∙ length-set after i e ∙ h.long;
      places = λ m. place m (ℕ_discrete m i);
      same = λ m o k q. same_at m o k q (ℕ_discrete m i);
      rising = λ m o k q. rising-at m o k q (ℕ_discrete m i);
    }
      where
        place : (m : ℕ) → Dec (m ≡ i) → place_in (get_or order m 0) ≡ place_in (get_or before m 0)
        place m (yes q) = ap (λ k. place_in (get_or order k 0)) q ∙ ap place_in here ∙ ep ∙ h.places i ∙ ap (λ k. place_in (get_or before k 0)) (sym q)
        place m (no d) = ap place_in (elsewhere m d) ∙ h.places m

        same_at : (m : ℕ) → 0 < m → m < i + 1 → new_in (get_or order m 0) ≡ false → Dec (m ≡ i) → name_of t words before (m - 1) ≡ name_of t words before m
        same_at m o k f (yes q) =
            let none : new ≡ false = sym ef ∙ ap new_in (sym here) ∙ ap (λ k. new_in (get_or order k 0)) (sym q) ∙ f in
            ap (λ k. name_of t words before (k - 1)) q ∙ sym name_a ∙ same_bytes-true _ _ (alike none) ∙ name_b ∙ ap (name_of t words before) (sym q)
        same_at m o k f (no d) = h.same m o (omega arith) (sym (ap new_in (elsewhere m d)) ∙ f)

        rising-at : (m : ℕ) → 0 < m → m < i + 1 → new_in (get_or order m 0) ≡ true → Dec (m ≡ i)
            → bytes_before (name_of t words before (m - 1)) (name_of t words before m) ≡ true
        rising-at m o k f (yes q) =
            let some : new ≡ true = sym ef ∙ ap new_in (sym here) ∙ ap (λ k. new_in (get_or order k 0)) (sym q) ∙ f in
            ap (λ k. bytes_before (name_of t words before (k - 1)) (name_of t words before k)) q ∙ ap₂ bytes_before (sym name_a) (sym name_b) ∙ sym en ∙ some
        rising-at m o k f (no d) = h.rising m o (omega arith) (sym (ap new_in (elsewhere m d)) ∙ f)

  -- names in order: equal, or one before the other
  abbrev name : ℕ → List ℕ
  name m = name_of t words before m

  up_to : (k m j : ℕ) → j ≡ m + k → j < i → (name m ≡ name j) ⊎ (bytes_before (name m) (name j) ≡ true)
  up_to zero m j q l = let z : m ≡ j = omega arith in inl (ap name z)
  up_to (suc k) m j q l = onward (new_in (get_or after j 0)) refl (up_to k m (j - 1) (omega arith) (omega arith))
    where
      onward : (b : Bool) → new_in (get_or after j 0) ≡ b → (name m ≡ name (j - 1)) ⊎ (bytes_before (name m) (name (j - 1)) ≡ true)
          → (name m ≡ name j) ⊎ (bytes_before (name m) (name j) ≡ true)
      onward false e (inl s) = inl (s ∙ h.same j (omega arith) l e)
      onward false e (inr s) = inr (ap (bytes_before (name m)) (sym (h.same j (omega arith) l e)) ∙ s)
      onward true e (inl s) = inr (ap (λ n. bytes_before n (name j)) s ∙ h.rising j (omega arith) l e)
      onward true e (inr s) = inr (before-trans (name m) (name (j - 1)) (name j) s (h.rising j (omega arith) l e))

  then-before : (x y z : List ℕ) → (x ≡ y) ⊎ (bytes_before x y ≡ true) → bytes_before y z ≡ true → bytes_before x z ≡ true
  then-before x y z (inl e) f = rw e f
  then-before x y z (inr e) f = before-trans x y z e f

  before-then : (x y z : List ℕ) → bytes_before x y ≡ true → (y ≡ z) ⊎ (bytes_before y z ≡ true) → bytes_before x z ≡ true
  before-then x y z e (inl f) = rw (← f) e
  before-then x y z e (inr f) = before-trans x y z e f

  differ : (m : ℕ) → 0 < m → m < i → new_in (get_or after m 0) ≡ true → (k j : ℕ) → k < m → m ≤ j → j < i → name k ≡ name j → ⊥
  differ m l o e k j lk lj oj q =
      let first : bytes_before (name k) (name m) ≡ true = then-before (name k) (name (m - 1)) (name m) (up_to (m - 1 - k) k (m - 1) (omega arith) (omega arith)) (h.rising m l o e) in
      let all : bytes_before (name k) (name j) ≡ true = before-then (name k) (name m) (name j) first (up_to (j - m) m j (omega arith) oj) in
      true≢false (sym all ∙ ap (λ n. bytes_before n (name j)) q ∙ before_self (name j))

  pub split-true : (n : ℕ) → n ≤ i → Split t words before after n true
  split-true n b = record {
    long = h.long;
    places = h.places;
    grouped = λ _. record {
      same = λ m l o e. name-there (m - 1) ∙ h.same m l (omega arith) e ∙ sym (name-there m);
      apart = λ m l o e k j lk lj oj q. differ m l (omega arith) e k j lk lj (omega arith) (sym (name-there k) ∙ q ∙ name-there j);
    };
  }

  pub split-false : {n : ℕ} → Split t words before after n false
  split-false = record { long = h.long; places = h.places; grouped = λ e. absurd (true≢false (sym e)) }

-- ── All of it ──

pub grouping_is : {t : Texts} {words a b c d : List ℕ} {n : ℕ} {r : Bool} → Rearranged a b n → Rearranged b c n → Split t words c d n r → Grouping t words a d n r
grouping_is f g s = record {
  rearranged = rearranged-then f (rearranged-then g (record {
    long = s.long;
    all = λ p h. record { rank = h.rank; below = h.below; is = s.places h.rank ∙ h.is };
    only = λ p h. record { rank = h.rank; below = h.below; is = sym (s.places h.rank) ∙ h.is };
  }));
  grouped = s.grouped;
}
