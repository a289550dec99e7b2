-- Slots by the order of their names as the code asks for them, one law for each way out. Assumes nothing.
use Prim.Native.Nat.{ℕ, ◌+◌, ◌≤◌, ◌<◌}
use mathlib.Core.Path.{◌≡◌, refl, sym, ap, ◌∙◌}
use mathlib.Core.Bool.{Bool, true, false, not, true≢false}
use mathlib.Core.List.{List, [], ◌∷◌, ◌++◌}
use native.Mathlib.Omega.{arith}
use native.Mathlib.Decide.{dec_lt}
use lib.ListN.{length, get_or, replicate, take, get_or-append}
use Rattle.std.proofs.Common.{get_or-take, length-take-le}
use Rattle.tok.specs.Word.{kind_of}
use Rattle.tok.specs.Text.{Texts, name_bytes}
use Rattle.library.specs.SlotMarks.{unmarked, mark_inside, mark_all, spread, any_marked}
use Rattle.library.specs.ReturnSlots.{among_marked, missing, reached_from}
use Rattle.library_slots.proofs.NameWays.{return-slot, return-other}
use Rattle.name_order.specs.Order.{place_in, Listed, Grouped, Grouping, GroupEnd}
use Rattle.name_order.specs.OrderLaws.{Begins, begins-first, begins-next, group-is}
use Rattle.library_slots.specs.Named.{argued, wanted, Told, Had, NamesStand, ReturnAsked, SlotsListed, SlotsNamed}
use Rattle.library_slots.specs.NamedLaws.{listed_same, named-same}

-- ── Group by group ──

-- The loop over the groups: each name wanted before rank `at` is had, and a name begins there.
pub record StandsTo (order : List ℕ) (n : ℕ) (have want : ℕ → Bool) (at : ℕ) : Type 0 where
  pub within : at ≤ n
  pub begins : Begins order n at
  pub had : (t : Texts) (words : List ℕ) → Grouped t words order n → (i : ℕ) → i < at → want (place_in (get_or order i 0)) ≡ true → Had t words order n have i

module _ {order : List ℕ} {n : ℕ} {have want : ℕ → Bool} where
  pub stands-begin : StandsTo order n have want 0
  stands-begin = record { within = omega arith; begins = begins-first order n; had = λ t w g i l. absurd (omega arith) }

  module _ {at : ℕ} (h : StandsTo order n have want at) where
    pub stands-done : n ≤ at → (t : Texts) (words : List ℕ) → Grouped t words order n → NamesStand t words order n have want true
    stands-done l t words g = record { yes = λ _ i m. h.had t words g i (omega arith); no = λ e. absurd (true≢false e) }

    module _ {end : ℕ} where
      -- one of the group is had, and with it all
      pub stands-had : GroupEnd order at n end → {r : Bool} → Told have order at end r → r ≡ true → StandsTo order n have want end
      stands-had e told y = record {
        within = e.within;
        begins = begins-next order n at end e;
        had = λ t words g i l w. by t words g i l w (dec_lt i at);
      }
        where
          by : (t : Texts) (words : List ℕ) → Grouped t words order n → (i : ℕ) → i < end → want (place_in (get_or order i 0)) ≡ true → Dec (i < at) → Had t words order n have i
          by t words g i l w (yes m) = h.had t words g i m w
          by t words g i l w (no m) =
              let f = told.yes y in
              let one = group-is g at end h.begins e in
              record {
                rank = f.rank;
                below = omega (arith, f.high, e.within);
                had = f.holds;
                name = sym (one.alike i (omega arith) l) ∙ one.alike f.rank f.low f.high;
              }

      -- none of the group is wanted
      pub stands-past : GroupEnd order at n end → {r : Bool} → Told want order at end r → r ≡ false → StandsTo order n have want end
      stands-past e told f = record {
        within = e.within;
        begins = begins-next order n at end e;
        had = λ t words g i l w. by t words g i l w (dec_lt i at);
      }
        where
          by : (t : Texts) (words : List ℕ) → Grouped t words order n → (i : ℕ) → i < end → want (place_in (get_or order i 0)) ≡ true → Dec (i < at) → Had t words order n have i
          by t words g i l w (yes m) = h.had t words g i m w
          by t words g i l w (no m) = absurd (true≢false (sym w ∙ told.no f i (omega arith) l))

      -- one is wanted and none is had
      pub stands_lacks : (t : Texts) (words : List ℕ) → Grouped t words order n → GroupEnd order at n end → {r s : Bool} → Told want order at end r → r ≡ true
          → Told have order at end s → s ≡ false → NamesStand t words order n have want false
      stands_lacks t words g e wants y haves f =
          let one = group-is g at end h.begins e in
          let w = wants.yes y in
          record {
            yes = λ z. absurd (true≢false (sym z));
            no = λ _. record {
              rank = w.rank;
              below = omega (arith, w.high, e.within);
              wants = w.holds;
              none = λ j l q.
                  let o = one.others w.rank j w.low w.high l q in
                  haves.no f j o.0 o.1;
            };
          }

-- ── The return type ──

pub unmarked-are : replicate 8192 false ≡ unmarked 8192
unfolding unmarked
unmarked-are = refl

-- the marks as the code sets them
module _ (t : Texts) (types args : List ℕ) (ret : ℕ) (order : List ℕ) (n first end : ℕ) (r : Bool) (none marked reached none' marked' reached' : List Bool)
    (e0 : none ≡ unmarked 8192) (e1 : marked ≡ mark_all types args none) (e2 : reached ≡ spread types (length types) marked)
    (f0 : none' ≡ unmarked 8192) (f1 : marked' ≡ mark_inside types ret none') (f2 : reached' ≡ spread types (length types) marked') where
  reached-args : reached ≡ reached_from types args
  reached-args = e2 ∙ ap (spread types (length types)) (e1 ∙ ap (mark_all types args) e0)

  reached-ret : reached' ≡ reached_from types (ret ∷ [])
  unfolding mark_all
  reached-ret = f2 ∙ ap (spread types (length types)) (f1 ∙ ap (mark_inside types ret) f0)

  pub asked-named : 0 < n → ((words : List ℕ) → Grouped t words order n
      → NamesStand t words order n (argued (length types) reached first end) (wanted (length types) reached' end) r) → ReturnAsked t types args ret order n first end r
  asked-named l h = record { named = λ words z g. rw (← reached-args, ← reached-ret) (h words g); plain = λ z. absurd (omega arith) }

  module _ (z : n ≤ 0) {k : ℕ} (ek : k ≡ kind_of ret) where
    pub asked-slot : k ≡ 10 → r ≡ among_marked t types args reached (name_bytes t ret) → ReturnAsked t types args ret order n first end r
    asked-slot e er = record { named = λ words l. absurd (omega arith); plain = λ _. return-slot t types args ret ek e0 e1 e2 e er }

    pub asked-other : (k ≡ 10 → ⊥) → {s : Bool} → s ≡ any_marked reached' (λ i. missing t types args reached (get_or types i 0)) (length types) → r ≡ not s
        → ReturnAsked t types args ret order n first end r
    asked-other d es er = record { named = λ words l. absurd (omega arith); plain = λ _. er ∙ return-other t types args ret ek e0 e1 e2 d f0 f1 f2 es }

-- ── The slots of a library ──

-- The loop over the words: the slots before place i are listed.
pub record Listing (words before order : List ℕ) (n i : ℕ) : Type 0 where
  pub long : length order ≡ length before
  pub few : n + 2 ≤ i
  pub most : i ≤ 8193
  pub all : 8192 ≤ length before → (p : ℕ) → 2 ≤ p → p < i → kind_of (get_or words p 0) ≡ 10 → Listed order n p
  pub only : 8192 ≤ length before → (p : ℕ) → Listed order n p → kind_of (get_or words p 0) ≡ 10

-- the slots listed are sorted in front of what lies behind
pub slots-named : {t : Texts} {words b c : List ℕ} (rest : List ℕ) {n : ℕ} {r : Bool} → SlotsListed words b n → n ≤ length b
    → Grouping t words (take n b) c (length (take n b)) r → r ≡ true → SlotsNamed t words (c ++ rest) n
slots-named {t} {words} {b} {c} rest {n} {r} s l g y = named-same front (record {
  listed = record {
    all = λ p o m q k. h.rearranged.all p (cut.all p o m q k);
    only = λ p r. cut.only p (h.rearranged.only p r);
    few = s.few;
  };
  grouped = h.grouped y;
})
  where
    h : Grouping t words (take n b) c n r
    h = rw (length-take-le n b l) at g

    cut : SlotsListed words (take n b) n
    cut = listed_same (λ i o. sym (get_or-take n b i 0 o)) s

    front : (i : ℕ) → i < n → get_or c i 0 ≡ get_or (c ++ rest) i 0
    front i o = sym (get_or-append c rest 0 i (omega (arith, h.rearranged.long, length-take-le n b l)))
