-- A return type asked by the order of names: `NamesStand` is `return_stands`. Assumes nothing.
use Prim.Native.Nat.{ℕ, zero, suc, ◌+◌, ◌-◌, ◌*◌, ◌/◌, ◌%◌, ◌≤◌, ◌<◌}
use Rattle.std.specs.Prelude.{◌≡◌, Bool, ◌&&◌, ◌||◌, List, [], ◌∷◌, map, eqb, leb, ltb}
use Rattle.std.proofs.Math.Path.{refl, sym, ap}
use Rattle.std.proofs.Common.{◌∙◌, true≢false, append-nil}
use Rattle.std.proofs.Math.Logic.{inl, inr}
use Rattle.std.proofs.Math.Bool.{true, false, and-eq-true_iff, or-true}
use Rattle.std.proofs.lemmas.Bool.{false≢true}
use native.Mathlib.Omega.{arith}
use Rattle.std.proofs.Math.Decide.{dec_lt}
use Rattle.std.proofs.Math.ListN.{length, get_or, get_or-eq_default}
use borrow.Author.Tests.{eq-eqb, eqb-true, ltb-true, lt-ltb, leb-true, le-leb}
use Rattle.tok.specs.Word.{kind_of}
use Rattle.tok.specs.Text.{Texts, name_bytes}
use Rattle.tok.proofs.TextLaws.{same_bytes-true, eq_same_bytes}
use Rattle.library.specs.Pool.{pool_in}
use Rattle.library.specs.Slots.{pool_ty, slot_names, slot_names_of, name_among, return_stands}
use Rattle.library.specs.Each.{Each}
use Rattle.library.specs.TypeWords.{TypeWord, either_true}
use Rattle.library.specs.PoolRead.{PoolFine}
use Rattle.library.specs.Package.{params_from}
use Rattle.library.specs.SlotMarks.{unmarked, any_marked, is_slot, any_slot_of}
use Rattle.library.specs.SlotReach.{get_or-unmarked, length-unmarked, slots-reached}
use Rattle.library.specs.ReturnSlots.{among_marked, reached_from, among-missing, all_among_lem, Witness, any_some}
use Rattle.name_order.specs.Order.{place_in, new_in, name_of}
use Rattle.library_slots.specs.Named.{of_pairs, in_pool, Had, Lacks, NamesStand, SlotsListed, SlotsNamed}

-- ── Slots by name ──

is-slot : (t : Texts) (w : ℕ) → kind_of w ≡ 10 → is_slot t (name_bytes t w) w ≡ true
unfolding is_slot
is-slot t w k = rw (k, eq_same_bytes (name_bytes t w) _ refl) refl

slot-kind : (t : Texts) (name : List ℕ) (w : ℕ) → is_slot t name w ≡ true → kind_of w ≡ 10
unfolding is_slot
slot-kind t name w h = eqb-true _ _ ((and-eq-true_iff (eqb (kind_of w) 10) _).0 h).0

slot-name : (t : Texts) (name : List ℕ) (w : ℕ) → is_slot t name w ≡ true → name ≡ name_bytes t w
unfolding is_slot
slot-name t name w h = same_bytes-true _ _ ((and-eq-true_iff (eqb (kind_of w) 10) _).0 h).1

any_witness : (marks : List Bool) (test : ℕ → Bool) (i : ℕ) → any_marked marks test i ≡ true → Witness marks test i
unfolding any_marked
any_witness marks test zero e = absurd (false≢true e)
any_witness marks test (suc i) e = elim (either_true (get_or marks i false && test i) _ e) [
  | inl h ↦
      let b = (and-eq-true_iff (get_or marks i false) (test i)).0 h in
      record { at = i; below = omega arith; marked = b.0; holds = b.1 }
  | inr h ↦
      let w = any_witness marks test i h in
      record { at = w.at; below = omega (arith, w.below); marked = w.marked; holds = w.holds }
]

-- ── The pool from place 2 on ──

pub record PoolAt (words types : List ℕ) : Type 0 where
  pub there : (i : ℕ) → i < length types → get_or types i 0 ≡ get_or words (i + 2) 0
  pub within : length types + 2 ≤ length words
  pub room : length types + 2 ≤ 8192

-- the words that stand for some types: their places, by a test
pub record Selves (t : Texts) (words : List ℕ) (self : ℕ → Bool) (ws : List ℕ) : Type 0 where
  pub into : (p : ℕ) (name : List ℕ) → self p ≡ true → is_slot t name (get_or words p 0) ≡ true → any_slot_of t name ws ≡ true
  pub from : (name : List ℕ) → any_slot_of t name ws ≡ true
      → (p : ℕ) × (self p ≡ true) × (2 ≤ p) × (p < length words) × (p ≤ 8192) × (is_slot t name (get_or words p 0) ≡ true)

module _ (t : Texts) (words types order : List ℕ) (n : ℕ) (listed : SlotsListed words order n) (pool : PoolAt words types)
    (self : ℕ → Bool) (ws : List ℕ) (marks : List Bool) (own : Selves t words self ws) where
  abbrev test : ℕ → Bool
  test p = self p || in_pool (length types) marks p

  -- a rank that is reached has a name among theirs
  rank-among : (i : ℕ) → i < n → test (place_in (get_or order i 0)) ≡ true → among_marked t types ws marks (name_of t words order i) ≡ true
  unfolding among_marked in_pool
  rank-among i l h =
      let p : ℕ = place_in (get_or order i 0) in
      let k : kind_of (get_or words p 0) ≡ 10 = listed.only p (record { rank = i; below = l; is = refl }) in
      let s : is_slot t (name_of t words order i) (get_or words p 0) ≡ true = is-slot t (get_or words p 0) k in
      elim (either_true (self p) (in_pool (length types) marks p) h) [
        | inl e ↦ rw (own.into p _ e s) refl
        | inr e ↦
            let a = (and-eq-true_iff (leb 2 p) _).0 e in
            let b = (and-eq-true_iff (ltb (p - 2) (length types)) _).0 a.1 in
            let low : 2 ≤ p = leb-true _ _ a.0 in
            let below : p - 2 < length types = ltb-true _ _ b.0 in
            let q : p - 2 + 2 ≡ p = omega arith in
            let w : get_or types (p - 2) 0 ≡ get_or words p 0 = pool.there (p - 2) below ∙ ap (λ x. get_or words x 0) q in
            rw (any_some marks (λ j. is_slot t (name_of t words order i) (get_or types j 0)) (length types) (record {
              at = p - 2;
              below = below;
              marked = b.1;
              holds = ap (is_slot t (name_of t words order i)) w ∙ s;
            }))
            (or-true (any_slot_of t (name_of t words order i) ws))
      ]

  -- a place that is reached and a slot of that name has a rank
  pub record Ranked (name : List ℕ) : Type 0 where
    pub rank : ℕ
    pub below : rank < n
    pub reached : test (place_in (get_or order rank 0)) ≡ true
    pub called : name_of t words order rank ≡ name

  ranked_at : (p : ℕ) (name : List ℕ) → 2 ≤ p → p < length words → p ≤ 8192 → is_slot t name (get_or words p 0) ≡ true → test p ≡ true → Ranked name
  ranked_at p name l m o s h =
      let r = listed.all p l m o (slot-kind t name _ s) in
      record {
        rank = r.rank;
        below = r.below;
        reached = ap test r.is ∙ h;
        called = ap (λ x. name_bytes t (get_or words x 0)) r.is ∙ sym (slot-name t name _ s);
      }

  among-rank : (name : List ℕ) → among_marked t types ws marks name ≡ true → Ranked name
  unfolding among_marked in_pool
  among-rank name h = elim (either_true (any_slot_of t name ws) _ h) [
    | inl e ↦
        let f = own.from name e in
        ranked_at f.0 name f.2 f.3 f.4 f.5 (rw f.1 refl)
    | inr e ↦
        let w = any_witness marks _ (length types) e in
        let s : is_slot t name (get_or words (w.at + 2) 0) ≡ true = ap (is_slot t name) (sym (pool.there w.at w.below)) ∙ w.holds in
        let q : w.at + 2 - 2 ≡ w.at = omega arith in
        ranked_at (w.at + 2) name (omega arith) (omega (arith, w.below, pool.within)) (omega (arith, w.below, pool.room)) s
        (rw (le-leb 2 (w.at + 2) (omega arith), q, lt-ltb w.at (length types) w.below, w.marked) (or-true (self (w.at + 2))))
  ]

-- ── The return type ──

module _ (t : Texts) (words types order : List ℕ) (n : ℕ) (listed : SlotsListed words order n) (pool : PoolAt words types) (fine : PoolFine (pool_in t types))
    (have want : ℕ → Bool) (args : List ℕ) (ret : ℕ) (good : Each (TypeWord (pool_in t types) (length types)) args)
    (goodRet : TypeWord (pool_in t types) (length types) ret)
    (haves : Selves t words have args) (wants : Selves t words want (ret ∷ [])) where
  among-is : (ws : List ℕ) (name : List ℕ) → Each (TypeWord (pool_in t types) (length types)) ws
      → among_marked t types ws (reached_from types ws) name ≡ name_among name (slot_names_of (pool_in t types) ws)
  unfolding among_marked
  among-is ws name h = slots-reached (pool_in t types) name fine ws (unmarked 8192) h (get_or-unmarked 8192) (rw (length-unmarked 8192) (omega (arith, pool.room)))

  ret-is : (name : List ℕ) → among_marked t types (ret ∷ []) (reached_from types (ret ∷ [])) name ≡ name_among name (slot_names (pool_ty (pool_in t types) ret))
  unfolding slot_names_of Each
  ret-is name = among-is (ret ∷ []) name (goodRet, tt) ∙ ap (name_among name) (append-nil _)

  abbrev arg_test : ℕ → Bool
  arg_test p = have p || in_pool (length types) (reached_from types args) p

  abbrev ret_test : ℕ → Bool
  ret_test p = want p || in_pool (length types) (reached_from types (ret ∷ [])) p

  all-had : ((i : ℕ) → i < n → ret_test (place_in (get_or order i 0)) ≡ true → Had t words order n arg_test i) → return_stands (pool_in t types) args ret ≡ true
  unfolding return_stands
  all-had h = all_among_lem _ _ (λ name e.
      let w = among-rank t words types order n listed pool want (ret ∷ []) (reached_from types (ret ∷ [])) wants name (ret-is name ∙ e) in
      let a = h w.rank w.below w.reached in
      let s : name_of t words order a.rank ≡ name = sym a.name ∙ w.called in
      sym (among-is args name good) ∙ ap (among_marked t types args (reached_from types args)) (sym s)
      ∙ rank-among t words types order n listed pool have args (reached_from types args) haves a.rank a.below a.had)

  one_lacks : Lacks t words order n arg_test ret_test → return_stands (pool_in t types) args ret ≡ false
  unfolding return_stands
  one_lacks l =
      among-missing (name_of t words order l.rank) _ _
      (sym (ret-is (name_of t words order l.rank)) ∙ rank-among t words types order n listed pool want (ret ∷ []) (reached_from types (ret ∷ [])) wants l.rank l.below l.wants)
      (none _ refl)
    where
      none : (b : Bool) → name_among (name_of t words order l.rank) (slot_names_of (pool_in t types) args) ≡ b → name_among (name_of t words order l.rank) (slot_names_of (pool_in t types) args) ≡ false
      none false e = e
      none true e =
          let a = among-rank t words types order n listed pool have args (reached_from types args) haves _ (among-is args (name_of t words order l.rank) good ∙ e) in
          absurd (true≢false (sym a.reached ∙ l.none a.rank a.below (sym a.called)))

  pub names_stand : (r : Bool) → NamesStand t words order n arg_test ret_test r → r ≡ return_stands (pool_in t types) args ret
  names_stand true h = sym (all-had (h.yes refl))
  names_stand false h = sym (one_lacks (h.no refl))

-- ── Where the types stand ──

module _ (t : Texts) (words : List ℕ) (name : List ℕ) where
  pair-slot : (c at k : ℕ) → k < c → is_slot t name (get_or words (at + 1 + 2 * k) 0) ≡ true → any_slot_of t name (map (λ a. a.type) (params_from words at c)) ≡ true
  unfolding params_from any_slot_of
  pair-slot zero at k l h = absurd (omega arith)
  pair-slot (suc c) at zero l h =
      let q : at + 1 + 2 * 0 ≡ at + 1 = omega arith in
      rw (ap (λ p. is_slot t name (get_or words p 0)) (sym q) ∙ h) refl
  pair-slot (suc c) at (suc k) l h =
      let q : at + 2 + 1 + 2 * k ≡ at + 1 + 2 * suc k = omega arith in
      rw (pair-slot c (at + 2) k (omega arith) (ap (λ p. is_slot t name (get_or words p 0)) q ∙ h)) (or-true (is_slot t name (get_or words (at + 1) 0)))

  slot-pair : (c at : ℕ) → any_slot_of t name (map (λ a. a.type) (params_from words at c)) ≡ true → (k : ℕ) × (k < c) × (is_slot t name (get_or words (at + 1 + 2 * k) 0) ≡ true)
  unfolding params_from any_slot_of
  slot-pair zero at h = absurd (false≢true h)
  slot-pair (suc c) at h = elim (either_true (is_slot t name (get_or words (at + 1) 0)) _ h) [
    | inl e ↦
        let q : at + 1 + 2 * 0 ≡ at + 1 = omega arith in
        (0, omega arith, ap (λ p. is_slot t name (get_or words p 0)) q ∙ e)
    | inr e ↦
        let f = slot-pair c (at + 2) e in
        let q : at + 1 + 2 * suc f.0 ≡ at + 2 + 1 + 2 * f.0 = omega arith in
        (suc f.0, omega (arith, f.1), ap (λ p. is_slot t name (get_or words p 0)) q ∙ f.2)
  ]

pub pairs_selves : (t : Texts) (words : List ℕ) (first count end : ℕ) → end ≡ first + 2 * count → 2 ≤ first → end ≤ 8192 → end ≤ length words
    → Selves t words (of_pairs first end) (map (λ a. a.type) (params_from words first count))
unfolding of_pairs
pairs_selves t words first count end e l m o = record {
  into = λ p name h s.
      let a = (and-eq-true_iff (ltb first p) _).0 h in
      let b = (and-eq-true_iff (ltb p end) _).0 a.1 in
      let low : first < p = ltb-true _ _ a.0 in
      let high : p < end = ltb-true _ _ b.0 in
      let odd : (p - first) % 2 ≡ 1 = eqb-true _ _ b.1 in
      let q : p ≡ first + 1 + 2 * ((p - first) / 2) = omega arith in
      pair-slot t words name count first ((p - first) / 2) (omega arith) (ap (λ x. is_slot t name (get_or words x 0)) (sym q) ∙ s);
  from = λ name h.
      let f = slot-pair t words name count first h in
      let k : f.0 < count = f.1 in
      let odd : (first + 1 + 2 * f.0 - first) % 2 ≡ 1 = omega arith in
      (first + 1 + 2 * f.0, rw (lt-ltb first (first + 1 + 2 * f.0) (omega arith), lt-ltb (first + 1 + 2 * f.0) end (omega arith), eq-eqb _ 1 odd) refl, omega arith, omega arith, omega arith, f.2);
}

pub ret_selves : (t : Texts) (words : List ℕ) (ret end : ℕ) → ret ≡ get_or words end 0 → 2 ≤ end → end ≤ 8192 → Selves t words (λ p. eqb p end) (ret ∷ [])
unfolding any_slot_of
ret_selves t words ret end er l m = record {
  into = λ p name h s. rw (er ∙ ap (λ x. get_or words x 0) (sym (eqb-true p end h)), s) refl;
  from = λ name h.
      let s : is_slot t name (get_or words end 0) ≡ true = ap (is_slot t name) (sym er) ∙ only (is_slot t name ret) h in
      (end, eq-eqb end end refl, l, there end (slot-kind t name _ s), m, s);
}
  where
    only : (b : Bool) → (b || false) ≡ true → b ≡ true
    only true e = refl
    only false e = e

    there : (p : ℕ) → kind_of (get_or words p 0) ≡ 10 → p < length words
    there p k = elim (dec_lt p (length words)) [
      | yes h ↦ h
      | no h ↦
          let z : get_or words p 0 ≡ 0 = get_or-eq_default words 0 (omega arith) in
          absurd (omega arith)
    ]

-- ── Lists whose first n entries are the same ──

module _ {words a b : List ℕ} {n : ℕ} (h : (i : ℕ) → i < n → get_or a i 0 ≡ get_or b i 0) where
  pub listed_same : SlotsListed words a n → SlotsListed words b n
  listed_same s = record {
    all = λ p o m q k. let l = s.all p o m q k in record { rank = l.rank; below = l.below; is = ap place_in (sym (h l.rank l.below)) ∙ l.is };
    only = λ p l. s.only p (record { rank = l.rank; below = l.below; is = ap place_in (h l.rank l.below) ∙ l.is });
    few = s.few;
  }

  pub named-same : {t : Texts} → SlotsNamed t words a n → SlotsNamed t words b n
  named-same {t} s = record {
    listed = listed_same s.listed;
    grouped = record {
      same = λ m l o e. sym (name (m - 1) (omega arith)) ∙ s.grouped.same m l o (ap new_in (h m o) ∙ e) ∙ name m o;
      apart = λ m l o e i j p q r f. s.grouped.apart m l o (ap new_in (h m o) ∙ e) i j p q r (name i (omega arith) ∙ f ∙ sym (name j r));
    };
  }
    where
      name : (i : ℕ) → i < n → name_of t words a i ≡ name_of t words b i
      name i l = ap (λ e. name_bytes t (get_or words (place_in e) 0)) (h i l)
