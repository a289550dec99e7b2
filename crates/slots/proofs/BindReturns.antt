-- Each return of `bind_within` and `bind_fields`, by the kind of the expected word and by the fields that are left.
-- By the laws of unfolding; where there was no room for a field's bindings there is none for all, since bindings only grow.
-- Assumes nothing.
use Rattle.std.specs.Prelude.{Ok, Err, ⊤}
use mathlib.Core.Path.{◌≡◌, refl, sym, ◌∙◌}
use mathlib.Core.Bool.{Bool, true, false, true≢false}
use mathlib.Core.Option.{none, some}
use mathlib.Core.List.{List}
use Prim.Native.Nat.{ℕ, ◌+◌, ◌-◌, ◌<◌, ◌≤◌, min}
use Rattle.std.proofs.Math.Decide.{ℕ_discrete}
use native.Mathlib.Omega.{arith}
use lib.Dec.{leb}
use lib.ListN.{get_or, length}
use borrow.Author.Tests.{leb-false}
use Rattle.tok.specs.Word.{kind_of, payload_of}
use Rattle.tok.specs.Text.{Texts, name_bytes}
use Rattle.ptype.specs.Ty.{Ty}
use Rattle.ptype.specs.Words.{inner_word, field_count, fields_from, fields_of, unfolded}
use Rattle.ptype.specs.Kinds.{wraps, shape, is_plain, is_wrap, is_record, is_named}
use Rattle.ptype.proofs.UnfoldLaws.{one_less, unfolded-none, unfolded-plain, unfolded-wrap, unfolded_record, unfolded-named, fields-none, fields-more}
use Rattle.ptype.specs.Slots.{Binding, Bound, all_bound, conflict, void_slot, and_then, bind_one, bind_slots, bind_fields}
use Rattle.slots.specs.declared.BindError.{BindError}
use Rattle.slots.specs.declared.BindError.TheVariants.{Conflict, Void, NoRoom}
use Rattle.slots.specs.declared.Bindings.{Bindings}
use Rattle.slots.specs.Bindings.{Bind, pair_room, bindings_of, bindings_after, fitted, bound_of, Binds}
use Rattle.slots.specs.BindLaws.{Extends, extends-length, bind_fields-extends}
use Rattle.slots.specs.LevelLaws.{bind-plain, bind-inner, bind-no-inner, bind-listed, bind-not-listed, bind-slot, bind-foreign, bind-first, bind-short}
use Rattle.slots.proofs.PairReturns.{fitted_none, same-binds, nothing-more}

-- p is the expected word and a the provided one, b the bindings before; x and y their kinds
module _ (t : Texts) (types : List ℕ) (p a : ℕ) (b : Bindings) (deep : ℕ) where
  abbrev within : List Binding → Bound
  within = bind_slots t types (unfolded t types deep p) a

  pub within_none : deep ≡ 0 → Binds t within b (Ok tt) b
  within_none e = nothing-more t within b (rw (unfolded-none t types p e) (bind-plain t types a (bindings_of t b) 11))

  module _ (q : deep ≡ 0 → ⊥) where
    pub within-slot : {r : Bind} {b' : Bindings} → kind_of p ≡ 10 → Binds t (bind_one t types (name_bytes t p) a) b r b' → Binds t within b r b'
    within-slot e h = same-binds (rw (unfolded-named t types p (one_less q) refl (rw e)) (bind-slot t types a (bindings_of t b) (kind_of p) (name_bytes t p) e)) h

    -- neither a slot nor two words of one kind that holds types
    pub within-rest : (kind_of p ≡ 10 → ⊥) → (wraps (kind_of p) ≡ true → kind_of a ≡ kind_of p → ⊥) → (kind_of p ≡ 8 → kind_of a ≡ 8 → ⊥) → Binds t within b (Ok tt) b
    within-rest np nw nr =
        let bs = bindings_of t b in
        let k = kind_of p in
        let less = one_less q in
        elim (shape k) [
          | is_plain h ↦ nothing-more t within b (rw (unfolded-plain t types p less refl h) (bind-plain t types a bs k))
          | is_wrap h ↦ nothing-more t within b (rw (unfolded-wrap t types p less refl h) (bind-no-inner t types a bs k (unfolded t types (deep - 1) (inner_word types p)) (nw h)))
          | is_record h ↦ nothing-more t within b (rw (unfolded_record t types p less refl h) (bind-not-listed t types a bs (fields_of (unfolded t types (deep - 1)) t types p) (nr h)))
          | is_named h ↦ nothing-more t within b (rw (unfolded-named t types p less refl h) (bind-foreign t types a bs k (name_bytes t p) np))
        ]

    -- so neither a kind that is another than the provided one, nor one that holds nothing
    pub within-other : {j : ℕ} → kind_of p ≡ j → (j ≡ 10 → ⊥) → (kind_of a ≡ j → ⊥) → Binds t within b (Ok tt) b
    within-other e ns n = within-rest (λ z. ns (sym e ∙ z)) (λ w z. n (z ∙ e)) (λ h z. n (z ∙ (sym h ∙ e)))

    pub within-plain : (kind_of p ≡ 10 → ⊥) → wraps (kind_of p) ≡ false → (kind_of p ≡ 8 → ⊥) → Binds t within b (Ok tt) b
    within-plain ns nw nr = within-rest ns (λ w z. true≢false (sym w ∙ nw)) (λ h z. nr h)

    module _ {r : Bind} {b' : Bindings} where
      pub within-wrap : {x y : ℕ} → wraps (kind_of p) ≡ true → kind_of a ≡ kind_of p → x ≡ inner_word types p → y ≡ inner_word types a
          → Binds t (bind_slots t types (unfolded t types (deep - 1) x) y) b r b' → Binds t within b r b'
      within-wrap h e hx hy i =
          let inside = bind-inner t types a (bindings_of t b) (kind_of p) (unfolded t types (deep - 1) (inner_word types p)) e in
          same-binds (rw (unfolded-wrap t types p (one_less q) refl h, hx, hy) inside) i

      pub within_record : {x y m n : ℕ} → kind_of p ≡ 8 → kind_of a ≡ 8 → x ≡ payload_of p → m ≡ field_count types p → y ≡ payload_of a → n ≡ field_count types a
          → Binds t (bind_fields t types (fields_from (unfolded t types (deep - 1)) t types (x + 1) m) (y + 1) n) b r b' → Binds t within b r b'
      within_record h e hx hm hy hn i =
          let listed = bind-listed t types a (bindings_of t b) (fields_of (unfolded t types (deep - 1)) t types p) e in
          same-binds (rw (unfolded_record t types p (one_less q) refl h, hx, hm, hy, hn) listed) i

-- What fits is what was bound, and what does not is longer than the room.
fitted-is : (room : ℕ) (b c : Bound) → fitted room b ≡ some c → b ≡ c
unfolding fitted
fitted-is room b c e = go (leb (length (bindings_after b)) room) refl
  where
    go : (q : Bool) → leb (length (bindings_after b)) room ≡ q → b ≡ c
    go true p =
        let s : some b ≡ some c = rw p at e in
        cc
    go false p =
        let s : none ≡ some c = rw p at e in
        cc

fitted-over : (room : ℕ) (b : Bound) → fitted room b ≡ none → room < length (bindings_after b)
unfolding fitted
fitted-over room b e = go (leb (length (bindings_after b)) room) refl
  where
    go : (q : Bool) → leb (length (bindings_after b)) room ≡ q → room < length (bindings_after b)
    go true p =
        let s : some b ≡ none = rw p at e in
        let z : ◌≡◌ {A = ℕ} 0 1 = cc in
        absurd (omega arith)
    go false p = leb-false (length (bindings_after b)) room p

-- one binding after another binds at least as much as the first
then-longer : (b : Bound) (f : List Binding → Bound) → ((bs : List Binding) → Extends bs (bindings_after (f bs))) → length (bindings_after b) ≤ length (bindings_after (and_then b f))
unfolding and_then bindings_after
then-longer (all_bound bs) f h = extends-length (h bs)
then-longer (conflict bs s e a) f h = omega arith
then-longer (void_slot bs s) f h = omega arith

-- the first fails, or has no room: so do both
module _ (t : Texts) (bs : List Binding) (room : ℕ) (b : Bound) (f : List Binding → Bound) (grows : (bs : List Binding) → Extends bs (bindings_after (f bs))) where
  then-stops : (e : BindError) → fitted room b ≡ bound_of t (Err e) bs → fitted room (and_then b f) ≡ bound_of t (Err e) bs
  unfolding and_then
  then-stops (Conflict s x a) e = rw (fitted-is room b _ e) (rw (fitted-is room b _ e) at e)
  then-stops (Void s) e = rw (fitted-is room b _ e) (rw (fitted-is room b _ e) at e)
  then-stops NoRoom e = fitted_none room (and_then b f) (omega (arith, fitted-over room b e, then-longer b f grows))

  then-goes : {done : ⊤} → fitted room b ≡ bound_of t (Ok done) bs → and_then b f ≡ f bs
  unfolding and_then
  then-goes e = rw (fitted-is room b (all_bound bs) e)

-- Fields in step: m fields from i on, n from j on; the others after the first.
module _ (t : Texts) (types : List ℕ) (go : ℕ → Ty) (i m j n : ℕ) where
  abbrev both : List Binding → Bound
  both = bind_fields t types (fields_from go t types i m) j n

  abbrev others : List Binding → Bound
  others = bind_fields t types (fields_from go t types (i + 2) (m - 1)) (j + 2) (n - 1)

  -- one of the lists is at its end
  both-end : (bs : List Binding) → min m n ≡ 0 → both bs ≡ all_bound bs
  unfolding bind_slots
  both-end bs h = elim (ℕ_discrete m 0) [
    | yes e ↦ rw (fields-none go t types i e)
    | no p ↦
        let short = bind-short t types (name_bytes t (get_or types i 0)) (go (get_or types (i + 1) 0)) (fields_from go t types (i + 2) (m - 1)) j n bs (omega arith) in
        rw (fields-more go t types i (one_less p)) short
  ]

  module _ (b : Bindings) where
    pub fields-over : min m n ≡ 0 → Binds t both b (Ok tt) b
    fields-over h = nothing-more t both b (both-end (bindings_of t b) h)

    module _ (p : m ≡ 0 → ⊥) (q : n ≡ 0 → ⊥) {x y : ℕ} (hx : x ≡ get_or types (i + 1) 0) (hy : y ≡ get_or types (j + 1) 0) where
      abbrev first : Bound
      first = bind_slots t types (go x) y (bindings_of t b)

      fields-are : both (bindings_of t b) ≡ and_then first others
      fields-are =
          let one = bind-first t types (name_bytes t (get_or types i 0)) (go (get_or types (i + 1) 0)) (fields_from go t types (i + 2) (m - 1)) j n (bindings_of t b) q in
          rw (fields-more go t types i (one_less p), hx, hy) one

      others-extend : (bs : List Binding) → Extends bs (bindings_after (others bs))
      others-extend bs = bind_fields-extends t types (fields_from go t types (i + 2) (m - 1)) (j + 2) (n - 1) bs

      pub fields-stop : {e : BindError} {b' : Bindings} → Binds t (bind_slots t types (go x) y) b (Err e) b' → Binds t both b (Err e) b'
      fields-stop {e} {b'} h = record {
        lent = h.lent;
        keeps = h.keeps;
        is = rw fields-are (then-stops t (bindings_of t b') (pair_room b.pairs.now) first others others-extend e h.is);
      }

      pub fields-next : {done : ⊤} {b₁ b₂ : Bindings} {s : Bind} → Binds t (bind_slots t types (go x) y) b (Ok done) b₁ → Binds t others b₁ s b₂ → Binds t both b s b₂
      fields-next {b₁ = b₁} h g = record {
        lent = g.lent ∙ h.lent;
        keeps = g.keeps ∙ h.keeps;
        is = rw (fields-are, then-goes t (bindings_of t b₁) (pair_room b.pairs.now) first others others-extend h.is, ← h.keeps) g.is;
      }

-- In the loop: m' fields from i' on and n' from j' on are left of m from i on and n from j on, and what binds those that are left binds them all.
pub record Left (t : Texts) (types : List ℕ) (go : ℕ → Ty) (i m j n : ℕ) (b : Bindings) (i' m' j' n' : ℕ) (b' : Bindings) : Type 0 where
  pub leads : (r : Bind) (b'' : Bindings) → Binds t (both t types go i' m' j' n') b' r b'' → Binds t (both t types go i m j n) b r b''

pub left-all : (t : Texts) (types : List ℕ) (go : ℕ → Ty) (i m j n : ℕ) (b : Bindings) {i' m' j' n' : ℕ} → i' ≡ i → m' ≡ m → j' ≡ j → n' ≡ n → Left t types go i m j n b i' m' j' n' b
left-all t types go i m j n b ei em ej en = rw (ei, em, ej, en) (record { leads = λ r b'' h. h })

module _ {t : Texts} {types : List ℕ} {go : ℕ → Ty} {i m j n : ℕ} {b : Bindings} {i' m' j' n' : ℕ} {b' : Bindings} (h : Left t types go i m j n b i' m' j' n' b')
    (p : m' ≡ 0 → ⊥) (q : n' ≡ 0 → ⊥) {x y : ℕ} (hx : x ≡ get_or types (i' + 1) 0) (hy : y ≡ get_or types (j' + 1) 0) where
  pub left-stop : {e : BindError} {b₁ : Bindings} → Binds t (bind_slots t types (go x) y) b' (Err e) b₁ → Binds t (both t types go i m j n) b (Err e) b₁
  left-stop g = h.leads _ _ (fields-stop t types go i' m' j' n' b' p q hx hy g)

  pub left-next : {i₁ m₁ j₁ n₁ : ℕ} {done : ⊤} {b₁ : Bindings} → i₁ ≡ i' + 2 → m₁ ≡ m' - 1 → j₁ ≡ j' + 2 → n₁ ≡ n' - 1
      → Binds t (bind_slots t types (go x) y) b' (Ok done) b₁ → Left t types go i m j n b i₁ m₁ j₁ n₁ b₁
  left-next ei em ej en g = rw (ei, em, ej, en) (record {
    leads = λ s b₂ k. h.leads s b₂ (fields-next t types go i' m' j' n' b' p q hx hy g k);
  })
