-- Calls meet no stop: `bind_slots` is asked only for what contains no Slot, and then meets none; where no argument is poisoned, each has a type
-- when a candidate is selected; the target is an Ident or a Field. Assumes nothing.
use Prim.Native.Nat.{ℕ}
use Rattle.std.proofs.Common.{arith, sym, ◌∙◌}
use Rattle.std.specs.Prelude.{◌≡◌, Bool, ◌&&◌, ◌||◌, length}
use Rattle.std.proofs.Math.Path.{refl, ap}
use Rattle.std.proofs.Math.Bool.{true, false, not, true≢false}
use mathlib.Core.List.{List, [], ◌∷◌}
use Rattle.std.proofs.Math.ListN.{get_or}
use Rattle.std.proofs.Math.Dec.{eqb}
use borrow.Author.Tests.{eqb-true, eqb-false, ne_eqb}
use Rattle.facts.specs.Tests.{both, neither}
use Rattle.tok.specs.Step.{Result, ok, Refusal, next, ◌>>◌, when}
use Rattle.tok.specs.Word.{kind_of}
use Rattle.ptype.specs.Ty.{Ty, Fields, plain, wrap, rec, named, no_field, field, contains_unknown, contains_slot}
use Rattle.ptype.specs.Words.{ty_of}
use Rattle.ptype.specs.Kinds.{wraps, names}
use Rattle.ptype.specs.Add.{Buffer}
use Rattle.ptype.specs.Slots.{Binding}
use Rattle.library.specs.Package.{Param, Signature}
use Rattle.rules.specs.World.{Ctx, World, Walk}
use Rattle.rules.specs.Steps.{skip, ty, tree}
use Rattle.rules.specs.Calls.{Callee, own_function, package_function, through_field, no_callee, Provided, slotted_argument}
use Rattle.rules.specs.Calls.{argument, arguments, check_call_args, resolve_call, in_group, resolve_pkg_call, call}
use Rattle.laws.specs.Keeps.{Keeps, kept, stopped, StepsKeep}
use Rattle.laws.specs.RulesKeep as K
use Rattle.tworuns.specs.Means.{Means, Grown, grown-same, grown-trans}
use Rattle.tworuns.specs.Means as M
use Rattle.tworuns.specs.Written.{grown-append}
use Rattle.onerun.specs.Claim.{All, end, and, Good, Typed, Recorded, Holds}
use Rattle.onerun.specs.Grows.{all_map, typed_grow, is-tree}
use Rattle.onerun.specs.Logic.{Gives}
use Rattle.onerun.specs.Inner.{FieldsTyped, inner-typed, fields-typed, first-typed}
use Rattle.onerun.specs.Bind.{pick}
use Rattle.onerun.specs.Proper.{ProperCallee}
use Rattle.stops.specs.Guards.{expect_all, meets_slot, meets_slots, bindable}
use Rattle.stops.specs.GuardedCalls.{slotted_or_stop, argument_or_stop, arguments_or_stop, check_or_stop, resolve_or_stop, group_or_stop, resolve_pkg_or_stop, call_or_stop}
use Rattle.stops.specs.Ready.{Any}
use Rattle.stops.specs.Past.{run, past-unless, next-same, then_same, option-same, when-same, past-expect}
use Rattle.stops.specs.SameCalls.{AllTyped}

or-false : {a b : Bool} → a ≡ false → b ≡ false → (a || b) ≡ false
or-false p q = rw (p, q) refl

module _ (c : Ctx) where
  -- ── `bind_slots` of a type that contains no Slot ──

  module _ {b : Buffer} where
    -- the word of such a type is no Slot
    no-slot : {w : ℕ} → Typed (run c) (Unit {0}) b w → eqb (kind_of w) 10 ≡ false
    unfolding contains_slot
    no-slot {w} h = by h.is.means h.no_slot
      where
        by : {x : Ty} → Means c.texts b.words b.used w x → (Unit {0} → contains_slot x ≡ false) → eqb (kind_of w) 10 ≡ false
        by (M.flat e p z) n = ne_eqb (kind_of w) 10 (λ q. true≢false (ap names (sym q ∙ e) ∙ p.no_name))
        by (M.wrapped e j l m) n = ne_eqb (kind_of w) 10 (λ q. true≢false (sym j ∙ ap wraps (sym e ∙ q)))
        by (M.recorded e l m) n = ne_eqb (kind_of w) 10 (λ q. omega arith)
        by (M.called e j q) n = rw e (n tt)

    -- THE LAW of `bind_slots`, whatever type is expected
    mutual
      unfolding meets_slot

      pub meets-none : (t : Ty) {w : ℕ} → Typed (run c) (Unit {0}) b w → meets_slot b.words t w ≡ false
      meets-none (plain k) h = no-slot h
      meets-none (wrap k t) {w} h =
          or-false (no-slot h) (pick (λ (x : Bool). x ≡ false) {t = wraps k && eqb (kind_of w) k} _ _
          (λ q. let s = both (wraps k) (eqb (kind_of w) k) q in meets-none t (inner-typed (run c) h (rw (eqb-true (kind_of w) k s.1) s.0))) (λ _. refl))
      meets-none (rec fs) {w} h =
          or-false (no-slot h) (pick (λ (x : Bool). x ≡ false) {t = eqb (kind_of w) 8} _ _ (λ q. meet_none fs (fields-typed (run c) h (eqb-true (kind_of w) 8 q))) (λ _. refl))
      meets-none (named k n) h = no-slot h

      meet_none : (fs : Fields) {at left : ℕ} → FieldsTyped (run c) (Unit {0}) b at left → meets_slots b.words fs at left ≡ false
      meet_none no_field h = refl
      meet_none (field n t fs) {at} {left} h =
          pick (λ (x : Bool). x ≡ false) {t = eqb left 0} _ _ (λ _. refl) (λ e. let x = first-typed (run c) h e in or-false (meets-none t x.type) (meet_none fs x.rest))

  -- ── One argument ──

  -- an argument's type, where it has one
  pub record ArgumentOk (s : World) (a : Provided) : Type 0 where
    pub typed : (get_or s.slots a.slot 0 ≡ 0 → ⊥) → Good (run c) s.types (get_or s.slots a.slot 0)

  same-slotted : (n : ℕ) (name : List ℕ) (p : Param) (a : Provided) (w : ℕ) (bs : List Binding) (s : World) → Good (run c) s.types w
      → slotted_or_stop c n name p a w (ty_of c.texts s.types.words w) bs s ≡ slotted_argument c n name p a w (ty_of c.texts s.types.words w) bs s
  unfolding slotted_or_stop slotted_argument tree bindable
  same-slotted n name p a w bs s g = when-same c (contains_slot (ty_of c.texts s.types.words w)) _ _ _ _ (λ _. refl)
      (λ e. past-unless 13 143 (ap not (meets-none (ty_of c.texts s.types.words p.type) (record { tree = g.tree; is = g.is; no_slot = λ _. rw (is-tree (run c) g.is) at e }))) _ refl)

  same-argument : (n : ℕ) (name : List ℕ) (slotted : Bool) (p : Param) (a : Provided) (bs : List Binding) {s : World}
      → ArgumentOk s a → argument_or_stop c n name slotted p a bs s ≡ argument c n name slotted p a bs s
  unfolding argument_or_stop argument ty tree
  same-argument n name slotted p a bs {s} g =
      let w : ℕ = get_or s.slots a.slot 0 in
      when-same c (eqb w 0 || contains_unknown (ty_of c.texts s.types.words w)) _ _ _ _ (λ _. refl)
      (λ e. when-same c slotted _ _ _ _ (λ _. same-slotted n name p a w bs s (g.typed (eqb-false w 0 (neither _ _ e).0))) (λ _. refl))

  -- ── Several: an argument leaves all slots, and the types buffer grows ──

  record Stays (s u : World) : Type 0 where
    slots : u.slots ≡ s.slots
    types : Grown s.types u.types

  still : (s : World) → Stays s s
  still s = record { slots = refl; types = grown-same s.types }

  abbrev None : ℕ → Type 0
  None slot = ⊥

  stays-kept : StepsKeep Stays Any None
  stays-kept = record {
    same = still;
    trans = λ {s} {t} {u} x y. record { slots = y.slots ∙ x.slots; types = grown-trans x.types y.types };
    slot = λ i w s p. absurd p;
    type = λ texts k new s e d. record { slots = refl; types = grown-append s.types new };
    told = λ d s e. record { slots = refl; types = grown-same s.types };
    binds = λ l s. record { slots = refl; types = grown-same s.types };
    frame = λ {s} {u} h. record { slots = h.slots; types = h.types };
    alone = λ {s} {u} h. record { slots = h.slots; types = h.types };
    holds = λ p s. record { slots = refl; types = grown-same s.types };
    logs = λ l s. record { slots = refl; types = grown-same s.types };
    types_full = tt;
    too_deep = tt;
    told_full = tt;
  }

  argument-later : {s u : World} → Stays s u → (a : Provided) → ArgumentOk s a → ArgumentOk u a
  argument-later h a k = record { typed = λ n. let e = ap (λ (l : List ℕ). get_or l a.slot 0) h.slots in rw e (typed_grow (run c) h.types (k.typed (λ z. n (e ∙ z)))) }

  then-stays : {A B : Type 0} {s : World} {x y : Result World Refusal A} (f g : A → Walk B) → x ≡ y → Keeps Stays Any s y → ((a : A) (u : World) → Stays s u → f a u ≡ g a u) → next x f ≡ next y g
  then-stays f g e (kept {a = a} {u = u} h) k = rw e (k a u h)
  then-stays f g e (stopped q) k = rw e refl

  same-arguments : (n : ℕ) (name : List ℕ) (slotted : Bool) (ps : List Param) (xs : List Provided) (bs : List Binding) {s : World} → All (ArgumentOk s) xs
      → arguments_or_stop c n name slotted ps xs bs s ≡ arguments c n name slotted ps xs bs s
  unfolding arguments_or_stop arguments
  same-arguments n name slotted [] xs bs h = refl
  same-arguments n name slotted (p ∷ ps) [] bs h = refl
  same-arguments n name slotted (p ∷ ps) (a ∷ xs) bs {s} (and h hs) =
      then-stays _ _ (same-argument n name slotted p a bs h) (K.in_argument stays-kept c n name slotted p a bs s) (λ more u k.
      same-arguments n name slotted ps xs more (all_map (argument-later k) hs))

  same_check : (n slot token : ℕ) (name : List ℕ) (f : Signature) (xs : List Provided) {s : World}
      → All (ArgumentOk s) xs → check_or_stop c n slot token name f xs s ≡ check_call_args c n slot token name f xs s
  unfolding check_or_stop check_call_args
  same_check n slot token name f xs h =
      when-same c (eqb (length xs) (length f.params)) _ _ _ _ (λ _. next-same c _ (same-arguments n name f.with_slots f.params xs [] h)) (λ _. refl)

  -- ── Selection ──

  all-recorded : (line : ℕ) (xs : List Provided) {s : World} → All (λ a. Recorded (run c) s a.slot) xs → expect_all line xs s ≡ ok tt s
  unfolding expect_all
  all-recorded line [] end = refl
  all-recorded line (a ∷ xs) (and h hs) = past-expect c line h (expect_all line xs) (all-recorded line xs hs)

  past_all : {A : Type 0} (line : ℕ) (xs : List Provided) (b : Bool) {s : World} → AllTyped c xs s b
      → (m : Walk A) {y : Result World Refusal A} → m s ≡ y → ◌>>◌ (when b skip (expect_all line xs)) m s ≡ y
  unfolding when
  past_all line xs true h m e = e
  past_all line xs false h m e = rw (all-recorded line xs (h.typed refl)) e

  arguments-ok : {s : World} {xs : List Provided} {b : Bool} → Holds (run c) s → AllTyped c xs s b → All (ArgumentOk s) xs
  arguments-ok h k = all_map (λ a l. record { typed = λ n. h.slots a.slot (record { other = n; low = l }) }) k.low

  same-group : (n slot name : ℕ) (call_name : List ℕ) (fs : List Signature) (xs : List Provided) (b : Bool) {s : World} → Holds (run c) s → AllTyped c xs s b
      → group_or_stop c n slot name call_name fs xs b s ≡ in_group c n slot name call_name fs xs b s
  unfolding group_or_stop in_group
  same-group n slot name call_name [] xs b h k = refl
  same-group n slot name call_name (f ∷ []) xs b h k = same_check n slot name call_name f xs (arguments-ok h k)
  same-group n slot name call_name (f ∷ g ∷ fs) xs b h k = past_all 249 xs b k _ refl

  -- ── Call ──

  pub call_same : (P N : ℕ → Type 0) (n slot : ℕ) (f : Callee) → ProperCallee P N f → (xs : List Provided) (m k : Walk Bool) {s : World} → m s ≡ k s → Gives (run c) (AllTyped c xs) s (k s)
      → call_or_stop c n slot f xs m s ≡ call c n slot f xs k s
  unfolding ProperCallee call_or_stop call resolve_or_stop resolve_call resolve_pkg_or_stop resolve_pkg_call
  call_same P N n slot (own_function name) p xs m k e g =
      then_same c _ _ e g (λ b u h. option-same c _ _ _ _ _ refl (λ f. same_check n slot name _ f xs (arguments-ok h.holds h.value)))
  call_same P N n slot (package_function q name) p xs m k e g =
      then_same c _ _ e g (λ b u h. option-same c _ _ _ _ _ refl (λ o. same-group n slot name _ _ xs b h.holds h.value))
  call_same P N n slot (through_field name) p xs m k e g = refl
  call_same P N n slot no_callee p xs m k e g = absurd p
