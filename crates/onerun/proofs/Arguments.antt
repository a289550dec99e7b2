-- The arguments of a call and its return type: where no diagnostic is raised, every argument has the parameter's type with the bindings put
-- in, so that every slot is bound and the return type has none. Assumes nothing.
use Prim.Native.Nat.{ℕ, ◌≤◌}
use Rattle.std.specs.Prelude.{◌≡◌, Bool, true, ◌||◌, List, [], ◌∷◌, eqb}
use Rattle.std.proofs.Math.Path.{refl}
use Rattle.std.proofs.Common.{sym, ◌∙◌, true≢false, ne_eqb}
use Rattle.std.proofs.Math.Bool.{false}
use Rattle.std.proofs.lemmas.Bool.{false≢true, eqb-false}
use Rattle.std.proofs.Math.ListN.{get_or}
use Rattle.facts.specs.Tests.{neither}
use Rattle.tok.specs.Step.{when}
use Rattle.ptype.specs.Ty.{Ty, contains_unknown, contains_slot}
use Rattle.ptype.specs.Words.{ty_of}
use Rattle.ptype.proofs.SameLaws.{same_ty-true}
use Rattle.ptype.specs.Add.{Buffer}
use Rattle.ptype.specs.Slots.{Binding, Bound, all_bound, conflict, void_slot, apply_slot_binding}
use Rattle.display.specs.NamesWellFormed.{names_well_formed}
use Rattle.err.specs.Message.{slot_conflict, slot_void}
use Rattle.err.proofs.WellFormedLaws.{WellFormed, arg_mismatch-well, slot_conflict-well, slot_void-well}
use Rattle.library.specs.Package.{Param}
use Rattle.rules.specs.World.{World}
use Rattle.rules.specs.Steps.{ty, tree}
use Rattle.rules.specs.Calls.{Provided, compared, after_binding, slotted_argument, plain_argument, argument}
use Rattle.tworuns.specs.Means.{Grown}
use Rattle.onerun.specs.Claim.{Run, All, end, and, Both, OfNames, Name, Good, BindingOk, ParamOk, Recorded, Holds, slots_are, all_slots_are}
use Rattle.onerun.specs.Claim as C
use Rattle.onerun.specs.Grows.{all_map, both-map, is_grow, binding_grow, param_grow, is-tree, fine_names, typed-names, typed-known, typed_free}
use Rattle.onerun.specs.Logic.{Claimed, Silent, before, After, Gives, g_next, g_return, g_when, g_map, g_on_types, GivesT}
use Rattle.onerun.proofs.Report.{g_report}
use Rattle.onerun.specs.Trees.{is_bound, free-slots, slots-more}
use Rattle.onerun.specs.Bind.{More, more_same, BoundOk, all, clash, of_void, bind_ok}
use Rattle.onerun.proofs.Apply.{Applied, t_apply}

module _ (r : Run) where
  -- an argument that a call provides
  pub record ProvidedOk (s : World) (a : Provided) : Type 0 where
    pub low : a.slot ≤ r.ctx.void
    pub has : r.clean → Recorded r s a.slot

  pub provided-later : {s u : World} → ((slot : ℕ) → Recorded r s slot → Recorded r u slot) → (a : Provided) → ProvidedOk s a → ProvidedOk u a
  provided-later k a h = record { low = h.low; has = λ q. k a.slot (h.has q) }

  -- a parameter, and several
  pub record ParamTyped (b : Buffer) (p : Param) : Type 0 where
    pub tree : Ty
    pub ok : ParamOk r b p tree

  pub record ParamsOk (b : Buffer) (ps : List Param) : Type 0 where
    pub trees : List Ty
    pub each : Both (ParamOk r b) ps trees

  pub first-param : {b : Buffer} {p : Param} {ps : List Param} {xs : List Ty} → Both (ParamOk r b) (p ∷ ps) xs → ParamTyped b p
  first-param (C.and {b = x} h rest) = record { tree = x; ok = h }

  pub rest-params : {b : Buffer} {p : Param} {ps : List Param} {xs : List Ty} → Both (ParamOk r b) (p ∷ ps) xs → ParamsOk b ps
  rest-params (C.and {ys = xs} h rest) = record { trees = xs; each = rest }

  pub params_grow : {b d : Buffer} {ps : List Param} → Grown b d → ParamsOk b ps → ParamsOk d ps
  params_grow g h = record { trees = h.trees; each = both-map (param_grow r g) h.each }

  -- the type that a parameter means stays
  pub param-stays : {b d : Buffer} {p : Param} → Grown b d → ParamTyped b p → ty_of r.ctx.texts d.words p.type ≡ ty_of r.ctx.texts b.words p.type
  param-stays g h = is-tree r (is_grow r g h.ok.type) ∙ sym (is-tree r h.ok.type)

  -- all slots of a parameter have a property
  pub record SlotsOf (p : List ℕ → Bool) (b : Buffer) (a : Param) : Type 0 where
    pub are : slots_are p (ty_of r.ctx.texts b.words a.type) ≡ true

  pub all_slots : (p : List ℕ → Bool) {b : Buffer} {ps : List Param} {xs : List Ty} → Both (ParamOk r b) ps xs → All (SlotsOf p b) ps → all_slots_are p xs ≡ true
  unfolding all_slots_are
  all_slots p C.end end = refl
  all_slots p (C.and h rest) (and e es) = rw (rw (is-tree r h.type) at e.are, all_slots p rest es) refl

  -- What is left after an argument: more bindings; and its parameter has slots only that are bound, or none where it was to have none.
  abbrev pub Covers : Bool → List Binding → (List ℕ → Bool) → Type 0
  Covers slotted bs p = slotted ≡ true → (n : List ℕ) → is_bound bs n ≡ true → p n ≡ true

  pub record Passed (slotted : Bool) (ps : List Param) (bs : List Binding) (u : World) (cs : List Binding) : Type 0 where
    pub bindings : All (BindingOk r u.types) cs
    pub more : More bs cs
    pub filled : r.clean → (p : List ℕ → Bool) → Covers slotted cs p → All (SlotsOf p u.types) ps

  module _ (n : ℕ) (name : List ℕ) (m : Name r name) (p : Param) (a : Provided) where
    -- the expected and the provided type are equal, or it was reported
    g_compared : {s : World} (e t : Ty) → Claimed r s → (Silent r s → ParamTyped s.types p)
        → (OfNames r → Silent r s → names_well_formed e ≡ true) → (OfNames r → Silent r s → names_well_formed t ≡ true)
        → Gives r (λ u _. r.clean → e ≡ t) s (compared r.ctx n name p a e t s)
    unfolding compared
    g_compared e t h k x y =
        g_when r _ _ (λ q. g_return r h (λ z _. same_ty-true e t q))
        (λ _. g_map r (λ u _ i f z q. absurd ((f z).value q)) (g_report r h n (λ l z. arg_mismatch-well a.span name _ e t (m l) ((k z).ok.name l) (x l z) (y l z))))

    module _ {s : World} (h : Claimed r s) (k : Silent r s → ParamTyped s.types p) where
      -- a plain argument
      g_plain : {w : ℕ} {bs : List Binding} → (Silent r s → Good r s.types w) → (Silent r s → All (BindingOk r s.types) bs)
          → Gives r (Passed false (p ∷ []) bs) s (plain_argument r.ctx n name p a (ty_of r.ctx.texts s.types.words w) bs s)
      unfolding plain_argument tree
      g_plain {w} {bs} g bk =
          g_next r _ (g_compared _ _ h k (λ l z. rw (is-tree r (k z).ok.type) (fine_names r l (k z).ok.type.fine)) (λ l z. typed-names r (g z) l))
          (λ _ u t f. g_return r (λ z. (f z).holds) (λ z.
          let z₀ = before r t z in
          let x = f z in
          record {
            bindings = all_map (binding_grow r x.grown) (bk z₀);
            more = more_same bs;
            filled = λ q c _. and (record {
              are = rw (param-stays x.grown (k z₀)) (free-slots c _ (rw (x.value q) (typed_free r (g z₀) q)));
            }) end;
          }))

      -- a slotted one, once it was bound
      g_bound : {w : ℕ} {bs : List Binding} (x : Bound) → (Silent r s → Good r s.types w) → (Silent r s → BoundOk r s.types bs x)
          → Gives r (Passed true (p ∷ []) bs) s (after_binding r.ctx n name p a (ty_of r.ctx.texts s.types.words p.type) (ty_of r.ctx.texts s.types.words w) x s)
      unfolding after_binding tree
      g_bound {w} {bs} (all_bound cs) g bk =
          g_next r _ (g_on_types r {Q = Applied r cs (ty_of r.ctx.texts s.types.words p.type)} _ h (λ z. apply z)) (λ v u t f.
          g_next r _ (g_compared {s = u} _ _ (λ z. (f z).holds)
          (λ z. let i = k (before r t z) in record { tree = i.tree; ok = param_grow r (f z).grown p i.tree i.ok })
          (λ l z. let y = (f z).value in rw (is-tree r y.is) (fine_names r l y.is.fine)) (λ l z. typed-names r (g (before r t z)) l))
          (λ _ w₁ t₁ f₁. g_return r (λ z. (f₁ z).holds) (λ z.
          let z₁ = before r t₁ z in
          let z₀ = before r t z₁ in
          let y = (f z₁).value in
          let b = parts z₀ in
          record {
            bindings = all_map (binding_grow r (f₁ z).grown) (all_map (binding_grow r (f z₁).grown) b.0);
            more = b.1;
            filled = λ q c i.
                let e = (f₁ z).value q in
                let free : contains_slot y.tree ≡ false = rw (is-tree r y.is) at (rw (← e) at (typed_free r (g z₀) q)) in
                let k₁ = k z₀ in
                and (record {
                  are =
                      rw (param-stays (f₁ z).grown (record { tree = k₁.tree; ok = param_grow r (f z₁).grown p k₁.tree k₁.ok }), param-stays (f z₁).grown k₁)
                      (slots-more (is_bound cs) c (i refl) _ (y.free q free));
                }) end;
          })))
        where
          parts : Silent r s → All (BindingOk r s.types) cs × More bs cs
          parts z = by (bk z)
            where
              by : BoundOk r s.types bs (all_bound cs) → All (BindingOk r s.types) cs × More bs cs
              by (all h m) = (h, m)

          apply : Silent r s → GivesT r (Applied r cs (ty_of r.ctx.texts s.types.words p.type)) s.types (apply_slot_binding r.ctx.texts n cs (ty_of r.ctx.texts s.types.words p.type) p.type s.types)
          apply z = let i = k z in rw (is-tree r i.ok.type) (t_apply r cs n i.tree (parts z).0 i.ok.type)
      g_bound {w} {bs} (conflict cs slot old new) g bk =
          g_next r _ (g_report r h n (λ l z. well l (bk z)))
          (λ _ u t f. g_return r (λ z. (f z).holds) (λ z. after (f z) (bk (before r t z))))
        where
          well : OfNames r → BoundOk r s.types bs (conflict cs slot old new) → WellFormed (slot_conflict a.span name slot (ty_of r.ctx.texts s.types.words old) (ty_of r.ctx.texts s.types.words new))
          well l (clash h mo y e i) = slot_conflict-well a.span name slot _ _ (m l) (y l) (typed-names r e l) (typed-names r i l)

          after : {u : World} → After r (λ _ _. OfNames r) s u (tt {0}) → BoundOk r s.types bs (conflict cs slot old new) → Passed true (p ∷ []) bs u cs
          after x (clash h mo y e i) = record { bindings = all_map (binding_grow r x.grown) h; more = mo; filled = λ q. absurd (x.value q) }
      g_bound {w} {bs} (void_slot cs slot) g bk =
          g_next r _ (g_report r h n (λ l z. well l (bk z)))
          (λ _ u t f. g_return r (λ z. (f z).holds) (λ z. after (f z) (bk (before r t z))))
        where
          well : OfNames r → BoundOk r s.types bs (void_slot cs slot) → WellFormed (slot_void a.span name slot)
          well l (of_void h mo y) = slot_void-well a.span name slot (m l) (y l)

          after : {u : World} → After r (λ _ _. OfNames r) s u (tt {0}) → BoundOk r s.types bs (void_slot cs slot) → Passed true (p ∷ []) bs u cs
          after x (of_void h mo y) = record { bindings = all_map (binding_grow r x.grown) h; more = mo; filled = λ q. absurd (x.value q) }

      -- One argument. It has a type that is known, or that is not claimed.
      pub g_argument : {slotted : Bool} {bs : List Binding} → (Silent r s → ProvidedOk s a) → (Silent r s → All (BindingOk r s.types) bs)
          → Gives r (Passed slotted (p ∷ []) bs) s (argument r.ctx n name slotted p a bs s)
      unfolding argument slotted_argument ty tree
      g_argument {slotted} {bs} pk bk =
          g_when r _ _ (λ e. g_return r h (λ z. stays z (λ q. unknown z q e)))
          (λ e. let g : Silent r s → Good r s.types (get_or s.slots a.slot 0) = λ z. good z e in
          flagged slotted g)
        where
          w : ℕ
          w = get_or s.slots a.slot 0

          good : Silent r s → (eqb (get_or s.slots a.slot 0) 0 || contains_unknown (ty_of r.ctx.texts s.types.words (get_or s.slots a.slot 0))) ≡ false → Good r s.types (get_or s.slots a.slot 0)
          good z e = (h z).slots a.slot (record { other = eqb-false _ 0 (neither _ _ e).0; low = (pk z).low })

          unknown : Silent r s → r.clean → (eqb (get_or s.slots a.slot 0) 0 || contains_unknown (ty_of r.ctx.texts s.types.words (get_or s.slots a.slot 0))) ≡ true → ⊥
          unknown z q e =
              let i = (pk z).has q in
              let g = (h z).slots a.slot i in
              false≢true (rw (ne_eqb (get_or s.slots a.slot 0) 0 i.other, typed-known r g q) at e)

          stays : {slotted : Bool} → Silent r s → (r.clean → ⊥) → Passed slotted (p ∷ []) bs s bs
          stays z l = record { bindings = bk z; more = more_same bs; filled = λ q. absurd (l q) }

          flagged : (slotted : Bool) → (Silent r s → Good r s.types (get_or s.slots a.slot 0))
              → Gives r (Passed slotted (p ∷ []) bs) s
              (when slotted (slotted_argument r.ctx n name p a (get_or s.slots a.slot 0) (ty_of r.ctx.texts s.types.words (get_or s.slots a.slot 0)) bs)
              (plain_argument r.ctx n name p a (ty_of r.ctx.texts s.types.words (get_or s.slots a.slot 0)) bs) s)
          flagged true g =
              g_when r {t = true} _ _
              (λ _. g_when r _ _ (λ e. g_return r h (λ z. stays z (λ q. false≢true (sym (typed_free r (g z) q) ∙ e))))
              (λ _. g_bound _ g (λ z. let i = k z in rw (is-tree r i.ok.type) (bind_ok r i.ok.type.means i.ok.type.fine (g z) (bk z)))))
              (λ e. absurd (true≢false e))
          flagged false g = g_when r {t = false} _ _ (λ e. absurd (false≢true e)) (λ _. g_plain g bk)
