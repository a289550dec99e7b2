-- Calls: the return type of a call without diagnostic has no slot, and messages of calls are well formed. One lemma for each function of the
-- rules. Assumes nothing.
use Rattle.std.specs.Prelude.{ℕ, ◌<◌, ◌≡◌, refl, Bool, length}
use Rattle.std.proofs.Common.{arith, sym, ◌∙◌, true≢false, eqb-true}
use mathlib.Core.List.{List, [], ◌∷◌, map}
use Rattle.tok.specs.Step.{Result, ok, Refusal, next, for_each}
use Rattle.ptype.specs.Ty.{Ty}
use Rattle.ptype.specs.Words.{ty_of}
use Rattle.ptype.specs.Add.{Buffer}
use Rattle.ptype.specs.Slots.{Binding}
use Rattle.err.proofs.WellFormedLaws.{argument_count-well}
use Rattle.library.specs.Package.{Param, Signature}
use Rattle.rules.specs.World.{World, Walk}
use Rattle.rules.specs.Steps.{tree}
use Rattle.rules.specs.Calls.{Provided, arguments, returned, check_call_args}
use Rattle.onerun.specs.Claim.{Run, All, end, and, Name, Good, BindingOk, SignatureOk, Holds}
use Rattle.onerun.specs.Grows.{all_map, signature_grow, is-tree, names-typed}
use Rattle.onerun.specs.Logic.{Claimed, Silent, before, After, Gives, g_next, g_return, g_when, g_map, g_on_types, g_set, Own, own-poison, t_map}
use Rattle.onerun.proofs.Report.{g_report}
use Rattle.onerun.specs.Trees.{is_bound, never, never-free}
use Rattle.onerun.specs.Bind.{more_same, more-trans}
use Rattle.onerun.proofs.Apply.{t_apply}
use Rattle.onerun.proofs.Arguments.{ProvidedOk, provided-later, ParamsOk, first-param, rest-params, params_grow, param-stays, SlotsOf, all_slots, Covers, Passed, g_argument}

-- a step that only reads
pub g_reads : (r : Run) {A B : Type 0} {Q : World → B → Type 0} {s : World} {x : Result World Refusal A} (f : A → Walk B) (v : A) → x ≡ ok v s → Gives r Q s (f v s) → Gives r Q s (next x f)
g_reads r f v e h = rw e h

pub reads-each : {A B : Type 0} {s : World} (f : A → Walk B) (g : A → B) → ((a : A) → f a s ≡ ok (g a) s) → (xs : List A) → for_each f xs s ≡ ok (map g xs) s
unfolding for_each
reads-each f g h [] = refl
reads-each f g h (x ∷ xs) = rw (h x, reads-each f g h xs) refl

module _ (r : Run) where
  abbrev pub tree_at : World → ℕ → Ty
  tree_at s w = ty_of r.ctx.texts s.types.words w

  -- ── The arguments, and the return type ──

  signature-params : {b : Buffer} {f : Signature} → SignatureOk r b f → ParamsOk r b f.params
  signature-params h = record { trees = h.trees; each = h.params }

  module _ (n : ℕ) (name : List ℕ) (m : Name r name) where
    g_arguments : (slotted : Bool) (ps : List Param) (given : List Provided) {bs : List Binding} → length given ≡ length ps → {s : World} → Claimed r s
        → (Silent r s → ParamsOk r s.types ps) → (Silent r s → All (ProvidedOk r s) given) → (Silent r s → All (BindingOk r s.types) bs)
        → Gives r (Passed r slotted ps bs) s (arguments r.ctx n name slotted ps given bs s)
    unfolding arguments
    g_arguments slotted [] given {bs} e h k i b = g_return r h (λ z. record { bindings = b z; more = more_same bs; filled = λ q p c. end })
    g_arguments slotted (p ∷ ps) [] e h k i b = absurd (omega arith)
    g_arguments slotted (p ∷ ps) (a ∷ rest) {bs} e h k i b =
        g_next r _ (g_argument r n name m p a h (λ z. first-param r (k z).each) (λ z. first-all (i z)) b) (λ more u t f.
        g_map r (λ v cs t₁ f₁ z. together more cs (k (before r t (before r t₁ z))) (f (before r t₁ z)) (f₁ z))
        (g_arguments slotted ps rest (omega arith) (λ z. (f z).holds) (λ z. params_grow r (f z).grown (rest-params r (k (before r t z)).each))
        (λ z. all_map (provided-later r (f z).recorded) (rest_all (i (before r t z)))) (λ z. (f z).value.bindings)))
      where
        first-all : {s : World} → All (ProvidedOk r s) (a ∷ rest) → ProvidedOk r s a
        first-all (and x xs) = x

        rest_all : {s : World} → All (ProvidedOk r s) (a ∷ rest) → All (ProvidedOk r s) rest
        rest_all (and x xs) = xs

        together : {s u v : World} (more cs : List Binding) → ParamsOk r s.types (p ∷ ps)
            → After r (Passed r slotted (p ∷ []) bs) s u more → After r (Passed r slotted ps more) u v cs → Passed r slotted (p ∷ ps) bs v cs
        together {s} {u} {v} more cs k x y = record {
          bindings = y.value.bindings;
          more = more-trans x.value.more y.value.more;
          filled = λ q c i.
              let p₁ = first-param r (params_grow r x.grown k).each in
              and {a = p} (record { are = rw (param-stays r y.grown p₁) (only (x.value.filled q c (λ j l w. i j l (y.value.more.more l w)))).are }) (y.value.filled q c i);
        }
          where
            only : {c : List ℕ → Bool} {b : Buffer} → All (SlotsOf r c b) (p ∷ []) → SlotsOf r c b p
            only (and x end) = x

    g_returned : (f : Signature) {bs : List Binding} {s : World} → Claimed r s → (Silent r s → SignatureOk r s.types f) → (Silent r s → All (BindingOk r s.types) bs)
        → (Silent r s → r.clean → (p : List ℕ → Bool) → Covers r f.with_slots bs p → All (SlotsOf r p s.types) f.params)
        → Gives r (λ u w. Good r u.types w) s (returned r.ctx n f bs s)
    unfolding returned tree
    g_returned f {bs} {s} h k b c =
        g_when r _ _
        (λ e. g_on_types r {Q = Good r} _ h (λ z.
        let g = k z in
        rw (is-tree r g.returns) (t_map r (λ w d y. record {
          tree = y.tree;
          is = y.is;
          no_slot = λ q. y.filled q (g.stands q (is_bound bs) (all_slots r (is_bound bs) g.params (c z q (is_bound bs) (λ _ l w. w))));
        }) (t_apply r bs n g.ret (b z) g.returns))))
        (λ e. g_return r h (λ z.
        let g = k z in
        record {
          tree = g.ret;
          is = g.returns;
          no_slot = λ q. never-free g.ret (g.stands q never (all_slots r never g.params (c z q never (λ i. absurd (true≢false (sym i ∙ e))))));
        }))

    pub g_check_call : (slot token : ℕ) → slot < r.ctx.void → (given : List Provided) (f : Signature) {s : World}
        → Claimed r s → (Silent r s → All (ProvidedOk r s) given) → (Silent r s → SignatureOk r s.types f)
        → Gives r (Own r slot) s (check_call_args r.ctx n slot token name f given s)
    unfolding check_call_args
    g_check_call slot token own given f h i k =
        g_when r _ _
        (λ e. g_next r _ (g_arguments f.with_slots f.params given (eqb-true (length given) (length f.params) e) h (λ z. signature-params (k z)) i (λ z. end)) (λ bs u t x.
        g_next r _ (g_returned f (λ z. (x z).holds) (λ z. signature_grow r (x z).grown f (k (before r t z))) (λ z. (x z).value.bindings) (λ z. (x z).value.filled)) (λ w v t₁ y.
        g_set r slot own (λ z. (y z).holds) (λ z. (y z).value))))
        (λ _. g_next r _ (g_report r h n (λ l z. argument_count-well token name (length f.params) (length given) (m l))) (λ _ u t x.
        g_when r _ _ (λ _. g_return r (λ z. (x z).holds) (λ z. own-poison r (x z).value))
        (λ _. g_set r slot own (λ z. (x z).holds) (λ z. names-typed r (x z).value (signature_grow r (x z).grown f (k (before r t z))).returns))))
