-- A group of several candidates, and the Call arm. Assumes nothing.
use Rattle.std.specs.Prelude.{ℕ, ◌≤◌, ◌<◌, ◌≡◌, Bool, false, get_or}
use Rattle.std.proofs.Common.{arith}
use Rattle.std.proofs.Math.Decide.{ℕ_discrete}
use Rattle.std.proofs.Math.Path.{refl}
use Rattle.std.proofs.Math.Bool.{true, and-eq-true_iff}
use Rattle.std.proofs.lemmas.Bool.{false≢true}
use Rattle.std.proofs.Math.Option.{Option, none, some}
use mathlib.Core.List.{List, [], ◌∷◌, map}
use Rattle.tok.specs.Step.{ok, for_each}
use Rattle.ptype.specs.Ty.{Ty, same_ty, contains_slot}
use Rattle.ptype.specs.Words.{ty_of}
use Rattle.ptype.proofs.SameLaws.{same_ty-true}
use Rattle.ptype.proofs.UnfoldLaws.{unfolded-plain}
use Rattle.ptype.specs.Add.{Buffer}
use Rattle.display.specs.NamesWellFormed.{names_well_formed, all_well_formed}
use Rattle.err.specs.Message.{pkg_name}
use Rattle.err.proofs.WellFormedLaws.{candidates_well_formed, pkg_name-well, call_through_field-well, missing_package-well, undefined_in_package-well, undefined_own-well, no_specialisation-well}
use Rattle.library.specs.Package.{Param, Signature}
use Rattle.ast.specs.Node.{Node}
use Rattle.rules.specs.World.{World, Walk, name_in}
use Rattle.rules.specs.Steps.{ty, tree, ty_tree, poison}
use Rattle.rules.specs.Calls.{Callee, own_function, package_function, through_field, no_callee, Provided, resolve_call, param_trees, provided_trees}
use Rattle.rules.specs.Calls.{overload_matches, position, all_return, common_return, select, in_group, resolve_pkg_call, call}
use Rattle.tworuns.specs.Means.{Grown}
use Rattle.tworuns.specs.Operators.{plain-low}
use Rattle.onerun.specs.Claim.{Run, All, end, and, Both, OfNames, Name, NameAt, Good, ParamOk, SignatureOk, Holds}
use Rattle.onerun.specs.Claim as C
use Rattle.onerun.specs.Grows.{all_map, signature_grow, is-tree, fine_names, typed-names, typed_free, names-typed}
use Rattle.onerun.specs.Logic.{Claimed, Silent, before, Gives, g_next, g_return, g_when, g_option, g_set, Own, own-poison}
use Rattle.onerun.proofs.Report.{g_report, g_poison}
use Rattle.onerun.proofs.Seen.{Seen, NodeOk, g_keep, node-poison}
use Rattle.onerun.specs.Trees.{free-slots, never, never-free}
use Rattle.onerun.specs.Find.{function-found, package_found, group-found}
use Rattle.onerun.specs.Proper.{ProperCallee}
use Rattle.onerun.proofs.Arguments.{ProvidedOk, SlotsOf, all_slots}
use Rattle.onerun.proofs.Calls.{g_reads, reads-each, tree_at, g_check_call}

module _ (r : Run) where
  -- ── What is read ──

  -- the names of a slot's type, where it has one and where it has none
  slot-names : {s : World} {a : ℕ} → OfNames r → Holds r s → a ≤ r.ctx.void → names_well_formed (tree_at r s (get_or s.slots a 0)) ≡ true
  unfolding ty_of names_well_formed
  slot-names {s} {a} l h low = by (ℕ_discrete (get_or s.slots a 0) 0)
    where
      by : Dec (get_or s.slots a 0 ≡ 0) → names_well_formed (ty_of r.ctx.texts s.types.words (get_or s.slots a 0)) ≡ true
      by (yes e) = rw (e, unfolded-plain r.ctx.texts s.types.words 0 {deep = 33} refl refl (plain-low 0 (omega arith))) refl
      by (no n) = typed-names r (h.slots a (record { other = n; low = low })) l

  provided-names : {s : World} → OfNames r → Holds r s → {given : List Provided} → All (ProvidedOk r s) given → all_well_formed (map (λ a. tree_at r s (get_or s.slots a.slot 0)) given) ≡ true
  unfolding all_well_formed
  provided-names l h end = refl
  provided-names l h (and {a = a} x xs) = rw (slot-names l h x.low, provided-names l h xs) refl

  param-names : (s : World) → OfNames r → {ps : List Param} {xs : List Ty} → Both (ParamOk r s.types) ps xs → all_well_formed (map (λ p. tree_at r s p.type) ps) ≡ true
  unfolding all_well_formed
  param-names s l C.end = refl
  param-names s l (C.and {a = p} h hs) =
      rw (is-tree r h.type, fine_names r l h.type.fine, param-names s l hs) refl

  candidate_names : (s : World) → OfNames r → {fs : List Signature} → All (SignatureOk r s.types) fs → candidates_well_formed (map (λ f. map (λ p. tree_at r s p.type) f.params) fs) ≡ true
  unfolding candidates_well_formed
  candidate_names s l end = refl
  candidate_names s l (and h hs) = rw (param-names s l h.params, candidate_names s l hs) refl

  module _ (s : World) where
    reads-params : (ps : List Param) → param_trees r.ctx ps s ≡ ok (map (λ p. tree_at r s p.type) ps) s
    unfolding param_trees tree
    reads-params ps = reads-each _ (λ p. tree_at r s p.type) (λ p. refl) ps

    reads-provided : (given : List Provided) → provided_trees r.ctx given s ≡ ok (map (λ a. tree_at r s (get_or s.slots a.slot 0)) given) s
    unfolding provided_trees ty_tree ty tree
    reads-provided given = reads-each _ (λ a. tree_at r s (get_or s.slots a.slot 0)) (λ a. refl) given

    reads-candidates : (fs : List Signature) → for_each (λ f. param_trees r.ctx f.params) fs s ≡ ok (map (λ f. map (λ p. tree_at r s p.type) f.params) fs) s
    reads-candidates fs = reads-each _ (λ f. map (λ p. tree_at r s p.type) f.params) (λ f. reads-params f.params) fs

  -- ── The candidate that is taken ──

  pub record Taken (provided : List Ty) (u : World) (f : Signature) : Type 0 where
    pub sig : SignatureOk r u.types f
    pub matches : overload_matches (map (λ p. tree_at r u p.type) f.params) provided ≡ true

  data Found (provided : List Ty) (u : World) : Option Signature → Type 0 where
    nothing : Found provided u none
    taken : {f : Signature} → Taken provided u f → Found provided u (some f)

  g_position : (ts : List Ty) (fs : List Signature) {s : World} → Claimed r s → (Silent r s → All (SignatureOk r s.types) fs) → Gives r (Found ts) s (position r.ctx ts fs s)
  unfolding position
  g_position ts [] h k = g_return r h (λ z. nothing)
  g_position ts (f ∷ fs) {s} h k =
      g_reads r _ (map (λ p. tree_at r s p.type) f.params) (reads-params s f.params)
      (g_when r _ _ (λ e. g_return r h (λ z. taken (record { sig = first (k z); matches = e }))) (λ _. g_position ts fs h (λ z. rest (k z))))
    where
      first : {b : Buffer} → All (SignatureOk r b) (f ∷ fs) → SignatureOk r b f
      first (and x xs) = x

      rest : {b : Buffer} → All (SignatureOk r b) (f ∷ fs) → All (SignatureOk r b) fs
      rest (and x xs) = xs

  -- types without slots that are equal to the parameters'
  matched-slots : (p : List ℕ → Bool) (u : World) (ps : List Param) (ts : List Ty)
      → overload_matches (map (λ p. tree_at r u p.type) ps) ts ≡ true → All (λ t. contains_slot t ≡ false) ts → All (SlotsOf r p u.types) ps
  unfolding overload_matches
  matched-slots p u [] ts e h = end
  matched-slots p u (a ∷ ps) [] e h = absurd (false≢true e)
  matched-slots p u (a ∷ ps) (t ∷ ts) e (and x xs) =
      let i = (and-eq-true_iff (same_ty (tree_at r u a.type) t) (overload_matches (map (λ p. tree_at r u p.type) ps) ts)).0 e in
      and {a = a} (record { are = free-slots p _ (rw (same_ty-true _ t i.0) x) }) (matched-slots p u ps ts i.1 xs)

  taken-good : {u : World} {f : Signature} {ts : List Ty} → Taken ts u f → (r.clean → All (λ t. contains_slot t ≡ false) ts) → Good r u.types f.ret
  taken-good {u} {f} {ts} x free = record {
    tree = x.sig.ret;
    is = x.sig.returns;
    no_slot = λ q. never-free x.sig.ret (x.sig.stands q never (all_slots r never x.sig.params (matched-slots never u f.params ts x.matches (free q))));
  }

  provided-free : {s : World} → r.clean → Holds r s → {given : List Provided} → All (ProvidedOk r s) given → All (λ t. contains_slot t ≡ false) (map (λ a. tree_at r s (get_or s.slots a.slot 0)) given)
  provided-free q h end = end
  provided-free q h (and {a = a} x xs) = and (typed_free r (h.slots a.slot (x.has q)) q) (provided-free q h xs)

  -- ── What all return ──

  g_all_return : (t : Ty) (fs : List Signature) {s : World} → Claimed r s → Gives r (λ _ _. Unit {0}) s (all_return r.ctx t fs s)
  unfolding all_return tree
  g_all_return t [] h = g_return r h (λ z. tt)
  g_all_return t (f ∷ fs) h = g_when r _ _ (λ _. g_all_return t fs h) (λ _. g_return r h (λ z. tt))

  g_common : (slot : ℕ) → slot < r.ctx.void → (f : Signature) (others : List Signature) {s : World} → Claimed r s → (Silent r s → OfNames r) → (Silent r s → SignatureOk r s.types f)
      → Gives r (Own r slot) s (common_return r.ctx slot f others s)
  unfolding common_return tree
  g_common slot own f others h l k =
      g_next r _ (g_all_return _ others h) (λ b u t x.
      g_when r _ _ (λ _. g_set r slot own (λ z. (x z).holds) (λ z. names-typed r (l (before r t z)) (signature_grow r (x z).grown f (k (before r t z))).returns))
      (λ _. g_return r (λ z. (x z).holds) (λ z. own-poison r (l (before r t z)))))

  module _ (n slot : ℕ) (own : slot < r.ctx.void) (given : List Provided) where
    g_select : (token : ℕ) (name : List ℕ) → Name r name → (f : Signature) (others : List Signature) (poisoned : Bool) {s : World}
        → Claimed r s → (Silent r s → All (ProvidedOk r s) given)
        → (Silent r s → All (SignatureOk r s.types) (f ∷ others)) → (Silent r s → poisoned ≡ true → OfNames r) → Gives r (Own r slot) s (select r.ctx n slot token name f others given poisoned s)
    unfolding select
    g_select token name m f others poisoned {s} h i k l =
        g_when r _ _ (λ e. g_common slot own f others h (λ z. l z e) (λ z. first (k z)))
        (λ _. g_reads r _ provided (reads-provided s given) (g_next r _ (g_position provided (f ∷ others) h k) (λ o u t x.
        g_option r _ _
        (λ _. g_reads r _ (map (λ f. map (λ p. tree_at r u p.type) f.params) (f ∷ others)) (reads-candidates u (f ∷ others))
        (g_next r _ (g_report r (λ z. (x z).holds) n (λ l z.
        no_specialisation-well token name provided _ (m l) (provided-names l (h (before r t z)) (i (before r t z))) (candidate_names u l (grown (x z).grown (k (before r t z))))))
        (λ _ v t₁ y. g_common slot own f others (λ z. (y z).holds) (λ z. (y z).value)
        (λ z. signature_grow r (y z).grown f (signature_grow r (x (before r t₁ z)).grown f (first (k (before r t (before r t₁ z)))))))))
        (λ g e. g_set r slot own (λ z. (x z).holds) (λ z. taken-good (got e (x z).value) (λ q. provided-free q (h (before r t z)) (i (before r t z))))))))
      where
        provided : List Ty
        provided = map (λ a. tree_at r s (get_or s.slots a.slot 0)) given

        first : {b : Buffer} → All (SignatureOk r b) (f ∷ others) → SignatureOk r b f
        first (and x xs) = x

        grown : {b d : Buffer} → Grown b d → All (SignatureOk r b) (f ∷ others) → All (SignatureOk r d) (f ∷ others)
        grown g x = all_map (signature_grow r g) x

        got : {u : World} {o : Option Signature} {g : Signature} → o ≡ some g → Found provided u o → Taken provided u g
        got {u} {o} {g} e x = by (rw e at x)
          where
            by : Found provided u (some g) → Taken provided u g
            by (taken y) = y

    g_group : (token : ℕ) (name : List ℕ) → Name r name → (fs : List Signature) (poisoned : Bool) {s : World} → Claimed r s → (Silent r s → All (ProvidedOk r s) given)
        → (Silent r s → All (SignatureOk r s.types) fs) → (Silent r s → poisoned ≡ true → OfNames r) → Gives r (Own r slot) s (in_group r.ctx n slot token name fs given poisoned s)
    unfolding in_group
    g_group token name m [] poisoned h i k l = g_poison r h n (λ o z. undefined_in_package-well token name (m o))
    g_group token name m (f ∷ []) poisoned h i k l = g_check_call r n name m slot token own given f h i (λ z. first (k z))
      where
        first : {b : Buffer} → All (SignatureOk r b) (f ∷ []) → SignatureOk r b f
        first (and x xs) = x
    g_group token name m (f ∷ g ∷ others) poisoned h i k l = g_select token name m f (g ∷ others) poisoned h i k l

    g_resolve_call : (name : ℕ) → NameAt r name → {s : World} → Claimed r s → (Silent r s → All (ProvidedOk r s) given) → Gives r (Own r slot) s (resolve_call r.ctx n slot name given s)
    unfolding resolve_call
    g_resolve_call name m h i =
        g_option r _ _ (λ _. g_poison r h n (λ l z. undefined_own-well name _ (m l)))
        (λ f e. g_check_call r n _ m slot name own given f h i (λ z. function-found r _ (h z).own e))

    g_resolve_pkg : (pkg name : ℕ) → NameAt r pkg → NameAt r name → (poisoned : Bool) {s : World}
        → Claimed r s → (Silent r s → All (ProvidedOk r s) given) → (Silent r s → poisoned ≡ true → OfNames r)
        → Gives r (Own r slot) s (resolve_pkg_call r.ctx n slot pkg name given poisoned s)
    unfolding resolve_pkg_call
    g_resolve_pkg pkg name k m poisoned h i l =
        g_option r _ _ (λ _. g_poison r h n (λ l z. missing_package-well pkg _ (k l)))
        (λ p e. g_group name (pkg_name (name_in r.ctx pkg) (name_in r.ctx name)) (λ l. pkg_name-well _ _ (k l) (m l)) _ poisoned h i
        (λ z. group-found r _ (package_found r _ (h z).packages e).functions) l)

    -- ── The Call arm; `visits` visits the arguments, and ys are the nodes visited then. ──

    pub record Visits (ys : List Node) (u : World) (poisoned : Bool) : Type 0 where
      pub provided : All (ProvidedOk r u) given
      pub of_names : poisoned ≡ true → OfNames r
      pub seen : r.clean → Seen r u ys

    pub g_call : (ys : List Node) (P : ℕ → Type 0) (f : Callee) → ProperCallee P (NameAt r) f → (visits : Walk Bool) {s : World} → Claimed r s → Gives r (Visits ys) s (visits s)
        → Gives r (NodeOk r slot [] ys) s (call r.ctx n slot f given visits s)
    unfolding call ProperCallee poison
    g_call ys P (own_function name) p visits h v =
        g_next r _ v (λ b u t x. g_keep r (λ z. (x z).value.seen) (g_resolve_call name p (λ z. (x z).holds) (λ z. (x z).value.provided)))
    g_call ys P (package_function pkg name) p visits h v =
        g_next r _ v (λ b u t x. g_keep r (λ z. (x z).value.seen) (g_resolve_pkg pkg name p.0 p.1 b (λ z. (x z).holds) (λ z. (x z).value.provided) (λ z. (x z).value.of_names)))
    g_call ys P (through_field name) p visits h v = node-poison r (g_report r h n (λ l z. call_through_field-well name))
    g_call ys P no_callee p visits h v = absurd p
