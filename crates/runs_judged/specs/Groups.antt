-- Which declaration a call has: own functions, and groups of package functions. What the rules find by name and by types is what the static
-- pass finds. Assumes nothing.
use Rattle.std.specs.Prelude.{ℕ, ◌+◌, ◌<◌, Bool, get_or}
use Rattle.std.proofs.Common.{arith, sym, ◌∙◌}
use Rattle.std.proofs.Math.Path.{◌≡◌, refl, ap, subst}
use Rattle.std.proofs.Math.Bool.{true, false}
use Rattle.std.proofs.Math.Option.{Option, none, some}
use mathlib.Core.List.{List, [], ◌∷◌, map}
use Rattle.tok.specs.Step.{ok, return, when}
use Rattle.tok.specs.Text.{name_bytes}
use Rattle.ptype.specs.Ty.{Ty, contains_slot}
use Rattle.ptype.specs.Words.{ty_of}
use Rattle.ptype.specs.Add.{Buffer}
use Rattle.slots.specs.Substitute.{substitute}
use Rattle.err.specs.Message.{pkg_name}
use Rattle.library.specs.Package.{Param, Signature, Package, group_of}
use Rattle.rules.specs.declared.Answer.{Answer}
use Rattle.rules.specs.World.{Ctx, name_in, World}
use Rattle.rules.specs.Steps.{ty, tree, ty_tree}
use Rattle.rules.specs.Calls.{Provided, resolve_call, param_trees, provided_trees, overload_matches, position, all_return}
use Rattle.rules.specs.Calls.{common_return, select, in_group, resolve_pkg_call, own_function, package_function}
use Rattle.onerun.specs.Claim.{All, end, and, Both, all_slots_are, SignatureOk, Holds}
use Rattle.onerun.specs.Claim as C
use Rattle.onerun.specs.Grows.{is-tree, typed_free}
use Rattle.onerun.specs.Logic.{Claimed, Silent, before, Gives, g_next, g_return, g_when, g_option}
use Rattle.onerun.specs.Trees.{never, never-free}
use Rattle.onerun.specs.Find.{function-found, package_found}
use Rattle.onerun.specs.Find as OF
use Rattle.onerun.proofs.Calls.{g_reads, reads-each}
use Rattle.rules.specs.Functions.{type_meant}
use Rattle.runs.specs.Declared.{Sig, Held, Own, external, Target, Chosen, Scope, first_equal, from_group, of_own, of_held, find_held, find_own, group_in, target_of, target_at}
use Rattle.runs_laws.specs.Judged.{CallOk, of_package}
use Rattle.runs_laws.specs.Judged as J
use Rattle.runs_judged.specs.Claim.{silent, Fixed, Tells, earlier, h_map, h_report, h_poison, told-set, h_set}
use Rattle.runs_judged.specs.Rules.{Rule}
use Rattle.runs_judged.specs.InForce.{Finds, each, SigRel, HeldRel, OwnSig, held_found, own-found, params-trees, group-found, Force}
use Rattle.runs_judged.specs.Filled.{free-same}
use Rattle.runs_judged.specs.Exprs.{no-slot}
use Rattle.runs_judged.specs.Arguments.{tree_in}
use Rattle.runs_judged.specs.Called.{overload_same, frees_same, frees_slots, no-slots, arg_types_lem, types, trees, Given, CallFits, h_check_call}

no-some : {A : Type 0} {a : A} → ◌≡◌ {A = Option A} none (some a) → ⊥
no-some e = let z : ◌≡◌ {A = ℕ} 0 1 = cc e in omega arith

some_same : {A : Type 0} {a b : A} → ◌≡◌ {A = Option A} (some a) (some b) → a ≡ b
some_same e = cc e

module _ (c : Ctx) where
  -- ── The first candidate that fits ──

  abbrev trees_at : Buffer → Signature → List Ty
  trees_at b f = map (λ (p : Param). ty_of c.texts b.words p.type) f.params

  unfoldable first_fit : Buffer → List Ty → List Signature → Option Signature
  first_fit b ts [] = none
  first_fit b ts (f ∷ fs) = elim (overload_matches (trees_at b f) ts) [ true ↦ some f | false ↦ first_fit b ts fs ]

  module _ (s : World) where
    reads-params : (ps : List Param) → param_trees c ps s ≡ ok (map (λ p. tree_in c s p.type) ps) s
    unfolding param_trees tree
    reads-params ps = reads-each _ (λ p. tree_in c s p.type) (λ p. refl) ps

    reads-provided : (given : List Provided) → provided_trees c given s ≡ ok (map (λ (a : Provided). tree_in c s (get_or s.slots a.slot 0)) given) s
    unfolding provided_trees ty_tree ty tree
    reads-provided given = reads-each _ (λ (a : Provided). tree_in c s (get_or s.slots a.slot 0)) (λ a. refl) given

    reads-position : (ts : List Ty) (fs : List Signature) → position c ts fs s ≡ ok (first_fit s.types ts fs) s
    unfolding position first_fit when
    reads-position ts [] = refl
    reads-position ts (f ∷ fs) = rw (reads-params f.params) (by (reads-position ts fs) (overload_matches (trees_at s.types f) ts))
      where
        by : position c ts fs s ≡ ok (first_fit s.types ts fs) s → (d : Bool)
            → when d (return (some f)) (position c ts fs) s ≡ ok (elim d [ true ↦ some f | false ↦ first_fit s.types ts fs ]) s
        by q true = refl
        by q false = q

  record Taken (b : Buffer) (ts : List Ty) (f : Signature) : Type 0 where
    sig : SignatureOk (silent c) b f
    matches : trees_at b f ≡ ts

  fit-taken : (b : Buffer) (ts : List Ty) {fs : List Signature} {g : Signature} → All (SignatureOk (silent c) b) fs → first_fit b ts fs ≡ some g → Taken b ts g
  unfolding first_fit
  fit-taken b ts end e = absurd (no-some e)
  fit-taken b ts {g = g} (and {a = f} {xs = fs} h rest) e = by (λ i. fit-taken b ts rest i) (overload_matches (trees_at b f) ts) refl e
    where
      by : (first_fit b ts fs ≡ some g → Taken b ts g) → (d : Bool) → overload_matches (trees_at b f) ts ≡ d
          → ◌≡◌ {A = Option Signature} (elim d [ true ↦ some f | false ↦ first_fit b ts fs ]) (some g) → Taken b ts g
      by go true q i = subst (Taken b ts) (some_same i) (record { sig = h; matches = overload_same _ ts q })
      by go false q i = go i

  -- the static pass takes the same one
  record Choice (b : Buffer) (o : ℕ) (ts : List Ty) (found : Option Target) (f : Signature) : Type 0 where
    position : ℕ
    sig : Sig
    is : found ≡ some (external o position sig ts)
    rel : SigRel c b f sig

  fit-chosen : (b : Buffer) (o k : ℕ) (ts : List Ty) {fs : List Signature} {gs : List Sig} {g : Signature} → Both (SigRel c b) fs gs → first_fit b ts fs ≡ some g
      → Choice b o ts (first_equal o k ts gs) g
  unfolding first_fit first_equal
  fit-chosen b o k ts C.end e = absurd (no-some e)
  fit-chosen b o k ts {g = g} (C.and {a = f} {b = s} {xs = fs} {ys = gs} h rest) e =
      by (λ i. fit-chosen b o (k + 1) ts rest i) (overload_matches s.params ts)
      (subst (λ (l : List Ty). ◌≡◌ {A = Option Signature} (elim (overload_matches l ts) [ true ↦ some f | false ↦ first_fit b ts fs ]) (some g)) (sym (params-trees c h.params)) e)
    where
      by : (first_fit b ts fs ≡ some g → Choice b o ts (first_equal o (k + 1) ts gs) g) → (d : Bool)
          → ◌≡◌ {A = Option Signature} (elim d [ true ↦ some f | false ↦ first_fit b ts fs ]) (some g)
          → Choice b o ts (elim d [ true ↦ some (external o k s ts) | false ↦ first_equal o (k + 1) ts gs ]) g
      by go true i = record { position = k; sig = s; is = refl; rel = subst (λ (x : Signature). SigRel c b x s) (some_same i) h }
      by go false i = go i

  module _ (type : ℕ → Ty) where
    -- a call of a package function, as the static pass finds it in a group
    pub record FromGroup (slot : ℕ) (given : List Ty) (o : ℕ) (gs : List Sig) : Type 0 where
      pub position : ℕ
      pub sig : Sig
      pub is : from_group o given gs ≡ some (external o position sig given)
      pub fits : CallFits c type slot given sig.params sig.ret

    given-free : {s : World} → Holds (silent c) s → {given : List Provided} → Given c type s given
        → All (λ (t : Ty). contains_slot t ≡ false) (map (λ (a : Provided). tree_in c s (get_or s.slots a.slot 0)) given)
    given-free h end = end
    given-free h (and {a = a} x xs) = and (typed_free (silent c) (h.slots a.slot x) tt) (given-free h xs)

    given-types : {s : World} → Fixed c type s → {given : List Provided} → Given c type s given → map (λ (a : Provided). tree_in c s (get_or s.slots a.slot 0)) given ≡ types c type given
    given-types f end = refl
    given-types {s} f (and {a = a} {xs = xs} x rest) =
        ap (λ (y : Ty). y ∷ map (λ (a : Provided). tree_in c s (get_or s.slots a.slot 0)) xs) (sym (f.at a.slot x)) ∙ ap (λ (l : List Ty). type a.slot ∷ l) (given-types f rest)

    g_all_return : (t : Ty) (fs : List Signature) {s : World} → Claimed (silent c) s → Gives (silent c) (λ _ (_ : Bool). Unit {0}) s (all_return c t fs s)
    unfolding all_return tree
    g_all_return t [] h = g_return (silent c) h (λ z. tt)
    g_all_return t (f ∷ fs) h = g_when (silent c) _ _ (λ _. g_all_return t fs h) (λ _. g_return (silent c) h (λ z. tt))

    -- after a diagnostic
    told_common : {Q : World → Answer → Type 0} (slot : ℕ) (f : Signature) (fs : List Signature) {s : World} → Claimed (silent c) s
        → (Silent (silent c) s → ⊥) → Gives (silent c) Q s (common_return c slot f fs s)
    unfolding common_return tree
    told_common slot f fs h known =
        g_next (silent c) _ (g_all_return _ fs h) (λ b u t x. g_when (silent c) _ _ (λ _. told-set c type slot _ (λ z. known (before (silent c) t z)))
        (λ _. g_return (silent c) (λ z. (x z).holds) (λ z. absurd (known (before (silent c) t z)))))

    module _ (n slot : ℕ) (low : slot < c.void) (given : List Provided) {s : World} (unset : Silent (silent c) s → get_or s.slots slot 0 ≡ 0)
        (h : Claimed (silent c) s) (i : Silent (silent c) s → Given c type s given) where
      abbrev ts : List Ty
      ts = map (λ (a : Provided). tree_in c s (get_or s.slots a.slot 0)) given

      h_select : (token : ℕ) (name : List ℕ) (f g : Signature) (others : List Signature) (poisoned : Bool)
          → (Silent (silent c) s → All (SignatureOk (silent c) s.types) (f ∷ g ∷ others)) → (Silent (silent c) s → poisoned ≡ true → ⊥)
          → Tells c type (Rule c type slot s ((o : ℕ) (gs : List Sig) → Both (SigRel c s.types) (f ∷ g ∷ others) gs → FromGroup slot (types c type given) o gs)) s
          (select c n slot token name f (g ∷ others) given poisoned s)
      unfolding select from_group
      h_select token name f g others poisoned k known =
          g_when (silent c) _ _ (λ e. told_common slot f (g ∷ others) h (λ z. known z e))
          (λ _. g_reads (silent c) _ ts (reads-provided s given) (g_reads (silent c) _ (first_fit s.types ts (f ∷ g ∷ others)) (reads-position s ts (f ∷ g ∷ others))
          (g_option (silent c) _ _
          (λ _. g_reads (silent c) _ (map (λ f. map (λ p. tree_in c s p.type) f.params) (f ∷ g ∷ others))
          (reads-each _ (λ f. map (λ p. tree_in c s p.type) f.params) (λ f. reads-params s f.params) (f ∷ g ∷ others))
          (g_next (silent c) _ (h_report c type {Q = λ _ _. ⊥} h n _) (λ _ u t x. told_common slot f (g ∷ others) (λ z. (x z).holds) (λ z. (x z).value))))
          (λ x e. h_map c type (λ u a t p z fx.
          let z₀ = before (silent c) t z in
          let fs = earlier c type (h z₀) (p z) fx in
          let r = (p z).value.fact fx in
          record { ok = λ o gs rel. subst (λ (l : List Ty). FromGroup slot l o gs) (given-types fs (i z₀)) (chosen x e (given-free (h z₀) (i z₀)) r.is o rel); same = r.same })
          (h_set c type slot low unset h (λ z. let y = taken x e z in record {
            tree = y.sig.ret;
            is = y.sig.returns;
            no_slot = λ q. never-free y.sig.ret (y.sig.stands tt never
                (subst (λ (l : List Ty). all_slots_are never l ≡ true) (sym (params-trees c y.sig.params ∙ y.matches)) (frees_slots (given-free (h z) (i z)))));
          }))))))
        where
          taken : (x : Signature) → first_fit s.types ts (f ∷ g ∷ others) ≡ some x → Silent (silent c) s → Taken s.types ts x
          taken x e z = fit-taken s.types ts (k z) e

          chosen : (x : Signature) → first_fit s.types ts (f ∷ g ∷ others) ≡ some x → All (λ (t : Ty). contains_slot t ≡ false) ts → type slot ≡ tree_in c s x.ret
              → (o : ℕ) {gs : List Sig} → Both (SigRel c s.types) (f ∷ g ∷ others) gs → FromGroup slot ts o gs
          chosen x e free q o (C.and {b = a} h₁ (C.and {b = b} {ys = gs} h₂ rest)) =
              let y : Choice s.types o ts (first_equal o 0 ts (a ∷ b ∷ gs)) x = fit-chosen s.types o 0 ts (C.and h₁ (C.and h₂ rest)) e in
              let m : y.sig.params ≡ ts = params-trees c y.rel.params ∙ matched x e (C.and h₁ (C.and h₂ rest)) in
              let ret : contains_slot y.sig.ret ≡ false = never-free y.sig.ret
              (y.rel.stands never (subst (λ (l : List Ty). all_slots_are never l ≡ true) (sym m) (frees_slots free))) in
              record {
                position = y.position;
                sig = y.sig;
                is = y.is;
                fits = record {
                  filling = λ _. none;
                  params = ap (map (substitute (λ _. none))) m ∙ frees_same (λ _. none) free;
                  ret = q ∙ (is-tree (silent c) y.rel.returns ∙ sym (free-same (λ _. none) y.sig.ret ret));
                };
              }
            where
              sigs : {fs : List Signature} {gs : List Sig} → Both (SigRel c s.types) fs gs → All (SignatureOk (silent c) s.types) fs
              sigs C.end = end
              sigs (C.and {b = w} h rest) = and (record { trees = w.params; params = h.params; ret = w.ret; returns = h.returns; stands = λ q. h.stands; sig = tt }) (sigs rest)

              matched : (x : Signature) → first_fit s.types ts (f ∷ g ∷ others) ≡ some x → {gs : List Sig} → Both (SigRel c s.types) (f ∷ g ∷ others) gs → trees_at s.types x ≡ ts
              matched x e rel = (fit-taken s.types ts (sigs rel) e).matches

      h_group : (token : ℕ) (name : List ℕ) (fs : List Signature) (poisoned : Bool) → (Silent (silent c) s → All (SignatureOk (silent c) s.types) fs)
          → (Silent (silent c) s → poisoned ≡ true → ⊥)
          → Tells c type (Rule c type slot s ((o : ℕ) (gs : List Sig) → Both (SigRel c s.types) fs gs → FromGroup slot (types c type given) o gs)) s
          (in_group c n slot token name fs given poisoned s)
      unfolding in_group from_group
      h_group token name [] poisoned k known = h_poison c type h n _
      h_group token name (f ∷ []) poisoned k known =
          h_map c type (λ u a t p z fx. let r = (p z).value.fact fx in record { ok = λ o gs rel. one r.ok o rel; same = r.same })
          (h_check_call c type n name slot token low given f unset h i (λ z. first (k z)))
        where
          first : {b : Buffer} → All (SignatureOk (silent c) b) (f ∷ []) → SignatureOk (silent c) b f
          first (and x xs) = x

          one : CallFits c type slot (types c type given) (trees c type s f.params) (tree_in c s f.ret) → (o : ℕ) {gs : List Sig}
              → Both (SigRel c s.types) (f ∷ []) gs → FromGroup slot (types c type given) o gs
          one r o (C.and {b = g} x C.end) = record {
            position = 0;
            sig = g;
            is = refl;
            fits = record {
              filling = r.filling;
              params = ap (map (substitute r.filling)) (params-trees c x.params) ∙ r.params;
              ret = r.ret ∙ ap (substitute r.filling) (is-tree (silent c) x.returns);
            };
          }
      h_group token name (f ∷ g ∷ others) poisoned k known = h_select token name f g others poisoned k known

      module _ (library : List Held) (table : List Chosen) {ks : List J.Known} {sc : Scope} (know : Silent (silent c) s → Fixed c type s → Force c type library s ks sc) where
        abbrev Resolved : Type 0
        Resolved = CallOk c.texts type table n slot (types c type given)

        pub h_resolve_call : (name : ℕ) → target_at slot table ≡ target_of c.texts library type (own_function name) (types c type given) sc
            → Tells c type (Rule c type slot s Resolved) s (resolve_call c n slot name given s)
        unfolding resolve_call target_of of_own
        h_resolve_call name tab =
            g_option (silent c) _ _ (λ _. h_poison c type h n _)
            (λ f e. h_map c type (λ u a t p z fx.
            let z₀ = before (silent c) t z in
            let fo = know z₀ (earlier c type (h z₀) (p z) fx) in
            let r = (p z).value.fact fx in
            record {
              ok = by f r.ok (find_own (name_bytes c.texts name) sc.own) refl
                  (subst (λ (x : Option Signature). Finds (OwnSig c s.types) x (find_own (name_bytes c.texts name) sc.own)) e
                  (own-found c (name_bytes c.texts name) fo.decl.own));
              same = r.same;
            })
            (h_check_call c type n _ slot name low given f unset h i (λ z. function-found (silent c) _ (h z).own e)))
          where
            by : (f : Signature) → CallFits c type slot (types c type given) (trees c type s f.params) (tree_in c s f.ret) → (q : Option Own)
                → find_own (name_bytes c.texts name) sc.own ≡ q → Finds (OwnSig c s.types) (some f) q → Resolved
            by f r none e x'' = elim x'' [ ]
            by f r (some o) e (each x) =
                let none_left_lem = no-slots c.texts o.args in
                J.of_own (tab ∙ ap of_own e)
                (sym r.params ∙ (ap (map (substitute r.filling)) (sym (params-trees c x.sig.params))
                ∙ (frees_same r.filling none_left_lem ∙ arg_types_lem c.texts type table o.args)))
                (r.ret ∙ (ap (substitute r.filling) (is-tree (silent c) x.sig.returns) ∙ free-same r.filling (type_meant c.texts o.ret) (no-slot c.texts o.ret)))

        pub h_resolve_pkg : (pkg name : ℕ) (poisoned : Bool) → (Silent (silent c) s → poisoned ≡ true → ⊥)
            → target_at slot table ≡ target_of c.texts library type (package_function pkg name) (types c type given) sc
            → Tells c type (Rule c type slot s Resolved) s (resolve_pkg_call c n slot pkg name given poisoned s)
        unfolding resolve_pkg_call target_of of_held
        h_resolve_pkg pkg name poisoned known tab =
            g_option (silent c) _ _ (λ _. h_poison c type h n _)
            (λ p e. h_map c type (λ u a t q z fx.
            let z₀ = before (silent c) t z in
            let fo = know z₀ (earlier c type (h z₀) (q z) fx) in
            let r = (q z).value.fact fx in
            record {
              ok = by p r.ok (find_held (name_bytes c.texts pkg) sc.held) refl
                  (subst (λ (x : Option Package). Finds (HeldRel c s.types) x (find_held (name_bytes c.texts pkg) sc.held)) e
                  (held_found c (name_bytes c.texts pkg) fo.decl.held));
              same = r.same;
            })
            (h_group name (pkg_name (name_in c pkg) (name_in c name)) (group_of c.texts (name_in c name) p.functions) poisoned
            (λ z. OF.group-found (silent c) _ (package_found (silent c) _ (h z).packages e).functions) known))
          where
            by : (p : Package) → ((o : ℕ) (gs : List Sig) → Both (SigRel c s.types) (group_of c.texts (name_in c name) p.functions) gs → FromGroup slot (types c type given) o gs)
                → (q : Option Held) → find_held (name_bytes c.texts pkg) sc.held ≡ q → Finds (HeldRel c s.types) (some p) q → Resolved
            by p r none e x'' = elim x'' [ ]
            by p r (some o) e (each x) =
                let y = r o.origin (group_in (name_bytes c.texts name) o.functions) (group-found c (name_bytes c.texts name) x.functions) in
                of_package (tab ∙ (ap (of_held (name_bytes c.texts name) (types c type given)) e ∙ y.is)) y.fits.filling y.fits.params y.fits.ret
