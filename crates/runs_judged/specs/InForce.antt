-- What is in force at a point of the walk, beside the static pass: names in scope, packages held, own functions met, the library. Each
-- package function's and own function's words mean the declared types. Assumes nothing.
use Rattle.std.specs.Prelude.{ℕ, ◌+◌, ◌≡◌, refl, Bool}
use Rattle.std.proofs.Common.{sym, ap, ◌∙◌}
use Rattle.std.proofs.Math.Path.{subst}
use Rattle.std.proofs.Math.Bool.{true, false}
use Rattle.std.proofs.Math.Option.{Option, none, some}
use mathlib.Core.List.{List, ◌∷◌, map}
use Rattle.tok.specs.Text.{Texts, name_bytes, same_bytes}
use Rattle.ptype.specs.Ty.{Ty}
use Rattle.ptype.specs.Words.{ty_of}
use Rattle.ptype.specs.Add.{Buffer}
use Rattle.ast.specs.TypeExpr.{TypeExpr, Arg}
use Rattle.library.specs.Package.{Param, Signature, Function, Package, find_package, find_function, group_of}
use Rattle.rules.specs.World.{Ctx, Local, World}
use Rattle.tworuns.specs.Means.{Grown}
use Rattle.onerun.specs.Claim.{Is, All, end, and, Both, slots_are, all_slots_are, SignatureOk, FunctionOk, PackageOk, ParamOk}
use Rattle.onerun.specs.Claim as C
use Rattle.onerun.specs.Grows.{is-tree, is_grow, param_grow, both-map}
use Rattle.rules.specs.Functions.{type_meant}
use Rattle.runs.specs.Declared.{Sig, GroupMember, Held, Own, Scope, library_sig, library_held, library_from, find_held, find_own, group_in}
use Rattle.runs_laws.specs.Judged as J
use Rattle.runs_judged.specs.Claim.{silent, Same, EnvRel, env_grow}

-- the types that an own function, or an Extern's function, declares
abbrev pub expr_sig : Texts → List Arg → TypeExpr → Sig
expr_sig t args ret = record { params = map (λ (a : Arg). type_meant t a.type) args; ret = type_meant t ret }

-- what two searches find
pub data Finds {A B : Type 0} (R : A → B → Type 0) : Option A → Option B → Type 0 where
  neither : Finds R none none
  each : {a : A} {b : B} → R a b → Finds R (some a) (some b)

either : {A B : Type 0} (R : A → B → Type 0) (x : A) (y : B) (p : Option A) (q : Option B) (d : Bool) → R x y → Finds R p q
    → Finds R (elim d [ true ↦ some x | false ↦ p ]) (elim d [ true ↦ some y | false ↦ q ])
either R x y p q true h k = each h
either R x y p q false h k = k

module _ (c : Ctx) where
  pub record SigRel (b : Buffer) (f : Signature) (g : Sig) : Type 0 where
    pub params : Both (ParamOk (silent c) b) f.params g.params
    pub returns : Is (silent c) b f.ret g.ret
    pub stands : (p : List ℕ → Bool) → all_slots_are p g.params ≡ true → slots_are p g.ret ≡ true

  pub record MemberRel (b : Buffer) (f : Function) (g : GroupMember) : Type 0 where
    pub name : name_bytes c.texts f.name ≡ g.name
    pub sig : SigRel b f.sig g.sig

  pub record HeldRel (b : Buffer) (p : Package) (h : Held) : Type 0 where
    pub name : name_bytes c.texts p.name ≡ h.name
    pub functions : Both (MemberRel b) p.functions h.functions

  pub record OwnRel (b : Buffer) (f : Function) (o : Own) : Type 0 where
    pub name : name_bytes c.texts f.name ≡ o.name
    pub sig : SigRel b f.sig (expr_sig c.texts o.args o.ret)

  pub sig_ok : {b : Buffer} {f : Signature} {g : Sig} → SigRel b f g → SignatureOk (silent c) b f
  sig_ok {g = g} h = record { trees = g.params; params = h.params; ret = g.ret; returns = h.returns; stands = λ q. h.stands; sig = tt }

  pub sig-rel : {b : Buffer} {f : Signature} (g : Sig) (h : SignatureOk (silent c) b f) → h.trees ≡ g.params → h.ret ≡ g.ret → SigRel b f g
  sig-rel {b} {f} g h e q = record {
    params = subst (λ (l : List Ty). Both (ParamOk (silent c) b) f.params l) e h.params;
    returns = subst (λ (x : Ty). Is (silent c) b f.ret x) q h.returns;
    stands = λ p i. subst (λ (x : Ty). slots_are p x ≡ true) q (h.stands tt p (subst (λ (l : List Ty). all_slots_are p l ≡ true) (sym e) i));
  }

  -- ── Growth ──

  module _ {b d : Buffer} (g : Grown b d) where
    pub sig_grow : (f : Signature) (s : Sig) → SigRel b f s → SigRel d f s
    sig_grow f s h = record { params = both-map (param_grow (silent c) g) h.params; returns = is_grow (silent c) g h.returns; stands = h.stands }

    pub member_grow : (f : Function) (s : GroupMember) → MemberRel b f s → MemberRel d f s
    member_grow f s h = record { name = h.name; sig = sig_grow f.sig s.sig h.sig }

    pub held_grow : (p : Package) (h : Held) → HeldRel b p h → HeldRel d p h
    held_grow p h x = record { name = x.name; functions = both-map member_grow x.functions }

    pub own_grow : (f : Function) (o : Own) → OwnRel b f o → OwnRel d f o
    own_grow f o h = record { name = h.name; sig = sig_grow f.sig _ h.sig }

  -- ── Found by name ──

  -- an own function's signature
  pub record OwnSig (b : Buffer) (f : Signature) (o : Own) : Type 0 where
    pub sig : SigRel b f (expr_sig c.texts o.args o.ret)

  module _ {b : Buffer} (name : List ℕ) where
    pub held_found : {ps : List Package} {hs : List Held} → Both (HeldRel b) ps hs → Finds (HeldRel b) (find_package c.texts name ps) (find_held name hs)
    unfolding find_package find_held
    held_found C.end = neither
    held_found (C.and {a = p} {b = h} {xs = ps} {ys = hs} x rest) =
        subst (λ (l : List ℕ). Finds (HeldRel b) (elim (same_bytes name (name_bytes c.texts p.name)) [ true ↦ some p | false ↦ find_package c.texts name ps ])
        (elim (same_bytes name l) [ true ↦ some h | false ↦ find_held name hs ])) x.name
        (either (HeldRel b) p h _ _ (same_bytes name (name_bytes c.texts p.name)) x (held_found rest))

    pub own-found : {fs : List Function} {os : List Own} → Both (OwnRel b) fs os → Finds (OwnSig b) (find_function c.texts name fs) (find_own name os)
    unfolding find_function find_own
    own-found C.end = neither
    own-found (C.and {a = f} {b = o} {xs = fs} {ys = os} x rest) =
        subst (λ (l : List ℕ). Finds (OwnSig b) (elim
        (same_bytes name (name_bytes c.texts f.name)) [ true ↦ some f.sig | false ↦ find_function c.texts name fs ])
        (elim (same_bytes name l) [ true ↦ some o | false ↦ find_own name os ])) x.name
        (either (OwnSig b) f.sig o _ _ (same_bytes name (name_bytes c.texts f.name)) (record { sig = x.sig }) (own-found rest))

    more_or : (f : Signature) (s : Sig) (fs : List Signature) (ss : List Sig) (d : Bool) → SigRel b f s → Both (SigRel b) fs ss
        → Both (SigRel b) (elim d [ true ↦ f ∷ fs | false ↦ fs ]) (elim d [ true ↦ s ∷ ss | false ↦ ss ])
    more_or f s fs ss true h k = C.and h k
    more_or f s fs ss false h k = k

    pub group-found : {fs : List Function} {gs : List GroupMember} → Both (MemberRel b) fs gs → Both (SigRel b) (group_of c.texts name fs) (group_in name gs)
    unfolding group_of group_in
    group-found C.end = C.end
    group-found (C.and {a = f} {b = g} {xs = fs} {ys = gs} x rest) =
        subst (λ (l : List ℕ). Both (SigRel b) (elim
        (same_bytes name (name_bytes c.texts f.name)) [ true ↦ f.sig ∷ group_of c.texts name fs | false ↦ group_of c.texts name fs ])
        (elim (same_bytes name l) [ true ↦ g.sig ∷ group_in name gs | false ↦ group_in name gs ])) x.name
        (more_or f.sig g.sig _ _ (same_bytes name (name_bytes c.texts f.name)) x.sig (group-found rest))

  -- ── The library ──

  module _ {b : Buffer} where
    pub params-trees : {ps : List Param} {xs : List Ty} → Both (ParamOk (silent c) b) ps xs → xs ≡ map (λ (p : Param). ty_of c.texts b.words p.type) ps
    params-trees C.end = refl
    params-trees (C.and {a = p} {b = x} {xs = ps} {ys = xs} h rest) =
        ap (λ (l : List Ty). x ∷ l) (params-trees rest) ∙ ap (λ (y : Ty). y ∷ map (λ (p : Param). ty_of c.texts b.words p.type) ps) (sym (is-tree (silent c) h.type))

    library-members : {fs : List Function} → All (FunctionOk (silent c) b) fs
        → Both (MemberRel b) fs (map (λ (f : Function). record { name = name_bytes c.texts f.name; sig = library_sig c.texts b.words f.sig }) fs)
    unfolding library_sig
    library-members end = C.end
    library-members (and {a = f} h rest) = C.and
        (record { name = refl; sig = sig-rel _ h.sig (params-trees h.sig.params) (sym (is-tree (silent c) h.sig.returns)) }) (library-members rest)

    pub library-held : (origin : ℕ) {ps : List Package} → All (PackageOk (silent c) b) ps → Both (HeldRel b) ps (library_from c.texts b.words origin ps)
    unfolding library_from library_held
    library-held origin end = C.end
    library-held origin (and h rest) = C.and (record { name = refl; functions = library-members h.functions }) (library-held (origin + 1) rest)

  -- ── All together ──

  module _ (type : ℕ → Ty) (library : List Held) where
    -- declarations in force
    pub record Decl (u : World) (sc : Scope) : Type 0 where
      pub held : Both (HeldRel u.types) u.packages sc.held
      pub own : Both (OwnRel u.types) u.own sc.own
      pub lib : Both (HeldRel u.types) c.library library

    pub record Force (u : World) (ks : List J.Known) (sc : Scope) : Type 0 where
      pub env : EnvRel c type u.types u.env ks
      pub decl : Decl u sc

    pub decl-same : {s u : World} {sc : Scope} → Grown s.types u.types → u.packages ≡ s.packages → u.own ≡ s.own → Decl s sc → Decl u sc
    decl-same {s} {u} {sc} g p o h = record {
      held = subst (λ (l : List Package). Both (HeldRel u.types) l sc.held) (sym p) (both-map (held_grow g) h.held);
      own = subst (λ (l : List Function). Both (OwnRel u.types) l sc.own) (sym o) (both-map (own_grow g) h.own);
      lib = both-map (held_grow g) h.lib;
    }

    pub env-same : {b d : Buffer} {l m : List Local} {ks : List J.Known} → Grown b d → m ≡ l → EnvRel c type b l ks → EnvRel c type d m ks
    env-same {d = d} {ks = ks} g e h = subst (λ (l : List Local). EnvRel c type d l ks) (sym e) (env_grow c type g h)

    pub force-same : {s u : World} {ks : List J.Known} {sc : Scope} → Grown s.types u.types → Same s u → Force s ks sc → Force u ks sc
    force-same g e h = record { env = env-same g e.env h.env; decl = decl-same g e.packages e.own h.decl }
