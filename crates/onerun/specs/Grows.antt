-- What is claimed stays as the types buffer grows, and what follows from it of one word. Assumes nothing.
use Rattle.std.specs.Prelude.{ℕ, ◌≡◌, refl, true, false, List}
use Rattle.std.proofs.Common.{arith, sym, ap, ◌∙◌, true≢false, ne_eqb}
use Rattle.std.proofs.Math.Option.{Option}
use Rattle.tok.specs.Word.{kind_of}
use Rattle.ptype.specs.Ty.{Ty, Fields, contains_unknown, any_unknown, contains_slot}
use Rattle.ptype.specs.Words.{ty_of}
use Rattle.ptype.specs.Add.{Buffer}
use Rattle.ptype.specs.Kinds.{wraps, names}
use Rattle.ptype.specs.Slots.{Binding}
use Rattle.display.specs.NamesWellFormed.{names_well_formed, fields_well_formed}
use Rattle.library.specs.Package.{Param, Signature, Function, Package}
use Rattle.rules.specs.World.{Local, World, with_types}
use Rattle.tworuns.specs.Means.{Means, means-kind, means-ty_of, means_grow, Grown}
use Rattle.tworuns.specs.Means as M
use Rattle.onerun.specs.Claim.{Run, All, end, and, Both, OfNames, Fine, flat, wrapped, recorded, called, FineFields, no_more, one_more, Is}
use Rattle.onerun.specs.Claim.{Typed, Good, Bound, poisoned, bound, LocalOk, BindingOk, ParamOk, SignatureOk, FunctionOk, PackageOk, Holds}
use Rattle.onerun.specs.Claim as C

pub all_map : {A : Type 0} {P Q : A → Type 0} {xs : List A} → ((a : A) → P a → Q a) → All P xs → All Q xs
all_map f end = end
all_map f (and {a = a} x rest) = and (f a x) (all_map f rest)

pub both-map : {A B : Type 0} {P Q : A → B → Type 0} {xs : List A} {ys : List B} → ((a : A) (b : B) → P a b → Q a b) → Both P xs ys → Both Q xs ys
both-map f C.end = C.end
both-map f (C.and {a = a} {b = b} x rest) = C.and (f a b x) (both-map f rest)

module _ (r : Run) {b d : Buffer} (g : Grown b d) where
  pub is_grow : {w : ℕ} {x : Ty} → Is r b w x → Is r d w x
  is_grow h = record { means = means_grow g h.means; low = h.low; fine = h.fine }

  pub typed_grow : {free : Type 0} {w : ℕ} → Typed r free b w → Typed r free d w
  typed_grow h = record { tree = h.tree; is = is_grow h.is; no_slot = h.no_slot }

  pub bound_grow : {o : Option ℕ} → Bound r b o → Bound r d o
  bound_grow (poisoned l) = poisoned l
  bound_grow (bound h) = bound (typed_grow h)

  pub local_grow : (l : Local) → LocalOk r b l → LocalOk r d l
  local_grow l h = record { type = bound_grow h.type }

  pub binding_grow : (x : Binding) → BindingOk r b x → BindingOk r d x
  binding_grow x h = record { slot = h.slot; type = typed_grow h.type }

  pub param_grow : (p : Param) (x : Ty) → ParamOk r b p x → ParamOk r d p x
  param_grow p x h = record { name = h.name; type = is_grow h.type }

  pub signature_grow : (f : Signature) → SignatureOk r b f → SignatureOk r d f
  signature_grow f h = record { trees = h.trees; params = both-map param_grow h.params; ret = h.ret; returns = is_grow h.returns; stands = h.stands; sig = h.sig }

  pub function_grow : (f : Function) → FunctionOk r b f → FunctionOk r d f
  function_grow f h = record { sig = signature_grow f.sig h.sig }

  pub package_grow : (p : Package) → PackageOk r b p → PackageOk r d p
  package_grow p h = record { functions = all_map function_grow h.functions }

pub holds_grow : (r : Run) {s : World} {d : Buffer} → Grown s.types d → Holds r s → Holds r (with_types s d)
holds_grow r {s} g h = record {
  slots = λ a x. typed_grow r g (h.slots a (record { other = x.other; low = x.low }));
  voids = record { other = h.voids.other; low = h.voids.low };
  room = h.room;
  env = all_map (local_grow r g) h.env;
  packages = all_map (package_grow r g) h.packages;
  own = all_map (function_grow r g) h.own;
  library = all_map (package_grow r g) h.library;
  told = h.told;
  log = h.log;
}

-- ── One word ──

module _ (r : Run) where
  -- a word of a type is not 0
  other_word : {b : Buffer} {w : ℕ} {x : Ty} → Means r.ctx.texts b.words b.used w x → Fine r x → w ≡ 0 → ⊥
  other_word (M.flat e p z) (flat l u) q = let k = sym e ∙ ap kind_of q in omega arith
  other_word (M.wrapped e h l m) f q = true≢false (sym h ∙ ap wraps (sym e ∙ ap kind_of q))
  other_word (M.recorded e l m) f q = let k = sym e ∙ ap kind_of q in omega arith
  other_word (M.called e h n) f q = true≢false (sym h ∙ ap names (sym e ∙ ap kind_of q))

  pub typed-other : {free : Type 0} {b : Buffer} {w : ℕ} → Typed r free b w → w ≡ 0 → ⊥
  typed-other h = other_word h.is.means h.is.fine

  -- the tree that the rules see
  pub is-tree : {b : Buffer} {w : ℕ} {x : Ty} → Is r b w x → ty_of r.ctx.texts b.words w ≡ x
  is-tree h = means-ty_of h.means (omega (arith, h.low))

  mutual
    unfolding names_well_formed

    pub fine_names : OfNames r → {x : Ty} → Fine r x → names_well_formed x ≡ true
    fine_names l (flat p q) = refl
    fine_names l (wrapped f) = fine_names l f
    fine_names l (recorded fs) = fine-fields l fs
    fine_names l (called n) = n l

    fine-fields : OfNames r → {fs : Fields} → FineFields r fs → fields_well_formed fs ≡ true
    fine-fields l no_more = refl
    fine-fields l (one_more {n = n} {x = x} {fs = fs} m f rest) = rw (m l, fine_names l f, fine-fields l rest) refl

  mutual
    unfolding contains_unknown

    pub fine-known : r.clean → {x : Ty} → Fine r x → contains_unknown x ≡ false
    fine-known q (flat {k = k} p u) = ne_eqb k 11 (u q)
    fine-known q (wrapped f) = fine-known q f
    fine-known q (recorded fs) = fields-known q fs
    fine-known q (called n) = refl

    fields-known : r.clean → {fs : Fields} → FineFields r fs → any_unknown fs ≡ false
    fields-known q no_more = refl
    fields-known q (one_more m f rest) = rw (fine-known q f, fields-known q rest) refl

  module _ {free : Type 0} {b : Buffer} {w : ℕ} (h : Typed r free b w) where
    pub typed-tree : ty_of r.ctx.texts b.words w ≡ h.tree
    typed-tree = is-tree h.is

    pub typed-names : OfNames r → names_well_formed (ty_of r.ctx.texts b.words w) ≡ true
    typed-names l = rw typed-tree (fine_names l h.is.fine)

    pub typed-known : r.clean → contains_unknown (ty_of r.ctx.texts b.words w) ≡ false
    typed-known q = rw typed-tree (fine-known q h.is.fine)

    pub typed_free : free → contains_slot (ty_of r.ctx.texts b.words w) ≡ false
    typed_free f = rw typed-tree (h.no_slot f)

    pub typed-kind : kind_of w ≡ Rattle.ptype.specs.Ty.kind_of_ty h.tree
    typed-kind = means-kind h.is.means

-- a type whose names alone are claimed has no slot where nothing is claimed of slots
pub names-typed : (r : Run) {b : Buffer} {w : ℕ} {x : Ty} → OfNames r → Is r b w x → Good r b w
names-typed r {x = x} l h = record { tree = x; is = h; no_slot = λ q. absurd (l q) }
