-- What two runs have in common: one over longer buffers, longer texts and a longer pool than the other. Definitions, and that
-- they stay as the types buffers grow. Assumes nothing.
use Rattle.std.specs.Prelude.{ℕ, ◌*◌, ◌≤◌, ◌<◌, ◌≡◌, refl, List, [], ◌∷◌, eqb, get_or, length, take}
use Rattle.std.proofs.Common.{arith, sym, ◌∙◌}
use Rattle.std.proofs.Math.Option.{Option, none, some}
use Rattle.tok.specs.Word.{kind_of}
use Rattle.tok.specs.Text.{name_bytes}
use Rattle.ptype.specs.Ty.{Ty, same_ty, depth_of}
use Rattle.ptype.specs.Words.{ty_of}
use Rattle.ptype.specs.Add.{Buffer}
use Rattle.ptype.specs.Inside.{Lies}
use Rattle.ptype.specs.Slots.{Binding}
use Rattle.rules.specs.declared.Answer.{Answer}
use Rattle.rules.specs.declared.Answer.TheVariants.{Known, Poison}
use Rattle.library.specs.Package.{Param, Signature, Function, Package}
use Rattle.rules.specs.World.{Ctx, Local, Log, World, with_types, with_log}
use Rattle.tworuns.specs.Means.{Means, means-kind, means-zero, means-ty_of, Grown, means_grow}

-- The two contexts; and whether the runs are alike word for word, as with longer buffers alone, or only tree for tree.
pub record Runs : Type 1 where
  pub strict : Type 0
  pub first : Ctx
  pub second : Ctx

-- A relation of values, over the types buffers of the two runs.
abbrev pub Relation : Type 0 → Type 1
Relation A = Buffer → Buffer → A → A → Type 0

-- two lists, entry by entry
pub data Each {A : Type 0} (R : A → A → Type 0) : List A → List A → Type 0 where
  end : Each R [] []
  and : {a b : A} {xs ys : List A} → R a b → Each R xs ys → Each R (a ∷ xs) (b ∷ ys)

pub each_map : {A : Type 0} {R Q : A → A → Type 0} {xs ys : List A} → ((a b : A) → R a b → Q a b) → Each R xs ys → Each Q xs ys
each_map f end = end
each_map f (and {a = a} {b = b} x rest) = and (f a b x) (each_map f rest)

pub each-length : {A : Type 0} {R : A → A → Type 0} {xs ys : List A} → Each R xs ys → length xs ≡ length ys
each-length end = refl
each-length (and x rest) = rw (each-length rest)

-- two lists as far as the first goes; the second may be longer unless `exact` holds
pub data Front {A : Type 0} (exact : Type 0) (R : A → A → Type 0) : List A → List A → Type 0 where
  ends : Front exact R [] []
  longer : {ys : List A} → (exact → ⊥) → Front exact R [] ys
  before : {a b : A} {xs ys : List A} → R a b → Front exact R xs ys → Front exact R (a ∷ xs) (b ∷ ys)

pub front-map : {A : Type 0} {E : Type 0} {R Q : A → A → Type 0} {xs ys : List A} → ((a b : A) → R a b → Q a b) → Front E R xs ys → Front E Q xs ys
front-map f ends = ends
front-map f (longer n) = longer n
front-map f (before {a = a} {b = b} x rest) = before (f a b x) (front-map f rest)

-- both none, or both some
pub data Both? {A : Type 0} (R : A → A → Type 0) : Option A → Option A → Type 0 where
  neither : Both? R none none
  present : {a b : A} → R a b → Both? R (some a) (some b)

module _ (r : Runs) where
  -- Two words of one type.
  pub record SameType (b b' : Buffer) (w w' : ℕ) : Type 0 where
    pub tree : Ty
    pub left : Means r.first.texts b.words b.used w tree
    pub right : Means r.second.texts b'.words b'.used w' tree
    pub low : depth_of tree ≤ 32
    pub word : r.strict → w ≡ w'

  -- Two words of one name.
  pub record SameName (w w' : ℕ) : Type 0 where
    pub bytes : name_bytes r.first.texts w ≡ name_bytes r.second.texts w'
    pub word : r.strict → w ≡ w'

  -- Two types buffers, where the runs are alike word for word.
  pub record SameUsed (b b' : Buffer) : Type 0 where
    pub used : b.used ≡ b'.used
    pub front : take b.used b.words ≡ take b.used b'.words
    pub long : length b.words ≤ length b'.words

  abbrev pub Used : Buffer → Buffer → Type 0
  Used b b' = r.strict → SameUsed b b'

  -- diagnostics and messages, of m words each: as many, and the same
  pub record SameTold (m : ℕ) (b b' : Buffer) : Type 0 where
    pub used : b.used ≡ b'.used
    pub front : take (m * b.used) b.words ≡ take (m * b.used) b'.words
    pub long : length b.words ≤ length b'.words

  -- what is logged beside them: nothing yet
  pub record SameLog (l l' : Log) : Type 0 where

  -- Two slots: a node's own, below V, or slot V of each.
  pub data Slot : ℕ → ℕ → Type 0 where
    own : {a : ℕ} → a < r.first.void → Slot a a
    void : Slot r.first.void r.second.void

  pub data SameAnswer : Answer → Answer → Type 0 where
    known : {a a' : ℕ} → Slot a a' → SameAnswer (Known a) (Known a')
    poison : SameAnswer Poison Poison

  module _ (b b' : Buffer) where
    pub record SameBinding (x x' : Binding) : Type 0 where
      pub slot : x.slot ≡ x'.slot
      pub type : SameType b b' x.word x'.word

    pub record SameLocal (l l' : Local) : Type 0 where
      pub name : SameName l.name l'.name
      pub type : Both? (SameType b b') l.type l'.type

    pub record SameParam (p p' : Param) : Type 0 where
      pub name : SameName p.name p'.name
      pub type : SameType b b' p.type p'.type

    pub record SameSignature (f f' : Signature) : Type 0 where
      pub params : Each SameParam f.params f'.params
      pub ret : SameType b b' f.ret f'.ret
      pub with_slots : f.with_slots ≡ f'.with_slots

    pub record SameFunction (f f' : Function) : Type 0 where
      pub name : SameName f.name f'.name
      pub sig : SameSignature f.sig f'.sig

    pub record SamePackage (p p' : Package) : Type 0 where
      pub name : SameName p.name p'.name
      pub functions : Each SameFunction p.functions p'.functions

  -- The worlds of the two runs.
  pub record Worlds (s s' : World) : Type 0 where
    pub names : (w : ℕ) → Lies r.first.texts w → name_bytes r.first.texts w ≡ name_bytes r.second.texts w
    pub up : r.first.void ≤ r.second.void
    pub slots : (a a' : ℕ) → Slot a a' → SameType s.types s'.types (get_or s.slots a 0) (get_or s'.slots a' 0)
    pub room : r.first.void < length s.slots
    pub room' : r.second.void < length s'.slots
    pub types : Used s.types s'.types
    pub env : Each (SameLocal s.types s'.types) s.env s'.env
    pub packages : Each (SamePackage s.types s'.types) s.packages s'.packages
    pub own : Each (SameFunction s.types s'.types) s.own s'.own
    pub library : Front r.strict (SamePackage s.types s'.types) r.first.library r.second.library
    pub diagnostics : SameTold 6 s.diagnostics s'.diagnostics
    pub messages : SameTold 1 s.messages s'.messages
    -- a hint asks the library, which may be longer in the second: the logs are the same only where the runs are alike word for word
    pub log : r.strict → SameLog s.log s'.log

  -- As the types buffers grow, all of this stays.
  module _ {b b' d d' : Buffer} (g : Grown b d) (g' : Grown b' d') where
    pub type_grow : (w w' : ℕ) → SameType b b' w w' → SameType d d' w w'
    type_grow w w' x = record { tree = x.tree; left = means_grow g x.left; right = means_grow g' x.right; low = x.low; word = x.word }

    pub option_grow : {o o' : Option ℕ} → Both? (SameType b b') o o' → Both? (SameType d d') o o'
    option_grow neither = neither
    option_grow (present {a = a} {b = b} x) = present (type_grow a b x)

    pub binding_grow : (x x' : Binding) → SameBinding b b' x x' → SameBinding d d' x x'
    binding_grow x x' h = record { slot = h.slot; type = type_grow x.word x'.word h.type }

    pub local_grow : (l l' : Local) → SameLocal b b' l l' → SameLocal d d' l l'
    local_grow l l' h = record { name = h.name; type = option_grow h.type }

    pub param_grow : (p p' : Param) → SameParam b b' p p' → SameParam d d' p p'
    param_grow p p' h = record { name = h.name; type = type_grow p.type p'.type h.type }

    pub signature_grow : (f f' : Signature) → SameSignature b b' f f' → SameSignature d d' f f'
    signature_grow f f' h = record { params = each_map param_grow h.params; ret = type_grow f.ret f'.ret h.ret; with_slots = h.with_slots }

    pub function_grow : (f f' : Function) → SameFunction b b' f f' → SameFunction d d' f f'
    function_grow f f' h = record { name = h.name; sig = signature_grow f.sig f'.sig h.sig }

    pub package_grow : (p p' : Package) → SamePackage b b' p p' → SamePackage d d' p p'
    package_grow p p' h = record { name = h.name; functions = each_map function_grow h.functions }

  pub worlds_grow : {s s' : World} {d d' : Buffer} → Grown s.types d → Grown s'.types d' → Used d d' → Worlds s s' → Worlds (with_types s d) (with_types s' d')
  worlds_grow {s} {s'} g g' u ws = record {
    names = ws.names;
    up = ws.up;
    slots = λ a a' x. type_grow g g' (get_or s.slots a 0) (get_or s'.slots a' 0) (ws.slots a a' x);
    room = ws.room;
    room' = ws.room';
    types = u;
    env = each_map (local_grow g g') ws.env;
    packages = each_map (package_grow g g') ws.packages;
    own = each_map (function_grow g g') ws.own;
    library = front-map (package_grow g g') ws.library;
    diagnostics = ws.diagnostics;
    messages = ws.messages;
    log = ws.log;
  }

  -- worlds with other logs
  pub worlds_log : {s s' : World} {l l' : Log} → (r.strict → SameLog l l') → Worlds s s' → Worlds (with_log s l) (with_log s' l')
  worlds_log h ws = record {
    names = ws.names;
    up = ws.up;
    slots = ws.slots;
    room = ws.room;
    room' = ws.room';
    types = ws.types;
    env = ws.env;
    packages = ws.packages;
    own = ws.own;
    library = ws.library;
    diagnostics = ws.diagnostics;
    messages = ws.messages;
    log = h;
  }

  -- What two words of one type have in common: the kind, whether they are 0, and the tree that `ty_of` finds.
  module _ {b b' : Buffer} {w w' : ℕ} (h : SameType b b' w w') where
    pub same_kind : kind_of w ≡ kind_of w'
    same_kind = means-kind h.left ∙ sym (means-kind h.right)

    pub same-zero : eqb w 0 ≡ eqb w' 0
    same-zero = means-zero h.left ∙ sym (means-zero h.right)

    pub tree-first : ty_of r.first.texts b.words w ≡ h.tree
    tree-first = means-ty_of h.left (omega (arith, h.low))

    pub tree-second : ty_of r.second.texts b'.words w' ≡ h.tree
    tree-second = means-ty_of h.right (omega (arith, h.low))

    pub same-tree : ty_of r.first.texts b.words w ≡ ty_of r.second.texts b'.words w'
    same-tree = tree-first ∙ sym tree-second

  -- so that the tests of two of them agree
  pub same_test : {b b' : Buffer} {v v' w w' : ℕ} → SameType b b' v v' → SameType b b' w w'
      → same_ty (ty_of r.first.texts b.words v) (ty_of r.first.texts b.words w) ≡ same_ty (ty_of r.second.texts b'.words v') (ty_of r.second.texts b'.words w')
  same_test h k = cc (same-tree h, same-tree k)
