-- What is claimed of a run at every point of it. Two theorems share one proof: that all names are well formed, so that every message is; and
-- that, as long as no diagnostic is raised, every type recorded is free of Unknown and of slots. Definitions.
use Rattle.std.specs.Prelude.{ℕ, ◌*◌, ◌+◌, ◌≤◌, ◌<◌, ◌≡◌, Bool, true, false, ◌&&◌, List, [], ◌∷◌, eqb, get_or, length, take, drop}
use Rattle.std.proofs.Math.Option.{Option, none, some}
use Rattle.utf8.specs.Rfc3629.{well_formed}
use Rattle.tok.specs.Text.{name_bytes}
use Rattle.ptype.specs.Ty.{Ty, Fields, plain, wrap, rec, named, no_field, field, contains_slot, depth_of}
use Rattle.ptype.specs.Add.{Buffer}
use Rattle.ptype.specs.Slots.{Binding}
use Rattle.library.specs.Package.{Param, Signature, signature, Function, Package}
use Rattle.rules.specs.declared.Answer.{Answer}
use Rattle.rules.specs.declared.Answer.TheVariants.{Known, Poison}
use Rattle.rules.specs.World.{Ctx, Local, Log, World}
use Rattle.tworuns.specs.Means.{Means}

-- A run, and which of the two is claimed of it: where `clean` holds, types free of Unknown and of slots, and only as long as no diagnostic is
-- raised; where it does not, names that are well formed, diagnostics or not. Of signatures with slots, and the trees of their arguments,
-- something more may be claimed (`sig`); of those without there is nothing to show.
pub record Run : Type 1 where
  pub ctx : Ctx
  pub clean : Type 0
  pub sig : Signature → List Ty → Type 0
  pub plain : (ps : List Param) (ret : ℕ) (xs : List Ty) → sig (signature ps ret false) xs

-- what holds of each of a list, and of two lists entry by entry
pub data All {A : Type 0} (P : A → Type 0) : List A → Type 0 where
  end : All P []
  and : {a : A} {xs : List A} → P a → All P xs → All P (a ∷ xs)

pub data Both {A B : Type 0} (P : A → B → Type 0) : List A → List B → Type 0 where
  end : Both P [] []
  and : {a : A} {b : B} {xs : List A} {ys : List B} → P a b → Both P xs ys → Both P (a ∷ xs) (b ∷ ys)

-- every slot in a type has a property
unfoldable mutual
  pub slots_are : (List ℕ → Bool) → Ty → Bool
  slots_are p (plain k) = true
  slots_are p (wrap k t) = slots_are p t
  slots_are p (rec fs) = field_slots_are p fs
  slots_are p (named k n) = elim (eqb k 10) [ true ↦ p n | false ↦ true ]

  pub field_slots_are : (List ℕ → Bool) → Fields → Bool
  field_slots_are p no_field = true
  field_slots_are p (field n t fs) = slots_are p t && field_slots_are p fs

-- and every slot in several
unfoldable pub all_slots_are : (List ℕ → Bool) → List Ty → Bool
all_slots_are p [] = true
all_slots_are p (t ∷ ts) = slots_are p t && all_slots_are p ts

-- The k-th diagnostic: its message and its primary message lie in the used bytes, and are well formed.
pub record ToldWell (diagnostics messages : Buffer) (k : ℕ) : Type 0 where
  pub start : ℕ
  pub message : ℕ
  pub primary : ℕ
  pub start_is : get_or diagnostics.words (6 * k + 3) 0 ≡ start
  pub message_is : get_or diagnostics.words (6 * k + 4) 0 ≡ message
  pub primary_is : get_or diagnostics.words (6 * k + 5) 0 ≡ primary
  pub within : start + message + primary ≤ messages.used
  pub message_well : well_formed (take message (drop start messages.words)) ≡ true
  pub primary_well : well_formed (take primary (drop (start + message) messages.words)) ≡ true

-- What is logged: nothing yet.
pub record LogWell (l : Log) : Type 0 where

module _ (r : Run) where
  -- it is names that are claimed to be well formed
  abbrev pub OfNames : Type 0
  OfNames = r.clean → ⊥

  abbrev pub Name : List ℕ → Type 0
  Name n = OfNames → well_formed n ≡ true

  abbrev pub NameAt : (word : ℕ) → Type 0
  NameAt w = Name (name_bytes r.ctx.texts w)

  -- A type whose names are well formed, or which is free of Unknown, whichever is claimed.
  mutual
    pub data Fine : Ty → Type 0 where
      flat : {k : ℕ} → 1 ≤ k → (r.clean → k ≡ 11 → ⊥) → Fine (plain k)
      wrapped : {k : ℕ} {x : Ty} → Fine x → Fine (wrap k x)
      recorded : {fs : Fields} → FineFields fs → Fine (rec fs)
      called : {k : ℕ} {n : List ℕ} → Name n → Fine (named k n)

    pub data FineFields : Fields → Type 0 where
      no_more : FineFields no_field
      one_more : {n : List ℕ} {x : Ty} {fs : Fields} → Name n → Fine x → FineFields fs → FineFields (field n x fs)

  -- A word of such a type. Where `free` holds, it is free of slots too.
  pub record Is (b : Buffer) (w : ℕ) (x : Ty) : Type 0 where
    pub means : Means r.ctx.texts b.words b.used w x
    pub low : depth_of x ≤ 32
    pub fine : Fine x

  pub record Typed (free : Type 0) (b : Buffer) (w : ℕ) : Type 0 where
    pub tree : Ty
    pub is : Is b w tree
    pub no_slot : free → contains_slot tree ≡ false

  -- the words in slots, in scope, of own functions and of Externs
  abbrev pub Good : Buffer → ℕ → Type 0
  Good b w = Typed r.clean b w

  -- A name in scope. "none is a poisoned binding".
  pub data Bound (b : Buffer) : Option ℕ → Type 0 where
    poisoned : OfNames → Bound b none
    bound : {w : ℕ} → Good b w → Bound b (some w)

  pub record LocalOk (b : Buffer) (l : Local) : Type 0 where
    pub type : Bound b l.type

  pub record BindingOk (b : Buffer) (x : Binding) : Type 0 where
    pub slot : Name x.slot
    pub type : Good b x.word

  -- A signature. "a slot of the return type stands in some argument": what holds of all slots of the arguments holds of those.
  pub record ParamOk (b : Buffer) (p : Param) (x : Ty) : Type 0 where
    pub name : NameAt p.name
    pub type : Is b p.type x

  pub record SignatureOk (b : Buffer) (f : Signature) : Type 0 where
    pub trees : List Ty
    pub params : Both (ParamOk b) f.params trees
    pub ret : Ty
    pub returns : Is b f.ret ret
    pub stands : r.clean → (p : List ℕ → Bool) → all_slots_are p trees ≡ true → slots_are p ret ≡ true
    pub sig : r.sig f trees

  pub record FunctionOk (b : Buffer) (f : Function) : Type 0 where
    pub sig : SignatureOk b f.sig

  pub record PackageOk (b : Buffer) (p : Package) : Type 0 where
    pub functions : All (FunctionOk b) p.functions

  -- A slot, up to V, with a type: "A recorded type is a slot word other than 0".
  pub record Recorded (s : World) (slot : ℕ) : Type 0 where
    pub other : get_or s.slots slot 0 ≡ 0 → ⊥
    pub low : slot ≤ r.ctx.void

  -- The world.
  pub record Holds (s : World) : Type 0 where
    pub slots : (a : ℕ) → Recorded s a → Good s.types (get_or s.slots a 0)
    pub voids : Recorded s r.ctx.void
    pub room : r.ctx.void < length s.slots
    pub env : All (LocalOk s.types) s.env
    pub packages : All (PackageOk s.types) s.packages
    pub own : All (FunctionOk s.types) s.own
    pub library : All (PackageOk s.types) r.ctx.library
    pub told : OfNames → (k : ℕ) → k < s.diagnostics.used → ToldWell s.diagnostics s.messages k
    pub log : OfNames → LogWell s.log

  -- An answer: a slot that has a type, or poison, which there is only after a diagnostic.
  pub data AnswerOk (s : World) : Answer → Type 0 where
    known : {a : ℕ} → Recorded s a → AnswerOk s (Known a)
    poison : OfNames → AnswerOk s Poison
