-- What the walk relies on of a tree: its slots and names have a property each, its kinds of type are document 01's, a call's target is an
-- Ident or a Field. An accepted image has only such trees. Definitions; it is more than `Sound` of two runs.
use Rattle.std.specs.Prelude.{ℕ, ◌+◌, ◌≤◌}
use mathlib.Core.List.{List, [], ◌∷◌}
use Rattle.ast.specs.TypeExpr.{TypeExpr, TypeFields, Arg, AtomType, ForeignType, OptionType, ArrayType, RecordType, no_type, type_field}
use Rattle.ast.specs.Node.{Node, Nodes, Cases, Values, ExternFn}
use Rattle.ast.specs.Node.{Atom, Ident, Bin, Unary, Let, Fn, Match, Call, Field, Cast, Import, Extern, Record, Array, Absent, done, then, no_case, case, no_value, value}
use Rattle.rules.specs.Calls.{Callee, own_function, package_function, through_field, no_callee, callee_of}
use Rattle.laws.specs.SlotsOf.{ArgSlots}
use Rattle.tworuns.specs.Operators.{plain-low}
use Rattle.tworuns.specs.Sound.{SoundType, SoundTypes, SoundArgs, SoundExterns, SoundNames, SoundCallee, Sound, SoundAll, SoundCases, SoundValues}

-- "kind 1 to 5"
pub record AtomKind (k : ℕ) : Type 0 where
  pub low : 1 ≤ k
  pub high : k ≤ 5

-- P holds of every slot that the visited nodes own, N of every name that the rules read.
module _ (P N : ℕ → Type 0) where
  unfoldable mutual
    pub ProperType : TypeExpr → Type 0
    ProperType (AtomType token k) = AtomKind k
    ProperType (ForeignType token) = N token
    ProperType (OptionType t) = ProperType t
    ProperType (ArrayType t) = ProperType t
    ProperType (RecordType token fs) = ProperTypes fs

    pub ProperTypes : TypeFields → Type 0
    ProperTypes no_type = Unit {0}
    ProperTypes (type_field name t fs) = N name × ProperType t × ProperTypes fs

  unfoldable pub ProperArgs : List Arg → Type 0
  ProperArgs [] = Unit {0}
  ProperArgs (a ∷ rest) = N a.name × ProperType a.type × ProperArgs rest

  unfoldable pub ProperExterns : List ExternFn → Type 0
  ProperExterns [] = Unit {0}
  ProperExterns (f ∷ fs) = N f.name × ProperArgs f.args × ProperType f.ret × ProperExterns fs

  unfoldable pub ProperNames : List ℕ → Type 0
  ProperNames [] = Unit {0}
  ProperNames (n ∷ ns) = N n × ProperNames ns

  -- "target (Ident or Field)"
  unfoldable pub ProperCallee : Callee → Type 0
  ProperCallee (own_function name) = N name
  ProperCallee (package_function pkg name) = N pkg × N name
  ProperCallee (through_field name) = Unit {0}
  ProperCallee no_callee = ⊥

  unfoldable mutual
    pub Proper : Node → Type 0
    Proper (Atom n slot token k) = P slot × AtomKind k
    Proper (Ident n slot name) = P slot × N name
    Proper (Bin n slot token op l r) = P slot × Proper l × Proper r
    Proper (Unary n slot token op r) = P slot × Proper r
    Proper (Let n slot name r) = P slot × N name × Proper r
    Proper (Fn n slot name ret args body) = P slot × N name × ProperType ret × ProperArgs args × ArgSlots P (slot + 1) args × ProperAll body
    Proper (Match n slot cs token d) = P slot × ProperCases cs × ProperAll d
    Proper (Call n slot target args) = P slot × ProperCallee (callee_of target) × ProperAll args
    Proper (Field n slot target name) = P slot × Proper target × N name
    Proper (Cast n slot token l t) = P slot × Proper l × ProperType t
    Proper (Import n slot token paths) = P slot × ProperNames paths
    Proper (Extern n slot token name fs) = P slot × N name × ProperExterns fs
    Proper (Record n slot token fs) = P slot × ProperValues fs
    Proper (Array n slot token ms) = P slot × ProperAll ms
    -- "not in an accepted image"
    Proper (Absent n) = ⊥

    pub ProperAll : Nodes → Type 0
    ProperAll done = Unit {0}
    ProperAll (then x xs) = Proper x × ProperAll xs

    pub ProperCases : Cases → Type 0
    ProperCases no_case = Unit {0}
    ProperCases (case token x body cs) = Proper x × ProperAll body × ProperCases cs

    pub ProperValues : Values → Type 0
    ProperValues no_value = Unit {0}
    ProperValues (value name x vs) = N name × Proper x × ProperValues vs

  -- A proper tree is a sound one.
  mutual
    unfolding ProperType SoundType

    sound_type : (t : TypeExpr) → ProperType t → SoundType P N t
    sound_type (AtomType token k) h = plain-low k h.high
    sound_type (ForeignType token) h = h
    sound_type (OptionType t) h = sound_type t h
    sound_type (ArrayType t) h = sound_type t h
    sound_type (RecordType token fs) h = sound_types fs h

    sound_types : (fs : TypeFields) → ProperTypes fs → SoundTypes P N fs
    sound_types no_type h = tt
    sound_types (type_field name t fs) h = (h.0, sound_type t h.1, sound_types fs h.2)

  sound_args : (xs : List Arg) → ProperArgs xs → SoundArgs P N xs
  unfolding ProperArgs SoundArgs
  sound_args [] h = tt
  sound_args (a ∷ xs) h = (h.0, sound_type a.type h.1, sound_args xs h.2)

  sound_externs : (fs : List ExternFn) → ProperExterns fs → SoundExterns P N fs
  unfolding ProperExterns SoundExterns
  sound_externs [] h = tt
  sound_externs (f ∷ fs) h = (h.0, sound_args f.args h.1, sound_type f.ret h.2, sound_externs fs h.3)

  sound_names : (ns : List ℕ) → ProperNames ns → SoundNames P N ns
  unfolding ProperNames SoundNames
  sound_names [] h = tt
  sound_names (n ∷ ns) h = (h.0, sound_names ns h.1)

  sound_callee : (c : Callee) → ProperCallee c → SoundCallee P N c
  unfolding ProperCallee SoundCallee
  sound_callee (own_function name) h = h
  sound_callee (package_function pkg name) h = h
  sound_callee (through_field name) h = tt
  sound_callee no_callee h = h

  mutual
    unfolding Proper Sound

    pub proper_sound : (x : Node) → Proper x → Sound P N x
    proper_sound (Atom n slot token k) h = (h.0, plain-low k h.1.high)
    proper_sound (Ident n slot name) h = h
    proper_sound (Bin n slot token op l r) h = (h.0, proper_sound l h.1, proper_sound r h.2)
    proper_sound (Unary n slot token op r) h = (h.0, proper_sound r h.1)
    proper_sound (Let n slot name r) h = (h.0, h.1, proper_sound r h.2)
    proper_sound (Fn n slot name ret args body) h = (h.0, h.1, sound_type ret h.2, sound_args args h.3, h.4, proper-all body h.5)
    proper_sound (Match n slot cs token d) h = (h.0, proper-cases cs h.1, proper-all d h.2)
    proper_sound (Call n slot target args) h = (h.0, sound_callee (callee_of target) h.1, proper-all args h.2)
    proper_sound (Field n slot target name) h = (h.0, proper_sound target h.1, h.2)
    proper_sound (Cast n slot token l t) h = (h.0, proper_sound l h.1, sound_type t h.2)
    proper_sound (Import n slot token paths) h = (h.0, sound_names paths h.1)
    proper_sound (Extern n slot token name fs) h = (h.0, h.1, sound_externs fs h.2)
    proper_sound (Record n slot token fs) h = (h.0, proper-values fs h.1)
    proper_sound (Array n slot token ms) h = (h.0, proper-all ms h.1)
    proper_sound (Absent n) h = h

    pub proper-all : (xs : Nodes) → ProperAll xs → SoundAll P N xs
    proper-all done h = tt
    proper-all (then x xs) h = (proper_sound x h.0, proper-all xs h.1)

    proper-cases : (cs : Cases) → ProperCases cs → SoundCases P N cs
    proper-cases no_case h = tt
    proper-cases (case token x body cs) h = (proper_sound x h.0, proper-all body h.1, proper-cases cs h.2)

    proper-values : (vs : Values) → ProperValues vs → SoundValues P N vs
    proper-values no_value h = tt
    proper-values (value name x vs) h = (h.0, proper_sound x h.1, proper-values vs h.2)
