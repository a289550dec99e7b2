-- What the walk relies on of a tree: its own slots and names have a property each, its kinds of type are plain ones, and a call's target is an
-- Ident or a Field. An accepted image has only such trees. Definitions.
use Rattle.std.specs.Prelude.{ℕ, ◌+◌, List, [], ◌∷◌}
use Rattle.ptype.specs.Kinds.{Plain}
use Rattle.ast.specs.TypeExpr.{TypeExpr, TypeFields, Arg, AtomType, ForeignType, OptionType, ArrayType, RecordType, no_type, type_field}
use Rattle.ast.specs.Node.{Node, Nodes, Cases, Values, ExternFn}
use Rattle.ast.specs.Node.{Atom, Ident, Bin, Unary, Let, Fn, Match, Call, Field, Cast, Import, Extern, Record, Array, Absent, done, then, no_case, case, no_value, value}
use Rattle.rules.specs.Calls.{Callee, own_function, package_function, through_field, no_callee, callee_of}
use Rattle.laws.specs.SlotsOf.{ArgSlots}

-- P holds of every slot that the visited nodes own, N of every name that the rules read.
module _ (P N : ℕ → Type 0) where
  unfoldable mutual
    pub SoundType : TypeExpr → Type 0
    SoundType (AtomType token k) = Plain k
    SoundType (ForeignType token) = N token
    SoundType (OptionType t) = SoundType t
    SoundType (ArrayType t) = SoundType t
    SoundType (RecordType token fs) = SoundTypes fs

    pub SoundTypes : TypeFields → Type 0
    SoundTypes no_type = Unit {0}
    SoundTypes (type_field name t fs) = N name × SoundType t × SoundTypes fs

  unfoldable pub SoundArgs : List Arg → Type 0
  SoundArgs [] = Unit {0}
  SoundArgs (a ∷ rest) = N a.name × SoundType a.type × SoundArgs rest

  unfoldable pub SoundExterns : List ExternFn → Type 0
  SoundExterns [] = Unit {0}
  SoundExterns (f ∷ fs) = N f.name × SoundArgs f.args × SoundType f.ret × SoundExterns fs

  unfoldable pub SoundNames : List ℕ → Type 0
  SoundNames [] = Unit {0}
  SoundNames (n ∷ ns) = N n × SoundNames ns

  -- "target (Ident or Field)"
  unfoldable pub SoundCallee : Callee → Type 0
  SoundCallee (own_function name) = N name
  SoundCallee (package_function pkg name) = N pkg × N name
  SoundCallee (through_field name) = Unit {0}
  SoundCallee no_callee = ⊥

  unfoldable mutual
    pub Sound : Node → Type 0
    Sound (Atom n slot token k) = P slot × Plain k
    Sound (Ident n slot name) = P slot × N name
    Sound (Bin n slot token op l r) = P slot × Sound l × Sound r
    Sound (Unary n slot token op r) = P slot × Sound r
    Sound (Let n slot name r) = P slot × N name × Sound r
    Sound (Fn n slot name ret args body) = P slot × N name × SoundType ret × SoundArgs args × ArgSlots P (slot + 1) args × SoundAll body
    Sound (Match n slot cs token d) = P slot × SoundCases cs × SoundAll d
    Sound (Call n slot target args) = P slot × SoundCallee (callee_of target) × SoundAll args
    Sound (Field n slot target name) = P slot × Sound target × N name
    Sound (Cast n slot token l t) = P slot × Sound l × SoundType t
    Sound (Import n slot token paths) = P slot × SoundNames paths
    Sound (Extern n slot token name fs) = P slot × N name × SoundExterns fs
    Sound (Record n slot token fs) = P slot × SoundValues fs
    Sound (Array n slot token ms) = P slot × SoundAll ms
    -- "not in an accepted image"
    Sound (Absent n) = ⊥

    pub SoundAll : Nodes → Type 0
    SoundAll done = Unit {0}
    SoundAll (then x xs) = Sound x × SoundAll xs

    pub SoundCases : Cases → Type 0
    SoundCases no_case = Unit {0}
    SoundCases (case token x body cs) = Sound x × SoundAll body × SoundCases cs

    pub SoundValues : Values → Type 0
    SoundValues no_value = Unit {0}
    SoundValues (value name x vs) = N name × Sound x × SoundValues vs
