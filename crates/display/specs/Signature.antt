-- `impl Display for FunctionType` (typecheck/display.rs). Definitions.
use Rattle.std.specs.Prelude.{ℕ, ◌+◌, ◌*◌, List, [], ◌∷◌, ◌++◌, get_or}
use Rattle.tok.specs.Text.{Texts, text}
use Rattle.ptype.specs.Ty.{Ty, Fields, no_field, field}
use Rattle.ptype.specs.Words.{fields_from, ty_of}
use Rattle.ptype.specs.Show.{show, show_fields}

-- write!(f, "("), "{name}: {t}" of each argument with a blank between two, write!(f, ") -> {}", self.ret)
unfoldable pub show_signature : (args : Fields) → (ret : Ty) → List ℕ
show_signature args ret = text "(" ++ show_fields args ++ text ") -> " ++ show ret

-- the types of the arguments
unfoldable pub arg_types : Fields → List Ty
arg_types no_field = []
arg_types (field n t fs) = t ∷ arg_types fs

-- The signature that words begin with, in an answer's functions and in a library: "argument count, name and type for each argument, return type".
abbrev pub arg_count : (words : List ℕ) → ℕ
arg_count words = get_or words 0 0

abbrev pub args_of : Texts → (types words : List ℕ) → Fields
args_of texts types words = fields_from (ty_of texts types) texts words 1 (arg_count words)

abbrev pub ret_of : Texts → (types words : List ℕ) → Ty
ret_of texts types words = ty_of texts types (get_or words (1 + 2 * arg_count words) 0)
