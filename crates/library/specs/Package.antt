-- Signatures and packages, and where an accepted library holds them (typedefs.rs `FunctionType`; ir/lib.rs `Pkg`, `Fn`). Definitions.
use Rattle.std.specs.Prelude.{ℕ, zero, suc, ◌+◌, ◌*◌, Bool, true, false, List, [], ◌∷◌, get_or, take, drop, eqb}
use Rattle.std.proofs.Math.Option.{Option, none, some}
use Rattle.tok.specs.Text.{Texts, name_bytes, same_bytes}

-- an argument: its name's word and its type's word
pub record Param : Type 0 where
  pub name : ℕ
  pub type : ℕ

abbrev pub param : (name type : ℕ) → Param
param n t = record { name = n; type = t }

-- struct FunctionType { args, ret, with_slots }
pub record Signature : Type 0 where
  pub params : List Param
  pub ret : ℕ
  pub with_slots : Bool

abbrev pub signature : List Param → (ret : ℕ) → Bool → Signature
signature ps r f = record { params = ps; ret = r; with_slots = f }

-- A function of its name; in a package that is its group name (Fn::group_name).
pub record Function : Type 0 where
  pub name : ℕ
  pub sig : Signature

abbrev pub function : (name : ℕ) → Signature → Function
function n s = record { name = n; sig = s }

pub record Package : Type 0 where
  pub name : ℕ
  pub functions : List Function

abbrev pub pkg : (name : ℕ) → List Function → Package
pkg n fs = record { name = n; functions = fs }

-- "Library: pool length P, package count, P pool words, then the packages"
abbrev pub pool_of : List ℕ → List ℕ
pool_of library = take (get_or library 0 0) (drop 2 library)

-- "name and type for each argument": k pairs from word `at` on
unfoldable pub params_from : List ℕ → (at k : ℕ) → List Param
params_from library at zero = []
params_from library at (suc k) = param (get_or library at 0) (get_or library (at + 1) 0) ∷ params_from library (at + 2) k

-- "its group name, a flag (1 has slots, 0 not), argument count, name and type for each argument, return type"
unfoldable pub function_at : List ℕ → (at : ℕ) → Function
function_at library at =
    function (get_or library at 0)
    (signature (params_from library (at + 3) (get_or library (at + 2) 0)) (get_or library (at + 3 + 2 * get_or library (at + 2) 0) 0) (eqb (get_or library (at + 1) 0) 1))

abbrev pub function_end : List ℕ → (at : ℕ) → ℕ
function_end library at = at + 4 + 2 * get_or library (at + 2) 0

unfoldable pub functions_from : List ℕ → (at k : ℕ) → List Function
functions_from library at zero = []
functions_from library at (suc k) = function_at library at ∷ functions_from library (function_end library at) k

unfoldable pub functions_end : List ℕ → (at k : ℕ) → ℕ
functions_end library at zero = at
functions_end library at (suc k) = functions_end library (function_end library at) k

-- "name, function count, and for each function .."
unfoldable pub packages_from : List ℕ → (at k : ℕ) → List Package
packages_from library at zero = []
packages_from library at (suc k) =
    pkg (get_or library at 0) (functions_from library (at + 2) (get_or library (at + 1) 0))
    ∷ packages_from library (functions_end library (at + 2) (get_or library (at + 1) 0)) k

unfoldable pub packages_of : List ℕ → List Package
packages_of library = packages_from library (2 + get_or library 0 0) (get_or library 1 0)

-- Finding by name, "Compared byte by byte": the first package of a name
unfoldable pub find_package : Texts → (name : List ℕ) → List Package → Option Package
find_package texts name [] = none
find_package texts name (p ∷ ps) = elim (same_bytes name (name_bytes texts p.name)) [ true ↦ some p | false ↦ find_package texts name ps ]

-- the first function of a name
unfoldable pub find_function : Texts → (name : List ℕ) → List Function → Option Signature
find_function texts name [] = none
find_function texts name (f ∷ fs) = elim (same_bytes name (name_bytes texts f.name)) [ true ↦ some f.sig | false ↦ find_function texts name fs ]

-- all functions of a group name, in order: registered.entry(f.group_name()).or_insert_with(Vec::new).push(f_type)
unfoldable pub group_of : Texts → (name : List ℕ) → List Function → List Signature
group_of texts name [] = []
group_of texts name (f ∷ fs) =
    elim (same_bytes name (name_bytes texts f.name)) [ true ↦ f.sig ∷ group_of texts name fs | false ↦ group_of texts name fs ]
