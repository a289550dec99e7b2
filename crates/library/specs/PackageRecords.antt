-- Reading the library's packages and functions (document 01, "Words"). Definitions.
use Rattle.std.specs.Prelude.{ℕ, zero, suc, ◌*◌, Bool, true, false, not, ◌&&◌, ◌||◌, List, [], ◌∷◌, ◌++◌, map, ltb, eqb}
use Rattle.tok.specs.Text.{Texts, name_bytes, same_bytes}
use Rattle.tok.specs.Name.{good_name, in_library}
use Rattle.tok.specs.Step.{◌>>=◌, return}
use Rattle.tok.specs.Reader.{Read, word, owing, many}
use Rattle.library.specs.Pool.{Pool, good_type, name}
use Rattle.library.specs.Slots.{no_slot, return_stands}
use Rattle.library.specs.Package.{Param, param, signature, Function, function, Package, pkg}

unfoldable pub any_function : (Function → Bool) → List Function → Bool
any_function test [] = false
any_function test (f ∷ fs) = test f || any_function test fs

abbrev pub same_group : Texts → ℕ → Function → Bool
same_group t group f = same_bytes (name_bytes t group) (name_bytes t f.name)

-- "A group of several in one package has flag 0." `before` are the package's functions so far. The name offends where an
-- earlier one of the group has flag 1 ..
unfoldable pub good_group : Pool → (before : List Function) → (group : ℕ) → Bool
good_group p before group =
    good_name in_library p.texts.library group && not (any_function (λ f. same_group p.texts group f && f.sig.with_slots) before)

-- .. else the flag where it is 1 itself. "a flag (1 has slots, 0 not)"
unfoldable pub good_flag : Pool → (before : List Function) → (group flag : ℕ) → Bool
good_flag p before group flag = ltb flag 2 && (eqb flag 0 || not (any_function (same_group p.texts group) before))

-- "A type outside the pool may refer to any pool index." "Slots stand only under flag 1"
unfoldable pub good_signature_type : Pool → (flag : ℕ) → ℕ → Bool
good_signature_type p flag w = good_type p p.size w && (eqb flag 1 || no_slot p w)

unfoldable pub argument : Pool → (flag : ℕ) → Read Param
argument p flag = do
  n ← name p
  t ← word (good_signature_type p flag)
  return (param n t)

unfoldable pub good_return : Pool → (flag : ℕ) → List Param → ℕ → Bool
good_return p flag args w = good_signature_type p flag w && return_stands p (map (λ a. a.type) args) w

-- A function has four words at least: its count owes two more for each argument.
unfoldable pub function_record : Pool → (before : List Function) → Read Function
function_record p before = do
  group ← word (good_group p before)
  flag ← word (good_flag p before group)
  count ← owing (λ _. true) (λ n. 2 * n)
  args ← many count (argument p flag)
  ret ← word (good_return p flag args)
  return (function group (signature args ret (eqb flag 1)))

unfoldable pub function_records : Pool → (count : ℕ) → (before : List Function) → Read (List Function)
function_records p zero before = return before
function_records p (suc count) before = do
  f ← function_record p before
  function_records p count (before ++ (f ∷ []))

-- A package has two words at least: its count owes four more for each function.
unfoldable pub package_record : Pool → Read Package
package_record p = do
  n ← name p
  count ← owing (λ _. true) (λ k. 4 * k)
  fs ← function_records p count []
  return (pkg n fs)
