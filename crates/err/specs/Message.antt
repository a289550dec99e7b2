-- The 26 diagnostics (document 01, "Codes"; err.rs, and the `format!`s of typecheck/lib.rs). Definitions.
-- "The fixed wording of each message is the Rust's, byte for byte, primary message included."
use Rattle.std.specs.Prelude.{ℕ, List, [], ◌∷◌, ◌++◌, map, get_or}
use Rattle.tok.specs.Text.{Texts, name_bytes, text}
use Rattle.ptype.specs.Ty.{Ty}
use Rattle.ptype.specs.Show.{show, decimal}
use Rattle.display.specs.Joined.{joined, sig}
use Rattle.tok.specs.declared.Span.{Span}
use Rattle.tok.specs.Span.{token_span}
use Rattle.err.specs.declared.CallName.{CallName}
use Rattle.err.specs.declared.CallName.TheVariants.{Own, OfPackage}

pub record Diagnostic : Type 0 where
  pub code : ℕ
  pub span : Span
  pub message : List ℕ
  -- `with_primary_message`; none is no bytes
  pub primary : List ℕ

-- Diagnostic::new(message, span)
abbrev pub at : (code : ℕ) → Span → List ℕ → Diagnostic
at c s m = record { code = c; span = s; message = m; primary = [] }

-- Diagnostic::at_token(message, token)
abbrev pub at_token : (code token : ℕ) → List ℕ → Diagnostic
at_token c w m = at c (token_span w) m

abbrev pub with_primary : Diagnostic → List ℕ → Diagnostic
with_primary d p = record { code = d.code; span = d.span; message = d.message; primary = p }

-- "Operators: 0 to 8 are + - * / % == != < >. A message shows the operator of that number."
unfoldable pub operators : List (List ℕ)
operators = text "+" ∷ text "-" ∷ text "*" ∷ text "/" ∷ text "%" ∷ text "==" ∷ text "!=" ∷ text "<" ∷ text ">" ∷ []

-- `{:?}` of the operator's as_str: in double quotes
unfoldable pub quoted : (op : ℕ) → List ℕ
quoted op = text "\"" ++ get_or operators op [] ++ text "\""

-- The four operator classes: "+ - * / ", "%", "== and !=", "< and >".
unfoldable pub class_of : (op : ℕ) → ℕ
class_of op = get_or (0 ∷ 0 ∷ 0 ∷ 0 ∷ 1 ∷ 2 ∷ 2 ∷ 3 ∷ 3 ∷ []) op 0

-- what an operator of each class wants: the end of "Unsupported type .."
unfoldable pub wanted : (class : ℕ) → List ℕ
wanted class = get_or (text ", want Int or Double" ∷ text ", want Int" ∷ text ", want Int, Bool or Str" ∷ text ", want Int or Double for both sides" ∷ []) class []

-- and the end of "Incompatible types .."
unfoldable pub wanted_both : (class : ℕ) → List ℕ
wanted_both class = get_or ([] ∷ text ", want both sides Int" ∷ text ", want both sides Int, Bool or Str" ∷ [] ∷ []) class []

-- a name between backquotes
abbrev pub ticked : List ℕ → List ℕ
ticked name = text "`" ++ name ++ text "`"

-- impl Display for CallName, of a package's function: write!(f, "{pkg}.")?; f.write_str(self.name)
unfoldable pub pkg_name : (pkg name : List ℕ) → List ℕ
pkg_name pkg name = pkg ++ text "." ++ name

-- and of either: each name by its word
unfoldable pub call_name : Texts → CallName → List ℕ
call_name texts (Own name) = name_bytes texts name
call_name texts (OfPackage pkg name) = pkg_name (name_bytes texts pkg) (name_bytes texts name)

-- 1 empty array
unfoldable pub empty_array : (token : ℕ) → Diagnostic
empty_array token = with_primary (at_token 1 token (text "Can not infer the element type of an empty array")) (text "empty array")

-- 2 members differ: "Array members must all have the same type, expected {first_type} but got {ty}", "this member is of type {ty}"
unfoldable pub members_differ : Span → (first ty : Ty) → Diagnostic
members_differ span first ty =
    with_primary (at 2 span (text "Array members must all have the same type, expected " ++ show first ++ text " but got " ++ show ty))
    (text "this member is of type " ++ show ty)

-- 3 binding: "binding `{inner_name}` not found"
unfoldable pub no_binding : (token : ℕ) → (name : List ℕ) → Diagnostic
no_binding token name = at_token 3 token (text "binding " ++ ticked name ++ text " not found")

-- 4 unsupported operands: "Unsupported type {} for {:?}, want .."
unfoldable pub unsupported : (token op : ℕ) → Ty → Diagnostic
unsupported token op left = at_token 4 token (text "Unsupported type " ++ show left ++ text " for " ++ quoted op ++ wanted (class_of op))

-- 5 incompatible operands: "Incompatible types {} and {} for {:?}.."
unfoldable pub incompatible : (token op : ℕ) → (left right : Ty) → Diagnostic
incompatible token op left right =
    at_token 5 token (text "Incompatible types " ++ show left ++ text " and " ++ show right ++ text " for " ++ quoted op ++ wanted_both (class_of op))

-- 6 unary: "Unary {:?} requires Int or Double, got {}"
unfoldable pub bad_unary : (token op : ℕ) → Ty → Diagnostic
bad_unary token op inner = at_token 6 token (text "Unary " ++ quoted op ++ text " requires Int or Double, got " ++ show inner)

-- 7 let of Void
unfoldable pub let_void : (name : ℕ) → Diagnostic
let_void name = at_token 7 name (text "RHS of let has to return a value, but it didnt")

-- 8 defined already: "`{inner_name}` is already defined"
unfoldable pub defined_already : (token : ℕ) → (name : List ℕ) → Diagnostic
defined_already token name = at_token 8 token (ticked name ++ text " is already defined")

-- 9 return: "`{inner_name}` should return {ret}, but returns {}", at the return type's token
unfoldable pub bad_return : (token : ℕ) → (name : List ℕ) → (ret computed : Ty) → Diagnostic
bad_return token name ret computed = at_token 9 token (ticked name ++ text " should return " ++ show ret ++ text ", but returns " ++ show computed)

-- 10 redundant cast: redundant_cast_error, "Can not cast {ty} to {ty}", "unnecessary cast"
unfoldable pub redundant_cast : (token : ℕ) → Ty → Diagnostic
redundant_cast token ty = with_primary (at_token 10 token (text "Can not cast " ++ show ty ++ text " to " ++ show ty)) (text "unnecessary cast")

-- 11 cast: "Can not cast {i} to {o}"
unfoldable pub bad_cast : (token : ℕ) → (from to : Ty) → Diagnostic
bad_cast token from to = at_token 11 token (text "Can not cast " ++ show from ++ text " to " ++ show to)

-- 12 no record: "{} can not be indexed in this way"
unfoldable pub no_record : (name : ℕ) → Ty → Diagnostic
no_record name ty = at_token 12 name (show ty ++ text " can not be indexed in this way")

-- 13 no field: "{} does not have a field called {idx_path_end}"
unfoldable pub no_field_of : (token : ℕ) → Ty → (name : List ℕ) → Diagnostic
no_field_of token ty name = at_token 13 token (show ty ++ text " does not have a field called " ++ name)

-- 14 call through a field
unfoldable pub call_through_field : (name : ℕ) → Diagnostic
call_through_field name = at_token 14 name (text "only package functions can be called through field syntax")

-- 15 package at call: missing_package_error, "Can't find package `{pkg_name}`", "package used here"
unfoldable pub missing_package : (token : ℕ) → (pkg : List ℕ) → Diagnostic
missing_package token pkg = with_primary (at_token 15 token (text "Can't find package " ++ ticked pkg)) (text "package used here")

-- 16 undefined function (package): "Call to undefined function `{pkg_name}.{inner_name}`"
unfoldable pub undefined_in_package : (token : ℕ) → (call_name : List ℕ) → Diagnostic
undefined_in_package token call_name = at_token 16 token (text "Call to undefined function " ++ ticked call_name)

-- 17 undefined function (own): "Call to undefined function `{inner_name}`"
unfoldable pub undefined_own : (token : ℕ) → (name : List ℕ) → Diagnostic
undefined_own token name = at_token 17 token (text "Call to undefined function " ++ ticked name)

-- 18 no specialisation: "no specialisation of `{pkg_name}.{inner_name}` accepts ({}); available: {avail}"
unfoldable pub no_specialisation : (token : ℕ) → (call_name : List ℕ) → (provided : List Ty) → (candidates : List (List Ty)) → Diagnostic
no_specialisation token call_name provided candidates =
    at_token 18 token (text "no specialisation of " ++ ticked call_name ++ text " accepts (" ++ sig provided ++ text "); available: " ++ joined (text " | ") (map sig candidates))

-- 19 argument count: "`{}` requires {} arguments, got {}"
unfoldable pub argument_count : (token : ℕ) → (call_name : List ℕ) → (wanted got : ℕ) → Diagnostic
argument_count token call_name wanted got = at_token 19 token (ticked call_name ++ text " requires " ++ decimal wanted ++ text " arguments, got " ++ decimal got)

-- 20 argument: arg_mismatch, "`{display_name}` expected {arg_name}:{expected}, got {arg_name}:{provided} instead", "this argument is of type {provided}"
unfoldable pub arg_mismatch : Span → (call_name argName : List ℕ) → (expected provided : Ty) → Diagnostic
arg_mismatch span call_name argName expected provided =
    with_primary
    (at 20 span (ticked call_name ++ text " expected " ++ argName ++ text ":" ++ show expected ++ text ", got " ++ argName ++ text ":" ++ show provided ++ text " instead"))
    (text "this argument is of type " ++ show provided)

-- 21 slot conflict: "`{display_name}` can not bind {slot} to {new}, it is already bound to {existing}", "this argument binds {slot} to {new}"
unfoldable pub slot_conflict : Span → (call_name slot : List ℕ) → (existing new : Ty) → Diagnostic
slot_conflict span call_name slot existing new =
    with_primary (at 21 span (ticked call_name ++ text " can not bind " ++ slot ++ text " to " ++ show new ++ text ", it is already bound to " ++ show existing))
    (text "this argument binds " ++ slot ++ text " to " ++ show new)

-- 22 slot of Void: "`{display_name}` can not bind {slot} to Void", "this argument is of type Void"
unfoldable pub slot_void : Span → (call_name slot : List ℕ) → Diagnostic
slot_void span call_name slot =
    with_primary (at 22 span (ticked call_name ++ text " can not bind " ++ slot ++ text " to Void")) (text "this argument is of type Void")

-- 23 condition: "Match conditions must be Bool, got {} instead"
unfoldable pub bad_condition : (token : ℕ) → Ty → Diagnostic
bad_condition token ty = at_token 23 token (text "Match conditions must be Bool, got " ++ show ty ++ text " instead")

-- 24 match cases: "Match cases must resolve to the same type, but got {} and {}"
unfoldable pub match_cases : (token : ℕ) → (default ty : Ty) → Diagnostic
match_cases token default ty = at_token 24 token (text "Match cases must resolve to the same type, but got " ++ show default ++ text " and " ++ show ty)

-- 25 empty import
unfoldable pub empty_import : (token : ℕ) → Diagnostic
empty_import token = at_token 25 token (text "Import without any paths to import is considered invalid")

-- 26 import: "Wasnt able to find a package named `{pkg_name}`"
unfoldable pub no_import : (path : ℕ) → (pkg : List ℕ) → Diagnostic
no_import path pkg = at_token 26 path (text "Wasnt able to find a package named " ++ ticked pkg)
