-- "names are read, and messages written, only as UTF-8 well formed by it [RFC 3629]": of each of the 26 diagnostics, message and primary
-- message are well formed whenever the names in it are. Each is put together of pieces that are. Assumes nothing.
use Rattle.std.specs.Prelude.{ℕ, zero, suc, ◌≡◌, refl, Bool, true, ◌&&◌, List, [], ◌∷◌, map, get_or}
use Rattle.facts.specs.Tests.{both}
use Rattle.utf8.specs.Rfc3629.{Octets, none, well_formed}
use Rattle.utf8.proofs.Laws.{ascii_octets, octets_of, well-of, ◌then◌}
use Rattle.tok.specs.Text.{text}
use Rattle.tok.specs.declared.Span.{Span}
use Rattle.ptype.specs.Ty.{Ty}
use Rattle.display.specs.NamesWellFormed.{names_well_formed, all_well_formed}
use Rattle.display.specs.Joined.{sig}
use Rattle.display.specs.WellFormedLaws.{show_octets, decimal_octets, sig_octets, Each, no_piece, piece, joined_octets}
use Rattle.err.specs.Message.{Diagnostic, operators, quoted, class_of, wanted, wanted_both, ticked, pkg_name, empty_array, members_differ, no_binding, unsupported}
use Rattle.err.specs.Message.{incompatible, bad_unary, let_void, defined_already, bad_return, redundant_cast}
use Rattle.err.specs.Message.{bad_cast, no_record, no_field_of, call_through_field, missing_package, undefined_in_package}
use Rattle.err.specs.Message.{undefined_own, no_specialisation, argument_count, arg_mismatch, slot_conflict, slot_void, bad_condition, match_cases, empty_import, no_import}

-- ---- the statement
pub record WellFormed (d : Diagnostic) : Type 0 where
  pub message : well_formed d.message ≡ true
  pub primary : well_formed d.primary ≡ true

-- a name, a type's names, and those of several types
abbrev pub Name : List ℕ → Type 0
Name n = well_formed n ≡ true

abbrev pub Names : Ty → Type 0
Names t = names_well_formed t ≡ true

abbrev pub AllNames : List Ty → Type 0
AllNames ts = all_well_formed ts ≡ true

-- of each candidate's arguments
unfoldable pub candidates_well_formed : List (List Ty) → Bool
candidates_well_formed [] = true
candidates_well_formed (c ∷ cs) = all_well_formed c && candidates_well_formed cs

-- ---- pieces
said : {d : Diagnostic} → Octets d.message → Octets d.primary → WellFormed d
said m p = record { message = well-of m; primary = well-of p }

ticked_octets : (n : List ℕ) → Name n → Octets (ticked n)
unfolding text
ticked_octets n e = ascii_octets (text "`") refl then octets_of n e then ascii_octets (text "`") refl

pub pkg_name-well : (pkg name : List ℕ) → Name pkg → Name name → Name (pkg_name pkg name)
unfolding pkg_name text
pkg_name-well pkg name e f = well-of (octets_of pkg e then ascii_octets (text ".") refl then octets_of name f)

-- an entry of a table of well-formed pieces
entry_octets : {ss : List (List ℕ)} → Each ss → (k : ℕ) → Octets (get_or ss k [])
entry_octets no_piece k = none
entry_octets (piece o os) zero = o
entry_octets (piece o os) (suc k) = entry_octets os k

operators-each : Each operators
unfolding operators text
operators-each =
    piece (ascii_octets (text "+") refl) (piece (ascii_octets (text "-") refl) (piece (ascii_octets (text "*") refl)
    (piece (ascii_octets (text "/") refl) (piece (ascii_octets (text "%") refl) (piece (ascii_octets (text "==") refl)
    (piece (ascii_octets (text "!=") refl) (piece (ascii_octets (text "<") refl) (piece (ascii_octets (text ">") refl) no_piece))))))))

quoted_octets : (op : ℕ) → Octets (quoted op)
unfolding quoted text
quoted_octets op = ascii_octets (text "\"") refl then entry_octets operators-each op then ascii_octets (text "\"") refl

wanted_octets : (class : ℕ) → Octets (wanted class)
unfolding wanted text
wanted_octets class =
    entry_octets
    (piece (ascii_octets (text ", want Int or Double") refl) (piece (ascii_octets (text ", want Int") refl)
    (piece (ascii_octets (text ", want Int, Bool or Str") refl) (piece (ascii_octets (text ", want Int or Double for both sides") refl) no_piece)))) class

wanted_both_octets : (class : ℕ) → Octets (wanted_both class)
unfolding wanted_both text
wanted_both_octets class =
    entry_octets
    (piece none (piece (ascii_octets (text ", want both sides Int") refl) (piece (ascii_octets (text ", want both sides Int, Bool or Str") refl) (piece none no_piece)))) class

sigs_octets : (cs : List (List Ty)) → candidates_well_formed cs ≡ true → Each (map sig cs)
unfolding candidates_well_formed
sigs_octets [] e = no_piece
sigs_octets (c ∷ cs) e = let p = both (all_well_formed c) (candidates_well_formed cs) e in piece (sig_octets c p.0) (sigs_octets cs p.1)

-- ---- the 26
pub empty_array-well : (token : ℕ) → WellFormed (empty_array token)
unfolding empty_array text
empty_array-well token = said (ascii_octets (text "Can not infer the element type of an empty array") refl) (ascii_octets (text "empty array") refl)

pub members_differ-well : (span : Span) (first : Ty) (ty : Ty) → Names first → Names ty → WellFormed (members_differ span first ty)
unfolding members_differ text
members_differ-well span first ty e f =
    said (ascii_octets (text "Array members must all have the same type, expected ") refl then show_octets first e
    then ascii_octets (text " but got ") refl then show_octets ty f)
    (ascii_octets (text "this member is of type ") refl then show_octets ty f)

pub no_binding-well : (token : ℕ) (name : List ℕ) → Name name → WellFormed (no_binding token name)
unfolding no_binding text
no_binding-well token name e = said (ascii_octets (text "binding ") refl then ticked_octets name e then ascii_octets (text " not found") refl) none

pub unsupported-well : (token : ℕ) (op : ℕ) (left : Ty) → Names left → WellFormed (unsupported token op left)
unfolding unsupported text
unsupported-well token op left e =
    said (ascii_octets (text "Unsupported type ") refl then show_octets left e then ascii_octets (text " for ") refl then quoted_octets op
    then wanted_octets (class_of op)) none

pub incompatible-well : (token : ℕ) (op : ℕ) (left : Ty) (right : Ty) → Names left → Names right → WellFormed (incompatible token op left right)
unfolding incompatible text
incompatible-well token op left right e f =
    said (ascii_octets (text "Incompatible types ") refl then show_octets left e then ascii_octets (text " and ") refl then show_octets right f
    then ascii_octets (text " for ") refl then quoted_octets op then wanted_both_octets (class_of op)) none

pub bad_unary-well : (token : ℕ) (op : ℕ) (inner : Ty) → Names inner → WellFormed (bad_unary token op inner)
unfolding bad_unary text
bad_unary-well token op inner e =
    said (ascii_octets (text "Unary ") refl then quoted_octets op then ascii_octets (text " requires Int or Double, got ") refl then show_octets inner e) none

pub let_void-well : (name : ℕ) → WellFormed (let_void name)
unfolding let_void text
let_void-well name = said (ascii_octets (text "RHS of let has to return a value, but it didnt") refl) none

pub defined_already-well : (token : ℕ) (name : List ℕ) → Name name → WellFormed (defined_already token name)
unfolding defined_already text
defined_already-well token name e = said (ticked_octets name e then ascii_octets (text " is already defined") refl) none

pub bad_return-well : (token : ℕ) (name : List ℕ) (ret : Ty) (computed : Ty) → Name name → Names ret → Names computed → WellFormed (bad_return token name ret computed)
unfolding bad_return text
bad_return-well token name ret computed e f g =
    said (ticked_octets name e then ascii_octets (text " should return ") refl then show_octets ret f then ascii_octets (text ", but returns ") refl
    then show_octets computed g) none

pub redundant_cast-well : (token : ℕ) (ty : Ty) → Names ty → WellFormed (redundant_cast token ty)
unfolding redundant_cast text
redundant_cast-well token ty e =
    said (ascii_octets (text "Can not cast ") refl then show_octets ty e then ascii_octets (text " to ") refl
    then show_octets ty e) (ascii_octets (text "unnecessary cast") refl)

pub bad_cast-well : (token : ℕ) (from : Ty) (to : Ty) → Names from → Names to → WellFormed (bad_cast token from to)
unfolding bad_cast text
bad_cast-well token from to e f = said (ascii_octets (text "Can not cast ") refl then show_octets from e then ascii_octets (text " to ") refl then show_octets to f) none

pub no_record-well : (name : ℕ) (ty : Ty) → Names ty → WellFormed (no_record name ty)
unfolding no_record text
no_record-well name ty e = said (show_octets ty e then ascii_octets (text " can not be indexed in this way") refl) none

pub no_field_of-well : (token : ℕ) (ty : Ty) (name : List ℕ) → Names ty → Name name → WellFormed (no_field_of token ty name)
unfolding no_field_of text
no_field_of-well token ty name e f = said (show_octets ty e then ascii_octets (text " does not have a field called ") refl then octets_of name f) none

pub call_through_field-well : (name : ℕ) → WellFormed (call_through_field name)
unfolding call_through_field text
call_through_field-well name = said (ascii_octets (text "only package functions can be called through field syntax") refl) none

pub missing_package-well : (token : ℕ) (pkg : List ℕ) → Name pkg → WellFormed (missing_package token pkg)
unfolding missing_package text
missing_package-well token pkg e = said (ascii_octets (text "Can't find package ") refl then ticked_octets pkg e) (ascii_octets (text "package used here") refl)

pub undefined_in_package-well : (token : ℕ) (call_name : List ℕ) → Name call_name → WellFormed (undefined_in_package token call_name)
unfolding undefined_in_package text
undefined_in_package-well token call_name e = said (ascii_octets (text "Call to undefined function ") refl then ticked_octets call_name e) none

pub undefined_own-well : (token : ℕ) (name : List ℕ) → Name name → WellFormed (undefined_own token name)
unfolding undefined_own text
undefined_own-well token name e = said (ascii_octets (text "Call to undefined function ") refl then ticked_octets name e) none

pub no_specialisation-well : (token : ℕ) (call_name : List ℕ) (provided : List Ty) (candidates : List (List Ty)) →
    Name call_name → AllNames provided → candidates_well_formed candidates ≡ true → WellFormed (no_specialisation token call_name provided candidates)
unfolding no_specialisation text
no_specialisation-well token call_name provided candidates e f g =
    said (ascii_octets (text "no specialisation of ") refl then ticked_octets call_name e then ascii_octets (text " accepts (") refl
    then sig_octets provided f then ascii_octets (text "); available: ") refl
    then joined_octets (ascii_octets (text " | ") refl) (sigs_octets candidates g)) none

pub argument_count-well : (token : ℕ) (call_name : List ℕ) (required : ℕ) (given : ℕ) → Name call_name → WellFormed (argument_count token call_name required given)
unfolding argument_count text
argument_count-well token call_name required given e =
    said (ticked_octets call_name e then ascii_octets (text " requires ") refl then decimal_octets required
    then ascii_octets (text " arguments, got ") refl then decimal_octets given) none

pub arg_mismatch-well : (span : Span) (call_name : List ℕ) (argName : List ℕ) (expected : Ty) (provided : Ty) →
    Name call_name → Name argName → Names expected → Names provided → WellFormed (arg_mismatch span call_name argName expected provided)
unfolding arg_mismatch text
arg_mismatch-well span call_name argName expected provided e f g h =
    said (ticked_octets call_name e then ascii_octets (text " expected ") refl then octets_of argName f then ascii_octets (text ":") refl
    then show_octets expected g then ascii_octets (text ", got ") refl then octets_of argName f then ascii_octets (text ":") refl then show_octets provided h then ascii_octets (text " instead") refl)
    (ascii_octets (text "this argument is of type ") refl then show_octets provided h)

pub slot_conflict-well : (span : Span) (call_name : List ℕ) (slot : List ℕ) (existing : Ty) (new : Ty) →
    Name call_name → Name slot → Names existing → Names new → WellFormed (slot_conflict span call_name slot existing new)
unfolding slot_conflict text
slot_conflict-well span call_name slot existing new e f g h =
    said (ticked_octets call_name e then ascii_octets (text " can not bind ") refl then octets_of slot f then ascii_octets (text " to ") refl
    then show_octets new h then ascii_octets (text ", it is already bound to ") refl then show_octets existing g)
    (ascii_octets (text "this argument binds ") refl then octets_of slot f then ascii_octets (text " to ") refl then show_octets new h)

pub slot_void-well : (span : Span) (call_name : List ℕ) (slot : List ℕ) → Name call_name → Name slot → WellFormed (slot_void span call_name slot)
unfolding slot_void text
slot_void-well span call_name slot e f =
    said (ticked_octets call_name e then ascii_octets (text " can not bind ") refl then octets_of slot f then ascii_octets (text " to Void") refl)
    (ascii_octets (text "this argument is of type Void") refl)

pub bad_condition-well : (token : ℕ) (ty : Ty) → Names ty → WellFormed (bad_condition token ty)
unfolding bad_condition text
bad_condition-well token ty e = said (ascii_octets (text "Match conditions must be Bool, got ") refl then show_octets ty e then ascii_octets (text " instead") refl) none

pub match_cases-well : (token : ℕ) (default : Ty) (ty : Ty) → Names default → Names ty → WellFormed (match_cases token default ty)
unfolding match_cases text
match_cases-well token default ty e f =
    said (ascii_octets (text "Match cases must resolve to the same type, but got ") refl then show_octets default e
    then ascii_octets (text " and ") refl then show_octets ty f) none

pub empty_import-well : (token : ℕ) → WellFormed (empty_import token)
unfolding empty_import text
empty_import-well token = said (ascii_octets (text "Import without any paths to import is considered invalid") refl) none

pub no_import-well : (path : ℕ) (pkg : List ℕ) → Name pkg → WellFormed (no_import path pkg)
unfolding no_import text
no_import-well path pkg e = said (ascii_octets (text "Wasnt able to find a package named ") refl then ticked_octets pkg e) none
