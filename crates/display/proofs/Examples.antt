-- Worked examples, by computing the definitions.
use Prim.Native.Nat.{ℕ}
use mathlib.Core.Path.{◌≡◌, refl}
use mathlib.Core.List.{List, [], ◌∷◌}
use Rattle.tok.specs.Text.{texts_of, name_bytes, text}
use Rattle.ptype.specs.Add.{overwrite, write}
use Rattle.ptype.specs.Ty.{int_ty, str_ty, option_ty, array_ty, unknown_ty, no_field, field, rec}
use Rattle.ptype.specs.Words.{ways, fields_from, unfolded, ty_of}
use Rattle.ptype.specs.Show.{plain_names, openings, closings, gap, show, digits, decimal}
use Rattle.std.specs.Prelude.{Ok, Err}
use Rattle.display.specs.Writing.{written}
use Rattle.display.specs.Joined.{each_after, joined, sig}
use Rattle.display.specs.Signature.{show_signature, arg_types, args_of, ret_of}

-- ---- writing: a text that fits, one that does not, one that fills the buffer, and one past its end
fits : written (text "......") 2 (text "abc") ≡ (Ok tt, (text "..abc.", 5))
unfolding written overwrite write text
fits = refl

front : written (text "....") 2 (text "abc") ≡ (Err (record {}), (text "..ab", 4))
unfolding written overwrite write text
front = refl

to_the_end : written (text ".....") 2 (text "abc") ≡ (Ok tt, (text "..abc", 5))
unfolding written overwrite write text
to_the_end = refl

past_the_end : written (text "..") 3 (text "abc") ≡ (Err (record {}), (text "..", 3))
unfolding written overwrite write text
past_the_end = refl

-- ---- the texts
record_text : show (rec (field (text "a") (array_ty (option_ty int_ty)) (field (text "bc") unknown_ty no_field))) ≡ text "Record<a: Array<Option<Int>> bc: unknown>"
unfolding show plain_names openings closings gap text
record_text = refl

signature-text : show_signature (field (text "a") int_ty (field (text "b") str_ty no_field)) int_ty ≡ text "(a: Int b: Str) -> Int"
unfolding show_signature show plain_names openings closings gap text
signature-text = refl

-- the entry `f 2 a Int b Foreign<c> Void` of a functions buffer, without its name
entry : List ℕ
entry = 2 ∷ 0xC0000001 ∷ 0x30000000 ∷ 0xC0000101 ∷ 0x90000201 ∷ 0x10000000 ∷ []

entry-text : show_signature (args_of (texts_of (text "abc") []) [] entry) (ret_of (texts_of (text "abc") []) [] entry) ≡ text "(a: Int b: Foreign<c>) -> Void"
unfolding entry show_signature show plain_names openings closings gap text ty_of unfolded ways fields_from name_bytes
entry-text = refl

entry-types : sig (arg_types (args_of (texts_of (text "abc") []) [] entry)) ≡ text "Int, Foreign<c>"
unfolding entry sig joined each_after arg_types show plain_names openings closings text ty_of unfolded ways fields_from name_bytes
entry-types = refl

no-types : sig [] ≡ []
unfolding sig joined
no-types = refl

-- ---- numbers
zero-text : decimal 0 ≡ text "0"
unfolding decimal digits text
zero-text = refl

ten_text : decimal 10 ≡ text "10"
unfolding decimal digits text
ten_text = refl

largest_text : decimal 4294967295 ≡ text "4294967295"
unfolding decimal digits text
largest_text = refl
