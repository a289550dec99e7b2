-- What the pieces of a message say, one after the other (the `format!`s of err.rs and typecheck/lib.rs). Definitions.
use Rattle.std.specs.Prelude.{ℕ, List, [], ◌∷◌, ◌++◌}
use Rattle.tok.specs.Text.{name_bytes}
use Rattle.ptype.specs.Types.{type_at}
use Rattle.ptype.specs.Show.{show, decimal}
use Rattle.err.specs.Message.{ticked, call_name, quoted, class_of, wanted, wanted_both}
use Rattle.err_text.specs.declared.Piece.{Piece}
use Rattle.err_text.specs.declared.Piece.TheVariants.{Text, Name, Ticked, Call, TypeOf, Number, Operator, Wanted, WantedBoth}

unfoldable pub text_of : Piece → List ℕ
text_of (Text s) = s.now
text_of (Name texts name) = name_bytes texts.now name
text_of (Ticked texts name) = ticked (name_bytes texts.now name)
text_of (Call texts callee) = ticked (call_name texts.now callee)
text_of (TypeOf types word) = show (type_at types.now word)
text_of (Number n) = decimal n
text_of (Operator op) = quoted op
text_of (Wanted op) = wanted (class_of op)
text_of (WantedBoth op) = wanted_both (class_of op)

-- the text before, and that of the pieces after it
unfoldable pub said_after : (before : List ℕ) → List Piece → List ℕ
said_after before [] = before
said_after before (p ∷ ps) = said_after (before ++ text_of p) ps

unfoldable pub said : List Piece → List ℕ
said [] = []
said (p ∷ ps) = said_after (text_of p) ps
