-- The candidates of a group (err.rs, `specialisation_miss_error`), by where their signatures begin. Definitions.
use Rattle.std.specs.Prelude.{ℕ, ⊤, List, map, drop, Result}
use Rattle.std.specs.Borrow.{MutBor}
use Rattle.tok.specs.Text.{Texts, text}
use Rattle.ptype.specs.Ty.{Ty}
use Rattle.display.specs.declared.Full.{Full}
use Rattle.display.specs.declared.Writer.{Writer}
use Rattle.display.specs.Joined.{joined, sig}
use Rattle.display.specs.Signature.{arg_types, args_of}
use Rattle.display.specs.Writing.{Writes}

-- c.args.iter().map(|(_, t)| t), of the signature that begins at a place of the words: "argument count, name and type for each argument"
unfoldable pub candidate_at : Texts → (types words : List ℕ) → (start : ℕ) → List Ty
candidate_at texts types words start = arg_types (args_of texts types (drop start words))

-- candidates.iter(), in the order of the places
abbrev pub candidates_at : Texts → (types words starts : List ℕ) → List (List Ty)
candidates_at texts types words starts = map (candidate_at texts types words) starts

-- Any call of a writer writes the argument types of these candidates, joined by ` | `; `post` is what is known after a call.
abbrev pub WritesCandidates : (post : MutBor Writer → Result ⊤ Full → MutBor Writer → Type 0) → List (List Ty) → Type 0
WritesCandidates post cs = (w : MutBor Writer) (r : Result ⊤ Full) (w' : MutBor Writer) → post w r w' → Writes w.now w'.now r (joined (text " | ") (map sig cs))
