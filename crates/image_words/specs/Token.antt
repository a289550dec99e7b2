-- Which words are names or tokens of the script text (document 01, "Words"). Definitions.
use Rattle.std.specs.Prelude.{ℕ, Bool, ◌&&◌, List, eqb}
use Rattle.utf8.specs.Rfc3629.{well_formed}
use Rattle.tok.specs.Word.{kind_of, name_bit, name_rest}
use Rattle.tok.specs.Token.{token_bytes}
use Rattle.tok.specs.Name.{lies_in, in_script}

-- "A token's bytes are a part of the script text itself": they are tried where they stand. "Each must lie in its text and be well-formed UTF-8."
unfoldable pub good_token : (script : List ℕ) → (word : ℕ) → Bool
good_token script w = eqb (kind_of w) 12 && (eqb (name_rest w) 0 && eqb (name_bit w) in_script && lies_in script w && well_formed (token_bytes script w))
