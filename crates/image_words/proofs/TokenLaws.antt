-- A token of the script text is a good name there. Assumes nothing.
use Prim.Native.Nat.{ℕ}
use mathlib.Core.Path.{◌≡◌, refl}
use mathlib.Core.List.{List}
use Rattle.tok.specs.Token.{token_bytes}
use Rattle.tok.specs.Name.{good_payload, good_name, reads_well, in_script}
use Rattle.image_words.specs.Token.{good_token}

module _ (script : List ℕ) (w : ℕ) where
  pub good_token-name : good_token script w ≡ good_name in_script script w
  unfolding good_token good_name good_payload reads_well token_bytes
  good_token-name = refl
