-- What types are read from: the words of a types buffer, and the texts that hold their names. Definitions.
use Rattle.std.specs.Prelude.{ℕ}
use Rattle.ptype.specs.Ty.{Ty}
use Rattle.ptype.specs.Words.{unfolded, ty_of}
use Rattle.ptype.specs.declared.Types.{Types}

-- what a word stands for, as deep as the first number says
abbrev pub type_within : Types → (deep : ℕ) → (word : ℕ) → Ty
type_within t = unfolded t.texts.now t.words.now

-- what a word stands for
abbrev pub type_at : Types → (word : ℕ) → Ty
type_at t = ty_of t.texts.now t.words.now
