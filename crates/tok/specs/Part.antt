-- Where a list of names is gone through, a name most often differs where the one before it did: whether a name differs in its length or in one
-- part of 4 bytes, and which part to ask next. Definitions.
use Rattle.std.specs.Prelude.{ℕ, ◌+◌, ◌-◌, min, Bool, cond, not, ◌&&◌, List, eqb, ltb, leb, length, take, drop}
use Rattle.tok.specs.Text.{Texts, name_bytes, same_bytes}

-- the 4 bytes that end `part` bytes before the end, or the first 4
unfoldable pub part_of : (part : ℕ) → List ℕ → List ℕ
part_of part s = take 4 (drop (length s - 4 - min part (length s - 4)) s)

-- whether a name word stands for another name, as far as its length and a part tell. Names of fewer than 4 bytes have no part; parts from 256 on
-- are none ("bits 0 to 7 length"): these tell nothing
unfoldable pub differs_in : Texts → (name : List ℕ) → (w part : ℕ) → Bool
differs_in t name w part =
    let own : List ℕ = name_bytes t w in
    (ltb part 256 && leb 4 (length name)) && not (eqb (length name) (length own) && same_bytes (part_of part name) (part_of part own))

-- after a part in which a name did not differ the one before it; after the first none for 192 names; then the last. So names that differ
-- elsewhere each time are mostly compared whole at once
abbrev pub next_part : ℕ → ℕ
next_part part = cond (ltb part 1024) (part + 4) 0
