-- What a writer does to the buffer that is lent to it, and what it answers. Definitions.
use Rattle.std.specs.Prelude.{ℕ, ◌+◌, max, ◌≡◌, cond, List, length, leb, Result, Ok, Err, ⊤}
use Rattle.ptype.specs.Add.{write}
use Rattle.display.specs.declared.Full.{Full}
use Rattle.display.specs.declared.Writer.{Writer}

-- What is answered, the buffer and the place of the next text.
abbrev pub Written : Type 0
Written = Result ⊤ Full × (List ℕ × ℕ)

-- The text from the place on, as much of its front as has room; all other bytes stay. The next text goes behind it; where it had not room, at the end.
unfoldable pub written : (buffer : List ℕ) → (at : ℕ) → (text : List ℕ) → Written
written o n s =
    cond (leb (n + length s) (length o))
    (Ok tt, (write o n s, n + length s))
    (Err (record {}), (write o n s, max n (length o)))

-- The contract of every writer: w came in, the text s was written, w' and r are the writer now and the answer. The same buffer is lent to it still.
abbrev pub Writes : (w w' : Writer) → (r : Result ⊤ Full) → (text : List ℕ) → Type 0
Writes w w' r s = (w'.buffer.ghost_name ≡ w.buffer.ghost_name) × ((r, (w'.buffer.now, w'.at)) ≡ written w.buffer.now w.at s)
