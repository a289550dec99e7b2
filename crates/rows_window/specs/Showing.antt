-- What is written of a text through a window: the part of it that begins so many bytes from its start, as much as has room. Definitions.
use Rattle.std.specs.Prelude.{ℕ, ◌+◌, ◌-◌, min, ◌≡◌, Bool, ◌&&◌, cond, List, length, drop, eqb, leb, Result, Ok, Err, ⊤}
use Rattle.ptype.specs.Add.{write}
use Rattle.display.specs.declared.Full.{Full}
use Rattle.rows_window.specs.declared.WindowWriter.{WindowWriter}

-- The contract of every writer: w came in, the text s was written, w' is the window now. The same buffer is lent to it still.
-- Of s, the bytes behind those passed over stand in the buffer from the place on, as many as have room; all other bytes stay.
pub record Shows (w w' : WindowWriter) (s : List ℕ) : Type 0 where
  pub buffer : w'.buffer.ghost_name ≡ w.buffer.ghost_name
  pub bytes : w'.buffer.now ≡ write w.buffer.now w.window.at (drop w.window.skip s)
  pub skips : w'.window.skip ≡ w.window.skip - length s
  pub place : w'.window.at ≡ w.window.at + min (length s - w.window.skip) (length w.buffer.now - w.window.at)

-- nothing is passed over any more, and nothing has room
unfoldable pub is_full : WindowWriter → Bool
is_full w = eqb w.window.skip 0 && leb (length w.buffer.now) w.window.at

-- the same as a sink's: what is answered is whether the window is full then
abbrev pub Shown : (w w' : WindowWriter) → (r : Result ⊤ Full) → (s : List ℕ) → Type 0
Shown w w' r s = Shows w w' s × (r ≡ cond (is_full w') (Err (record {})) (Ok tt))
