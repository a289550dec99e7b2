-- The ways out of `put_row` where there is no row, and of `write_part`: a law for each. Assumes nothing.
use Prim.Native.Nat.{ℕ, ◌-◌, ◌+◌, ◌^◌, ◌≤◌, ◌<◌, min}
use mathlib.Core.Path.{◌≡◌, refl, ap, ◌∙◌}
use mathlib.Core.List.{List}
use native.Mathlib.Omega.{arith}
use lib.ListN.{length, drop}
use Rattle.std.specs.Prelude.{Option, None}
use Rattle.std.proofs.Math.Nat.{sub-zero}
use Rattle.std.proofs.Math.Seq.{drop-nil}
use borrow.Author.Tests.{lt-ltb, le-ltb}
use Rattle.ptype.specs.Add.{write}
use Rattle.display.specs.WriteLaws.{length-write, write_nil}
use Rattle.rows_window.specs.declared.WindowWriter.{WindowWriter}
use Rattle.rows_window.specs.Showing.{Shows}
use Rattle.rows_part.specs.declared.Row.{Row}
use Rattle.rows_part.specs.Printing.{Answer, bytes_of, next_at, part_of, room_at, Prints}

-- of no row nothing is written
pub shows-no_row : (a : Answer) (w : WindowWriter) {r : Option Row} → r ≡ None → Shows w w (bytes_of a r)
shows-no_row a w e = rw e (record {
  buffer = refl;
  bytes = rw (drop-nil {A = ℕ} w.window.skip, write_nil w.buffer.now w.window.at);
  skips = rw (sub-zero w.window.skip);
  place = omega arith;
})

-- the buffer o became o', lent to the window w, which is w' now
module _
    (a : Answer) (r : Option Row) {skip : ℕ} {o o' : List ℕ} {w w' : WindowWriter} (p : Shows w w' (bytes_of a r))
    (eo : w.buffer.now ≡ o) (es : w.window.skip ≡ skip) (ea : w.window.at ≡ 0) (eb : o' ≡ w'.buffer.now)
  where
    bytes_are : o' ≡ write o 0 (drop skip (bytes_of a r))
    bytes_are = eb ∙ p.bytes ∙ rw (eo, es, ea)

    many-bytes : w'.window.at ≡ min (length (bytes_of a r) - skip) (length o)
    many-bytes = let l = ap length eo in omega (arith, p.place, es, ea)

    as_long : length o' ≡ length o
    as_long = ap length bytes_are ∙ length-write o 0 (drop skip (bytes_of a r))

    module _ {room n : ℕ} (er : room ≡ min (length w'.buffer.now) (2 ^ 64 - 1 - skip)) (en : n ≡ min w'.window.at room) where
      room-is : room ≡ room_at skip (length o)
      unfolding room_at
      room-is = er ∙ rw (← eb, as_long)

      part-is : n ≡ min (length (bytes_of a r) - skip) room
      part-is = let l = ap length eb in omega (arith, er, en, many-bytes, as_long)

      -- the row ends in the buffer
      pub part-ends : {x : Option Row} → n < room → x ≡ next_at a r → Prints a r skip o o' (record { bytes = n; row = x; skip = 0 })
      unfolding part_of
      part-ends h e = record { buffer = bytes_are; answer = rw (← room-is, ← part-is, lt-ltb n room h, e) }

      -- it does not
      pub part-goes : room ≤ n → Prints a r skip o o' (record { bytes = n; row = r; skip = skip + n })
      unfolding part_of
      part-goes h = record { buffer = bytes_are; answer = rw (← room-is, ← part-is, le-ltb n room h) }
