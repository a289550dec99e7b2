-- Document 01's "wrong readings", each with a row that tells it from the right one, as a table beside rows (a) to (k). Assumes nothing.
use mathlib.Core.Path.{◌≡◌, refl}
use mathlib.Core.List.{List, [], ◌∷◌, map, ◌++◌}
use Rattle.tok.specs.Text.{text}
use Rattle.rules.specs.Run.{rows_run}
use Rattle.rules.proofs.Row.{Row, computed, expected_of}

-- "A poisoned array member ends the visits" is wrong: the member after it is visited, and reports 5
poisoned-member-row : Row
poisoned-member-row = record {
  script = text "[1, [], 1 + 2.0]";
  image =
      -- counts N T R V
      (6 ∷ 0 ∷ 1 ∷ 6
      -- roots
      ∷ 5
      -- node 0, Atom
      ∷ 4 ∷ 0 ∷ 0xC0000101 ∷ 3
      -- node 1, Array
      ∷ 0xD0000003 ∷ 1 ∷ 0xC0000401
      -- node 2, Atom
      ∷ 4 ∷ 2 ∷ 0xC0000801 ∷ 3
      -- node 3, Atom
      ∷ 4 ∷ 3 ∷ 0xC0000C03 ∷ 4
      -- node 4, Bin
      ∷ 0x20000006 ∷ 4 ∷ 0xC0000A01 ∷ 0 ∷ 2 ∷ 3
      -- node 5, Array
      ∷ 0xD0000006 ∷ 5 ∷ 0xC0000001 ∷ 0 ∷ 1 ∷ 4
      ∷ []);
  expected =
      text "slot 0 Int\nslot 2 Int\nslot 3 Double\nslot 6 Void\ndiag 1 4 1 Can not infer the element type of an empty array\ndiag 5 10 1 Incompatible types Int and Double for \"+\"\nend 2\n";
}

-- "Record fields compare in any order" is wrong: these members differ, 2
field-order-row : Row
field-order-row = record {
  script = text "[{ a: 1, b: 2.0 }, { b: 2.0, a: 1 }]";
  image =
      -- counts N T R V
      (7 ∷ 0 ∷ 1 ∷ 7
      -- roots
      ∷ 6
      -- node 0, Atom
      ∷ 4 ∷ 0 ∷ 0xC0000601 ∷ 3
      -- node 1, Atom
      ∷ 4 ∷ 1 ∷ 0xC0000C03 ∷ 4
      -- node 2, Record
      ∷ 0xC0000007 ∷ 2 ∷ 0xC0000101 ∷ 0xC0000301 ∷ 0 ∷ 0xC0000901 ∷ 1
      -- node 3, Atom
      ∷ 4 ∷ 3 ∷ 0xC0001803 ∷ 4
      -- node 4, Atom
      ∷ 4 ∷ 4 ∷ 0xC0002001 ∷ 3
      -- node 5, Record
      ∷ 0xC0000007 ∷ 5 ∷ 0xC0001301 ∷ 0xC0001501 ∷ 3 ∷ 0xC0001D01 ∷ 4
      -- node 6, Array
      ∷ 0xD0000005 ∷ 6 ∷ 0xC0000001 ∷ 2 ∷ 5
      ∷ []);
  expected =
      text "slot 0 Int\nslot 1 Double\nslot 2 Record<a: Int b: Double>\nslot 3 Double\nslot 4 Int\nslot 5 Record<b: Double a: Int>\nslot 7 Void\n"
      ++ text "diag 2 19 14 Array members must all have the same type, expected Record<a: Int b: Double> but got Record<b: Double a: Int>\nend 1\n";
}

-- "A cast to the same type poisons" is wrong: it is Int, and so is the sum
same-cast-row : Row
same-cast-row = record {
  script = text "1 as Int + 2";
  image =
      -- counts N T R V
      (4 ∷ 1 ∷ 1 ∷ 4
      -- roots
      ∷ 3
      -- node 0, Atom
      ∷ 4 ∷ 0 ∷ 0xC0000001 ∷ 3
      -- node 1, Cast
      ∷ 0x90000005 ∷ 1 ∷ 0xC0000202 ∷ 0 ∷ 0
      -- node 2, Atom
      ∷ 4 ∷ 2 ∷ 0xC0000B01 ∷ 3
      -- node 3, Bin
      ∷ 0x20000006 ∷ 3 ∷ 0xC0000901 ∷ 0 ∷ 1 ∷ 2
      -- type 0, Atom
      ∷ 3 ∷ 0xC0000503 ∷ 3
      ∷ []);
  expected =
      text "slot 0 Int\nslot 1 Int\nslot 2 Int\nslot 3 Int\nslot 4 Void\ndiag 10 2 2 Can not cast Int to Int\nend 1\n";
}

pub readings : List Row
readings = poisoned-member-row ∷ field-order-row ∷ same-cast-row ∷ []

pub all-readings : map computed readings ≡ map expected_of readings
unfolding rows_run computed expected_of readings poisoned-member-row field-order-row same-cast-row text
all-readings = refl
