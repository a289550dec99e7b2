-- Rows (a) to (k) of document 01 ("Rows marked for proof"), as one table: antt computes the definitions. Assumes nothing.
use mathlib.Core.Path.{◌≡◌, refl}
use mathlib.Core.List.{List, [], ◌∷◌, map}
use Rattle.tok.specs.Text.{text}
use Rattle.rules.specs.Run.{rows_run}
use Rattle.rules.proofs.Row.{Row, computed, expected_of}

-- (a) `let a = 1`: "that one"
a_row : Row
a_row = record {
  script = text "let a = 1";
  image =
      -- counts N T R V
      (2 ∷ 0 ∷ 1 ∷ 2
      -- root
      ∷ 1
      -- node 0, Atom
      ∷ 4 ∷ 0 ∷ 0xC0000801 ∷ 3
      -- node 1, Let
      ∷ 0x40000004 ∷ 1 ∷ 0xC0000401 ∷ 0
      ∷ []);
  expected =
      text "slot 0 Int\nslot 1 Void\nslot 2 Void\nend 0\n";
}

-- (b) "empty image: slot 0 Void"
b_row : Row
b_row = record {
  script = text "";
  image =
      -- counts N T R V
      (0 ∷ 0 ∷ 0 ∷ 0
      ∷ []);
  expected =
      text "slot 0 Void\nend 0\n";
}

-- (c) "`1 + 2.0`: 5"
c_row : Row
c_row = record {
  script = text "1 + 2.0";
  image =
      -- counts N T R V
      (3 ∷ 0 ∷ 1 ∷ 3
      -- root
      ∷ 2
      -- node 0, Atom
      ∷ 4 ∷ 0 ∷ 0xC0000001 ∷ 3
      -- node 1, Atom
      ∷ 4 ∷ 1 ∷ 0xC0000403 ∷ 4
      -- node 2, Bin
      ∷ 0x20000006 ∷ 2 ∷ 0xC0000201 ∷ 0 ∷ 0 ∷ 1
      ∷ []);
  expected =
      text "slot 0 Int\nslot 1 Double\nslot 3 Void\ndiag 5 2 1 Incompatible types Int and Double for \"+\"\nend 1\n";
}

-- (d) "two Str under +: 4"
d_row : Row
d_row = record {
  script = text "\"a\" + \"b\"";
  image =
      -- counts N T R V
      (3 ∷ 0 ∷ 1 ∷ 3
      -- root
      ∷ 2
      -- node 0, Atom
      ∷ 4 ∷ 0 ∷ 0xC0000101 ∷ 5
      -- node 1, Atom
      ∷ 4 ∷ 1 ∷ 0xC0000701 ∷ 5
      -- node 2, Bin
      ∷ 0x20000006 ∷ 2 ∷ 0xC0000401 ∷ 0 ∷ 0 ∷ 1
      ∷ []);
  expected =
      text "slot 0 Str\nslot 1 Str\nslot 3 Void\ndiag 4 4 1 Unsupported type Str for \"+\", want Int or Double\nend 1\n";
}

-- (e) "empty array: 1, no type"
e_row : Row
e_row = record {
  script = text "[]";
  image =
      -- counts N T R V
      (1 ∷ 0 ∷ 1 ∷ 1
      -- root
      ∷ 0
      -- node 0, Array
      ∷ 0xD0000003 ∷ 0 ∷ 0xC0000001
      ∷ []);
  expected =
      text "slot 1 Void\ndiag 1 0 1 Can not infer the element type of an empty array\nend 1\n";
}

-- (f) "Int cast to Int: 10, yet Int"
f_row : Row
f_row = record {
  script = text "1 as Int";
  image =
      -- counts N T R V
      (2 ∷ 1 ∷ 1 ∷ 2
      -- root
      ∷ 1
      -- node 0, Atom
      ∷ 4 ∷ 0 ∷ 0xC0000001 ∷ 3
      -- node 1, Cast
      ∷ 0x90000005 ∷ 1 ∷ 0xC0000202 ∷ 0 ∷ 0
      -- type 0, Atom
      ∷ 3 ∷ 0xC0000503 ∷ 3
      ∷ []);
  expected =
      text "slot 0 Int\nslot 1 Int\nslot 2 Void\ndiag 10 2 2 Can not cast Int to Int\nend 1\n";
}

-- (g) "Bool to Double: 11, no type"
g_row : Row
g_row = record {
  script = text "true as Double";
  image =
      -- counts N T R V
      (2 ∷ 1 ∷ 1 ∷ 2
      -- root
      ∷ 1
      -- node 0, Atom
      ∷ 4 ∷ 0 ∷ 0xC0000004 ∷ 2
      -- node 1, Cast
      ∷ 0x90000005 ∷ 1 ∷ 0xC0000502 ∷ 0 ∷ 0
      -- type 0, Atom
      ∷ 3 ∷ 0xC0000806 ∷ 4
      ∷ []);
  expected =
      text "slot 0 Bool\nslot 2 Void\ndiag 11 5 2 Can not cast Bool to Double\nend 1\n";
}

-- (h) "record with field a an empty array: 1 only, `Record<a: unknown>`"
h_row : Row
h_row = record {
  script = text "{ a: [] }";
  image =
      -- counts N T R V
      (2 ∷ 0 ∷ 1 ∷ 2
      -- root
      ∷ 1
      -- node 0, Array
      ∷ 0xD0000003 ∷ 0 ∷ 0xC0000501
      -- node 1, Record
      ∷ 0xC0000005 ∷ 1 ∷ 0xC0000001 ∷ 0xC0000201 ∷ 0
      ∷ []);
  expected =
      text "slot 1 Record<a: unknown>\nslot 2 Void\ndiag 1 5 1 Can not infer the element type of an empty array\nend 1\n";
}

-- (i) "its field a: Unknown, one diagnostic"
i_row : Row
i_row = record {
  script = text "{ a: [] }.a";
  image =
      -- counts N T R V
      (3 ∷ 0 ∷ 1 ∷ 3
      -- root
      ∷ 2
      -- node 0, Array
      ∷ 0xD0000003 ∷ 0 ∷ 0xC0000501
      -- node 1, Record
      ∷ 0xC0000005 ∷ 1 ∷ 0xC0000001 ∷ 0xC0000201 ∷ 0
      -- node 2, Field
      ∷ 0x80000004 ∷ 2 ∷ 1 ∷ 0xC0000A01
      ∷ []);
  expected =
      text "slot 1 Record<a: unknown>\nslot 2 unknown\nslot 3 Void\ndiag 1 5 1 Can not infer the element type of an empty array\nend 1\n";
}

-- (j) "own one-argument function of return Int called with none: 19, yet Int"
j_row : Row
j_row = record {
  script = text "fn f(x: Int) Int { x }\nf()";
  image =
      -- counts N T R V
      (4 ∷ 2 ∷ 2 ∷ 5
      -- roots
      ∷ 1 ∷ 3
      -- node 0, Ident
      ∷ 0x10000003 ∷ 2 ∷ 0xC0001301
      -- node 1, Fn
      ∷ 0x50000008 ∷ 0 ∷ 0xC0000301 ∷ 1 ∷ 1 ∷ 0xC0000501 ∷ 0 ∷ 0
      -- node 2, Ident
      ∷ 0x10000003 ∷ 3 ∷ 0xC0001701
      -- node 3, Call
      ∷ 0x70000003 ∷ 4 ∷ 2
      -- type 0, Atom
      ∷ 3 ∷ 0xC0000803 ∷ 3
      -- type 1, Atom
      ∷ 3 ∷ 0xC0000D03 ∷ 3
      ∷ []);
  expected =
      text "slot 0 Int\nslot 1 Int\nslot 2 Int\nslot 4 Int\nslot 5 Void\nfn f (x: Int) -> Int\ndiag 19 23 1 `f` requires 1 arguments, got 0\nend 1\n";
}

-- (k) "two Double under ==: 4"
k_row : Row
k_row = record {
  script = text "1.0 == 2.0";
  image =
      -- counts N T R V
      (3 ∷ 0 ∷ 1 ∷ 3
      -- root
      ∷ 2
      -- node 0, Atom
      ∷ 4 ∷ 0 ∷ 0xC0000003 ∷ 4
      -- node 1, Atom
      ∷ 4 ∷ 1 ∷ 0xC0000703 ∷ 4
      -- node 2, Bin
      ∷ 0x20000006 ∷ 2 ∷ 0xC0000402 ∷ 5 ∷ 0 ∷ 1
      ∷ []);
  expected =
      text "slot 0 Double\nslot 1 Double\nslot 3 Void\ndiag 4 4 2 Unsupported type Double for \"==\", want Int, Bool or Str\nend 1\n";
}

pub table : List Row
table = a_row ∷ b_row ∷ c_row ∷ d_row ∷ e_row ∷ f_row ∷ g_row ∷ h_row ∷ i_row ∷ j_row ∷ k_row ∷ []

-- every row: what the definitions compute is what the Rust prints
pub all-rows : map computed table ≡ map expected_of table
unfolding rows_run computed expected_of table a_row b_row c_row d_row e_row f_row g_row h_row i_row j_row k_row text
all-rows = refl
