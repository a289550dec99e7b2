-- The mission's scenario: "A bad argument to a generic function left an unfilled type slot behind; the next generic call met it and the
-- checker stopped dead". Here each script is answered. A table of its own, beside rows (a) to (k): the Rust gives no rows to two of the
-- scripts (docs/DIFFERENCES.md, 1), and others to one (2). antt computes the definitions. Assumes nothing.
use Prim.Native.Nat.{ℕ}
use mathlib.Core.Path.{◌≡◌, refl}
use mathlib.Core.List.{List, [], ◌∷◌, map}
use Rattle.tok.specs.Text.{text}
use Rattle.refusals.specs.Inputs.{Inputs}
use Rattle.rules.specs.Run.{rows_run}
use Rattle.rules.proofs.Row.{Row, lent, expected_of}

-- package p: take(o: Option<T>) -> T, list(o: Option<T>) -> Array<T>, both(n: Int x: T) -> T
library_text : List ℕ
library_text = text "Toptakelistbothnx"

library : List ℕ
library =
    -- pool length, package count
    (1 ∷ 1
    -- the pool: T
    ∷ 0xA1000001
    -- p, of three functions
    ∷ 0xC1000201 ∷ 3
    -- take
    ∷ 0xC1000304 ∷ 1 ∷ 1 ∷ 0xC1000101 ∷ 0x60000000 ∷ 0xA1000001
    -- list
    ∷ 0xC1000704 ∷ 1 ∷ 1 ∷ 0xC1000101 ∷ 0x60000000 ∷ 0x70000000
    -- both
    ∷ 0xC1000B04 ∷ 1 ∷ 2 ∷ 0xC1000F01 ∷ 0x30000000 ∷ 0xC1001001 ∷ 0xA1000001 ∷ 0xA1000001
    ∷ [])

-- The inner call's argument is no Option (20), so that its type is the slot T itself; the outer call passes it over.
-- This is oracle/differences/leftover_slot.bin.
nested : Row
nested = record {
  script = text "import \"p\"\np.take(p.take(1))";
  image =
      -- counts N T R V
      (8 ∷ 0 ∷ 2 ∷ 8
      -- roots
      ∷ 0 ∷ 7
      -- node 0, Import
      ∷ 0xA0000004 ∷ 0 ∷ 0xC0000006 ∷ 0xC0000801
      -- node 1, Atom
      ∷ 4 ∷ 1 ∷ 0xC0001901 ∷ 3
      -- node 2, Ident
      ∷ 0x10000003 ∷ 2 ∷ 0xC0001201
      -- node 3, Field
      ∷ 0x80000004 ∷ 3 ∷ 2 ∷ 0xC0001404
      -- node 4, Call
      ∷ 0x70000004 ∷ 4 ∷ 3 ∷ 1
      -- node 5, Ident
      ∷ 0x10000003 ∷ 5 ∷ 0xC0000B01
      -- node 6, Field
      ∷ 0x80000004 ∷ 6 ∷ 5 ∷ 0xC0000D04
      -- node 7, Call
      ∷ 0x70000004 ∷ 7 ∷ 6 ∷ 4
      ∷ []);
  expected =
      text "slot 0 Void\nslot 1 Int\nslot 4 T\nslot 7 T\nslot 8 Void\ndiag 20 25 1 `p.take` expected o:Option<T>, got o:Int instead\nend 1\n";
}

-- The same over two statements: the mistake is bound to a name, and the name given to a second generic function.
bound : Row
bound = record {
  script = text "import \"p\"\nlet x = p.take(1)\np.list(x)";
  image =
      -- counts N T R V
      (10 ∷ 0 ∷ 3 ∷ 10
      -- roots
      ∷ 0 ∷ 5 ∷ 9
      -- node 0, Import
      ∷ 0xA0000004 ∷ 0 ∷ 0xC0000006 ∷ 0xC0000801
      -- node 1, Atom
      ∷ 4 ∷ 1 ∷ 0xC0001A01 ∷ 3
      -- node 2, Ident
      ∷ 0x10000003 ∷ 2 ∷ 0xC0001301
      -- node 3, Field
      ∷ 0x80000004 ∷ 3 ∷ 2 ∷ 0xC0001504
      -- node 4, Call
      ∷ 0x70000004 ∷ 4 ∷ 3 ∷ 1
      -- node 5, Let
      ∷ 0x40000004 ∷ 5 ∷ 0xC0000F01 ∷ 4
      -- node 6, Ident
      ∷ 0x10000003 ∷ 6 ∷ 0xC0002401
      -- node 7, Ident
      ∷ 0x10000003 ∷ 7 ∷ 0xC0001D01
      -- node 8, Field
      ∷ 0x80000004 ∷ 8 ∷ 7 ∷ 0xC0001F04
      -- node 9, Call
      ∷ 0x70000004 ∷ 9 ∷ 8 ∷ 6
      ∷ []);
  expected =
      text "slot 0 Void\nslot 1 Int\nslot 4 T\nslot 5 Void\nslot 6 T\nslot 9 Array<T>\nslot 10 Void\ndiag 20 26 1 `p.take` expected o:Option<T>, got o:Int instead\nend 1\n";
}

-- An Array of a leftover slot where Int is expected: passed over too, and T is bound by the second argument. The Rust reports 20 twice.
-- This is oracle/differences/passed_over.bin.
passed_over : Row
passed_over = record {
  script = text "import \"p\"\np.both(p.list(1) 2)";
  image =
      -- counts N T R V
      (9 ∷ 0 ∷ 2 ∷ 9
      -- roots
      ∷ 0 ∷ 8
      -- node 0, Import
      ∷ 0xA0000004 ∷ 0 ∷ 0xC0000006 ∷ 0xC0000801
      -- node 1, Atom
      ∷ 4 ∷ 1 ∷ 0xC0001901 ∷ 3
      -- node 2, Ident
      ∷ 0x10000003 ∷ 2 ∷ 0xC0001201
      -- node 3, Field
      ∷ 0x80000004 ∷ 3 ∷ 2 ∷ 0xC0001404
      -- node 4, Call
      ∷ 0x70000004 ∷ 4 ∷ 3 ∷ 1
      -- node 5, Atom
      ∷ 4 ∷ 5 ∷ 0xC0001C01 ∷ 3
      -- node 6, Ident
      ∷ 0x10000003 ∷ 6 ∷ 0xC0000B01
      -- node 7, Field
      ∷ 0x80000004 ∷ 7 ∷ 6 ∷ 0xC0000D04
      -- node 8, Call
      ∷ 0x70000005 ∷ 8 ∷ 7 ∷ 4 ∷ 5
      ∷ []);
  expected =
      text "slot 0 Void\nslot 1 Int\nslot 4 Array<T>\nslot 5 Int\nslot 8 Int\nslot 9 Void\ndiag 20 25 1 `p.list` expected o:Option<T>, got o:Int instead\nend 1\n";
}

inputs_of : Row → Inputs
inputs_of r = record { script = r.script; image = r.image; library_text = library_text; library = library }

pub answered : Row → List ℕ
answered r = rows_run (inputs_of r) lent

pub table : List Row
table = nested ∷ bound ∷ passed_over ∷ []

-- every script is answered, with the mistake reported once
pub all-answered : map answered table ≡ map expected_of table
unfolding rows_run answered inputs_of library_text library expected_of table nested bound passed_over text
all-answered = refl
