-- The entries of visited Fns, computed on a script of one Fn in another: each argument of its type, in order, each entry at its place, the
-- outer Fn first; and on a larger case of it. Assumes nothing.
use Prim.Native.Nat.{ℕ}
use mathlib.Core.Path.{◌≡◌, refl}
use mathlib.Core.List.{List, [], ◌∷◌, ◌++◌}
use lib.ListN.{replicate}
use Rattle.tok.specs.Text.{text}
use Rattle.ptype.specs.Ty.{int_ty, void_ty, foreign_ty}
use Rattle.refusals.specs.Inputs.{Inputs, Buffers, texts_in}
use Rattle.rules.specs.Check.{Ended}
use Rattle.rules.specs.Run.{check_run, visited_run, entries_run}
use Rattle.rules.specs.Functions.{type_meant, head_of, fns_among, fns_in}
use Rattle.rules.specs.Promises.{Entry, fn_parameters, fn_entries, old_functions, AnsweredClean}

nested : Inputs
nested = record {
  script = text "fn f(a: Int b: Foo) Int { fn g() Void {} a }";
  image =
      -- counts N T R V, the root
      (3 ∷ 4 ∷ 1 ∷ 5 ∷ 2
      -- node 0, Fn g
      ∷ 0x50000005 ∷ 3 ∷ 0xC0001D01 ∷ 3 ∷ 0
      -- node 1, Ident
      ∷ 0x10000003 ∷ 4 ∷ 0xC0002901
      -- node 2, Fn f
      ∷ 0x5000000B ∷ 0 ∷ 0xC0000301 ∷ 2 ∷ 2 ∷ 0xC0000501 ∷ 0 ∷ 0xC0000C01 ∷ 1 ∷ 0 ∷ 1
      -- types: Int, Foo, Int, Void
      ∷ 3 ∷ 0xC0000803 ∷ 3 ∷ 0x10000002 ∷ 0xC0000F03 ∷ 3 ∷ 0xC0001403 ∷ 3 ∷ 3 ∷ 0xC0002104 ∷ 1
      ∷ []);
  library_text = [];
  library = 0 ∷ 0 ∷ [];
}

-- one Fn more at the end
larger : Inputs
larger = record {
  script = text "fn f(a: Int b: Foo) Int { fn g() Void {} a }\nfn h() Void {}";
  image =
      (4 ∷ 5 ∷ 2 ∷ 6 ∷ 2 ∷ 3
      ∷ 0x50000005 ∷ 3 ∷ 0xC0001D01 ∷ 3 ∷ 0
      ∷ 0x10000003 ∷ 4 ∷ 0xC0002901
      ∷ 0x5000000B ∷ 0 ∷ 0xC0000301 ∷ 2 ∷ 2 ∷ 0xC0000501 ∷ 0 ∷ 0xC0000C01 ∷ 1 ∷ 0 ∷ 1
      -- node 3, Fn h
      ∷ 0x50000005 ∷ 5 ∷ 0xC0003001 ∷ 4 ∷ 0
      ∷ 3 ∷ 0xC0000803 ∷ 3 ∷ 0x10000002 ∷ 0xC0000F03 ∷ 3 ∷ 0xC0001403 ∷ 3 ∷ 3 ∷ 0xC0002104 ∷ 1
      -- type 4, Void
      ∷ 3 ∷ 0xC0003404 ∷ 1
      ∷ []);
  library_text = [];
  library = 0 ∷ 0 ∷ [];
}

-- buffers just as long as they need
buffers : (slots functions : ℕ) → Buffers
buffers v n = record {
  slots = replicate v 7;
  functions = replicate n 7;
  types = [];
  diagnostics = [];
  messages = [];
  scratch = replicate 16384 7;
}

nested_end : Ended
nested_end = check_run nested (buffers 6 10)

larger_end : Ended
larger_end = check_run larger (buffers 7 13)

-- the entries of f and g, and in the larger case that of h after them
expected : List Entry
expected =
    record { place = 0; name = text "f"; parameters = record { name = text "a"; type = int_ty } ∷ record { name = text "b"; type = foreign_ty (text "Foo") } ∷ []; ret = int_ty }
    ∷ record { place = 7; name = text "g"; parameters = []; ret = void_ty }
    ∷ []

added : Entry
added = record { place = 10; name = text "h"; parameters = []; ret = void_ty }

answered-clean : AnsweredClean nested_end
unfolding nested_end check_run nested buffers text
answered-clean = record { answered = refl; clean = refl }

-- the entries of the functions buffer
entries : entries_run nested nested_end ≡ expected
unfolding entries_run nested_end check_run nested buffers text expected
entries = refl

larger-entries : entries_run larger larger_end ≡ expected ++ (added ∷ [])
unfolding entries_run larger_end check_run larger buffers text expected added
larger-entries = refl

-- and those of the visited Fns
pub functions-run : (i : Inputs) → old_functions i ≡ fn_entries (texts_in i) 0 (fns_among (visited_run i.image))
unfolding old_functions fns_in visited_run
functions-run i = refl

functions : fn_entries (texts_in nested) 0 (fns_among (visited_run nested.image)) ≡ expected
unfolding visited_run fns_among head_of fn_entries fn_parameters type_meant nested text expected
functions = refl

larger-functions : fn_entries (texts_in larger) 0 (fns_among (visited_run larger.image)) ≡ expected ++ (added ∷ [])
unfolding visited_run fns_among head_of fn_entries fn_parameters type_meant larger text expected added
larger-functions = refl
