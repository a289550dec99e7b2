-- The walk of inputs that pass refusals 1 to 6: what is claimed of one run holds of its end. Assumes nothing.
use Rattle.std.specs.Prelude.{ℕ, ◌<◌, ◌≡◌, true, List}
use Rattle.utf8.specs.Rfc3629.{well_formed}
use Rattle.tok.specs.Text.{Texts, name_bytes}
use Rattle.tok.specs.Name.{in_script}
use Rattle.tok.proofs.NameLaws.{good_name-payload, name_bytes-well_formed}
use Rattle.library.specs.Package.{pool_of}
use Rattle.ast.specs.Image.{word_at, node_count, root_count, slot_count}
use Rattle.ast.specs.Node.{roots_of}
use Rattle.image_laws.specs.RecordWords.{Named}
use Rattle.refusals.specs.Inputs.{Inputs, Buffers, texts_in}
use Rattle.rules.specs.Walk.{ctx_of, walk, walk_of}
use Rattle.tworuns.specs.Accepted.{TypeOf, library_types, walk-over, fresh_start}
use Rattle.library_laws.specs.Types.{library-types}
use Rattle.accepts.specs.Passed.{Passed}
use Rattle.onerun.specs.Claim.{Run, NameAt}
use Rattle.onerun.specs.Proper.{ProperAll}
use Rattle.onerun.proofs.Walk.{Ends, walk_ends}
use Rattle.clean.proofs.ProperTrees.{roots-proper}
use Rattle.clean.proofs.LibraryTypes.{library-ok}

-- a good name of the script is well formed
pub script-name : (t : Texts) (image : List ℕ) (at : ℕ) → Named t.script image at → well_formed (name_bytes t (word_at image at)) ≡ true
script-name t image at n = name_bytes-well_formed t in_script (word_at image at) (good_name-payload in_script t.script (word_at image at) n.good)

module _ (clean : Type 0) (i : Inputs) (b : Buffers) (p : Passed i b) where
  abbrev pub run : Run
  run = record { ctx = ctx_of i; clean = clean; sig = λ f xs. Unit {0}; plain = λ ps ret xs. tt }

  roots : ProperAll (λ slot. slot < slot_count i.image) (NameAt run) (roots_of i.image)
  unfolding ctx_of
  roots = roots-proper (texts_in i) p.image (NameAt run) (λ at n l. script-name (texts_in i) i.image at n)

  pub walked : Ends run (roots_of i.image) (walk_of i b)
  unfolding walk_of walk roots_of ctx_of TypeOf
  walked =
      rw (walk-over i (root_count i.image))
      (walk_ends run (pool_of i.library) (node_count i.image) (library_types i.library) (library-types (texts_in i) i.library p.library)
      (library-ok run i.library p.library (λ f m. tt)) (roots_of i.image) roots (fresh_start i b p.slots))
