-- `Accepts`: what the theorems of two runs take from refusals 1 to 6. Assumes nothing.
use Rattle.refusals.specs.Inputs.{Inputs, Buffers, texts_in}
use Rattle.tworuns.specs.Accepted.{Accepted, Accepts}
use Rattle.library_laws.specs.Types.{library-types}
use Rattle.library_laws.specs.Names.{names_lie}
use Rattle.accepts.specs.Passed.{Passed}
use Rattle.accepts.proofs.Passed.{passed}
use Rattle.accepts.specs.SoundTrees.{roots_sound}
use Rattle.accepts.proofs.FunctionRoom.{function-room}

pub accepted : (i : Inputs) (b : Buffers) → Passed i b → Accepted i b
accepted i b p = record {
  roots = roots_sound (texts_in i) p.image;
  types = library-types (texts_in i) i.library p.library;
  names = names_lie (texts_in i) i.library p.library;
  slot_room = p.slots;
  function_room = function-room i b p;
}

-- THE LAW
pub accepts : Accepts
unfolding Accepts
accepts i b e = accepted i b (passed i b e)
