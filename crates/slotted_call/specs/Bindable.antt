-- What a call of a function with slots takes for granted, and the contract of its arguments. Definitions.
use Rattle.std.specs.Prelude.{ℕ, ◌+◌, ◌≤◌, ◌<◌, ◌≡◌, true, List, [], length, get_or, ⊤}
use Rattle.std.specs.Result.{IfOk}
use Rattle.tok.specs.Text.{Texts}
use Rattle.tok.specs.Step.{◌>>=◌}
use Rattle.ptype.specs.Words.{ty_of}
use Rattle.ptype.specs.Add.{buffer}
use Rattle.ptype.specs.Slots.{Binding, bind_slots, apply_slot_binding}
use Rattle.add.specs.Means.{Grown}
use Rattle.slots.specs.declared.Bindings.{Bindings}
use Rattle.slots.specs.Bindings.{pair_room, bindings_of, bindings_after}
use Rattle.ast.specs.Node.{tree_of, slot_of}
use Rattle.library.specs.Package.{Param, param, Signature, Package}
use Rattle.rules.specs.declared.Answer.{Answer}
use Rattle.rules.specs.World.{Walk}
use Rattle.rules.specs.Steps.{set_known, on_types}
use Rattle.rules.specs.Calls.{arguments}
use Rattle.state.specs.declared.Used.{Used}
use Rattle.state.specs.Context.{ctx}
use Rattle.state.specs.World.{Step, with_answer, Steps}
use Rattle.spans.specs.Ready.{NodesReady}
use Rattle.slotted.specs.Meant.{Meant}
use Rattle.call_args.specs.Given.{given_from}

-- The bindings that parameters can give: none, or those after one of them is bound to any type.
pub data Bindable (texts : Texts) (types : List ℕ) (ps : List Param) : List Binding → Type 0 where
  none : Bindable texts types ps []
  more : {bs bs' : List Binding} → Bindable texts types ps bs → (i : ℕ) → i < length ps → (types' : List ℕ) (w : ℕ)
      → bs' ≡ bindings_after (bind_slots texts types' (ty_of texts types (get_or ps i (param 0 0)).type) w bs) → Bindable texts types ps bs'

-- The arguments are nodes of an accepted image; their types and those of the signature mean types; all bindings have room in the lent part.
pub record SlottedReady (texts : Texts) (image places : List ℕ) (n args count : ℕ) (slots types : List ℕ) (used : ℕ) (f : Signature) (pairs : List ℕ) : Type 0 where
  pub nodes : NodesReady image places n args count
  pub params : (i : ℕ) → i < length f.params → Meant texts types used (get_or f.params i (param 0 0)).type
  pub given : (i : ℕ) → i < count → Meant texts types used (get_or slots (slot_of (tree_of image (get_or image (args + i) 0))) 0)
  pub ret : Meant texts types used f.ret
  pub room : (bs : List Binding) → Bindable texts types f.params bs → length bs ≤ pair_room pairs

-- and there are as many as the signature asks for, and no bindings yet
pub record Counted (texts : Texts) (image places : List ℕ) (n args count : ℕ) (slots types : List ℕ) (used : ℕ) (f : Signature) (b : Bindings) : Type 0 where
  pub ready : SlottedReady texts image places n args count slots types used f b.pairs.now
  pub counts : count ≡ length f.params
  pub fresh : b.count ≡ 0

-- All arguments, from no bindings on, which then are b', in the lent part that b had; the types buffer has grown.
pub record Arguments (texts : Texts) (n : ℕ) (call_name : List ℕ) (ps : List Param) (image : List ℕ) (args count : ℕ) (s t d m : List ℕ) (u : Used) (b : Bindings)
    (t' d' m' : List ℕ) (b' : Bindings) (r : Step ⊤) : Type 0 where
  pub lent : b'.pairs.ghost_name ≡ b.pairs.ghost_name
  pub step : (library : List Package) (void : ℕ)
      → Steps (arguments (ctx texts library void) n call_name true ps (given_from image args count) []) s t d m u s t' d' m' (with_answer (λ _. bindings_of texts b') r)
  pub grown : IfOk r (λ x. Grown (buffer t u.types) (buffer t' x.1.types))

-- The return type with its slots applied, which is the slot's.
abbrev pub known_return : Texts → (n slot ret : ℕ) → (bs : List Binding) → (types : List ℕ) → Walk Answer
known_return texts n slot ret bs types = do
  w ← on_types (apply_slot_binding texts n bs (ty_of texts types ret) ret)
  set_known slot w
