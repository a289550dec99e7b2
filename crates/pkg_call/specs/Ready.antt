-- What a call of a package's function takes for granted. Definitions.
use Rattle.std.specs.Prelude.{ℕ, ◌+◌, ◌≤◌, ◌<◌, ◌≡◌, true, List, length, get_or, take, drop}
use Rattle.tok.specs.Text.{Texts}
use Rattle.ptype.specs.Slots.{Binding}
use Rattle.library.specs.Package.{param, Signature, Function, Package}
use Rattle.library.specs.PackagesRead.{package_at}
use Rattle.ast.specs.Node.{tree_of, slot_of}
use Rattle.rules.specs.Promises.{Every}
use Rattle.state.specs.Store.{held_from}
use Rattle.spans.specs.Ready.{NodesReady}
use Rattle.slotted.specs.Meant.{Meant}
use Rattle.slotted_call.specs.Bindable.{Bindable}
use Rattle.call_args.specs.Given.{given_from}
use Rattle.call_types.specs.Gather.{words_in}
use Rattle.visit.specs.declared.State.{State}
use Rattle.visit.specs.Reach.{held_reach}
use Rattle.visit.specs.Free.{Free}

-- A signature with slots: its types mean types, and however its arguments are bound, the bindings have room: "4,096 pairs are enough".
pub record SlotsReady (texts : Texts) (types : List ℕ) (used : ℕ) (f : Signature) : Type 0 where
  pub params : (i : ℕ) → i < length f.params → Meant texts types used (get_or f.params i (param 0 0)).type
  pub ret : Meant texts types used f.ret
  pub room : (bs : List Binding) → Bindable texts types f.params bs → length bs ≤ 4096

-- A signature that may have none.
abbrev pub MayBind : Texts → (types : List ℕ) → (used : ℕ) → Signature → Type 0
MayBind texts types used f = f.with_slots ≡ true → SlotsReady texts types used f

-- every function of a package, of every package
abbrev pub PackageBinds : Texts → (types : List ℕ) → (used : ℕ) → Package → Type 0
PackageBinds texts types used p = Every (λ (f : Function). MayBind texts types used f.sig) p.functions

abbrev pub PackagesBind : Texts → (types : List ℕ) → (used : ℕ) → List Package → Type 0
PackagesBind texts types used ps = Every (PackageBinds texts types used) ps

-- The arguments are nodes of an accepted image, and their types mean types.
pub record ArgumentsReady (texts : Texts) (image places : List ℕ) (n args count : ℕ) (slots types : List ℕ) (used : ℕ) : Type 0 where
  pub nodes : NodesReady image places n args count
  pub meant : (i : ℕ) → i < count → Meant texts types used (get_or slots (slot_of (tree_of image (get_or image (args + i) 0))) 0)

-- the words of their types stand from word `top` of scratch on; refusal 1: "scratch below 16,384 words"
pub record GatheredReady (texts : Texts) (image places scratch : List ℕ) (top n args count : ℕ) (slots types : List ℕ) (used : ℕ) : Type 0 where
  pub given : ArgumentsReady texts image places n args count slots types used
  pub room : top + count ≤ length scratch
  pub gathered : words_in slots (given_from image args count) ≡ take count (drop top scratch)
  pub long : 16384 ≤ length scratch

-- and the functions of the library's package at word `at`
pub record LibraryReady (texts : Texts) (image places words scratch : List ℕ) (top n at args count : ℕ) (slots types : List ℕ) (used : ℕ) : Type 0 where
  pub ready : GatheredReady texts image places scratch top n args count slots types used
  pub bind : PackageBinds texts types used (package_at words at)

-- and those of the packages held
pub record HeldReady (texts : Texts) (image places words scratch : List ℕ) (held packages top n args count : ℕ) (slots types : List ℕ) (used : ℕ) : Type 0 where
  pub ready : GatheredReady texts image places scratch top n args count slots types used
  pub bind : PackagesBind texts types used (held_from words scratch held packages)
  pub ends : held_reach scratch held packages ≤ 8192

-- THE CALL: the arguments, the functions of the packages held, and a word for each argument between names in scope and packages held.
pub record PkgReady (texts : Texts) (image places words : List ℕ) (st : State) (scratch : List ℕ) (n args count : ℕ) (slots types : List ℕ) : Type 0 where
  pub given : ArgumentsReady texts image places n args count slots types st.used.types
  pub bind : PackagesBind texts types st.used.types (held_from words scratch st.held st.packages)
  pub free : Free count st scratch
  pub long : 16384 ≤ length scratch
