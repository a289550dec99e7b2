-- The arguments that a call provides, by their place in the image, and what the steps of the call take for granted. Definitions.
use Rattle.std.specs.Prelude.{ℕ, ◌+◌, ◌≡◌, List, length, get_or}
use Rattle.ast.specs.Node.{Node, nodes_from, tree_of, slot_of}
use Rattle.ast.specs.Span.{span_of}
use Rattle.library.specs.Package.{Param, param}
use Rattle.arguments.specs.declared.Argument.{Argument}
use Rattle.rules.specs.Calls.{Provided, provided_of}
use Rattle.spans.specs.Ready.{NodesReady}

-- k arguments, whose node numbers stand from word `at` of the image on
abbrev pub given_from : (image : List ℕ) → (at k : ℕ) → List Provided
given_from image at k = provided_of (nodes_from (tree_of image) image at k)

-- argument number i, for the parameter of that number
abbrev pub argument_in : (image : List ℕ) → (args : ℕ) → List Param → (i : ℕ) → Argument
argument_in image args ps i =
    let p : Param = get_or ps i (param 0 0) in
    let node : Node = tree_of image (get_or image (args + i) 0) in
    record { name = p.name; expected = p.type; slot = slot_of node; span = span_of node }

-- the arguments are nodes of an accepted image, and as many as the signature asks for
pub record CallReady (image places : List ℕ) (n args count : ℕ) (ps : List Param) : Type 0 where
  pub nodes : NodesReady image places n args count
  pub counts : count ≡ length ps
