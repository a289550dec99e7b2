-- What a call of a group takes for granted, and its contract. Definitions.
use Rattle.std.specs.Prelude.{ℕ, ◌≡◌, Bool, List}
use Rattle.tok.specs.Text.{Texts, name_bytes}
use Rattle.err.specs.Message.{pkg_name}
use Rattle.library.specs.Package.{Signature, Package}
use Rattle.rules.specs.declared.Answer.{Answer}
use Rattle.rules.specs.Calls.{Provided, in_group}
use Rattle.state.specs.declared.Used.{Used}
use Rattle.state.specs.Context.{ctx}
use Rattle.state.specs.World.{Step, Steps}
use Rattle.spans.specs.Ready.{NodesReady}
use Rattle.call_args.specs.Given.{given_from}
use Rattle.call_types.specs.Gather.{words_in}
use Rattle.pkg_group.specs.declared.Candidate.{Candidate}
use Rattle.pkg_group.specs.declared.Candidates.{Candidates}
use Rattle.pkg_group.specs.declared.Candidates.TheVariants.{Slotted}
use Rattle.pkg_group.specs.GroupSize.{group_size, size_found}

-- The arguments are nodes of an accepted image, and the words of their types are gathered; the candidates are found, and are not one with
-- slots.
pub record GroupReady (image places : List ℕ) (n args count : ℕ) (slots provided : List ℕ) (fs : List Signature) (found : Candidates) : Type 0 where
  pub nodes : NodesReady image places n args count
  pub gathered : words_in slots (given_from image args count) ≡ provided
  pub among : group_size fs ≡ size_found found
  pub other : (c : Candidate) → found ≡ Slotted c → ⊥

-- `in_group`, of these candidates
pub record InGroup (texts : Texts) (n slot pkg name : ℕ) (given : List Provided) (poisoned : Bool) (fs : List Signature)
    (s t d m : List ℕ) (u : Used) (s' t' d' m' : List ℕ) (r : Step Answer) : Type 0 where
  pub of : (library : List Package) (void : ℕ)
      → Steps (in_group (ctx texts library void) n slot name (pkg_name (name_bytes texts pkg) (name_bytes texts name)) fs given poisoned) s t d m u s' t' d' m' r
