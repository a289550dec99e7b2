-- The mission's demands for what `check` answers: its contract says `check_of i b ≡ ended_of r a` of the buffers b before it and a after it, and
-- the theorems about `check_of` (accepts: `Demands`; clean: `Clean`, `Messages`; runs_judged: `Passed`) then hold of its answer. Assumes nothing.
use Rattle.std.specs.Prelude.{ℕ, ◌≤◌, ◌<◌, ◌≡◌, true, List, []}
use Rattle.std.proofs.Math.Path.{subst}
use Rattle.std.proofs.Common.{sym}
use Rattle.std.proofs.Math.Option.{none}
use Rattle.utf8.specs.Rfc3629.{well_formed}
use Rattle.ast.specs.Image.{slot_count}
use Rattle.ast.specs.Node.{roots_of}
use Rattle.refusals.specs.Inputs.{Inputs, Buffers}
use Rattle.refusals.specs.Refusals.{refusal_of}
use Rattle.rules.specs.Check.{Ended, check_of}
use Rattle.rules.specs.Visited.{visited_slots}
use Rattle.rules.specs.Promises.{Every, Answered, TableHolds, Demand1, NamesReadWell, NamesWellFormed, VisitedOnce, EachVisitedOnce, message_of, primary_of, MessagesWellFormed}
use Rattle.rules.specs.Promises.{AnsweredClean, HasConcreteType, Clean, Longer, Alike, AnsweredLonger, MorePackages, MoreStatements, Kept, Larger, LargerWithoutStatements}
use Rattle.rules.specs.Promises.{entries_of, old_functions, FunctionsVisited, AgreesTo, RefusedAlike, with_image, ImagePlaceCertain, with_library, LibraryPlaceCertain}
use Rattle.rules.specs.Promises.{PackagesAlone, StatementsAlone, AddsNothing, NothingAdded}
use Rattle.tworuns.proofs.Larger.{ends}
use Rattle.accepts.proofs.Demands.{demand_1, names-well_formed, each-visited-once, answered-longer, functions-visited, larger, larger-without-statements, image-place_certain}
use Rattle.accepts.proofs.Demands.{library-place_certain, packages-alone, statements-alone, nothing-added}
use Rattle.clean.proofs.Clean.{clean}
use Rattle.clean.proofs.Messages.{messages-well_formed}
use Rattle.runs.specs.Machine.{Open}
use Rattle.runs.specs.Stands.{root, AllStand}
use Rattle.runs.specs.Promise.{Honest, RunsClean, PassedRunClean}
use Rattle.runs_judged.specs.Passed.{passed-run-clean}
use Rattle.ending.specs.Ended.{Checked, ended_of}

-- one answer
module _ (i : Inputs) (b a : Buffers) (r : Checked) (e : check_of i b ≡ ended_of r a) where
  -- "An input outside document 01's limits gets that paper's refusal, and every lent buffer then holds what its table says."
  pub check_table : TableHolds i b (ended_of r a)
  unfolding Demand1
  check_table = subst (TableHolds i b) e (demand_1 i b)

  -- an answered script has passed refusals 1 to 6
  answered_passes : Answered (ended_of r a) → refusal_of i b ≡ none
  answered_passes z = (ends i b (subst Answered (sym e) z)).passed

  -- "names are read .. only as UTF-8 well formed by it [RFC 3629]"
  pub check_names : Answered (ended_of r a) → NamesReadWell i
  unfolding NamesWellFormed
  check_names z = names-well_formed i b (answered_passes z)

  -- no node's rule was entered twice
  pub check_once : Answered (ended_of r a) → VisitedOnce i.image
  unfolding EachVisitedOnce
  check_once z = each-visited-once i b (answered_passes z)

  -- "messages written, only as UTF-8 well formed by it [RFC 3629]"
  pub check_messages : Answered (ended_of r a) → (k : ℕ) → k < (ended_of r a).diagnostics → (well_formed (message_of (ended_of r a) k) ≡ true) × (well_formed (primary_of (ended_of r a) k) ≡ true)
  unfolding MessagesWellFormed
  check_messages = subst (λ x. Answered x → (k : ℕ) → k < x.diagnostics → (well_formed (message_of x k) ≡ true) × (well_formed (primary_of x k) ≡ true)) e (messages-well_formed i b)

  -- "Suppose a script is answered with no diagnostic. Then every visited node has a recorded type free of Unknown and of slots": in each slot
  -- that it owns
  pub check_clean : AnsweredClean (ended_of r a) → Every (HasConcreteType i (ended_of r a)) (visited_slots i.image)
  unfolding Clean
  check_clean = subst (λ x. AnsweredClean x → Every (HasConcreteType i x) (visited_slots i.image)) e (clean i b)

  -- an entry for each visited Fn, in the order of visits, and no other
  pub check_functions : AnsweredClean (ended_of r a) → entries_of i (ended_of r a) ≡ old_functions i
  unfolding FunctionsVisited
  check_functions = subst (λ x. AnsweredClean x → entries_of i x ≡ old_functions i) e (functions-visited i b)

  -- "with longer buffers alone it is answered, alike in every number returned and in every word and byte used"
  pub check_longer : (b' a' : Buffers) (r' : Checked) → check_of i b' ≡ ended_of r' a' → Longer b b' → Answered (ended_of r a) → Alike (slot_count i.image) (ended_of r a) (ended_of r' a')
  unfolding AnsweredLonger
  check_longer b' a' r' e' l =
      subst (λ x. Answered x → Alike (slot_count i.image) x (ended_of r' a')) e
      (subst (λ y. Answered (check_of i b) → Alike (slot_count i.image) (check_of i b) y) e' (answered-longer i b b' l))

  -- "any or all of this": what was answered is itself with nothing added
  pub check_nothing : Answered (ended_of r a) → AddsNothing i b
  unfolding NothingAdded
  check_nothing z = nothing-added i b (answered_passes z)

  -- request S-11: "Suppose a script has no diagnostic, a let stands only as a root or a body's own statement, an Fn only as a root, and each
  -- package function .. gives one of its return type or halts the run. Then no run meets an unbound name, .."
  pub check_runs-clean : AnsweredClean (ended_of r a) → AllStand (roots_of i.image) root → (o : Open) → Honest i (ended_of r a) o → RunsClean i (ended_of r a) o
  unfolding PassedRunClean
  check_runs-clean = subst (λ x. AnsweredClean x → AllStand (roots_of i.image) root → (o : Open) → Honest i x o → RunsClean i x o) e (passed-run-clean i b)

-- two answers, for lists that agree up to and including the offending word: "The offending word is the first at which, reading forward, the
-- fault is certain"
module _ (i : Inputs) (b a a' : Buffers) (r r' : Checked) (e : check_of i b ≡ ended_of r a) where
  pub check_image-place : (image : List ℕ) → check_of (with_image i image) b ≡ ended_of r' a' → (ended_of r a).number ≡ 3
      → AgreesTo (ended_of r a).place i.image image → RefusedAlike (ended_of r a) (ended_of r' a')
  unfolding ImagePlaceCertain
  check_image-place image e' =
      subst (λ x. x.number ≡ 3 → AgreesTo x.place i.image image → RefusedAlike x (ended_of r' a')) e
      (subst (λ y. (check_of i b).number ≡ 3 → AgreesTo (check_of i b).place i.image image → RefusedAlike (check_of i b) y) e' (image-place_certain i b image))

  pub check_library-place : (script image library : List ℕ) → check_of (with_library i script image library) b ≡ ended_of r' a' → (ended_of r a).number ≡ 2
      → AgreesTo (ended_of r a).place i.library library → RefusedAlike (ended_of r a) (ended_of r' a')
  unfolding LibraryPlaceCertain
  check_library-place script image library e' =
      subst (λ x. x.number ≡ 2 → AgreesTo x.place i.library library → RefusedAlike x (ended_of r' a')) e
      (subst (λ y. (check_of i b).number ≡ 2 → AgreesTo (check_of i b).place i.library library → RefusedAlike (check_of i b) y) e' (library-place_certain i b script image library))

-- both answers, all additions taken together
module _ (i i' : Inputs) (b b' a a' : Buffers) (r r' : Checked) (e : check_of i b ≡ ended_of r a) (e' : check_of i' b' ≡ ended_of r' a')
    (packages : MorePackages i i') (statements : MoreStatements i i') (longer : Longer b b') where
  -- "If the larger case is answered, every node visited before has the same type in both answers, every old function the same signature and
  -- place, and every diagnostic comes from the new statements"
  pub check_larger : AnsweredClean (ended_of r a) → Answered (ended_of r' a') → Kept i i' b' (ended_of r a) (ended_of r' a')
  unfolding Larger
  check_larger =
      subst (λ x. AnsweredClean x → Answered (ended_of r' a') → Kept i i' b' x (ended_of r' a')) e
      (subst (λ y. AnsweredClean (check_of i b) → Answered y → Kept i i' b' (check_of i b) y) e' (larger i i' b b' packages statements longer))

  -- "so that without new ones there is none"
  pub check_larger-silent : statements.roots ≡ [] → AnsweredClean (ended_of r a) → Answered (ended_of r' a') → (ended_of r' a').diagnostics ≡ 0
  unfolding LargerWithoutStatements
  check_larger-silent empty =
      subst (λ x. AnsweredClean x → Answered (ended_of r' a') → (ended_of r' a').diagnostics ≡ 0) e
      (subst (λ y. AnsweredClean (check_of i b) → Answered y → y.diagnostics ≡ 0) e' (larger-without-statements i i' b b' packages statements empty longer))

-- each addition alone
module _ (i i' : Inputs) (b b' a a' : Buffers) (r r' : Checked) (e : check_of i b ≡ ended_of r a) (e' : check_of i' b' ≡ ended_of r' a') (longer : Longer b b') where
  pub check_packages : MorePackages i i' → i'.script ≡ i.script → i'.image ≡ i.image → AnsweredClean (ended_of r a) → Answered (ended_of r' a')
      → Kept i i' b' (ended_of r a) (ended_of r' a') × ((ended_of r' a').diagnostics ≡ 0)
  unfolding PackagesAlone
  check_packages packages script image =
      subst (λ x. AnsweredClean x → Answered (ended_of r' a') → Kept i i' b' x (ended_of r' a') × ((ended_of r' a').diagnostics ≡ 0)) e
      (subst (λ y. AnsweredClean (check_of i b) → Answered y → Kept i i' b' (check_of i b) y × (y.diagnostics ≡ 0)) e' (packages-alone i i' b b' packages script image longer))

  pub check_statements : MoreStatements i i' → i'.library_text ≡ i.library_text → i'.library ≡ i.library → AnsweredClean (ended_of r a) → Answered (ended_of r' a')
      → Kept i i' b' (ended_of r a) (ended_of r' a')
  unfolding StatementsAlone
  check_statements statements text library =
      subst (λ x. AnsweredClean x → Answered (ended_of r' a') → Kept i i' b' x (ended_of r' a')) e
      (subst (λ y. AnsweredClean (check_of i b) → Answered y → Kept i i' b' (check_of i b) y) e' (statements-alone i i' b b' statements text library longer))
