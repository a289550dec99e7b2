-- How many candidates a call's group has: none, the one, or several ("A package group of several takes the first candidate whose every argument
-- type is equal"). Definitions.
use Rattle.std.specs.Prelude.{◌≡◌, Bool, true, false, List, [], ◌∷◌}
use Rattle.library.specs.Package.{Signature}
use Rattle.library.specs.Signatures.{signature_at}
use Rattle.pkg_group.specs.declared.Candidate.{Candidate}
use Rattle.pkg_group.specs.declared.Candidates.{Candidates}
use Rattle.pkg_group.specs.declared.Candidates.TheVariants.{Nothing, Plain, Slotted, Several}

pub data GroupSize : Type 0 where
  no_candidate : GroupSize
  one_candidate : Signature → GroupSize
  several_candidates : GroupSize

-- of a group, as the rules go by cases on it (`in_group`)
abbrev pub group_size : List Signature → GroupSize
group_size [] = no_candidate
group_size (f ∷ []) = one_candidate f
group_size (f ∷ g ∷ fs) = several_candidates

-- what stands at a candidate's place, with slots or without them
abbrev pub signature_of : Candidate → (with_slots : Bool) → Signature
signature_of c f = signature_at c.words.now c.at f

-- of the answer: Plain and Slotted are the two flags of one candidate
abbrev pub size_found : Candidates → GroupSize
size_found Nothing = no_candidate
size_found (Plain c) = one_candidate (signature_of c false)
size_found (Slotted c) = one_candidate (signature_of c true)
size_found Several = several_candidates

-- a group of two signatures and more
pub record OfSeveral (fs : List Signature) : Type 0 where
  pub first : Signature
  pub second : Signature
  pub others : List Signature
  pub are : fs ≡ first ∷ second ∷ others
