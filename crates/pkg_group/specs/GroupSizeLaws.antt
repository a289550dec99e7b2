-- A group is what its size says. Assumes nothing.
use Rattle.std.specs.Prelude.{◌≡◌, refl, Bool, true, false, List, [], ◌∷◌}
use Rattle.std.proofs.Common.{sym, ap, true≢false}
use Rattle.library.specs.Package.{Signature}
use Rattle.library.specs.Signatures.{signature_at}
use Rattle.signatures.specs.Groups.{as_plain, as_slotted}
use Rattle.pkg_group.specs.declared.Candidate.{Candidate}
use Rattle.pkg_group.specs.GroupSize.{GroupSize, no_candidate, one_candidate, several_candidates, group_size, signature_of, OfSeveral}

abbrev is_none : GroupSize → Bool
is_none no_candidate = true
is_none (one_candidate f) = false
is_none several_candidates = false

abbrev is_several : GroupSize → Bool
is_several no_candidate = false
is_several (one_candidate f) = false
is_several several_candidates = true

abbrev alone : GroupSize → List Signature
alone no_candidate = []
alone (one_candidate f) = f ∷ []
alone several_candidates = []

pub size_none : (fs : List Signature) → group_size fs ≡ no_candidate → fs ≡ []
size_none [] e = refl
size_none (f ∷ []) e = absurd (true≢false (ap is_none (sym e)))
size_none (f ∷ g ∷ fs) e = absurd (true≢false (ap is_several e))

pub size-one : (fs : List Signature) {g : Signature} → group_size fs ≡ one_candidate g → fs ≡ g ∷ []
size-one [] e = absurd (true≢false (ap is_none e))
size-one (f ∷ []) e = ap alone e
size-one (f ∷ g ∷ fs) e = absurd (true≢false (ap is_several e))

pub size_several : (fs : List Signature) → group_size fs ≡ several_candidates → OfSeveral fs
size_several [] e = absurd (true≢false (ap is_none e))
size_several (f ∷ []) e = absurd (true≢false (ap is_several (sym e)))
size_several (f ∷ g ∷ fs) e = record { first = f; second = g; others = fs; are = refl }

-- Its flag is the one that is said.
pub plain-of : (c : Candidate) → as_plain (signature_of c false) ≡ signature_of c false
unfolding signature_at
plain-of c = refl

pub slotted-of : (c : Candidate) → as_slotted (signature_of c true) ≡ signature_of c true
unfolding signature_at
slotted-of c = refl
