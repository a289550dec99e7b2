-- The packages of an accepted library, as the theorems of larger cases take them; and refusal 2 from refusals 1 to 6. Assumes nothing.
use Rattle.std.specs.Prelude.{ℕ, ◌+◌, ◌≤◌, ◌≡◌, refl, List, ◌++◌, length}
use Rattle.std.proofs.Common.{arith}
use Rattle.std.proofs.Math.Option.{Option, none, some}
use Rattle.tok.specs.Text.{Texts}
use Rattle.tok.specs.Step.{Refusal}
use Rattle.tok.specs.Reader.{most_words}
use Rattle.library.specs.Package.{pool_of, packages_from, packages_of}
use Rattle.library.specs.LibraryFault.{library_fault}
use Rattle.library.specs.Accepted.{library-fine, pool-length}
use Rattle.library.specs.Longer.{packages-kept}
use Rattle.refusals.specs.Inputs.{Inputs, Buffers, texts_in}
use Rattle.refusals.specs.Refusals.{or_else, scratch_fault, refusal_of}
use Rattle.rules.specs.Promises.{MorePackages}

or_none : (n : ℕ) (o : Option ℕ) (later : Option Refusal) → or_else n o later ≡ none → (o ≡ none) × (later ≡ none)
unfolding or_else
or_none n none later e = (refl, e)
or_none n (some place) later e = absurd (not_none e)
  where
    not_none : {x : Refusal} → ◌≡◌ {A = Option Refusal} (some x) none → ⊥
    not_none e = let z : ◌≡◌ {A = ℕ} 0 1 = cc in omega arith

-- inputs that pass refusals 1 to 6 pass refusal 2
pub library-accepted : (i : Inputs) (b : Buffers) → refusal_of i b ≡ none → library_fault (texts_in i) i.library ≡ none
unfolding refusal_of
library-accepted i b e = (or_none 2 _ _ (or_none 1 (scratch_fault b) _ e).1).0

-- THE LAW: "any packages are added after the library's last": the old ones stand first, as they were.
pub packages_extended : (i i' : Inputs) (m : MorePackages i i') → library_fault (texts_in i) i.library ≡ none
    → packages_of i'.library ≡ packages_of i.library ++ packages_from i'.library (length i.library + length m.pool) m.count
packages_extended i i' m accepted = packages-kept (texts_in i) i.library i'.library m.pool m.packages m.count (library-fine (texts_in i) i.library accepted) m.longer

-- a pool has no more words than the types buffer may hold
pub pool-most : (t : Texts) (words : List ℕ) → library_fault t words ≡ none → length (pool_of words) ≤ most_words
pool-most t words accepted =
    let f = library-fine t words accepted in
    omega (arith, f.small, f.pool_within, pool-length t words accepted)
