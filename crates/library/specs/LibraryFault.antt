-- The library's rules and limits: refusal 2 and its place (document 01, "Answers that end the check"). Definitions.
use Rattle.std.specs.Prelude.{ℕ, ◌*◌, true, List, length, take, drop, ltb}
use Rattle.std.proofs.Math.Option.{Option}
use Rattle.tok.specs.Text.{Texts}
use Rattle.tok.specs.Step.{Result, ◌>>=◌, return}
use Rattle.tok.specs.Reader.{Cursor, Read, owing, many, ends, start, fault_of, most_bytes, unless_long}
use Rattle.library.specs.Pool.{Pool, pool_from}
use Rattle.library.specs.Package.{Package}
use Rattle.library.specs.PackageRecords.{package_record}

-- the pool words are words 2 to P + 1 of the library
abbrev pub pool_read : Texts → List ℕ → ℕ → Pool
pool_read t words size = record { texts = t; size = size; words = take size (drop 2 words) }

-- "Library: pool length P, package count, P pool words, then the packages". P owes P words, the package count two for
-- each package. Words after the last package offend, at the first.
unfoldable pub library : Texts → List ℕ → Read (List Package)
library t words = do
  size ← owing (λ _. true) (λ p. p)
  count ← owing (λ _. true) (λ k. 2 * k)
  _ ← pool_from (pool_read t words size) size 0
  packages ← many count (package_record (pool_read t words size))
  _ ← ends
  return packages

-- the packages, or the first offending word. "a text over its limit comes first, with place 0"
unfoldable pub library_read : Texts → List ℕ → Result Cursor ℕ (List Package)
library_read t words = unless_long (ltb most_bytes (length t.library)) (library t words (start 2 words))

-- "library breaks its rules or limits"
unfoldable pub library_fault : Texts → List ℕ → Option ℕ
library_fault t words = fault_of (library_read t words)
