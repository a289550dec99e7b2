-- What an accepted library has: the walk relies on it. By what reading has shown of pool and packages. Assumes nothing.
use Rattle.std.specs.Prelude.{ℕ, ◌+◌, ◌≤◌, ◌≡◌, refl, Bool, true, false, List, length, get_or, drop, ltb}
use Rattle.std.proofs.Common.{sym, ap, subst, ◌∙◌, arith, add_comm, length-take, length-drop, get_or-take, get_or-drop}
use Rattle.std.proofs.Math.Option.{Option, none, some}
use borrow.Author.Tests.{ltb-false}
use Rattle.tok.specs.Text.{Texts}
use Rattle.tok.specs.Step.{Result}
use Rattle.tok.specs.Reader.{Cursor, start, fault_of, most_bytes, most_words, unless_long}
use Rattle.reader.specs.Reads.{Within, Reads, reads, faults, reads_then, reads_word, reads_end}
use Rattle.library.specs.Pool.{Pool}
use Rattle.library.specs.Package.{packages_of}
use Rattle.library.specs.LibraryFault.{pool_read, library, library_read, library_fault}
use Rattle.library.specs.Each.{Each}
use Rattle.library.specs.PoolRead.{PoolIn, PoolFine, pool-reads}
use Rattle.library.specs.PackagesRead.{PackageFine, packages_end, packages-reads}

-- "Library: pool length P, package count, P pool words, then the packages"
abbrev pub library_pool : Texts → List ℕ → Pool
library_pool t words = pool_read t words (get_or words 0 0)

abbrev pub packages_place : List ℕ → ℕ
packages_place words = 2 + get_or words 0 0

pub record LibraryFine (t : Texts) (words : List ℕ) : Type 0 where
  pub pool : PoolFine (library_pool t words)
  pub packages : Each (PackageFine (library_pool t words)) (packages_of words)
  -- the last package ends with the list
  pub ends : length words ≡ packages_end words (packages_place words) (get_or words 1 0)
  pub pool_within : packages_place words ≤ length words
  pub small : length words ≤ most_words

pub pool_in_lem : (t : Texts) (words : List ℕ) (size : ℕ) → PoolIn (pool_read t words size) words
pool_in_lem t words size = record {
  at = λ i l. sym (get_or-take size (drop 2 words) i 0 l ∙ get_or-drop 2 words i 0 ∙ ap (λ n. get_or words n 0) (add_comm 2 i));
}

-- Reading a library answers what `packages_of` decodes.
pub library-reads : (t : Texts) (words : List ℕ)
    → Reads words (packages_of words) (packages_end words (packages_place words) (get_or words 1 0)) (LibraryFine t words) (library t words (start 2 words))
unfolding library packages_of
library-reads t words =
    let size : ℕ = get_or words 0 0 in
    let p : Pool = library_pool t words in
    reads_then _ (reads_word _ _ words 0 2) (λ l₁ w₁ f₁.
    reads_then _ (reads_word _ _ words 1 l₁) (λ l₂ w₂ f₂.
    reads_then _ (pool-reads p words (pool_in_lem t words size) l₂ w₂) (λ l₃ w₃ f₃.
    let e : size + 2 ≡ 2 + size = add_comm size 2 in
    let w : Within words (2 + size) = subst (Within words) e w₃ in
    rw e
    (reads_then _ (packages-reads p words (get_or words 1 0) (2 + size) l₃ (λ _. w)) (λ l₄ w₄ f₄.
    reads_then _ (reads_end words _ l₄ w₄) (λ l₅ w₅ f₅.
    reads l₅ w₅ (record { pool = f₃; packages = f₄; ends = f₅; pool_within = w.in_list; small = omega (arith, w₅.in_most) })))))))

-- ── Accepted ──

some-none : {P : Type 0} (n : ℕ) → ◌≡◌ {A = Option ℕ} (some n) none → P
some-none n e = let z : ◌≡◌ {A = ℕ} 0 1 = cc in absurd (omega arith)

not-long : {A : Type 0} (b : Bool) (r : Result Cursor ℕ A) → fault_of (unless_long b r) ≡ none → (b ≡ false) × (fault_of r ≡ none)
unfolding unless_long fault_of
not-long true r e = some-none 0 e
not-long false r e = (refl, e)

no-fault : {A : Type 0} {words : List ℕ} {a : A} {to : ℕ} {P : Type 0} {r : Result Cursor ℕ A} → Reads words a to P r → fault_of r ≡ none → P
unfolding fault_of
no-fault (reads least w p) e = p
no-fault (faults place) e = some-none place e

-- THE LAW: a library without a fault has all of it, and its text is within its limit.
module _ (t : Texts) (words : List ℕ) (accepted : library_fault t words ≡ none) where
  pub library-fine : LibraryFine t words
  unfolding library_fault library_read
  library-fine = no-fault (library-reads t words) (not-long _ _ accepted).1

  pub library-text : length t.library ≤ most_bytes
  unfolding library_fault library_read
  library-text = ltb-false most_bytes (length t.library) (not-long (ltb most_bytes (length t.library)) (library t words (start 2 words)) accepted).0

  -- there are as many pool words as P says
  pub pool-length : length (library_pool t words).words ≡ get_or words 0 0
  pool-length = simp (length-take, length-drop) (omega (arith, library-fine.pool_within))
