-- What reading the packages rests on: the pool was accepted, its slots are counted, and all slots stand in the order of their names.
-- Definitions.
use Rattle.std.specs.Prelude.{ℕ, ◌+◌, ◌*◌, ◌≤◌, ◌<◌, ◌≡◌, List, map, length, get_or, Result, Ok, Err}
use Rattle.std.proofs.Math.Option.{some}
use Rattle.tok.specs.Step.{◌>>=◌, return}
use Rattle.tok.specs.Reader.{many, ends, fault_of}
use Rattle.reader.specs.declared.Fault.{Fault}
use Rattle.reader.specs.Reading.{Reader, onward}
use Rattle.tok.specs.Text.{Texts}
use Rattle.library.specs.Pool.{Pool, pool_in}
use Rattle.library.specs.PoolRead.{PoolFine}
use Rattle.library.specs.SlotSums.{slots_before}
use Rattle.library.specs.Package.{pool_of, params_from}
use Rattle.library.specs.PackageRecords.{package_record}
use Rattle.library.specs.LibraryFault.{library_fault}
use Rattle.library_slots.specs.Named.{SlotsNamed}
use Rattle.library_slots.specs.NamedLaws.{PoolAt}

-- the texts, a pool with its counts, and an order of slots
pub record Counted : Type 0 where
  pub texts : Texts
  pub words : List ℕ
  pub sums : List ℕ
  pub order : List ℕ

abbrev pub counted : Texts → (words sums order : List ℕ) → Counted
counted t words sums order = record { texts = t; words = words; sums = sums; order = order }

abbrev pub pool : Counted → Pool
pool c = pool_in c.texts c.words

pub record Ready (t : Texts) (pool sums : List ℕ) : Type 0 where
  pub fine : PoolFine (pool_in t pool)
  pub room : length pool ≤ 8192
  pub counts : (j : ℕ) → j ≤ length pool → get_or sums j 0 ≡ slots_before (pool_in t pool) j

-- The pool was accepted, and the package count and the reading before the packages are these: the packages decide.
pub record PoolCame (t : Texts) (words : List ℕ) (count : ℕ) (at : Reader) : Type 0 where
  pub fine : PoolFine (pool_in t (pool_of words))
  pub there : PoolAt words (pool_of words)
  pub same : at.words ≡ words
  pub rest : library_fault t words ≡ fault_of (onward at (do
    ps ← many count (package_record (pool_in t (pool_of words)))
    _ ← ends
    return ps))

abbrev pub PoolReads : Texts → (words : List ℕ) → Result (ℕ × Reader) Fault → Type 0
PoolReads t words (Ok (count, at)) = PoolCame t words count at
PoolReads t words (Err fault) = library_fault t words ≡ some fault.0

-- the first n entries are the slots of the library by name; n is 0 where there are none
pub record Ordered (t : Texts) (words pool order : List ℕ) (n : ℕ) : Type 0 where
  pub there : PoolAt words pool
  pub named : 0 < n → SlotsNamed t words order n

abbrev pub OrderedIn : (words : List ℕ) → Counted → Type 0
OrderedIn words c = Ordered c.texts words c.words c.order (length c.order)

-- a function's argument types and its return type w by place: "name and type for each argument, return type"
pub record Placed (words types : List ℕ) (w first end : ℕ) : Type 0 where
  pub count : ℕ
  pub types_are : types ≡ map (λ a. a.type) (params_from words first count)
  pub ret-is : w ≡ get_or words end 0
  pub ends : end ≡ first + 2 * count
  pub low : 2 ≤ first
  pub high : end ≤ 8192
  pub within : end ≤ length words
