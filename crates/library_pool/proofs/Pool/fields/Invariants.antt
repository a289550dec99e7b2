-- `library_pool::Pool::fields` meets its contract: all fields are read as those that are left are, from where the loop stands. Assumes nothing.
use Rattle.std.proofs.Common.{◌≡◌, ℕ, List, ◌+◌, ◌-◌, ◌*◌}
use Rattle.tok.specs.Text.{texts_of}
use Rattle.reader.specs.Reading.{onward}
use Rattle.library.specs.Pool.{pool_at, fields}
use Rattle.library_pool.proofs.Pool.fields.Given as goal

abbrev pub invariant-loop-k : goal.invariant-loop-k
invariant-loop-k l = (l.to.words ≡ l.initial.to.words)
    × ((script : List ℕ) (size : ℕ) → onward l.to (fields (pool_at (texts_of script l.self.text.now) size l.self.words.now) (l.n - l.k) (l.i + 2 * l.k)) ≡ onward l.initial.to (fields (pool_at (texts_of script l.self.text.now) size l.self.words.now) l.n l.i))
