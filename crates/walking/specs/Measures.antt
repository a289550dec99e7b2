-- Why the calls of the walk's functions come to an end: "A part's number is smaller than its owner's". One number for each function; it
-- falls at each call. Definitions.
use Rattle.std.specs.Prelude.{ℕ, ◌+◌, ◌*◌}

-- a part of number n; the node, by its kind; its own rule; a case of it, or its block
abbrev pub μ-part : ℕ → ℕ
μ-part n = 4 * n + 3

abbrev pub μ-node : ℕ → ℕ
μ-node n = 4 * n + 2

abbrev pub μ-rule : ℕ → ℕ
μ-rule n = 4 * n + 1

abbrev pub μ-case : ℕ → ℕ
μ-case n = 4 * n

abbrev pub μ-block : ℕ → ℕ
μ-block n = 4 * n
