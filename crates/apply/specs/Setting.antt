-- What setting the pairs of a Record asks for. Definitions.
use Rattle.std.specs.Prelude.{List, ℕ, ◌+◌, ◌*◌, ◌≤◌, ◌<◌, ◌^◌}
use Rattle.tok.specs.Text.{Texts}
use Rattle.ptype.specs.Slots.{Binding}
use Rattle.apply.specs.Sizes.{sizes_of, size_within}

-- The types of `fields` fields from index `at` on were put after `used` words, and fit; the pairs stand from `place` on, past the `base` words
-- that the fields are read from, of a buffer of so many words.
pub record Setting (texts : Texts) (bs : List Binding) (old : List ℕ) (deep used at fields place base words : ℕ) : Type 0 where
  pub fits : used + sizes_of (size_within texts bs old deep) old at fields ≤ 8192
  pub reads : at + 2 * fields < 2 ^ 40
  pub writes : place + 2 * fields < 2 ^ 40
  pub past : base ≤ place
  pub lent : base ≤ words
