-- A table of where the list of each icon is stored, filled block by block; and the lists that are
-- new from one icon on.
use Rattle.std.specs.Prelude.{ℕ, zero, suc, ◌+◌, List, [], ◌∷◌, ltb, if◌then◌else◌}
use Rattle.format.specs.Bytes.{bytes, joined}
use Rattle.format.specs.Layout.{end_value}
use Rattle.squeeze_spec.specs.Uses.{first_use, is_first, place_of}

module _ (part : ℕ → List ℕ) where
  -- the cell of icon i while the lists first used below b are stored, from `at` on
  abbrev pub cell_to : ℕ → ℕ → ℕ → ℕ
  cell_to at b i = if ltb (first_use part i) b then at + place_of part part i else end_value

  -- the same after a walk from a to b has come to icon n
  abbrev pub cell : ℕ → ℕ → ℕ → ℕ → ℕ → ℕ
  cell at a b n i = if ltb i n then cell_to at b i else cell_to at a i

  -- the first m cells as bytes
  abbrev pub cells : ℕ → ℕ → ℕ → ℕ → ℕ → List ℕ
  cells at a b n m = joined (λ i. bytes 4 (cell at a b n i)) m

  -- of m lists from a on those that are first uses, the last first
  unfoldable pub news : ℕ → ℕ → List (List ℕ)
  news a zero = []
  news a (suc m) = if is_first part (a + m) then part (a + m) ∷ news a m else news a m
