-- The records along a chain, from one of its fields on, and their names.
use Rattle.std.specs.Prelude.{ℕ, suc, ◌+◌, ◌≤◌, ◌<◌, List, length}
use Rattle.format.specs.Layout.{field_size, record_size}
use Rattle.format.specs.Number.{be}
use Rattle.format.specs.Record.{name_of}
use Rattle.rounds.specs.Stepping.{ahead}

-- the field f and the record that it leads to lie inside
pub record LeadsInside (s : List ℕ) (f : ℕ) : Type 0 where
  pub field-ends : f + field_size ≤ length s
  pub record-ends : be 4 s f + record_size ≤ length s

-- so do the first n from the field f on
abbrev pub InsideAlong : List ℕ → ℕ → ℕ → Type 0
InsideAlong s f n = (i : ℕ) → i < n → LeadsInside s (ahead s f i)

-- the name of the i-th record from the field f on
abbrev pub name_along : List ℕ → ℕ → ℕ → List ℕ
name_along s f i = name_of s (ahead s f (suc i))
