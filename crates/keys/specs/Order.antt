-- The order of keys, which are lists of numbers: byte by byte.
use Rattle.std.specs.Prelude.{ℕ, List, [], ◌∷◌, ltb, if◌then◌else◌}
use Rattle.std.specs.declared.cmp.Ordering.{Ordering}
use Rattle.std.specs.declared.cmp.Ordering.TheVariants.{Less, Equal, Greater}

-- how one key compares with another: as the first numbers do in which they differ; one that goes on
-- after the other's end is greater
unfoldable pub order : List ℕ → List ℕ → Ordering
order [] [] = Equal
order [] (y ∷ b) = Less
order (x ∷ a) [] = Greater
order (x ∷ a) (y ∷ b) = if ltb x y then Less else if ltb y x then Greater else order a b
