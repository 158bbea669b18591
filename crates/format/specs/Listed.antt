-- Whether a number is one of a list.
use Rattle.std.specs.Prelude.{ℕ, List, [], ◌∷◌, Bool, false, ◌||◌, eqb}

abbrev pub listed : ℕ → List ℕ → Bool
listed x [] = false
listed x (n ∷ ns) = eqb x n || listed x ns
