-- An index of keys, and beside each entry the value of its key.
use Rattle.std.specs.Prelude.{ℕ, ◌<◌, ◌≡◌, List, get_or}
use Rattle.names.specs.Index.{entry, Represents, Inserted}

-- the first n entries have the keys met before, and each has its value beside it
pub record Maps (key : ℕ → List ℕ) (index values : List ℕ) (n : ℕ) (before : List (List ℕ)) (value : List ℕ → ℕ) : Type 0 where
  pub known : Represents key index n before
  pub valued : (i : ℕ) → i < n → get_or values i 0 ≡ value (entry key index i)

-- p is made entry i of n, with the value v
pub record Adds (old new values values' : List ℕ) (n i p v : ℕ) : Type 0 where
  pub entries : Inserted old new n i p
  pub values-too : Inserted values values' n i v
