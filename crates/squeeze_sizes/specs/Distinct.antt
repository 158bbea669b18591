-- How many bytes different parts take, of those from one of them on.
use Rattle.std.specs.Prelude.{ℕ, ◌+◌, List, length}
use Rattle.squeeze_spec.specs.Uses.{stored_once}

-- the parts from a on
abbrev pub from : (ℕ → List ℕ) → ℕ → ℕ → List ℕ
from part a i = part (a + i)

-- the bytes of n of them, each once
abbrev pub distinct : (ℕ → List ℕ) → ℕ → ℕ → ℕ
distinct part a n = length (stored_once (from part a) (from part a) n)
