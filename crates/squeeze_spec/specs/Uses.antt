-- Parts that are stored once: each at its first use, that is at the first part that has the same
-- key.
use Rattle.std.specs.Prelude.{ℕ, zero, suc, List, [], Bool, true, false, length, ltb, eqb, if◌then◌else◌}
use Rattle.format.specs.String.{same_bytes}
use Rattle.format.specs.Bytes.{joined}

-- the first below n whose key is x, and n where none has it
unfoldable pub first_with : (ℕ → List ℕ) → List ℕ → ℕ → ℕ
first_with key x zero = zero
first_with key x (suc n) =
    let e = first_with key x n in
    elim (ltb e n) [ true ↦ e | false ↦ if same_bytes (key n) x then n else suc n ]

-- the first use of what i has for a key: i itself, where none before it has the same
abbrev pub first_use : (ℕ → List ℕ) → ℕ → ℕ
first_use key i = first_with key (key i) i

abbrev pub is_first : (ℕ → List ℕ) → ℕ → Bool
is_first key i = eqb (first_use key i) i

-- what i adds: its part, if it is the first use of its key
unfoldable pub added : (ℕ → List ℕ) → (ℕ → List ℕ) → ℕ → List ℕ
added key part i = if is_first key i then part i else []

-- the first n parts, each key's once, without gaps
abbrev pub stored_once : (ℕ → List ℕ) → (ℕ → List ℕ) → ℕ → List ℕ
stored_once key part n = joined (added key part) n

-- where in them the part of i is found: at its first use
abbrev pub place_of : (ℕ → List ℕ) → (ℕ → List ℕ) → ℕ → ℕ
place_of key part i = length (stored_once key part (first_use key i))
