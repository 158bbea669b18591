-- Which of many keys is the first that one before it is equal to. `name i` is the i-th.
use Rattle.std.specs.Prelude.{ℕ, zero, suc, ◌≤◌, ◌<◌, ◌≡◌, ◌⊎◌, List, [], ◌∷◌, true, false}
use Rattle.format.specs.String.{among}
use Rattle.names.specs.Index.{Represents}

-- t is one of the first n
abbrev pub Named : (ℕ → List ℕ) → ℕ → List ℕ → Type 0
Named name n t = (j : ℕ) × (j < n) × (name j ≡ t)

-- the i-th is one of those before it
abbrev pub Repeated : (ℕ → List ℕ) → ℕ → Type 0
Repeated name i = Named name i (name i)

-- of the first n, the r-th is the first that is one of those before it; n where none is
pub record FirstRepeat (name : ℕ → List ℕ) (n r : ℕ) : Type 0 where
  pub within : r ≤ n
  pub before : (i : ℕ) → i < r → Repeated name i → ⊥
  pub here : (r ≡ n) ⊎ Repeated name r

-- the first n, the last first
unfoldable pub seen : (ℕ → List ℕ) → ℕ → List (List ℕ)
seen name zero = []
seen name (suc n) = name n ∷ seen name n

-- after the first n were taken into an index, up to the first repeat: all of them are in it if
-- there is none
pub record Taken (key name : ℕ → List ℕ) (index : List ℕ) (n r : ℕ) : Type 0 where
  pub first : FirstRepeat name n r
  pub known : r ≡ n → Represents key index n (seen name n)

-- of the first n, the r-th is the first that is one of those met before; n where none is
pub record Looked (name : ℕ → List ℕ) (before : List (List ℕ)) (n r : ℕ) : Type 0 where
  pub within : r ≤ n
  pub other : (i : ℕ) → i < r → among (name i) before ≡ false
  pub here : (r ≡ n) ⊎ (among (name r) before ≡ true)
