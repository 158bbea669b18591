-- An index: offsets, in rising order of their keys. `key` says what the key of an offset is.
use Rattle.std.specs.Prelude.{ℕ, ◌+◌, ◌≤◌, ◌<◌, ◌≡◌, ◌↔◌, List, ◌∷◌, Bool, true, get_or, if◌then◌else◌, Result, Ok, Err}
use Rattle.format.specs.String.{among}
use Rattle.std.specs.declared.cmp.Ordering.TheVariants.{Less}
use Rattle.keys.specs.Order.{order}

-- the key of entry i
abbrev pub entry : (ℕ → List ℕ) → List ℕ → ℕ → List ℕ
entry key index i = key (get_or index i 0)

-- the keys of the first n entries rise
abbrev pub Rising : (ℕ → List ℕ) → List ℕ → ℕ → Type 0
Rising key index n = (i j : ℕ) → i < j → j < n → order (entry key index i) (entry key index j) ≡ Less

-- one of the first n entries has the key t
abbrev pub Holds : (ℕ → List ℕ) → List ℕ → ℕ → List ℕ → Type 0
Holds key index n t = (i : ℕ) × (i < n) × (entry key index i ≡ t)

-- the keys of the first n entries rise and are those met before, in whatever order and however
-- often these were met
pub record Represents (key : ℕ → List ℕ) (index : List ℕ) (n : ℕ) (before : List (List ℕ)) : Type 0 where
  pub rising : Rising key index n
  pub exact : (t : List ℕ) → Holds key index n t ↔ (among t before ≡ true)

-- a spot of an index with n entries: that of an entry, or one that an entry would have
abbrev pub Within : ℕ → Result ℕ ℕ → Type 0
Within n (Ok i) = i < n
Within n (Err i) = i ≤ n

-- the key t is greater than those before entry `low`, and less than those from entry `high` on
pub record Between (key : ℕ → List ℕ) (index : List ℕ) (n : ℕ) (t : List ℕ) (low high : ℕ) : Type 0 where
  pub behind : (k : ℕ) → k < low → order (entry key index k) t ≡ Less
  pub ahead : (k : ℕ) → high ≤ k → k < n → order t (entry key index k) ≡ Less

-- what a spot says of the key of p: the entry there has it, or it is greater than those before the
-- spot and less than those from it on
abbrev pub Spotted : (ℕ → List ℕ) → List ℕ → ℕ → ℕ → Result ℕ ℕ → Type 0
Spotted key index n p (Ok i) = entry key index i ≡ key p
Spotted key index n p (Err i) = Between key index n (key p) i i

-- p is made entry i of n
pub record Inserted (old new : List ℕ) (n i p : ℕ) : Type 0 where
  pub below : (k : ℕ) → k < i → get_or new k 0 ≡ get_or old k 0
  pub here : get_or new i 0 ≡ p
  pub above : (k : ℕ) → i ≤ k → k < n → get_or new (k + 1) 0 ≡ get_or old k 0

-- what is known after it was asked for the key of p: whether it was met before, and that it is so
-- now
pub record Answered (key : ℕ → List ℕ) (index : List ℕ) (n p : ℕ) (before : List (List ℕ)) (answer : Bool) : Type 0 where
  pub right : answer ≡ among (key p) before
  pub after : Represents key index (if answer then n else n + 1) (key p ∷ before)
