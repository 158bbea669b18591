-- Two parts put into a lent buffer as far as there is room for both, the one before the other.
use Rattle.std.specs.Prelude.{ℕ, ◌+◌, ◌≤◌, ◌≡◌, List, length}
use Rattle.format.specs.Bytes.{put}

pub record PutsBoth (lent out : List ℕ) (p : ℕ) (xs : List ℕ) (q : ℕ) (ys : List ℕ) : Type 0 where
  pub same : length out ≡ length lent
  pub filled : p + length xs ≤ q → q + length ys ≤ length lent → out ≡ put (put lent p xs) q ys
