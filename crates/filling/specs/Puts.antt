-- A part put into a lent buffer as far as there is room for it.
use Rattle.std.specs.Prelude.{ℕ, ◌+◌, ◌≤◌, ◌≡◌, List, length}
use Rattle.format.specs.Bytes.{put}

-- with room for it xs is put at `at`, and the next goes behind it; without, what is left of the
-- buffer is not said
pub record Puts (lent out : List ℕ) (at : ℕ) (xs : List ℕ) (behind : ℕ) : Type 0 where
  pub same : length out ≡ length lent
  pub filled : at + length xs ≤ length lent → out ≡ put lent at xs
  pub next : behind ≡ at + length xs
