-- A record whose image list lies inside.
use Rattle.std.specs.Prelude.{ℕ, ◌+◌, ◌*◌, ◌≤◌, List, length}
use Rattle.format.specs.Record.{images_at, images}

pub record ListInside (s : List ℕ) (r : ℕ) : Type 0 where
  pub inside : r + 12 ≤ length s
  pub listed : images_at s r + 4 + 8 * images s r ≤ length s
