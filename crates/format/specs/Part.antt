-- Parts that lie wholly inside the buffer: document 01, 'Answer numbers'. The numbers have no
-- largest one, so no sum wraps.
use Rattle.std.specs.Prelude.{ℕ, ◌+◌, ◌*◌, List, Bool, ◌&&◌, length, leb}
use Rattle.format.specs.Number.{be}

-- the n bytes at p
abbrev pub inside : List ℕ → ℕ → ℕ → Bool
inside s p n = leb (p + n) (length s)

-- the list at p: its count, and that many entries of `size` bytes
abbrev pub list_inside : List ℕ → ℕ → ℕ → Bool
list_inside s p size = inside s p 4 && inside s p (4 + size * be 4 s p)
