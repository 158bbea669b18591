-- Big-endian numbers: document 01, 'The layout'. A buffer is the list of its bytes.
use Rattle.std.specs.Prelude.{ℕ, zero, suc, ◌+◌, ◌*◌, List, get_or}

-- the number that the w bytes at p write; a byte past the end counts as 0
unfoldable pub be : ℕ → List ℕ → ℕ → ℕ
be zero s p = 0
be (suc w) s p = be w s p * 256 + get_or s (p + w) 0
