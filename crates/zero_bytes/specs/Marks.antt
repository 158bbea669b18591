-- The zero bytes of a number, marked.
use Rattle.std.specs.Prelude.{ℕ, zero, suc, ◌+◌, ◌*◌, ◌/◌, ◌%◌}

-- the mark of a byte: 128 if it is zero, else 0
abbrev pub mark : ℕ → ℕ
mark zero = 128
mark (suc b) = 0

-- the marks of the n bytes of w
unfoldable pub zero_marks : ℕ → ℕ → ℕ
zero_marks zero w = 0
zero_marks (suc n) w = zero_marks n (w / 256) * 256 + mark (w % 256)

-- the number whose n bytes are all c
unfoldable pub rep : ℕ → ℕ → ℕ
rep zero c = 0
rep (suc n) c = rep n c * 256 + c
