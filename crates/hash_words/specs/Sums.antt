-- The hash of the last n bytes of a word from 0, without the modulus, where a byte b counts as f b.
use Rattle.std.specs.Prelude.{ℕ, zero, suc, ◌+◌, ◌*◌, ◌/◌, ◌%◌}

unfoldable pub sum_of : (ℕ → ℕ) → ℕ → ℕ → ℕ
sum_of f zero w = 0
sum_of f (suc n) w = 31 * sum_of f n (w / 256) + f (w % 256)

-- a byte as it stands
abbrev pub plain : ℕ → ℕ
plain b = b
