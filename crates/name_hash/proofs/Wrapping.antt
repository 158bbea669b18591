-- What a wrapping subtraction answers: it ensures that its result and what was taken away make up
-- the number again, modulo 2^32.
use Rattle.std.proofs.Common.{◌≡◌, ℕ, ◌+◌, ◌*◌, ◌%◌, ◌^◌, ◌<◌, ◌∙◌, arith}

pub taken-away : (k n : ℕ) {r : ℕ} → r < 2 ^ 32 → (r + k) % 2 ^ 32 ≡ (n + k) % 2 ^ 32 → r ≡ n % 2 ^ 32
taken-away k n l e = omega arith

-- `(h << 5) - h`, each step modulo 2^32, is 31 times h modulo 2^32, for any h: `h << 5` is 32 times
-- h, and r is the difference
pub shifted-less-itself : (h : ℕ) {r : ℕ} → r < 2 ^ 32 → (r + h) % 2 ^ 32 ≡ (h * 2 ^ 5) % 2 ^ 32 → r ≡ (31 * h) % 2 ^ 32
shifted-less-itself h l e =
    let once_more : (h * 2 ^ 5) % 2 ^ 32 ≡ (31 * h + h) % 2 ^ 32 = omega arith in
    taken-away h (31 * h) l (e ∙ once_more)
