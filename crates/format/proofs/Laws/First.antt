-- Things in a row: where each stands, and that one of them is the first to pass a test or none
-- does.
use Rattle.std.specs.Prelude.{ℕ, zero, suc, ◌+◌, ◌*◌, ◌<◌, ◌≡◌, refl, Bool, true, false}
use Rattle.std.proofs.Math.Decide.{ℕ_discrete}
use Rattle.std.proofs.Common.{add-zero, mul-zero, mul-suc, arith}

-- the first stands at p, and each of the others a step further
pub at_first : (p step : ℕ) → p + step * 0 ≡ p
at_first p step = rw (mul-zero, add-zero)

pub at-later : (p step j : ℕ) → p + step * suc j ≡ p + step + step * j
at-later p step j = rw mul-suc (omega arith)

-- of the things 0 to n - 1
pub data First (test : ℕ → Bool) (n : ℕ) : Type 0 where
  found : (i : ℕ) → i < n → test i ≡ true → ((j : ℕ) → j < i → test j ≡ false) → First test n
  none : ((i : ℕ) → i < n → test i ≡ false) → First test n

pub first : (test : ℕ → Bool) (n : ℕ) → First test n
first test zero = none (λ i l. absurd (omega arith))
first test (suc n) = go (first test n) (test n) refl
  where
    go : First test n → (b : Bool) → test n ≡ b → First test (suc n)
    go (found i l here before) b e = found i (omega arith) here before
    go (none fail) true e = found n (omega arith) e fail
    go (none fail) false e = none (λ i l. elim (ℕ_discrete i n) [ yes q ↦ rw q e | no q ↦ fail i (omega arith) ])
