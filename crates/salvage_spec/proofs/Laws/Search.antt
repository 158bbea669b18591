-- The search for the first number that fails a test: it passes what passes, and stops, within its
-- bound, where the test fails.
use Prim.Native.Nat.{ℕ, zero, suc, ◌+◌, ◌≤◌, ◌<◌}
use Rattle.std.specs.Prelude.{◌≡◌, Bool}
use Rattle.std.proofs.Math.Path.{refl}
use Rattle.std.proofs.Math.Bool.{true, false}
use Rattle.std.proofs.Math.Decide.{ℕ_discrete}
use Rattle.std.proofs.Common.{arith}
use Rattle.salvage_spec.specs.Lists.{first_failing}

module _ (test : ℕ → Bool) where
  -- one turn of the search, by the test
  abbrev turn : ℕ → ℕ → Bool → ℕ
  turn m n t = elim t as (λ b. ℕ) [ true ↦ first_failing m test (suc n) | false ↦ n ]

  pub first_passes : (m n : ℕ) {i : ℕ} → n ≤ i → i < first_failing m test n → test i ≡ true
  unfolding first_failing
  first_passes zero n l g = absurd (omega arith)
  first_passes (suc m) n {i} l g = go (test n) refl (λ p q. first_passes m (suc n) p q) g
    where
      go : (t : Bool) → test n ≡ t → (suc n ≤ i → i < first_failing m test (suc n) → test i ≡ true) → i < turn m n t → test i ≡ true
      go true e rest h = elim (ℕ_discrete i n) [ yes q ↦ rw q e | no a ↦ rest (omega arith) h ]
      go false e rest h = absurd (omega arith)

  pub first-fails : (m n : ℕ) → first_failing m test n < n + m → test (first_failing m test n) ≡ false
  unfolding first_failing
  first-fails zero n l = absurd (omega arith)
  first-fails (suc m) n l = go (test n) refl (first-fails m (suc n)) l
    where
      go : (t : Bool) → test n ≡ t → (first_failing m test (suc n) < suc n + m → test (first_failing m test (suc n)) ≡ false) → turn m n t < n + suc m
          → test (turn m n t) ≡ false
      go true e rest h = rest (omega arith)
      go false e rest h = e
