-- A step opens at most one record more than its count: where it leaves a chain behind, that chain
-- has no more records than the count.
use Prim.Native.Nat.{ℕ, zero, suc, ◌+◌, ◌≤◌}
use Rattle.std.specs.Prelude.{◌≡◌, List}
use native.Mathlib.Omega.{arith}
use Rattle.format.specs.Chain.{chain_of, opened_on}
use Rattle.format.specs.declared.Next.TheVariants.{End, Broken, Record}
use Rattle.format.proofs.Laws.Follow.{at_most_one}
use Rattle.format.proofs.Laws.Along.{opened-on, after_is, holds-chain, breaks-chain, keeps-chain}
use Rattle.format.proofs.Laws.Course.{Course, ends, breaks, goes_on, course}
use Rattle.format.specs.declared.Reading.TheVariants.{Short}
use Rattle.listing.specs.Paging.{onward_opens, step_opens}
use Rattle.listing.specs.declared.Position.{Position}

-- what a bucket adds after its own chain
module _ (s : List ℕ) (n k c : ℕ) where
  opens-ends : (chain_of Short s k c).after ≡ End → onward_opens (suc n) s k c ≡ opened_on (chain_of Short s k c) + onward_opens n s (suc k) 0
  unfolding onward_opens
  opens-ends e = rw (onward_opens, e)

  opens-breaks : {x p : ℕ} → (chain_of Short s k c).after ≡ Broken x p → onward_opens (suc n) s k c ≡ opened_on (chain_of Short s k c) + 0
  unfolding onward_opens
  opens-breaks e = rw (onward_opens, e)

  opens-gives : {r : ℕ} → (chain_of Short s k c).after ≡ Record r → onward_opens (suc n) s k c ≡ opened_on (chain_of Short s k c) + 0
  unfolding onward_opens
  opens-gives e = rw (onward_opens, e)

module _ (s : List ℕ) where
  one-bucket : (n k c : ℕ) → Course Short s k c → onward_opens n s (suc k) 0 ≤ 1 → onward_opens (suc n) s k c ≤ suc c
  one-bucket n k c (ends {n = m} l h) rest = let w = holds-chain Short s k l h in omega (arith, opens-ends s n k c (after_is w), opened-on s k m w)
  one-bucket n k c (breaks {n = m} {x = x} l b) rest =
      let w = breaks-chain Short s k l b in omega (arith, opens-breaks s n k c (after_is w), opened-on s k m w, at_most_one x)
  one-bucket n k c (goes_on keeps) rest = let w = keeps-chain Short s k keeps in omega (arith, opens-gives s n k c (after_is w), opened-on s k c w)

  onward-opens : (n k c : ℕ) → onward_opens n s k c ≤ suc c
  unfolding onward_opens
  onward-opens zero k c = omega arith
  onward-opens (suc n) k c = one-bucket n k c (course Short s k c) (onward-opens n (suc k) 0)

  pub opens : (q : Position) → step_opens s q ≤ suc q.count
  opens q = onward-opens _ q.bucket q.count
