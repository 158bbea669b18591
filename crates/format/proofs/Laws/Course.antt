-- What a chain can be like that is followed past at most N records: one of three ways, and one is
-- always at hand.
use Rattle.std.specs.Prelude.{ℕ, zero, suc, ◌≤◌, ◌≡◌, List, length}
use Rattle.std.proofs.Common.{arith}
use Rattle.format.specs.Chain.{chain_of, opened_on}
use Rattle.format.specs.Words.{link_field, KeepsBelow, Holds, Breaks}
use Rattle.format.specs.declared.Next.{Next}
use Rattle.format.specs.declared.Next.TheVariants.{End}
use Rattle.format.proofs.Laws.Below.{below_suc}
use Rattle.format.proofs.Laws.Follow.{Leads, to_end, to-broken, to-record, leads}
use Rattle.format.proofs.Laws.Along.{reads-link, counted, opened-on, after_is, holds-chain, breaks-chain, keeps-chain}
use Rattle.format.specs.declared.Reading.{Reading}

pub data Course (ρ : Reading) (s : List ℕ) (k N : ℕ) : Type 0 where
  ends : {n : ℕ} → n ≤ N → Holds ρ s k n → Course ρ s k N
  breaks : {n x p : ℕ} → n ≤ N → Breaks ρ s k n x p → Course ρ s k N
  goes_on : KeepsBelow ρ s k (suc N) → Course ρ s k N

module _ (ρ : Reading) (s : List ℕ) (k : ℕ) where
  one_more : (n : ℕ) → KeepsBelow ρ s k n → {l : Next} → Leads ρ s k (link_field s k n) l → Course ρ s k n
  one_more n keeps (to_end e) = ends {n = n} (omega arith) (record { keeps = keeps; ends = rw reads-link at e })
  one_more n keeps (to-broken real e some) =
      breaks {n = n} (omega arith) (record { keeps = keeps; real = rw reads-link at real; broken = rw (reads-link s k n) at e; some = some })
  one_more n keeps (to-record real h) = goes_on (below_suc keeps (rw reads-link at real, rw reads-link at h))

  pub course : (N : ℕ) → Course ρ s k N
  course zero = one_more 0 (λ m l. absurd (omega arith)) (leads ρ s k _)
  course (suc N) = elim (course N) [
    | ends {n = n} l h ↦ ends {n = n} (omega arith) h
    | breaks {n = n} l b ↦ breaks {n = n} (omega arith) b
    | goes_on keeps ↦ one_more (suc N) keeps (leads ρ s k _)
  ]

  -- a chain that ends has as many records where it may be followed further
  pub ended-length : (n : ℕ) {N : ℕ} → n ≤ N → (chain_of ρ s k n).after ≡ End → length (chain_of ρ s k N).records ≡ opened_on (chain_of ρ s k n)
  ended-length n {N} few e = go (course n)
    where
      go : Course ρ s k n → length (chain_of ρ s k N).records ≡ opened_on (chain_of ρ s k n)
      go (ends {n = m} l h) = omega (arith, counted s k m (holds-chain ρ s k {n = m} {N = N} (omega arith) h), opened-on s k m (holds-chain ρ s k l h))
      go (breaks l b) = let q = after_is (breaks-chain ρ s k l b) in absurd (let z : ◌≡◌ {A = ℕ} 0 1 = cc in omega arith)
      go (goes_on keeps) = let q = after_is (keeps-chain ρ s k keeps) in absurd (let z : ◌≡◌ {A = ℕ} 0 1 = cc in omega arith)
