-- What a walk past some records tells of the chain.
use Rattle.std.specs.Prelude.{ℕ, suc, ◌+◌, ◌≤◌, ◌≡◌, List}
use Rattle.std.proofs.Common.{sym, ap, ◌∙◌, arith}
use Rattle.format.specs.Chain.{Chain, chained, chain_of, opens}
use Rattle.format.specs.Words.{link, KeepsBelow}
use Rattle.format.proofs.Laws.Along.{links, links-length, holds-chain, breaks-chain, keeps-chain}
use Rattle.format.proofs.Laws.Course.{Course, ends, breaks, goes_on, course}
use Rattle.format.specs.declared.Next.{Next}
use Rattle.format.specs.declared.Next.TheVariants.{End, Broken, Record}
use Rattle.format.specs.declared.Reading.TheVariants.{Short}
use Rattle.chains.specs.Walk.{walked}
use Rattle.chains.specs.declared.Walked.{Walked}

-- a chain as far as it is known
pub walked-is : (s : List ℕ) (k n : ℕ) {c : Chain} {l : Next} → c ≡ chained (links s k n) l → record { opened = n + opens l; after = l } ≡ walked c
walked-is s k n e = rw (e, links-length s k n)

-- what a walk past n records knows that has met no end: a record is still to come
pub record Goes (s : List ℕ) (k n r : ℕ) (a : Walked) : Type 0 where
  pub opened : a.opened ≡ n + 1
  pub keeps : KeepsBelow Short s k (suc n)
  pub at : r ≡ link s k n

module _ (s : List ℕ) (k n : ℕ) {a : Walked} (e : a ≡ walked (chain_of Short s k n)) where
  known : (m : ℕ) {l : Next} → chain_of Short s k n ≡ chained (links s k m) l → a ≡ record { opened = m + opens l; after = l }
  known m q = e ∙ sym (walked-is s k m q)

  after : (m : ℕ) {l : Next} → chain_of Short s k n ≡ chained (links s k m) l → a.after ≡ l
  after m q = ap (λ (a : Walked). a.after) (known m q)

  pub walked-goes : {r : ℕ} → a.after ≡ Record r → Goes s k n r a
  walked-goes {r} q = go (course Short s k n)
    where
      go : Course Short s k n → Goes s k n r a
      go (ends {n = m} l h) = let q' = after m (holds-chain Short s k l h) in absurd (let z : ◌≡◌ {A = ℕ} 0 1 = cc in omega arith)
      go (breaks {n = m} l b) = let q' = after m (breaks-chain Short s k l b) in absurd (let z : ◌≡◌ {A = ℕ} 0 1 = cc in omega arith)
      go (goes_on keeps) =
          let q' = after n (keeps-chain Short s k keeps) in
          record { opened = ap (λ (a : Walked). a.opened) (known n (keeps-chain Short s k keeps)); keeps = keeps; at = cc }

  -- one that has met an end is the same past more: it ends after some records in both, or breaks
  same : {most : ℕ} → n ≤ most → ((r : ℕ) → a.after ≡ Record r → ⊥) → a ≡ walked (chain_of Short s k most)
  same {most} few no_record = go (course Short s k n)
    where
      go : Course Short s k n → a ≡ walked (chain_of Short s k most)
      go (ends {n = m} l h) = known m (holds-chain Short s k l h) ∙ walked-is s k m (holds-chain Short s k (omega arith) h)
      go (breaks {n = m} l b) = known m (breaks-chain Short s k l b) ∙ walked-is s k m (breaks-chain Short s k (omega arith) b)
      go (goes_on keeps) = absurd (no_record _ (after n (keeps-chain Short s k keeps)))

  pub walked-ended : {most : ℕ} → n ≤ most → a.after ≡ End → a ≡ walked (chain_of Short s k most)
  walked-ended few q = same few (λ r d. let z : ◌≡◌ {A = ℕ} 0 1 = cc in omega arith)

  pub walked-broken : {most x p : ℕ} → n ≤ most → a.after ≡ Broken x p → a ≡ walked (chain_of Short s k most)
  walked-broken few q = same few (λ r d. let z : ◌≡◌ {A = ℕ} 0 1 = cc in omega arith)
