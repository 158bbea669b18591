-- A bucket's chain past its first records, and what it is like from what its steps are like.
use Prim.Native.Nat.{ℕ, zero, suc, ◌+◌, ◌-◌, ◌≤◌}
use Rattle.std.specs.Prelude.{◌≡◌, refl, List, [], ◌∷◌, ◌++◌, length}
use Rattle.std.proofs.Common.{ap, ◌∙◌, append_assoc, append-nil, length-append}
use native.Mathlib.Omega.{arith}
use Rattle.format.specs.Number.{be}
use Rattle.format.specs.Chain.{follow, Chain, chained, chain, chain_of, opens, opened_on}
use Rattle.format.specs.Words.{link, link_field, KeepsAt, KeepsBelow, Holds, Breaks}
use Rattle.format.specs.declared.Next.{Next}
use Rattle.format.specs.declared.Next.TheVariants.{End, Broken, Record}
use Rattle.format.proofs.Laws.Follow.{to_end, to-broken, to-record, follow-leads, chain-ends, chain-breaks, chain-full, chain_next}
use Rattle.format.specs.declared.Reading.{Reading}

-- the first n records of bucket k's chain
unfoldable pub links : List ℕ → ℕ → ℕ → List ℕ
links s k zero = []
links s k (suc n) = links s k n ++ (link s k n ∷ [])

pub links-length : (s : List ℕ) (k n : ℕ) → length (links s k n) ≡ n
unfolding links
links-length s k zero = refl
links-length s k (suc n) = omega (arith, length-append (links s k n) (link s k n ∷ []), links-length s k n)

-- records put before a chain
abbrev before : List ℕ → Chain → Chain
before rs c = chained (rs ++ c.records) c.after

-- what stands in the field of a step
pub reads-link : (s : List ℕ) (k n : ℕ) → be 4 s (link_field s k n) ≡ link s k n
unfolding link link_field
reads-link s k zero = refl
reads-link s k (suc n) = refl

pub after_is : {c : Chain} {rs : List ℕ} {l : Next} → c ≡ chained rs l → c.after ≡ l
after_is e = ap (λ (c : Chain). c.after) e

-- how many records a chain has with the first n, and how many of it are opened
module _ (s : List ℕ) (k n : ℕ) {c : Chain} {l : Next} (e : c ≡ chained (links s k n) l) where
  pub counted : length c.records ≡ n
  counted = ap (λ (c : Chain). length c.records) e ∙ links-length s k n

  pub opened-on : opened_on c ≡ n + opens l
  opened-on = omega (arith, counted, ap opens (after_is e))

module _ (ρ : Reading) (s : List ℕ) (k : ℕ) where
  module _ {n : ℕ} where
    step-ends : Holds ρ s k n → follow ρ s k (link_field s k n) ≡ End
    step-ends h = follow-leads ρ s k _ (to_end (rw reads-link h.ends))

    step-breaks : {x p : ℕ} → Breaks ρ s k n x p → follow ρ s k (link_field s k n) ≡ Broken x p
    step-breaks b = follow-leads ρ s k _ (to-broken (rw reads-link b.real) (rw reads-link b.broken) b.some)

  step_keeps : (n : ℕ) → KeepsAt ρ s k n → follow ρ s k (link_field s k n) ≡ Record (link s k n)
  step_keeps n h = rw (reads-link s k n) at (follow-leads ρ s k (link_field s k n) (to-record (rw reads-link h.0) (rw reads-link h.1)))

  -- past n records that keep the rules
  pub chain-along : (n m : ℕ) {N : ℕ} → N ≡ n + m → KeepsBelow ρ s k n → chain_of ρ s k N ≡ before (links s k n) (chain ρ m s k (link_field s k n))
  unfolding links link_field
  chain-along zero m {N} e keeps = let a : N ≡ m = omega arith in rw a
  chain-along (suc n) m e keeps =
      chain-along n (suc m) (omega arith) (λ i l. keeps i (omega arith))
      ∙ rw (chain_next ρ s k (link_field s k n) m (step_keeps n (keeps n (omega arith))), append_assoc)

  -- the ways a chain can go that is followed past at most N records
  module _ {n N : ℕ} (l : n ≤ N) where
    chain-to : KeepsBelow ρ s k n → chain_of ρ s k N ≡ before (links s k n) (chain ρ (N - n) s k (link_field s k n))
    chain-to keeps = chain-along n (N - n) (omega arith) keeps

    pub holds-chain : Holds ρ s k n → chain_of ρ s k N ≡ chained (links s k n) End
    holds-chain h = chain-to h.keeps ∙ rw (chain-ends ρ s k _ (N - n) (step-ends h), append-nil)

    pub breaks-chain : {x p : ℕ} → Breaks ρ s k n x p → chain_of ρ s k N ≡ chained (links s k n) (Broken x p)
    breaks-chain b = chain-to b.keeps ∙ rw (chain-breaks ρ s k _ (N - n) (step-breaks b), append-nil)

  pub keeps-chain : {N : ℕ} → KeepsBelow ρ s k (suc N) → chain_of ρ s k N ≡ chained (links s k N) (Record (link s k N))
  keeps-chain {N} keeps =
      chain-along N 0 {N = N} (omega arith) (λ i l. keeps i (omega arith))
      ∙ rw (chain-full ρ s k (link_field s k N), step_keeps N (keeps N (omega arith)), append-nil)
