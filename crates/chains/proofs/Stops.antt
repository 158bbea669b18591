-- Where a chain stops: at what is no record.
use Rattle.std.specs.Prelude.{ℕ, ◌≤◌, ◌≡◌, refl, List, []}
use Rattle.format.specs.Chain.{follow, chained, chain, chain_of}
use Rattle.format.proofs.Laws.Follow.{chain-ends, chain-breaks}
use Rattle.format.specs.declared.Next.{Next}
use Rattle.format.specs.declared.Next.TheVariants.{End, Broken, Record}
use Rattle.format.specs.declared.Reading.TheVariants.{Short}
use Rattle.chains.specs.Walk.{walked}
use Rattle.chains.specs.Laws.{walked-ended, walked-broken}
use Rattle.chains.specs.declared.Walked.{Walked}

abbrev pub NoRecord : Next → Type 0
NoRecord l = (r : ℕ) → l ≡ Record r → ⊥

-- a chain stops there
pub chain-stops : (s : List ℕ) (k f n : ℕ) (l : Next) → NoRecord l → follow Short s k f ≡ l → chain Short n s k f ≡ chained [] l
chain-stops s k f n End h e = chain-ends Short s k f n e
chain-stops s k f n (Broken x p) h e = chain-breaks Short s k f n e
chain-stops s k f n (Record r) h e = absurd (h r refl)

-- a walk that has stopped there is the same past more
pub walked-over : (s : List ℕ) (k n : ℕ) {a : Walked} → a ≡ walked (chain_of Short s k n) → {most : ℕ} → n ≤ most → NoRecord a.after → a ≡ walked (chain_of Short s k most)
walked-over s k n {a} e {most} few none = go a.after refl
  where
    go : (l : Next) → a.after ≡ l → a ≡ walked (chain_of Short s k most)
    go End q = walked-ended s k n e few q
    go (Broken x p) q = walked-broken s k n e few q
    go (Record r) q = absurd (none r q)
