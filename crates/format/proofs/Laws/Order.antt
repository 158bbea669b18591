-- The list of all records in the check's order: where each stands in it; and how long the longest
-- chain is.
use Prim.Native.Nat.{ℕ, zero, suc, ◌+◌, ◌-◌, ◌≤◌, ◌<◌}
use Rattle.std.specs.Prelude.{◌≡◌, List, [], ◌∷◌, length, get_or}
use Rattle.std.proofs.Math.Path.{refl}
use Rattle.std.proofs.Common.{ap, ◌∙◌, get_or-append-add}
use Rattle.std.proofs.Math.Decide.{ℕ_discrete, dec_lt}
use native.Mathlib.Omega.{arith}
use Rattle.std.proofs.Math.ListN.{length-append, get_or-append}
use Rattle.std.proofs.lemmas.List.{get_or_at}
use Rattle.format.specs.Chain.{Chain, chain_of, most_records, records_below, longest_below}
use Rattle.format.specs.Words.{link, Holds, Lengths, sum, greatest}
use Rattle.format.proofs.Laws.Along.{links, links-length, holds-chain}
use Rattle.format.proofs.Laws.Apart.{holds-few}
use Rattle.format.specs.declared.Reading.{Reading}

links-at : (s : List ℕ) (k n m : ℕ) → m < n → get_or (links s k n) m 0 ≡ link s k m
unfolding links
links-at s k zero m l = absurd (omega arith)
links-at s k (suc n) m l = elim (ℕ_discrete m n) [
  | yes e ↦ rw e (get_or_at (links s k n) (link s k n) [] 0 n (links-length s k n))
  | no a ↦ get_or-append (links s k n) (link s k n ∷ []) 0 m (omega (arith, links-length s k n)) ∙ links-at s k n m (omega arith)
]

module _ (len : ℕ → ℕ) where
  -- the records of a chain come before those of a later one
  pub sum-before : (k : ℕ) {j : ℕ} → j < k → sum len j + len j ≤ sum len k
  unfolding sum
  sum-before zero l = absurd (omega arith)
  sum-before (suc k) {j} l = elim (ℕ_discrete j k) [
    | yes e ↦ rw e (omega arith)
    | no a ↦ let c : j < k = omega arith in omega (arith, sum-before k c)
  ]

  -- each number below the sum is that of a record
  pub located : (k : ℕ) {n : ℕ} → n < sum len k → (j m : ℕ) × (j < k) × (m < len j) × (n ≡ sum len j + m)
  unfolding sum
  located zero l = absurd (omega arith)
  located (suc k) {n} l = elim (dec_lt n (sum len k)) [
    | yes c ↦ let (j, m, a, b, e) = located k c in (j, m, omega arith, b, e)
    | no c ↦ (k, n - sum len k, omega arith, omega arith, omega arith)
  ]

  -- none of the first n lengths is above the greatest, and one of them is it
  pub greatest-most : (n : ℕ) {k : ℕ} → k < n → len k ≤ greatest len n
  unfolding greatest
  greatest-most zero l = absurd (omega arith)
  greatest-most (suc n) {k} l = elim (ℕ_discrete k n) [
    | yes e ↦ rw e (omega arith)
    | no a ↦ let c : k < n = omega arith in omega (arith, greatest-most n c)
  ]

  pub greatest-some : (n : ℕ) → 0 < n → (k : ℕ) × (k < n) × (len k ≡ greatest len n)
  unfolding greatest
  greatest-some zero some = absurd (omega arith)
  greatest-some (suc zero) some = (0, some, omega arith)
  greatest-some (suc (suc n)) some =
      let (k, l, e) = greatest-some (suc n) (omega arith) in
      elim (dec_lt (len k) (len (suc n))) [
        | yes c ↦ (suc n, omega arith, omega arith)
        | no c ↦ (k, omega arith, omega arith)
      ]

module _ {ρ : Reading} {s : List ℕ} (len : ℕ → ℕ) where
  -- the records of a chain that holds
  chain-records : (k : ℕ) → Holds ρ s k (len k) → (chain_of ρ s k (most_records s)).records ≡ links s k (len k)
  chain-records k h = ap (λ (c : Chain). c.records) (holds-chain ρ s k (holds-few h) h)

  pub records-length : (k : ℕ) → Lengths ρ s k len → length (records_below ρ s k) ≡ sum len k
  unfolding records_below sum
  records-length zero h = refl
  records-length (suc k) h =
      rw (chain-records k (h k (omega arith)))
      (omega (arith, length-append (records_below ρ s k) (links s k (len k)), records-length k (λ j l. h j (omega arith)), links-length s k (len k)))

  pub longest-length : (k : ℕ) → Lengths ρ s k len → longest_below ρ s k ≡ greatest len k
  unfolding longest_below greatest
  longest-length zero h = refl
  longest-length (suc k) h =
      rw (chain-records k (h k (omega arith)), links-length s k (len k), longest-length k (λ j l. h j (omega arith)))

  pub record-at : (k : ℕ) → Lengths ρ s k len → {j m : ℕ} → j < k → m < len j → get_or (records_below ρ s k) (sum len j + m) 0 ≡ link s j m
  unfolding records_below
  record-at zero h l c = absurd (omega arith)
  record-at (suc k) h {j} {m} l c =
      let below : Lengths ρ s k len = λ i g. h i (omega arith) in
      elim (ℕ_discrete j k) [
        | yes e ↦
            rw (chain-records k (h k (omega arith)), e, ← (records-length k below)) (get_or-append-add (records_below ρ s k) (links s k (len k)) m 0)
            ∙ links-at s j (len j) m c
        | no a ↦
            let b : j < k = omega arith in
            get_or-append (records_below ρ s k) (chain_of ρ s k (most_records s)).records 0 (sum len j + m) (omega (arith, records-length k below, sum-before len k b))
            ∙ record-at k below b c
      ]
