-- The check's order of an accepted cache: on which chain and at which step each of its records
-- stands.
use Rattle.std.specs.Prelude.{ℕ, ◌+◌, ◌≤◌, ◌<◌, ◌≡◌, refl, ◌⊎◌, List, length}
use Rattle.std.proofs.Common.{ap, ◌∙◌, inl, inr, arith}
use Rattle.std.proofs.Math.Decide.{ℕ_discrete, dec_lt}
use Rattle.format.specs.Header.{buckets}
use Rattle.format.specs.Record.{bucket_of}
use Rattle.format.specs.Chain.{all_records, nth_record, nth_name}
use Rattle.format.specs.Words.{link, Holds, Accepted, Lengths, sum}
use Rattle.format.specs.Places.{chain_length, StandsAt}
use Rattle.format.proofs.Laws.Links.{keeps-bucket}
use Rattle.format.proofs.Laws.Apart.{holds-few}
use Rattle.format.proofs.Laws.Along.{counted, holds-chain}
use Rattle.format.proofs.Laws.Order.{located, record-at, records-length, sum-before}
use Rattle.format.specs.declared.Reading.TheVariants.{Short}

pub chain_length_lem : {s : List ℕ} {k n : ℕ} → Holds Short s k n → chain_length s k ≡ n
chain_length_lem {s} {k} {n} h = counted s k n (holds-chain Short s k (holds-few h) h)

module _ {s : List ℕ} (acc : Accepted Short s) where
  pub chain-lengths : Lengths Short s (buckets s) (chain_length s)
  chain-lengths k l = let (n, h) = acc.lower k l in rw (chain_length_lem h) h

  pub order-length : length (all_records Short s) ≡ sum (chain_length s) (buckets s)
  order-length = records-length (chain_length s) (buckets s) chain-lengths

  at_place : {n k m : ℕ} → k < buckets s → m < chain_length s k → n ≡ sum (chain_length s) k + m → StandsAt s n k m
  at_place {n} {k} {m} l g e =
      let here : nth_record s n ≡ link s k m = ap (nth_record s) e ∙ record-at (chain_length s) (buckets s) chain-lengths l g in
      record { bucket = l; step = g; place = e; named = here; keeps = rw here ((chain-lengths k l).keeps m g).1 }

  pub step-in-order : {k m : ℕ} → k < buckets s → m < chain_length s k → StandsAt s (sum (chain_length s) k + m) k m
  step-in-order l g = at_place l g refl

  pub in_order : {n : ℕ} → n < length (all_records Short s) → (k m : ℕ) × StandsAt s n k m
  in_order {n} l =
      let (k, m, a, g, e) = located (chain_length s) (buckets s) {n = n} (omega (arith, order-length)) in
      (k, m, at_place a g e)

  pub below_length : {n k m : ℕ} → StandsAt s n k m → n < length (all_records Short s)
  below_length {n} {k} {m} a = omega (arith, order-length, a.place, a.step, sum-before (chain_length s) (buckets s) a.bucket)

  -- lower buckets come first, and on a chain lower steps
  pub order-of : {n o j k m p : ℕ} → StandsAt s n j m → StandsAt s o k p → n < o → (j < k) ⊎ ((j ≡ k) × (m < p))
  order-of {n} {o} {j} {k} {m} {p} a d l = elim (ℕ_discrete j k) [
    | yes e ↦ let same = ap (sum (chain_length s)) e in inr (e, omega (arith, a.place, d.place))
    | no x ↦ elim (dec_lt j k) [
      | yes g ↦ inl g
      | no g ↦
          let back : k < j = omega arith in
          absurd (omega (arith, a.place, d.place, d.step, sum-before (chain_length s) j back))
    ]
  ]

  pub home : {n k m : ℕ} → StandsAt s n k m → bucket_of s (nth_name s n) ≡ k
  home a = keeps-bucket a.keeps

  -- so the buckets of the names rise
  pub buckets-rise : {n o : ℕ} → n < o → o < length (all_records Short s) → bucket_of s (nth_name s n) ≤ bucket_of s (nth_name s o)
  buckets-rise {n} {o} l g =
      let before : n < length (all_records Short s) = omega arith in
      let (j, m, a) = in_order before in
      let (k, p, d) = in_order g in
      elim (order-of a d l) [ inl h ↦ omega (arith, home a, home d) | inr h ↦ omega (arith, home a, home d, h.0) ]
