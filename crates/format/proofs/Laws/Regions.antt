-- The first records in the check's order: those of the chains below a bucket, and some of its own.
-- What the long reading makes of records that the short one found sound.
use Rattle.std.specs.Prelude.{ℕ, zero, suc, ◌+◌, ◌≤◌, ◌<◌, ◌≡◌, refl, List}
use Rattle.std.proofs.Common.{sym, ap, arith}
use Rattle.std.proofs.Math.Decide.{ℕ_discrete, dec_lt}
use Rattle.format.specs.Layout.{end_value}
use Rattle.format.specs.Header.{buckets}
use Rattle.format.specs.Words.{link, KeepsAt, Holds, Region, sum}
use Rattle.format.specs.declared.Reading.{Reading}
use Rattle.format.specs.declared.Reading.TheVariants.{Short, Long}
use Rattle.format.proofs.Laws.Links.{keeps-le, before-end, holds-short, below-short}
use Rattle.format.proofs.Laws.Order.{sum-before}

-- a chain has one length, by any readings
pub one-length : {ρ σ : Reading} {s : List ℕ} {k m n : ℕ} → Holds ρ s k m → Holds σ s k n → m ≡ n
one-length h g = let a = keeps-le (holds-short g) (holds-short h).keeps in let b = keeps-le (holds-short h) (holds-short g).keeps in omega arith

sum_same : (f g : ℕ → ℕ) (k : ℕ) → ((j : ℕ) → j < k → f j ≡ g j) → sum f k ≡ sum g k
unfolding sum
sum_same f g zero e = refl
sum_same f g (suc k) e = omega (arith, sum_same f g k (λ j l. e j (omega arith)), e k (omega arith))

sum-rises : (f : ℕ → ℕ) {j : ℕ} (k : ℕ) → j ≤ k → sum f j ≤ sum f k
unfolding sum
sum-rises f {j} zero l = let e : j ≡ 0 = omega arith in rw e (omega arith)
sum-rises f {j} (suc k) l = elim (ℕ_discrete j (suc k)) [
  | yes e ↦ rw e (omega arith)
  | no a ↦ let c : j ≤ k = omega arith in omega (arith, sum-rises f k c)
]

module _ {s : List ℕ} {len own : ℕ → ℕ} {k n j m : ℕ} (long : Region Long s len k n) (short : Region Short s own j m) where
  -- the lengths are the same where both have them
  same : {i : ℕ} → i < k → i < j → len i ≡ own i
  same {i} l g = one-length (long.below i l) (short.below i g)

  low : {i : ℕ} → i < k → i < j → Holds Long s i (own i)
  low {i} l g = rw (same l g) at (long.below i l)

  -- a region that reaches no further than one that keeps the long rules keeps them too
  pub reached : sum own j + m ≤ sum len k + n → Region Long s own j m
  reached few = elim (dec_lt j k) [
    | yes l ↦
        let h = long.below j l in
        record {
          below = λ i g. low (omega arith) g;
          keeps = λ i g. h.keeps i (omega (arith, keeps-le (holds-short h) short.keeps));
        }
    | no a ↦ elim (ℕ_discrete j k) [
      | yes e ↦
          let sums : sum own k ≡ sum len k = sum_same own len k (λ i l. sym (same l (omega arith))) in
          record {
            below = λ i g. low (omega arith) g;
            keeps = λ i g. rw e (long.keeps i (omega (arith, sums, ap (sum own) e)));
          }
      | no b ↦ beyond few (omega arith)
    ]
  ]
    where
      -- all that is left is empty
      beyond : sum own j + m ≤ sum len k + n → k < j → Region Long s own j m
      beyond few g =
          let sums : sum own k ≡ sum len k = sum_same own len k (λ i l. sym (same l (omega arith))) in
          let h = short.below k g in
          let most : n ≤ own k = keeps-le h (below-short long.keeps) in
          let whole : own k ≡ n = omega (arith, sum-before own j g, most, sums) in
          record {
            below = λ i l. elim (dec_lt i k) [
              | yes c ↦ low c l
              | no c ↦ elim (ℕ_discrete i k) [
                | yes e ↦ rw (e, whole) (record { keeps = long.keeps; ends = rw whole at h.ends })
                | no d ↦
                    let next : suc k ≤ i = omega arith in
                    let none : own i ≡ 0 = omega (arith, sum-before own j l, sum-rises own i next, sum-before own (suc k) {j = k} (omega arith), whole, sums) in
                    rw none (record { keeps = λ u v. absurd (omega arith); ends = rw none at (short.below i l).ends })
              ]
            ];
            keeps = λ i l. absurd (omega (arith, sum-before own j g, whole, sums));
          }

-- within a region that keeps the short rules, what comes next
module _ {s : List ℕ} {own len : ℕ → ℕ} {j m k n : ℕ} (to : Region Short s own j m) (at : Region Short s len k n) where
  agree : {i : ℕ} → i < j → i < k → own i ≡ len i
  agree {i} l g = one-length (to.below i l) (at.below i g)

  pub next-sound : j ≤ buckets s → (0 < m → j < buckets s) → sum len k + n < sum own j + m
      → (k < buckets s) × ((link s k n ≡ end_value → ⊥) → KeepsAt Short s k n)
  next-sound last some few = elim (dec_lt k j) [
    | yes l ↦ (omega arith, λ real. (to.below k l).keeps n (before-end (to.below k l) (λ i g. (at.keeps i g).0) real))
    | no a ↦ elim (ℕ_discrete k j) [
      | yes e ↦
          let sums : sum own j ≡ sum len j = sum_same own len j (λ i l. agree l (omega arith)) in
          let l : n < m = omega (arith, sums, ap (sum len) e) in
          (rw e (some (omega arith)), λ real. rw e (to.keeps n l))
      | no b ↦
          let g : j < k = omega arith in
          let sums : sum own j ≡ sum len j = sum_same own len j (λ i l. agree l (omega arith)) in
          absurd (omega (arith, sums, sum-before len k g, keeps-le (at.below j g) to.keeps))
    ]
  ]

-- the lengths f, but n at k
extended : (ℕ → ℕ) → ℕ → ℕ → ℕ → ℕ
extended f k n j = elim (ℕ_discrete j k) as (λ d. ℕ) [ yes e ↦ n | no a ↦ f j ]

extended-at : (f : ℕ → ℕ) (k n : ℕ) {j : ℕ} → j ≡ k → extended f k n j ≡ n
unfolding extended
extended-at f k n {j} e = go (ℕ_discrete j k)
  where
    go : (d : Dec (j ≡ k)) → elim d as (λ d. ℕ) [ yes e ↦ n | no a ↦ f j ] ≡ n
    go (yes q) = refl
    go (no a) = absurd (a e)

extended-off : (f : ℕ → ℕ) (k n : ℕ) {j : ℕ} → (j ≡ k → ⊥) → extended f k n j ≡ f j
unfolding extended
extended-off f k n {j} off = go (ℕ_discrete j k)
  where
    go : (d : Dec (j ≡ k)) → elim d as (λ d. ℕ) [ yes e ↦ n | no a ↦ f j ] ≡ f j
    go (yes q) = absurd (off q)
    go (no a) = refl

-- a chain that ends is left behind
pub chain-behind : {ρ : Reading} {s : List ℕ} {len : ℕ → ℕ} {k n : ℕ} → Region ρ s len k n → link s k n ≡ end_value
    → (all : ℕ → ℕ) × Region ρ s all (suc k) 0 × (sum all (suc k) ≡ sum len k + n)
unfolding sum
chain-behind {ρ} {s} {len} {k} {n} w e = (
  extended len k n,
  record {
    below = λ j l. elim (ℕ_discrete j k) [
      | yes q ↦ rw (extended-at len k n q, q) (record { keeps = w.keeps; ends = e })
      | no a ↦ rw (extended-off len k n a) (w.below j (omega arith))
    ];
    keeps = λ m l. absurd (omega arith);
  },
  omega (arith, extended-at len k n {j = k} refl, sum_same (extended len k n) len k (λ j l. extended-off len k n (λ q. omega arith))),
)
