-- The sum of a word's eight bytes by pairs, by pairs of pairs, and by the two halves.
use Rattle.std.specs.Prelude.{ℕ, zero, suc, ◌+◌, ◌-◌, ◌*◌, ◌/◌, ◌%◌, ◌^◌, ◌≤◌, ◌<◌, ◌≡◌}
use Rattle.std.proofs.Common.{sym, ap₂, ◌∙◌, pow-suc, div-lt_iff_lt-mul, lit≤}
use Rattle.std.proofs.Math.Path.{ap}
use native.Mathlib.Omega.{arith}
use Rattle.std.specs.Int.Bits.{bit_and, and_zero_r}
use Rattle.std.proofs.lemmas.Nat.{and_block, and_mask}
use Rattle.hash_words.specs.Sums.{sum_of, plain}

-- the mask of the low byte in each of n pairs, and what it leaves
unfoldable pub mask : ℕ → ℕ
mask zero = 0
mask (suc n) = mask n * 65536 + 255

unfoldable pub kept : ℕ → ℕ → ℕ
kept zero w = 0
kept (suc n) w = kept n (w / 65536) * 65536 + w % 256

pub masked : (n w : ℕ) → bit_and w (mask n) ≡ kept n w
unfolding mask kept
masked zero w = and_zero_r w
masked (suc n) w =
    let split : w ≡ w / 65536 * 2 ^ 16 + w % 65536 = omega arith in
    let low : w % 65536 % 256 ≡ w % 256 = omega arith in
    ap (λ x. bit_and x (mask n * 65536 + 255)) split
    ∙ and_block 16 (w / 65536) (mask n) (w % 65536) 255 (omega arith) (omega arith)
    ∙ ap₂ (λ x y. x * 65536 + y) (masked n (w / 65536)) (and_mask (w % 65536) 8 ∙ low)

-- a pair's sum, and those of n pairs, each in the place of its pair
abbrev pub pair : ℕ → ℕ
pair w = 31 * (w / 256 % 256) + w % 256

unfoldable pub pairs : ℕ → ℕ → ℕ
pairs zero w = 0
pairs (suc n) w = pairs n (w / 65536) * 65536 + pair w

-- 225 times the high bytes make up the difference
pub pairs-less : (n w : ℕ) → w < 65536 ^ n → w ≡ pairs n w + 225 * kept n (w / 256)
unfolding pairs kept
pairs-less zero w l = let z : w < 1 = l in omega arith
pairs-less (suc n) w l =
    let less : w / 65536 < 65536 ^ n = (div-lt_iff_lt-mul (lit≤ tt)).1 (rw pow-suc at l) in
    let same : w / 256 / 65536 ≡ w / 65536 / 256 = omega arith in
    omega (arith, pairs-less n (w / 65536) less, ap (kept n) same)

-- two bytes more
sum-pair : (n w : ℕ) → sum_of plain (suc (suc n)) w ≡ 961 * sum_of plain n (w / 65536) + pair w
unfolding sum_of
sum-pair n w =
    let same : w / 256 / 256 ≡ w / 65536 = omega arith in
    omega (arith, ap (sum_of plain n) same)

-- four pairs, `pair₃` the highest
module _ (w : ℕ) where
  abbrev pub pair₀ : ℕ
  pair₀ = pair w

  abbrev pub pair₁ : ℕ
  pair₁ = pair (w / 65536)

  abbrev pub pair₂ : ℕ
  pair₂ = pair (w / 65536 / 65536)

  abbrev pub pair₃ : ℕ
  pair₃ = pair (w / 65536 / 65536 / 65536)

  pub sum-of-pairs : sum_of plain 8 w ≡ 923521 * (961 * pair₃ + pair₂) + 961 * pair₁ + pair₀
  unfolding sum_of
  sum-of-pairs =
      omega (arith, sum-pair 6 w, sum-pair 4 (w / 65536), sum-pair 2 (w / 65536 / 65536), sum-pair 0 (w / 65536 / 65536 / 65536))

  pub four-pairs : pairs 4 w ≡ pair₃ * 281474976710656 + pair₂ * 4294967296 + pair₁ * 65536 + pair₀
  unfolding pairs
  four-pairs = omega arith

-- a pair's sum is small
pub pair_small : (w : ℕ) → pair w < 8192
pair_small w = omega arith

-- four numbers, each in 16 bits, the first one highest
abbrev four : ℕ → ℕ → ℕ → ℕ → ℕ
four a b c d = a * 281474976710656 + b * 4294967296 + c * 65536 + d

-- the mask of every other one
module _ (a b c d : ℕ) (la : a < 8192) (lb : b < 8192) (lc : c < 8192) (ld : d < 8192) where
  every-other : bit_and (four a b c d / 2 ^ 16) 281470681808895 ≡ a * 4294967296 + c
  every-other =
      let split : four a b c d / 2 ^ 16 ≡ a * 2 ^ 32 + (b * 65536 + c) = omega arith in
      let high : a % 65536 ≡ a = omega arith in
      let low : (b * 65536 + c) % 65536 ≡ c = omega arith in
      ap (λ x. bit_and x 281470681808895) split
      ∙ and_block 32 a 65535 (b * 65536 + c) 65535 (omega arith) (omega arith)
      ∙ ap₂ (λ x y. x * 4294967296 + y) (and_mask a 16 ∙ high) (and_mask (b * 65536 + c) 16 ∙ low)

-- what is left of the four when so much of every other one is taken away
taken : (a b c d : ℕ) {p h : ℕ} → p ≡ four a b c d → h ≡ a * 4294967296 + c → p - 64575 * h ≡ (961 * a + b) * 4294967296 + (961 * c + d)
taken a b c d e q = omega arith

-- a number of two halves, and the sum of these
half : (x y : ℕ) {f : ℕ} → y < 4294967296 → f ≡ x * 4294967296 + y → f - 4294043775 * (f / 2 ^ 32) ≡ 923521 * x + y
half x y {f} l e =
    let high : f / 2 ^ 32 ≡ x = omega arith in
    ap (λ h. f - 4294043775 * h) high ∙ omega (arith, e)

-- what the code computes of a word, step by step
module _ (w : ℕ) (l : w < 2 ^ 64) where
  abbrev pub highs : ℕ
  highs = bit_and (w / 2 ^ 8) 71777214294589695

  abbrev pub in_pairs : ℕ
  in_pairs = w - 225 * highs

  abbrev pub high-pairs : ℕ
  high-pairs = bit_and (in_pairs / 2 ^ 16) 281470681808895

  abbrev pub in-fours : ℕ
  in-fours = in_pairs - 64575 * high-pairs

  pub highs-are : w ≡ pairs 4 w + 225 * highs
  unfolding mask
  highs-are = pairs-less 4 w l ∙ ap (λ x. pairs 4 w + 225 * x) (sym (masked 4 (w / 256)))

  in-pairs-are : in_pairs ≡ four (pair₃ w) (pair₂ w) (pair₁ w) (pair₀ w)
  in-pairs-are = omega (arith, highs-are, four-pairs w)

  high-pairs-are : high-pairs ≡ pair₃ w * 4294967296 + pair₁ w
  high-pairs-are =
      ap (λ x. bit_and (x / 2 ^ 16) 281470681808895) in-pairs-are
      ∙ every-other (pair₃ w) (pair₂ w) (pair₁ w) (pair₀ w) (pair_small (w / 65536 / 65536 / 65536)) (pair_small (w / 65536 / 65536)) (pair_small (w / 65536)) (pair_small w)

  pub high-pairs-fit : 64575 * high-pairs ≤ in_pairs
  high-pairs-fit = omega (arith, in-pairs-are, high-pairs-are)

  in-fours-are : in-fours ≡ (961 * pair₃ w + pair₂ w) * 4294967296 + (961 * pair₁ w + pair₀ w)
  in-fours-are = taken (pair₃ w) (pair₂ w) (pair₁ w) (pair₀ w) in-pairs-are high-pairs-are

  pub halves : in-fours - 4294043775 * (in-fours / 2 ^ 32) ≡ sum_of plain 8 w
  halves =
      let low : 961 * pair₁ w + pair₀ w < 4294967296 = omega arith in
      let e = in-fours-are in
      half (961 * pair₃ w + pair₂ w) (961 * pair₁ w + pair₀ w) low e ∙ omega (arith, sum-of-pairs w)
