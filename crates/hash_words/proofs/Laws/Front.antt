-- The first bytes of a word as a number of their own.
use Rattle.std.specs.Prelude.{ℕ, zero, suc, ◌+◌, ◌-◌, ◌*◌, ◌/◌, ◌%◌, ◌^◌, ◌≤◌, ◌<◌, ◌≡◌, refl, [], ◌∷◌, length, take}
use Rattle.std.proofs.Common.{sym, ap, ap₂, ◌∙◌, pow-suc, mul_comm, div-lt_iff_lt-mul, arith, lit≤, pow-add, shr-shr, take_all}
use Rattle.std.proofs.Math.Nat.{div-div-eq-div-mul, one-le-pow}
use Rattle.std.proofs.Math.Decide.{ℕ_discrete}
use Rattle.std.proofs.lemmas.List.{take-append-le}
use Rattle.format.specs.String.{signed}
use Rattle.format.specs.Bytes.{bytes}
use Rattle.format.proofs.Laws.Bytes.{bytes-length}
use Rattle.hash_words.specs.Sums.{sum_of}

-- zero bytes add nothing, so those before the first bytes may be counted or not
sum-zero : (k : ℕ) → sum_of signed k 0 ≡ 0
unfolding sum_of signed
sum-zero zero = refl
sum-zero (suc k) = omega (arith, sum-zero k)

pub zeros-before : (n k t : ℕ) → n ≤ k → t < 256 ^ n → sum_of signed k t ≡ sum_of signed n t
unfolding sum_of
zeros-before zero k t l g = let none : t ≡ 0 = let z : t < 1 = g in omega arith in ap (sum_of signed k) none ∙ sum-zero k
zeros-before (suc n) zero t l g = absurd (omega arith)
zeros-before (suc n) (suc k) t l g =
    let less : t / 256 < 256 ^ n = (div-lt_iff_lt-mul (lit≤ tt)).1 (rw pow-suc at g) in
    ap (λ x. 31 * x + signed (t % 256)) (zeros-before n k (t / 256) (omega arith) less)

-- without its last bytes
shorter : (w m : ℕ) → w / 256 / 256 ^ m ≡ w / 256 ^ suc m
shorter w m = div-div-eq-div-mul w 256 (256 ^ m) ∙ ap (λ x. w / x) (mul_comm 256 (256 ^ m) ∙ sym (pow-suc 256 m))

pub first-bytes : (n k w : ℕ) → n ≤ k → take n (bytes k w) ≡ bytes n (w / 256 ^ (k - n))
unfolding bytes
first-bytes n zero w l = let none : n ≡ 0 = omega arith in rw none refl
first-bytes n (suc k) w l = elim (ℕ_discrete n (suc k)) [
  | yes e ↦
      let none : suc k - n ≡ 0 = omega arith in
      let all : w / 256 ^ (suc k - n) ≡ w = ap (λ m. w / 256 ^ m) none ∙ omega arith in
      take_all n (bytes (suc k) w) (omega (arith, bytes-length (suc k) w)) ∙ ap₂ bytes (sym e) (sym all)
  | no d ↦
      let fits : n ≤ length (bytes k (w / 256)) = omega (arith, bytes-length k (w / 256)) in
      let one_less : suc (k - n) ≡ suc k - n = omega arith in
      take-append-le n (bytes k (w / 256)) (w % 256 ∷ []) fits ∙ first-bytes n k (w / 256) (omega arith)
      ∙ ap (bytes n) (shorter w (k - n) ∙ ap (λ m. w / 256 ^ m) one_less)
]

-- the code shifts those behind them out
powers : (m : ℕ) → 256 ^ m ≡ 2 ^ (8 * m)
powers zero = refl
powers (suc m) =
    let more : 8 * m + 8 ≡ 8 * suc m = omega arith in
    pow-suc 256 m ∙ ap (λ x. x * 256) (powers m) ∙ sym (pow-add 2 (8 * m) 8) ∙ ap (λ x. 2 ^ x) more

module _ (n w : ℕ) (few : n < 8) where
  pub shifted : w / 2 ^ (56 - 8 * n) / 2 ^ 8 ≡ w / 256 ^ (8 - n)
  shifted =
      let same : 56 - 8 * n + 8 ≡ 8 * (8 - n) = omega arith in
      shr-shr w (56 - 8 * n) 8 ∙ ap (λ x. w / x) (ap (λ m. 2 ^ m) same ∙ sym (powers (8 - n)))

  pub front-small : w < 2 ^ 64 → w / 256 ^ (8 - n) < 256 ^ n
  front-small l =
      let all : n + (8 - n) ≡ 8 = omega arith in
      (div-lt_iff_lt-mul (one-le-pow (8 - n) 256 (lit≤ tt))).1 (rw (← pow-add 256 n (8 - n), all) l)
