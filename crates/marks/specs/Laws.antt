-- What a word's bits are after one of them is set, and what is marked then.
use Rattle.std.specs.Prelude.{ℕ, zero, suc, ◌+◌, ◌*◌, ◌/◌, ◌%◌, ◌^◌, ◌≤◌, ◌<◌, max, ◌≡◌, refl, List, false, length, get_or, set, replicate}
use Rattle.std.proofs.Common.{sym, ◌∙◌, arith, pow-suc, shr-shr, shl_exact, get_or-set_other}
use Rattle.std.proofs.Math.Path.{ap}
use Rattle.std.proofs.Math.Decide.{ℕ_discrete, dec_lt}
use Rattle.std.proofs.Math.Nat.{max-zero, max_comm, max-le, le-max_left}
use Rattle.std.specs.Int.Bits.{bit_or, or_step}
use Rattle.std.proofs.Math.Dec.{eqb}
use Rattle.std.proofs.lemmas.Nat.{shr_le, shl-shr}
use Rattle.std.proofs.Math.ListN.{length-set, get_or-eq_default}
use Rattle.std.proofs.lemmas.List.{length-replicate, get_or-replicate}
use Rattle.std.proofs.Math.Seq.{get_or-set_same}
use Rattle.marks.specs.Marks.{bit, marked, Marks}

bit-first : (w : ℕ) → bit w 0 ≡ w % 2
bit-first w = omega arith

-- the bits of w behind its first are those of its half
bit-half : (w b : ℕ) → bit w (suc b) ≡ bit (w / 2) b
bit-half w b =
    let more : 1 + b ≡ suc b = omega arith in
    ap (λ n. w / 2 ^ n % 2) (sym more) ∙ ap (λ n. n % 2) (sym (shr-shr w 1 b))

-- either bit is set
bit-or : (b x y : ℕ) → bit (bit_or x y) b ≡ max (bit x b) (bit y b)
bit-or zero x y =
    let few : max (x % 2) (y % 2) ≤ 1 = max-le (omega arith) (omega arith) in
    rw (bit-first x, bit-first y) (bit-first (bit_or x y) ∙ omega (arith, or_step x y))
bit-or (suc b) x y =
    let few : max (x % 2) (y % 2) ≤ 1 = max-le (omega arith) (omega arith) in
    let half : bit_or x y / 2 ≡ bit_or (x / 2) (y / 2) = omega (arith, or_step x y) in
    rw (bit-half x b, bit-half y b) (bit-half (bit_or x y) b ∙ ap (λ w. bit w b) half ∙ bit-or b (x / 2) (y / 2))

no-bit : (b : ℕ) → bit 0 b ≡ 0
no-bit b = let none : 0 / 2 ^ b ≡ 0 = omega (arith, shr_le 0 b) in ap (λ n. n % 2) none

-- a power of two has one bit
own-bit : (b : ℕ) → bit (2 ^ b) b ≡ 1
own-bit b =
    let one : 1 * 2 ^ b ≡ 2 ^ b = omega arith in
    ap (λ n. n % 2) (ap (λ n. n / 2 ^ b) (sym one) ∙ shl-shr 1 b)

other-bit : (b c : ℕ) → (c ≡ b → ⊥) → bit (2 ^ b) c ≡ 0
other-bit zero zero d = absurd (d refl)
other-bit zero (suc c) d = bit-half 1 c ∙ no-bit c
other-bit (suc b) zero d = bit-first (2 ^ suc b) ∙ omega (arith, pow-suc 2 b)
other-bit (suc b) (suc c) d =
    let half : 2 ^ suc b / 2 ≡ 2 ^ b = omega (arith, pow-suc 2 b) in
    bit-half (2 ^ suc b) c ∙ ap (λ w. bit w c) half ∙ other-bit b c (λ e. d (ap suc e))

-- the code has it from a shift
pub one_shifted : (b : ℕ) → b < 32 → 1 * 2 ^ b % 4294967296 ≡ 2 ^ b
one_shifted b l = shl_exact {a = 1} 1 b 32 (omega arith) (omega arith) ∙ omega arith

set-bit : (w b : ℕ) → bit (bit_or w (2 ^ b)) b ≡ 1
set-bit w b =
    let few : max 1 (bit w b) ≤ 1 = max-le (omega arith) (omega arith) in
    bit-or b w (2 ^ b) ∙ ap (max (bit w b)) (own-bit b) ∙ max_comm (bit w b) 1 ∙ omega (arith, few, le-max_left 1 (bit w b))

kept-bit : (w b c : ℕ) → (c ≡ b → ⊥) → bit (bit_or w (2 ^ b)) c ≡ bit w c
kept-bit w b c d = bit-or c w (2 ^ b) ∙ ap (max (bit w c)) (other-bit b c d) ∙ max-zero (bit w c)

-- the word of i with its bit set
module _ (m : List ℕ) (i : ℕ) {w : ℕ} (set_is : w ≡ bit_or (get_or m (i / 32) 0) (2 ^ (i % 32))) where
  pub marks-set : i / 32 < length m → Marks m (set m (i / 32) w) i
  unfolding marked
  marks-set l = record {
    same = length-set m (i / 32) w;
    here = λ g. rw (get_or-set_same m (i / 32) w 0 l, set_is, set-bit (get_or m (i / 32) 0) (i % 32)) refl;
    others = λ j d. go j d (ℕ_discrete (j / 32) (i / 32));
  }
    where
      go : (j : ℕ) → (j ≡ i → ⊥) → Dec (j / 32 ≡ i / 32) → marked (set m (i / 32) w) j ≡ marked m j
      go j d (yes e) =
          let apart : j % 32 ≡ i % 32 → ⊥ = λ same. d (omega arith) in
          rw (e, get_or-set_same m (i / 32) w 0 l, set_is) (ap (λ n. eqb n 1) (kept-bit (get_or m (i / 32) 0) (i % 32) (j % 32) apart))
      go j d (no x) = ap (λ v. eqb (bit v (j % 32)) 1) (get_or-set_other m (i / 32) (j / 32) w 0 x)

-- there is no word for i
pub no-mark : (m : List ℕ) (i : ℕ) → length m ≤ i / 32 → marked m i ≡ false
unfolding marked
no-mark m i l = rw (get_or-eq_default m 0 l, no-bit (i % 32)) refl

pub marks-none : (m : List ℕ) (i : ℕ) → length m ≤ i / 32 → Marks m m i
marks-none m i l = record { same = refl; here = λ g. absurd (omega arith); others = λ j d. refl }

-- words that are 0 have no mark
pub zeros-unmarked : (n i : ℕ) → marked (replicate {A = ℕ} n 0) i ≡ false
unfolding marked
zeros-unmarked n i = go (dec_lt (i / 32) n)
  where
    go : Dec (i / 32 < n) → marked (replicate {A = ℕ} n 0) i ≡ false
    go (yes l) = rw (get_or-replicate {A = ℕ} n (i / 32) 0 0 l, no-bit (i % 32)) refl
    go (no g) = no-mark (replicate {A = ℕ} n 0) i (omega (arith, length-replicate {A = ℕ} n 0))
