-- The string of two parts. The code's masks mark the zero bytes, since no carry leaves a byte; and as
-- many bytes stand above the highest mark as the string has that the bytes begin with.
use Prim.Native.Nat.{ℕ, zero, suc, ◌+◌, ◌-◌, ◌*◌, ◌/◌, ◌%◌, ◌^◌, ◌≤◌, ◌<◌}
use Rattle.std.specs.Prelude.{◌≡◌, refl, List, [], ◌∷◌, ◌++◌, Bool, true, ◌&&◌, eqb, length}
use Rattle.std.proofs.Common.{ap, ◌∙◌, below_more, eqb-true, length-append, pow-add, shr_lt}
use Rattle.std.proofs.Math.Bool.{and-eq-true_iff}
use Rattle.std.proofs.Math.Decide.{dec_lt}
use native.Mathlib.Omega.{arith}
use Rattle.std.specs.Int.Bits.{bit_and, bit_or}
use Rattle.std.proofs.lemmas.Nat.{and_block, or_block, and_le_r, or_lt}
use Rattle.std.specs.Int.Count.{count_leading_zeros, leading_unique}
use Rattle.format.specs.Bytes.{bytes}
use Rattle.format.specs.String.{string}
use Rattle.format.proofs.Laws.Bytes.{bytes-length}
use Rattle.format.proofs.Laws.Strings.{string-fits}
use Rattle.zero_bytes.specs.Marks.{rep, mark, zero_marks}

-- the string of two parts: of both where the first has no zero byte, else the first's
pub string-on : (xs ys : List ℕ) → length (string xs) ≡ length xs → string (xs ++ ys) ≡ xs ++ string ys
unfolding string
string-on [] ys e = refl
string-on (zero ∷ xs) ys e = absurd (omega arith)
string-on (suc b ∷ xs) ys e = ap (λ zs. suc b ∷ zs) (string-on xs ys (omega arith))

pub string-cut : (xs ys : List ℕ) → length (string xs) < length xs → string (xs ++ ys) ≡ string xs
unfolding string
string-cut [] ys l = absurd (omega arith)
string-cut (zero ∷ xs) ys l = refl
string-cut (suc b ∷ xs) ys l = ap (λ zs. suc b ∷ zs) (string-cut xs ys (omega arith))

-- what the code inverts, for w and a mask
abbrev pub unmarked : ℕ → ℕ → ℕ
unmarked w low = bit_or (bit_or (bit_and w low + low) w) low

-- a byte, the mark that it has and what the code inverts make 255: computed for each of the 256
abbrev complete_below : ℕ → Bool
complete_below zero = true
complete_below (suc n) = eqb (unmarked n 127 + mark n) 255 && complete_below n

complete : (n : ℕ) → complete_below n ≡ true → (b : ℕ) → b < n → unmarked b 127 + mark b ≡ 255
complete zero e b l = absurd (omega arith)
complete (suc n) e b l =
    let parts = (and-eq-true_iff (eqb (unmarked n 127 + mark n) 255) (complete_below n)).0 e in
    below_more (λ y. unmarked y 127 + mark y ≡ 255) n (complete n parts.1) (eqb-true (unmarked n 127 + mark n) 255 parts.0) b (omega arith)

one_byte : (b : ℕ) → b < 256 → unmarked b 127 + mark b ≡ 255
one_byte b l = complete 256 refl b l

-- a byte behind others is masked apart from them
unmarked-byte : (q b low : ℕ) → b < 256 → unmarked (q * 256 + b) (low * 256 + 127) ≡ unmarked q low * 256 + unmarked b 127
unmarked-byte q b low l =
    let masked : bit_and (q * 256 + b) (low * 256 + 127) ≡ bit_and q low * 256 + bit_and b 127 = and_block 8 q low b 127 l (omega arith) in
    let few : bit_and b 127 + 127 < 256 = omega (arith, and_le_r b 127) in
    let sum : bit_and (q * 256 + b) (low * 256 + 127) + (low * 256 + 127) ≡ (bit_and q low + low) * 256 + (bit_and b 127 + 127) = omega arith in
    rw (sum, or_block 8 (bit_and q low + low) q (bit_and b 127 + 127) b few l)
    (or_block 8 (bit_or (bit_and q low + low) q) low (bit_or (bit_and b 127 + 127) b) 127 (or_lt 8 (bit_and b 127 + 127) b few l) (omega arith))

high_fits : (n w : ℕ) → w < 2 ^ (8 * suc n) → w / 256 < 2 ^ (8 * n)
high_fits n w l =
    let more : 8 * suc n ≡ 8 * n + 8 = omega arith in
    shr_lt (8 * n) 8 (rw more at l)

-- with the marks, the bytes are all 255
pub marks-complete : (n w : ℕ) → w < 2 ^ (8 * n) → unmarked w (rep n 127) + zero_marks n w ≡ rep n 255
unfolding rep zero_marks
marks-complete zero w l = let none : w ≡ 0 = omega arith in rw none
marks-complete (suc n) w l =
    let parts : w ≡ w / 256 * 256 + w % 256 = omega arith in
    let split : unmarked w (rep n 127 * 256 + 127) ≡ unmarked (w / 256) (rep n 127) * 256 + unmarked (w % 256) 127 =
    ap (λ v. unmarked v (rep n 127 * 256 + 127)) parts ∙ unmarked-byte (w / 256) (w % 256) (rep n 127) (omega arith) in
    omega (arith, split, marks-complete n (w / 256) (high_fits n w l), one_byte (w % 256) (omega arith))

-- z is a number of m bytes whose highest bit is set, and 0 where m is 0
abbrev Top : ℕ → ℕ → Type 0
Top z m = (z < 2 ^ (8 * m)) × (2 ^ (8 * m) ≤ 2 * z + 1)

-- that is z for the bytes of x from its first zero byte on
abbrev Highest : List ℕ → ℕ → Type 0
Highest x z = (m : ℕ) → length (string x) + m ≡ length x → Top z m

pow-byte : (m : ℕ) → 2 ^ (8 * suc m) ≡ 2 ^ (8 * m) * 256
pow-byte m = let more : 8 * suc m ≡ 8 * m + 8 = omega arith in rw more (pow-add 2 (8 * m) 8)

mark-small : (b : ℕ) → mark b ≤ 128
mark-small zero = omega arith
mark-small (suc b) = omega arith

-- one byte more: behind a zero byte, and where there was none
module _ (x : List ℕ) (z : ℕ) (h : Highest x z) where
  behind : (b m : ℕ) → length (string x) < length x → length (string x) + m ≡ length x + 1 → Top (z * 256 + mark b) m
  behind b zero l e = absurd (omega arith)
  behind b (suc zero) l e = absurd (omega arith)
  behind b (suc (suc m)) l e =
      let ih = h (suc m) (omega arith) in
      (omega (arith, pow-byte m, pow-byte (suc m), mark-small b), omega (arith, pow-byte m, pow-byte (suc m), mark-small b))

  first : (b m : ℕ) → length (string x) ≡ length x → length (string (b ∷ [])) + m ≡ 1 → Top (z * 256 + mark b) m
  unfolding string
  first zero m l e =
      let one : m ≡ 1 = omega arith in
      let none : z < 1 = (h 0 (omega arith)).0 in
      rw one (omega arith, omega arith)
  first (suc b) m l e =
      let none : m ≡ 0 = omega arith in
      let zeros : z < 1 = (h 0 (omega arith)).0 in
      rw none (omega arith, omega arith)

  highest-more : (b : ℕ) → Highest (x ++ (b ∷ [])) (z * 256 + mark b)
  highest-more b m e = elim (dec_lt (length (string x)) (length x)) [
    | yes l ↦ behind b m l (omega (arith, ap length (string-cut x (b ∷ []) l), length-append x (b ∷ [])))
    | no g ↦
        let all : length (string x) ≡ length x = omega (arith, string-fits x) in
        first b m all (omega (arith, ap length (string-on x (b ∷ []) all), length-append x (string (b ∷ [])), length-append x (b ∷ [])))
  ]

highest : (n w : ℕ) → Highest (bytes n w) (zero_marks n w)
unfolding bytes zero_marks string
highest zero w m e = let none : m ≡ 0 = omega arith in rw none (omega arith, omega arith)
highest (suc n) w m e = highest-more (bytes n (w / 256)) (zero_marks n (w / 256)) (highest n (w / 256)) (w % 256) m e

-- so eight zero bits stand above it for each byte of the string
pub zeros-above : (n w : ℕ) → 8 * length (string (bytes n w)) ≡ count_leading_zeros (8 * n) (zero_marks n w)
zeros-above n w =
    let j = length (string (bytes n w)) in
    let fits : j ≤ n = omega (arith, string-fits (bytes n w), bytes-length n w) in
    let top = highest n w (n - j) (omega (arith, bytes-length n w)) in
    leading_unique (8 * n) (zero_marks n w) (8 * j) (8 * (n - j)) (omega arith) top.0 top.1
