-- The sum of signed bytes by that of bytes whose highest bit is turned.
use Rattle.std.specs.Prelude.{ℕ, zero, suc, ◌+◌, ◌*◌, ◌/◌, ◌%◌, ◌^◌, ◌≤◌, ◌<◌, ◌≡◌, refl, Bool, true, ◌&&◌, eqb}
use Rattle.std.proofs.Common.{sym, ap, ◌∙◌, arith, eqb-true}
use Rattle.std.proofs.Math.Bool.{and-eq-true_iff}
use Rattle.std.proofs.Math.Nat.{mod-add-mod, mul-add-mod_self_right}
use Rattle.std.proofs.Math.Decide.{ℕ_discrete}
use Rattle.std.specs.Int.Bits.{bit_xor}
use Rattle.std.proofs.lemmas.Nat.{xor_block}
use Rattle.format.specs.String.{signed}
use Rattle.format.proofs.Laws.Hashes.{signed-raised}
use Rattle.hash_words.specs.Sums.{sum_of, plain}
use Rattle.hash_words.proofs.Laws.Hashed.{step-mod}

-- a byte with its highest bit turned, and 128 for each byte
abbrev raised : ℕ → ℕ
raised b = (b + 128) % 256

abbrev middle : ℕ → ℕ
middle b = 128

-- the highest bits of n bytes
unfoldable pub tops : ℕ → ℕ
tops zero = 0
tops (suc n) = tops n * 256 + 128

-- to turn that bit is to add 128 and wrap: for each byte, by computation
turns : ℕ → Bool
turns b = eqb (bit_xor b 128) (raised b)

each : ℕ → Bool
each zero = true
each (suc n) = turns n && each n

all-turn : each 256 ≡ true
unfolding each turns
all-turn = refl

below : (n : ℕ) → each n ≡ true → (b : ℕ) → b < n → bit_xor b 128 ≡ raised b
unfolding each turns
below zero e b l = absurd (omega arith)
below (suc n) e b l =
    let both = (and-eq-true_iff (turns n) (each n)).0 e in
    elim (ℕ_discrete b n) [
      | yes q ↦ rw q (eqb-true (bit_xor n 128) (raised n) both.0)
      | no d ↦ below n both.1 b (omega arith)
    ]

pub turned-sum : (n w : ℕ) → sum_of plain n (bit_xor w (tops n)) ≡ sum_of raised n w
unfolding sum_of tops
turned-sum zero w = refl
turned-sum (suc n) w =
    let split : w ≡ w / 256 * 2 ^ 8 + w % 256 = omega arith in
    let low : w % 256 < 2 ^ 8 = omega arith in
    let lanes : bit_xor w (tops n * 256 + 128) ≡ bit_xor (w / 256) (tops n) * 256 + raised (w % 256) =
    ap (λ x. bit_xor x (tops n * 256 + 128)) split
    ∙ xor_block 8 (w / 256) (tops n) (w % 256) 128 low (omega arith)
    ∙ ap (λ x. bit_xor (w / 256) (tops n) * 256 + x) (below 256 all-turn (w % 256) low) in
    let high : bit_xor w (tops n * 256 + 128) / 256 ≡ bit_xor (w / 256) (tops n) = omega (arith, lanes) in
    let last : bit_xor w (tops n * 256 + 128) % 256 ≡ raised (w % 256) = omega (arith, lanes) in
    rw (high, last, turned-sum n (w / 256)) refl

-- the signed bytes and 128 for each make up the raised ones, modulo 2^32
pub made_up : (n w : ℕ) → (sum_of signed n w + sum_of middle n w) % 2 ^ 32 ≡ sum_of raised n w % 2 ^ 32
unfolding sum_of
made_up zero w = refl
made_up (suc n) w =
    let s = sum_of signed n (w / 256) in
    let k = sum_of middle n (w / 256) in
    let r = sum_of raised n (w / 256) in
    let b = signed (w % 256) in
    let byte = (signed-raised (w % 256) (omega arith)).1 in
    let sum : 31 * s + b + (31 * k + 128) ≡ 31 * (s + k) + (b + 128) = omega arith in
    let other : 31 * r + (b + 128) ≡ b + 128 + 31 * r = omega arith in
    let last : raised (w % 256) + 31 * r ≡ 31 * r + raised (w % 256) = omega arith in
    ap (λ x. x % 2 ^ 32) sum ∙ sym (step-mod (s + k) (b + 128)) ∙ ap (λ x. (31 * x + (b + 128)) % 2 ^ 32) (made_up n (w / 256))
    ∙ step-mod r (b + 128) ∙ ap (λ x. x % 2 ^ 32) other ∙ sym (mod-add-mod (b + 128) (2 ^ 32) (31 * r))
    ∙ ap (λ x. (x + 31 * r) % 2 ^ 32) byte ∙ ap (λ x. x % 2 ^ 32) last

-- the sum of eight bytes of 128
middles : (w : ℕ) → sum_of middle 8 w ≡ 3639001759744
unfolding sum_of
middles w = refl

-- the raised sum is at most that of bytes of 255
most : ℕ → ℕ
most zero = 0
most (suc n) = 31 * most n + 255

few : (n w : ℕ) → sum_of raised n w ≤ most n
unfolding sum_of most
few zero w = omega arith
few (suc n) w = omega (arith, few n (w / 256))

-- what the code has: the sum with the highest bits turned, and a constant that takes the middles away
-- modulo 2^32
module _ (w : ℕ) {r : ℕ} (e : r ≡ sum_of plain 8 (bit_xor w 9259542123273814144)) where
  is-raised : r ≡ sum_of raised 8 w
  unfolding tops
  is-raised = e ∙ turned-sum 8 w

  pub sum-small : r < 2 ^ 43
  unfolding most
  sum-small = omega (arith, is-raised, few 8 w)

  pub sum-signed : (r + 3130507264) % 2 ^ 32 ≡ sum_of signed 8 w % 2 ^ 32
  sum-signed =
      let s = sum_of signed 8 w in
      let whole : s + sum_of middle 8 w + 3130507264 ≡ 848 * 2 ^ 32 + s = omega (arith, middles w) in
      sym (mod-add-mod r (2 ^ 32) 3130507264) ∙ ap (λ x. (x % 2 ^ 32 + 3130507264) % 2 ^ 32) is-raised
      ∙ ap (λ x. (x + 3130507264) % 2 ^ 32) (sym (made_up 8 w)) ∙ mod-add-mod (s + sum_of middle 8 w) (2 ^ 32) 3130507264
      ∙ ap (λ x. x % 2 ^ 32) whole ∙ mul-add-mod_self_right 848 (2 ^ 32) s
