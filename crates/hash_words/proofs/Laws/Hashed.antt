-- The hash goes on from one part to the other, and several steps of it are one.
use Rattle.std.specs.Prelude.{ℕ, zero, suc, ◌+◌, ◌*◌, ◌/◌, ◌%◌, ◌^◌, ◌<◌, ◌≡◌, refl, List, [], ◌∷◌, ◌++◌, map}
use Rattle.std.proofs.Common.{sym, ap, ◌∙◌, pow-suc, mul_assoc, mul_comm, mul-add, arith}
use Rattle.std.proofs.lemmas.List.{map-append}
use Rattle.std.proofs.Math.Nat.{mul-add-mod_self_right, add-mod-mod}
use Rattle.format.specs.String.{signed, hash_from}
use Rattle.format.specs.Bytes.{bytes}
use Rattle.hash_words.specs.Sums.{sum_of}

-- it goes on from one part to the other
pub hash-on : (h : ℕ) (xs ys : List ℕ) → hash_from h (xs ++ ys) ≡ hash_from (hash_from h xs) ys
unfolding hash_from
hash-on h [] ys = refl
hash-on h (x ∷ xs) ys = hash-on ((31 * h + x) % 2 ^ 32) xs ys

-- a step's multiple may be taken modulo 2^32 or not
pub step-mod : (a x : ℕ) → (31 * (a % 2 ^ 32) + x) % 2 ^ 32 ≡ (31 * a + x) % 2 ^ 32
step-mod a x =
    let whole : 31 * a + x ≡ 31 * (a / 2 ^ 32) * 2 ^ 32 + (31 * (a % 2 ^ 32) + x) = omega arith in
    sym (ap (λ n. n % 2 ^ 32) whole ∙ mul-add-mod_self_right (31 * (a / 2 ^ 32)) (2 ^ 32) (31 * (a % 2 ^ 32) + x))

-- so the hash that goes on with n bytes is one multiple and one sum
pub at_once : (n : ℕ) {h : ℕ} (w : ℕ) → h < 2 ^ 32 → hash_from h (map signed (bytes n w)) ≡ (31 ^ n * h + sum_of signed n w) % 2 ^ 32
unfolding hash_from bytes sum_of
at_once zero w l = omega arith
at_once (suc n) {h} w l =
    let more : 31 ^ suc n * h ≡ 31 * (31 ^ n * h) = ap (λ x. x * h) (pow-suc 31 n ∙ mul_comm (31 ^ n) 31) ∙ mul_assoc 31 (31 ^ n) h in
    let step = ap (hash_from h) (map-append signed (bytes n (w / 256)) (w % 256 ∷ [])) ∙ hash-on h (map signed (bytes n (w / 256))) (signed (w % 256) ∷ []) in
    let sum : 31 * (31 ^ n * h + sum_of signed n (w / 256)) + signed (w % 256) ≡ 31 ^ suc n * h + (31 * sum_of signed n (w / 256) + signed (w % 256)) = omega (arith, more) in
    step ∙ ap (λ x. (31 * x + signed (w % 256)) % 2 ^ 32) (at_once n (w / 256) l)
    ∙ step-mod (31 ^ n * h + sum_of signed n (w / 256)) (signed (w % 256)) ∙ ap (λ x. x % 2 ^ 32) sum

-- a multiple by a number modulo 2^32
times_mod : (h p s : ℕ) → (h * (p % 2 ^ 32) + s) % 2 ^ 32 ≡ (p * h + s) % 2 ^ 32
times_mod h p s =
    let q = p / 2 ^ 32 in
    let m = p % 2 ^ 32 in
    let parts : p ≡ q * 2 ^ 32 + m = omega arith in
    let whole : p * h ≡ h * q * 2 ^ 32 + h * m =
    mul_comm p h ∙ ap (λ x. h * x) parts ∙ mul-add h (q * 2 ^ 32) m ∙ ap (λ x. x + h * m) (sym (mul_assoc h q (2 ^ 32))) in
    let sum : p * h + s ≡ h * q * 2 ^ 32 + (h * m + s) = omega (arith, whole) in
    sym (ap (λ x. x % 2 ^ 32) sum ∙ mul-add-mod_self_right (h * q) (2 ^ 32) (h * m + s))

-- the code's step: a multiple and a sum, each modulo 2^32
pub goes_on : (n w s : ℕ) {h p : ℕ} → h < 2 ^ 32 → p ≡ 31 ^ n % 2 ^ 32 → s % 2 ^ 32 ≡ sum_of signed n w % 2 ^ 32
    → (h * p + s) % 2 ^ 32 ≡ hash_from h (map signed (bytes n w))
goes_on n w s {h} {p} l e q =
    let low = sum_of signed n w in
    ap (λ x. (h * x + s) % 2 ^ 32) e ∙ times_mod h (31 ^ n) s ∙ sym (add-mod-mod (31 ^ n * h) s (2 ^ 32))
    ∙ ap (λ x. (31 ^ n * h + x) % 2 ^ 32) q ∙ add-mod-mod (31 ^ n * h) low (2 ^ 32) ∙ sym (at_once n w l)
