-- The bytes of a number: they are read as it, and made of those of narrower ones. And how long parts
-- are together.
use Rattle.std.specs.Prelude.{ℕ, zero, suc, ◌+◌, ◌*◌, ◌/◌, ◌%◌, ◌^◌, ◌<◌, ◌≡◌, refl, length}
use Rattle.std.proofs.Common.{sym, ◌∙◌, zero-add, add-zero, add-suc, mul-zero, mul-one, mul-suc, mul_assoc, pow-suc, div-add-mod', div-lt_iff_lt-mul, arith, lit≤, length-append}
use mathlib.Core.List.{List, [], ◌∷◌, ◌++◌, append_assoc, append-nil, flat_map}
use Rattle.std.proofs.Math.Nat.{mul-add-div_right, mul-add-mod_self_right}
use Rattle.std.proofs.lemmas.List.{get_or_at}
use Rattle.format.specs.Number.{be}
use Rattle.format.specs.Bytes.{bytes, joined}

pub bytes-length : (w n : ℕ) → length (bytes w n) ≡ w
unfolding bytes
bytes-length zero n = refl
bytes-length (suc w) n = omega (arith, length-append (bytes w (n / 256)) (n % 256 ∷ []), bytes-length w (n / 256))

high_fits : (w n : ℕ) → n < 256 ^ suc w → n / 256 < 256 ^ w
high_fits w n l = (div-lt_iff_lt-mul (lit≤ tt)).1 (rw pow-suc at l)

-- the bytes of a number are read as the number, if it fits
pub be-bytes : (w n : ℕ) (rest : List ℕ) → n < 256 ^ w → be w (bytes w n ++ rest) 0 ≡ n
unfolding be bytes
be-bytes zero n rest l = let z : n < 1 = l in omega arith
be-bytes (suc w) n rest l =
    let high = be-bytes w (n / 256) (n % 256 ∷ rest) (high_fits w n l) in
    let low = get_or_at (bytes w (n / 256)) (n % 256) rest 0 w (bytes-length w (n / 256)) in
    rw (append_assoc, zero-add, high, low) (div-add-mod' n 256)

-- the v bytes of m and the w of n behind them, written as one number: as `be-join` reads it
pub bytes-join : (v w m n : ℕ) → n < 256 ^ w → bytes (v + w) (m * 256 ^ w + n) ≡ bytes v m ++ bytes w n
unfolding bytes
bytes-join v zero m n l =
    let none : n ≡ 0 = let z : n < 1 = l in omega arith in
    simp (none, add-zero, mul-one, append-nil)
bytes-join v (suc w) m n l =
    let high : (m * 256 ^ w * 256 + n) / 256 ≡ m * 256 ^ w + n / 256 = mul-add-div_right (lit≤ tt) (m * 256 ^ w) n in
    let low : (m * 256 ^ w * 256 + n) % 256 ≡ n % 256 = mul-add-mod_self_right (m * 256 ^ w) 256 n in
    rw (add-suc, bytes, pow-suc, ← mul_assoc m (256 ^ w) 256, high, low, bytes-join v w m (n / 256) (high_fits w n l), append_assoc)

-- parts of one width
pub joined_length : (f : ℕ → List ℕ) (w : ℕ) → ((i : ℕ) → length (f i) ≡ w) → (n : ℕ) → length (joined f n) ≡ w * n
unfolding joined
joined_length f w same zero = sym (mul-zero w)
joined_length f w same (suc n) = length-append (joined f n) (f n) ∙ rw (joined_length f w same n, same n, mul-suc)

pub joined_same : {A : Type 0} (f g : ℕ → List A) (n : ℕ) → ((i : ℕ) → i < n → f i ≡ g i) → joined f n ≡ joined g n
unfolding joined
joined_same f g zero same = refl
joined_same f g (suc n) same = rw (joined_same f g n (λ i l. same i (omega arith)), same n (omega arith))

-- what is made of two lists, one after the other
pub flat_append : {A B : Type 0} (f : A → List B) (x y : List A) → flat_map f (x ++ y) ≡ flat_map f x ++ flat_map f y
unfolding flat_map
flat_append f [] y = refl
flat_append f (a ∷ x) y = rw (flat_append f x y) (sym (append_assoc (f a) (flat_map f x) (flat_map f y)))
