-- Bytes that are copied into a part of a buffer are put there, and the bytes that the library makes
-- of a number are those of the definition.
use Rattle.std.specs.Prelude.{ℕ, ◌≡◌, refl, ◌+◌, List, ◌++◌, length, take, drop}
use Rattle.std.proofs.Common.{sym, ap, ◌∙◌, drop-drop, append_assoc}
use Rattle.std.specs.Int.{w16, w32, to_be_bytes}
use native.Mathlib.Nat.{div-div-eq-div-mul}
use borrow.Rule.Slice.PartMut.{put_mid}
use Rattle.format.specs.Bytes.{bytes, put}

-- k bytes from p on, as the library puts them back, are bytes put there
pub part-put : (s xs : List ℕ) (p k : ℕ) {ys : List ℕ} → ys ≡ xs → length xs ≡ k → put_mid p k s ys ≡ put s p xs
unfolding put
part-put s xs p k {ys} e n =
    rw e (ap (λ m. take p s ++ (xs ++ m)) (drop-drop k p s ∙ ap (λ m. drop (p + m) s) (sym n)) ∙ sym (append_assoc (take p s) xs (drop (p + length xs) s)))

pub two_bytes : (n : ℕ) → to_be_bytes w16 n ≡ bytes 2 n
unfolding bytes
two_bytes n = refl

pub four_bytes : (n : ℕ) → to_be_bytes w32 n ≡ bytes 4 n
unfolding bytes
four_bytes n = rw (div-div-eq-div-mul n 256 256, div-div-eq-div-mul n 65536 256)
