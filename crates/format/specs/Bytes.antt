-- What is written: a number as big-endian bytes, parts one after the other, and a part put into a
-- buffer. Document 01, 'The layout', and request 8.
use Rattle.std.specs.Prelude.{ℕ, zero, suc, ◌+◌, ◌/◌, ◌%◌, List, [], ◌∷◌, ◌++◌, length, take, drop}

-- the w bytes that write n; of a larger n the last w
unfoldable pub bytes : ℕ → ℕ → List ℕ
bytes zero n = []
bytes (suc w) n = bytes w (n / 256) ++ (n % 256 ∷ [])

-- the first n of the parts that f gives, without gaps
unfoldable pub joined : {A : Type 0} → (ℕ → List A) → ℕ → List A
joined f zero = []
joined f (suc n) = joined f n ++ f n

-- s with the bytes xs in it from p on
unfoldable pub put : List ℕ → ℕ → List ℕ → List ℕ
put s p xs = take p s ++ xs ++ drop (p + length xs) s
