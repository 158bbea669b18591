-- Numbers that are marked, as bits of words.
use Rattle.std.specs.Prelude.{ℕ, ◌/◌, ◌%◌, ◌^◌, ◌<◌, ◌≡◌, List, Bool, true, length, get_or, eqb}

-- bit b of w
abbrev pub bit : ℕ → ℕ → ℕ
bit w b = w / 2 ^ b % 2

-- i is marked
unfoldable pub marked : List ℕ → ℕ → Bool
marked m i = eqb (bit (get_or m (i / 32) 0) (i % 32)) 1

-- i is marked, if there is a word for it, and no other mark changes
pub record Marks (old new : List ℕ) (i : ℕ) : Type 0 where
  pub same : length new ≡ length old
  pub here : i / 32 < length old → marked new i ≡ true
  pub others : (j : ℕ) → (j ≡ i → ⊥) → marked new j ≡ marked old j
