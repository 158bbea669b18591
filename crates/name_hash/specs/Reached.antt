-- How far a string is read.
use Rattle.std.specs.Prelude.{◌≡◌, ℕ, ◌+◌, ◌≤◌, List, map, length, drop}
use Rattle.format.specs.String.{string, signed, hash_from, hash}

-- i bytes of the string at the front of t are passed: these and those of the string of the rest are
-- together as many as the whole string's; and the hash goes on from h with those that are left
pub record Reached (t : List ℕ) (i h : ℕ) : Type 0 where
  pub inside : i ≤ length t
  pub passed : i + length (string (drop i t)) ≡ length (string t)
  pub goes_on : hash_from h (map signed (string (drop i t))) ≡ hash (string t)
