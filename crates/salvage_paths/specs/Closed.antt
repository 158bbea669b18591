-- The new indexes of the directories in a table, what is put for the directories, and what becomes
-- of one image.
use Rattle.std.specs.Prelude.{ℕ, ◌+◌, ◌*◌, ◌≤◌, ◌<◌, ◌≡◌, List, [], ◌∷◌, length, get_or, Option, Some, None}
use Rattle.format.specs.Bytes.{joined}
use Rattle.format.specs.Header.{directories, path_fault}
use Rattle.filling.specs.Puts.{Puts}
use Rattle.salvage_spec.specs.Salvage.{new_index, reindexed, kept_image}
use Rattle.salvage_spec.specs.Pieces.{path_piece, path_row}

-- xs has the new index of each directory below n that is kept, and 0xFFFF for each that went; c are
-- kept
pub record ClosedTo (s xs : List ℕ) (n c : ℕ) : Type 0 where
  pub count : c ≡ new_index s n
  pub stays : (i : ℕ) → i < n → (path_fault s i).number ≡ 0 → get_or xs i 0 ≡ new_index s i
  pub gone : (i : ℕ) → i < n → ((path_fault s i).number ≡ 0 → ⊥) → get_or xs i 0 ≡ 0xFFFF

-- the table has them all
pub record Closes (s xs : List ℕ) : Type 0 where
  pub room : directories s ≤ length xs
  pub kept : ℕ
  pub closed : ClosedTo s xs (directories s) kept

-- what is put for the directories below n: the paths that are kept, and the rows of the others;
-- the next bytes go at b, and the next words at w
pub record PathsPut (s lent out : List ℕ) (at : ℕ) (words report : List ℕ) (n b w : ℕ) : Type 0 where
  pub paths : Puts lent out at (joined (path_piece s) n) b
  pub rows : Puts words report 0 (joined (path_row s) n) w
  pub bytes-few : b ≤ at + 1025 * n
  pub words-few : w ≤ 2 * n

-- what becomes of the image at p: it goes, or it stays with the index i
abbrev pub KeepsImage : List ℕ → ℕ → Option ℕ → Type 0
KeepsImage s p None = kept_image s p ≡ []
KeepsImage s p (Some i) = kept_image s p ≡ reindexed s p i ∷ []
