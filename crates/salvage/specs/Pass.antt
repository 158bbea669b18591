-- What a pass over a cache puts and counts. c and d are the lent bytes before and after, w and v
-- the lent words.
use Rattle.std.specs.Prelude.{ℕ, ◌≤◌, ◌<◌, ◌≡◌, List, length}
use Rattle.filling.specs.Puts.{Puts}
use Rattle.salvage_spec.specs.Salvage.{icons}
use Rattle.salvage_spec.specs.Call.{salvage_bytes, salvage_words}
use Rattle.salvage_walk.specs.declared.Sums.{Sums}

-- catalogue and report are put, as far as there is room
pub record PutWhole (s c d w v : List ℕ) (a : Sums) : Type 0 where
  pub icons : a.icons ≡ length (icons s)
  pub bytes : Puts c d 0 (salvage_bytes s) a.bytes
  pub words : Puts w v 0 (salvage_words s) a.words

-- unless there are too many icons
pub record Passes (s c d w v : List ℕ) (a : Sums) : Type 0 where
  pub whole : a.icons ≤ 65535 → PutWhole s c d w v a
  pub many : 65535 < a.icons → 65535 < length (icons s)

-- how large they are, unless there are too many icons
pub record SizesOf (s : List ℕ) (a : Sums) : Type 0 where
  pub icons : a.icons ≡ length (icons s)
  pub bytes : a.bytes ≡ length (salvage_bytes s)
  pub words : a.words ≡ length (salvage_words s)

pub record Measures (s : List ℕ) (a : Sums) : Type 0 where
  pub whole : a.icons ≤ 65535 → SizesOf s a
  pub many : 65535 < a.icons → 65535 < length (icons s)
