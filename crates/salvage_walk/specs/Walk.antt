-- What a walk has put, from the sums a on to the sums b: for a record, for a chain as far as it
-- goes, and for all chains. c and d are the lent bytes before and after, w and v the lent words.
use Rattle.std.specs.Prelude.{ℕ, ◌+◌, ◌*◌, ◌^◌, ◌≤◌, ◌<◌, ◌≡◌, List, [], length, Result, Ok, Err}
use Rattle.format.specs.Bytes.{joined}
use Rattle.format.specs.Header.{buckets}
use Rattle.format.specs.Words.{link_field}
use Rattle.format.specs.declared.Fault.{Fault}
use Rattle.catalogue.specs.Catalogue.{icon_bytes}
use Rattle.keys.specs.Key.{key_at}
use Rattle.keys.specs.declared.Kind.TheVariants.{Ended}
use Rattle.names.specs.Index.{Represents}
use Rattle.filling.specs.Puts.{Puts}
use Rattle.salvage_spec.specs.Meetings.{met, kept_names}
use Rattle.salvage_spec.specs.Salvage.{icon, icons_below, chain_icons, icons}
use Rattle.salvage_spec.specs.Call.{row_words}
use Rattle.salvage_spec.specs.Pieces.{image_rows, meeting_piece, meeting_rows, chain_piece, chain_rows}
use Rattle.salvage_walk.specs.declared.Sums.{Sums}

-- the bytes xs and the words ys, for n icons more; an icon has at most 8,450 bytes and 2,048 words
-- of rows, and there are at most m words besides
pub record Grows (c d w v xs ys : List ℕ) (n m : ℕ) (a b : Sums) : Type 0 where
  pub icons : b.icons ≡ a.icons + n
  pub bytes : Puts c d a.bytes xs b.bytes
  pub words : Puts w v a.words ys b.words
  pub bytes-few : b.bytes ≤ a.bytes + 8450 * n
  pub words-few : b.words ≤ a.words + 2048 * n + m

-- for the record r that is kept, or that goes by the rule x
abbrev pub Adds : List ℕ → ℕ → Result Unit Fault → List ℕ → List ℕ → List ℕ → List ℕ → Sums → Sums → Type 0
Adds s r (Ok u) c d w v a b = Grows c d w v (icon_bytes (icon s r)) (image_rows s r) 1 2 a b
Adds s r (Err x) c d w v a b = Grows c d w v [] (row_words x) 0 2 a b

-- n steps of bucket k's chain are made, and f is the field of the next; the index has the names
-- that are kept
pub record Steps (s : List ℕ) (k : ℕ) (c d w v index : List ℕ) (f n : ℕ) (a b : Sums) : Type 0 where
  pub within : n ≤ met s k
  pub field : f ≡ link_field s k n
  pub names : Represents (key_at Ended s) index (length (icons_below s k n)) (kept_names s k n)
  pub grows : Grows c d w v (joined (meeting_piece s k) n) (joined (meeting_rows s k) n) (length (icons_below s k n)) (2 * n) a b

-- bucket k's chain is walked: all of it, or there are too many icons
pub record Walks (s : List ℕ) (k : ℕ) (c d w v : List ℕ) (a b : Sums) : Type 0 where
  pub same_bytes : length d ≡ length c
  pub same-words : length v ≡ length w
  pub whole : b.icons ≤ 65535 → Grows c d w v (chain_piece s k) (chain_rows s k) (length (chain_icons s k)) (2 ^ 26) a b
  pub many : 65535 < b.icons → 65535 < a.icons + length (chain_icons s k)

-- the chains below bucket k
abbrev pub WholeTo : List ℕ → ℕ → List ℕ → List ℕ → List ℕ → List ℕ → Sums → Sums → Type 0
WholeTo s k c d w v a b = Grows c d w v (joined (chain_piece s) k) (joined (chain_rows s) k) (length (joined (chain_icons s) k)) (2 ^ 26 * k) a b

pub record WalksAll (s c d w v : List ℕ) (a b : Sums) : Type 0 where
  pub whole : b.icons ≤ 65535 → WholeTo s (buckets s) c d w v a b
  pub many : 65535 < b.icons → 65535 < length (icons s)
