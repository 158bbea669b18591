-- The lists of a squeezed cache stored block by block, and where each icon's list is.
use Rattle.std.specs.Prelude.{ℕ, ◌+◌, ◌*◌, ◌≤◌, ◌<◌, ◌≡◌, List, length}
use Rattle.format.specs.Bytes.{bytes, put}
use Rattle.format.specs.Number.{be}
use Rattle.keys.specs.Key.{key_at}
use Rattle.keys.specs.declared.Kind.TheVariants.{Images}
use Rattle.squeeze_spec.specs.Uses.{stored_once}
use Rattle.squeeze_spec.specs.Packed.{nth_list}
use Rattle.squeeze_spec.specs.Squeezed.{contents}
use Rattle.squeeze_index.specs.Maps.{Maps, Adds}
use Rattle.squeeze_index.specs.Laws.Firsts.{stored_at}
use Rattle.squeeze_lists.specs.Cells.{cells, news}
use Rattle.squeeze_lists.specs.declared.Shared.{Shared}

-- how many icons there are, and the first n lists, each once
abbrev pub icon_count : List ℕ → ℕ
icon_count s = length (contents s).icons

abbrev pub lists_to : List ℕ → ℕ → List ℕ
lists_to s n = stored_once (nth_list (contents s)) (nth_list (contents s)) n

-- the table stands before the lists, and there is room for both
pub record Room (s lent : List ℕ) (table at : ℕ) : Type 0 where
  pub apart : table + 4 * icon_count s ≤ at
  pub fits : at + length (lists_to s (icon_count s)) ≤ length lent
  pub short : at + length (lists_to s (icon_count s)) ≤ 16777216

-- `lent` with the table and the lists
abbrev pub stored : List ℕ → List ℕ → ℕ → ℕ → ℕ → ℕ → ℕ → List ℕ
stored s lent table at a b n = put (put lent table (cells (nth_list (contents s)) at a b n (icon_count s))) at (lists_to s b)

-- a walk from icon a on has come to icon n; the lists first used below `until` are stored, those
-- from a on are in the index
pub record Shares (s lent out index places : List ℕ) (table at a n : ℕ) (c : Shared) : Type 0 where
  pub room : Room s lent table at
  pub taken : ℕ
  pub until-is : c.until ≡ a + taken
  pub passed : c.until ≤ n
  pub within : n ≤ icon_count s
  pub onward : a < n → 0 < taken
  pub fits : c.entries ≤ length index
  pub most : c.entries ≤ taken
  pub known : Maps (key_at Images s) index places c.entries (news (nth_list (contents s)) a taken) (stored_at (nth_list (contents s)) (nth_list (contents s)) at (icon_count s))
  pub ends : c.end ≡ at + length (lists_to s c.until)
  pub built : out ≡ stored s lent table at a c.until n

-- some such walk, whose next cell is at f
pub record Sharing (s out index places : List ℕ) (n f : ℕ) (c : Shared) : Type 0 where
  pub lent : List ℕ
  pub table : ℕ
  pub at : ℕ
  pub from : ℕ
  pub shares : Shares s lent out index places table at from n c
  pub cell_at : f ≡ table + 4 * n

-- the list at p is stored as a new one: its bytes, its entry in the index, and its cell at f
pub record Stores (s out out' index index' places places' : List ℕ) (n p f i : ℕ) (c d : Shared) : Type 0 where
  pub between : List ℕ
  pub list_put : between ≡ put out c.end (key_at Images s p)
  pub adds : Adds index index' places places' c.entries i p c.end
  pub cell-put : out' ≡ put between f (bytes 4 c.end)
  pub becomes : d ≡ record { until = n + 1; entries = c.entries + 1; end = c.end + (4 + 8 * be 4 s p) }

-- the lists first used below icon a are stored, up to `end`, and the table says where they are
pub record Filled (s lent out : List ℕ) (table at a end : ℕ) : Type 0 where
  pub room : Room s lent table at
  pub within : a ≤ icon_count s
  pub ends : end ≡ at + length (lists_to s a)
  pub built : out ≡ stored s lent table at a a a

-- of some buffer
pub record Begun (s out : List ℕ) (table a end : ℕ) : Type 0 where
  pub lent : List ℕ
  pub at : ℕ
  pub filled : Filled s lent out table at a end
