-- What is known of a record that is kept, and of one that was met.
use Rattle.std.specs.Prelude.{ℕ, ◌+◌, ◌*◌, ◌≤◌, ◌≡◌, List, ◌∷◌, true, length, Result}
use Rattle.format.specs.Layout.{entries_at}
use Rattle.format.specs.Fault.{if_kept, verdict}
use Rattle.format.specs.String.{is_whole}
use Rattle.format.specs.Record.{name_of, name_extent, images_at, images}
use Rattle.format.specs.declared.Fault.{Fault}
use Rattle.keys.specs.Key.{key_at}
use Rattle.keys.specs.declared.Kind.TheVariants.{Ended}
use Rattle.names.specs.Index.{Represents}
use Rattle.salvage_spec.specs.Meetings.{fate_among}
use Rattle.salvage_icons.specs.declared.images.ImageList.{ImageList}

-- the record r lies inside, its name is whole, and its images lie inside and are few
pub record Kept (s : List ℕ) (r : ℕ) : Type 0 where
  pub inside : r + 12 ≤ length s
  pub named : is_whole (name_extent s r) ≡ true
  pub listed : images_at s r + 4 + 8 * images s r ≤ length s
  pub few : images s r ≤ 1024

-- where its images begin, and how many they are
abbrev pub list_of : List ℕ → ℕ → ImageList
list_of s r = record { first = entries_at (images_at s r); count = images s r }

-- what became of the record r on bucket k's chain, where the names ts were kept: v; and the index
-- represents the names that are kept then
pub record Meets (s : List ℕ) (k r : ℕ) (index : List ℕ) (n : ℕ) (ts : List (List ℕ)) (v : Result Unit Fault) : Type 0 where
  pub fate : v ≡ verdict (fate_among s k ts r)
  pub known : Represents (key_at Ended s) index (if_kept (fate_among s k ts r) (n + 1) n) (if_kept (fate_among s k ts r) (name_of s r ∷ ts) ts)
