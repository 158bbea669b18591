-- What is measured of a squeezed cache, and what is lent for it.
use Rattle.std.specs.Prelude.{ℕ, ◌+◌, ◌*◌, ◌^◌, ◌≤◌, ◌≡◌, List, length}
use Rattle.squeeze_spec.specs.Packed.{packed_lists, packed_strings}
use Rattle.squeeze_spec.specs.Squeezed.{contents}
use Rattle.tables.specs.declared.Tables.{Tables}
use Rattle.squeeze_names.specs.Repeated.{RepeatsMarked}
use Rattle.squeeze.specs.declared.Sizes.{Sizes}

pub record SizesOf (s : List ℕ) (x : Sizes) : Type 0 where
  pub icons : x.icons ≡ length (contents s).icons
  pub lists : x.lists ≡ length (packed_lists (contents s))
  pub strings : x.strings ≡ length (packed_strings (contents s))
  pub few : (x.icons ≤ 2 ^ 24) × (x.lists ≤ 2 ^ 48) × (x.strings ≤ 2 ^ 48)

-- two indexes of 65,536 words, and marks of the records that go
pub record Lent (s index places repeated : List ℕ) : Type 0 where
  pub index-wide : length index ≡ 65536
  pub places-wide : length places ≡ 65536
  pub marked : RepeatsMarked s repeated

-- how many bytes all parts have
abbrev pub size_of : Tables → Sizes → ℕ
size_of t x = 20 + 4 * t.buckets + 4 * t.directories + 12 * x.icons + x.lists + x.strings
