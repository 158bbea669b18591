-- Where the two tables of a cache stand and how many entries they have, and the fields of their
-- entries.
use Rattle.std.specs.Prelude.{ℕ, ◌≡◌, List, length, if◌then◌else◌}
use Rattle.format.specs.Layout.{field_size, entry_field}
use Rattle.format.specs.Number.{be}
use Rattle.format.specs.Part.{list_inside}
use Rattle.format.specs.Header.{header_fault, buckets_at, buckets, directories_at, directories, path_field, path_of}
use Rattle.format.specs.Words.{Accepted}
use Rattle.format.specs.declared.Reading.TheVariants.{Short}
use Rattle.tables.specs.declared.Tables.{Tables}
use Rattle.tables.specs.declared.PathPart.{PathPart}

-- the count of the list whose offset stands at f, or another number where the list does not lie
-- inside
abbrev pub list_count : List ℕ → ℕ → ℕ → ℕ
list_count s f other = if list_inside s (be 4 s f) field_size then be 4 s (be 4 s f) else other

abbrev pub tables_in : List ℕ → Tables
tables_in s = record { buckets_at = buckets_at s; buckets = buckets s; directories_at = directories_at s; directories = directories s }

-- the header breaks no rule, and t is what it says of the tables
pub record TablesOf (s : List ℕ) (t : Tables) : Type 0 where
  pub header : (header_fault s).number ≡ 0
  pub tables : t ≡ tables_in s

-- and the whole cache is accepted
pub record Sound (s : List ℕ) (t : Tables) : Type 0 where
  pub tables : TablesOf s t
  pub accepted : Accepted Short s

-- the field of bucket k, and that of the path of directory i
abbrev pub bucket_field_of : Tables → ℕ → ℕ
bucket_field_of t k = entry_field t.buckets_at k

abbrev pub path_field_of : Tables → ℕ → ℕ
path_field_of t i = entry_field t.directories_at i

-- where the path of directory i stands, and how many bytes it has
abbrev pub part_of : List ℕ → ℕ → PathPart
part_of s i = record { start = be 4 s (path_field s i); length = length (path_of s i) }
