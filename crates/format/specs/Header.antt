-- The header, the directory list and the hash: document 01's tables, and requests 4 and 7. Rules 1
-- to 6, 16 and 17.
use Rattle.std.specs.Prelude.{ℕ, List, Bool, not, ◌&&◌, length, get_or, drop, ltb, leb, eqb}
use Rattle.format.specs.Layout.{header_size, major_field, minor_field, hash_field, directories_field, field_size, entry_field, most_bytes, most_directories, longest_path}
use Rattle.format.specs.Number.{be}
use Rattle.format.specs.Part.{inside, list_inside}
use Rattle.format.specs.Fault.{unless, ◌or_else◌, first_fault, step_on}
use Rattle.format.specs.String.{string, extent, string_fault}
use Rattle.format.specs.Segments.{slash, valid_segments}
use Rattle.format.specs.declared.Fault.{Fault}
use Rattle.format.specs.declared.Extent.{Extent}

-- where the hash stands, and how many buckets it has
abbrev pub buckets_at : List ℕ → ℕ
buckets_at s = be 4 s hash_field

abbrev pub buckets : List ℕ → ℕ
buckets s = be 4 s (buckets_at s)

-- where the directory list stands, and how many directories it has
abbrev pub directories_at : List ℕ → ℕ
directories_at s = be 4 s directories_field

abbrev pub directories : List ℕ → ℕ
directories s = be 4 s (directories_at s)

-- the field of bucket k
abbrev pub bucket_field : List ℕ → ℕ → ℕ
bucket_field s k = entry_field (buckets_at s) k

-- the field of the path of directory i
abbrev pub path_field : List ℕ → ℕ → ℕ
path_field s i = entry_field (directories_at s) i

-- what rules 3 to 5 ask
abbrev pub valid_version : List ℕ → Bool
valid_version s = eqb (be 2 s major_field) 1 && eqb (be 2 s minor_field) 0

abbrev pub valid_directories : List ℕ → Bool
valid_directories s = list_inside s (directories_at s) field_size && leb (directories s) most_directories

abbrev pub valid_buckets : List ℕ → Bool
valid_buckets s = list_inside s (buckets_at s) field_size && ltb 0 (buckets s)

-- rules 1 to 5
unfoldable pub header_fault : List ℕ → Fault
header_fault s =
    unless (inside s 0 header_size) 1 0
    or_else unless (leb (length s) most_bytes) 2 0
    or_else unless (valid_version s) 3 0
    or_else unless (valid_directories s) 4 directories_field
    or_else unless (valid_buckets s) 5 hash_field

-- the buffer from the path of directory i on, and the path
abbrev pub path_part : List ℕ → ℕ → List ℕ
path_part s i = drop (be 4 s (path_field s i)) s

abbrev pub path_of : List ℕ → ℕ → List ℕ
path_of s i = string (path_part s i)

-- what it is, as a path
abbrev pub path_extent : List ℕ → ℕ → Extent
path_extent s i = extent longest_path (path_part s i)

-- what rule 6 asks of the path of directory i besides: no slash first
abbrev pub relative_path : List ℕ → ℕ → Bool
relative_path s i = not (eqb (get_or (path_of s i) 0 0) slash)

-- rules 6, 17 and 16 on the path of directory i
unfoldable pub path_fault : List ℕ → ℕ → Fault
path_fault s i =
    string_fault (path_extent s i) 6 (path_field s i)
    or_else unless (relative_path s i) 6 (path_field s i)
    or_else unless (valid_segments (path_of s i)) 16 (path_field s i)

-- the same on n paths from directory i on
abbrev pub paths_fault : ℕ → List ℕ → ℕ → Fault
paths_fault n s i = first_fault (path_fault s) (step_on 1) n i

-- rules 1 to 6, 16 and 17
unfoldable pub tables_fault : List ℕ → Fault
tables_fault s = header_fault s or_else paths_fault (directories s) s 0
