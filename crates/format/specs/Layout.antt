-- The layout of document 01, in the order of its tables: sizes, fields, the end value and the
-- numbers we allow. A field is given by its offset.
use Rattle.std.specs.Prelude.{ℕ, ◌+◌, ◌*◌}

-- Header, at 0
abbrev pub header_size : ℕ
header_size = 12

-- MAJOR
abbrev pub major_field : ℕ
major_field = 0

-- MINOR
abbrev pub minor_field : ℕ
minor_field = 2

-- HASH_OFFSET
abbrev pub hash_field : ℕ
hash_field = 4

-- DIRECTORY_LIST_OFFSET
abbrev pub directories_field : ℕ
directories_field = 8

-- Directory list, hash and image list, at p: the count, then the entries
abbrev pub entries_at : ℕ → ℕ
entries_at p = p + 4

-- a path offset or a bucket field
abbrev pub field_size : ℕ
field_size = 4

-- path offset i of the directory list at p, or bucket field i of the hash at p
abbrev pub entry_field : ℕ → ℕ → ℕ
entry_field p i = entries_at p + field_size * i

-- Icon record r
abbrev pub record_size : ℕ
record_size = 12

-- CHAIN_OFFSET
abbrev pub chain_field : ℕ → ℕ
chain_field r = r

-- NAME_OFFSET
abbrev pub name_field : ℕ → ℕ
name_field r = r + 4

-- IMAGE_LIST_OFFSET
abbrev pub images_field : ℕ → ℕ
images_field r = r + 8

-- Image, at p
abbrev pub image_size : ℕ
image_size = 8

-- DIRECTORY_INDEX
abbrev pub index_field : ℕ → ℕ
index_field p = p

-- FLAGS
abbrev pub flags_field : ℕ → ℕ
flags_field p = p + 2

-- IMAGE_DATA_OFFSET
abbrev pub data_field : ℕ → ℕ
data_field p = p + 4

-- in a bucket field or CHAIN_OFFSET: no further record
abbrev pub end_value : ℕ
end_value = 0xFFFFFFFF

-- The largest L, and the most directories, images in a list, bytes of a name and bytes of a path
abbrev pub most_bytes : ℕ
most_bytes = 16777216

abbrev pub most_directories : ℕ
most_directories = 65535

abbrev pub most_images : ℕ
most_images = 1024

abbrev pub longest_name : ℕ
longest_name = 255

abbrev pub longest_path : ℕ
longest_path = 1023

-- each image's index where there are no directories
abbrev pub no_directory : ℕ
no_directory = 0xFFFF

-- the largest flags
abbrev pub most_flags : ℕ
most_flags = 15
