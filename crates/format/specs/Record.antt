-- An icon record and its images: document 01's tables, and requests 7 and 10. Rules 8 to 11 and 17,
-- and in the long reading what is behind the images.
use Rattle.std.specs.Prelude.{ℕ, zero, suc, ◌+◌, ◌*◌, ◌%◌, List, [], ◌∷◌, Bool, ◌&&◌, drop, ltb, leb, eqb, if◌then◌else◌}
use Rattle.format.specs.Layout.{entries_at, name_field, images_field, image_size, index_field, flags_field, data_field, most_images, longest_name, most_flags, no_directory}
use Rattle.format.specs.Number.{be}
use Rattle.format.specs.Part.{list_inside}
use Rattle.format.specs.Fault.{unless, ◌or_else◌, first_fault, step_on}
use Rattle.format.specs.String.{string, extent, string_fault, spells_name, hash}
use Rattle.format.specs.Header.{buckets, directories}
use Rattle.format.specs.Notes.{notes_fault}
use Rattle.format.specs.declared.Fault.{Fault}
use Rattle.format.specs.declared.Extent.{Extent}
use Rattle.format.specs.declared.Reading.{Reading}
use Rattle.format.specs.declared.Reading.TheVariants.{Short, Long}

-- the buffer from the name of record r on (NAME_OFFSET), and the name
abbrev pub name_part : List ℕ → ℕ → List ℕ
name_part s r = drop (be 4 s (name_field r)) s

abbrev pub name_of : List ℕ → ℕ → List ℕ
name_of s r = string (name_part s r)

-- what it is, as a name
abbrev pub name_extent : List ℕ → ℕ → Extent
name_extent s r = extent longest_name (name_part s r)

-- the bucket that a name's hash gives
abbrev pub bucket_of : List ℕ → List ℕ → ℕ
bucket_of s name = hash name % buckets s

-- where the image list of record r stands (IMAGE_LIST_OFFSET), and its count
abbrev pub images_at : List ℕ → ℕ → ℕ
images_at s r = be 4 s (images_field r)

abbrev pub images : List ℕ → ℕ → ℕ
images s r = be 4 s (images_at s r)

-- with no directories each index is 0xFFFF, and otherwise it is below their count
abbrev pub valid_index : ℕ → ℕ → Bool
valid_index n i = if eqb n 0 then eqb i no_directory else ltb i n

-- what rule 11 asks of an image's index i and flags, where there are n directories
abbrev pub valid_index_flags : ℕ → ℕ → ℕ → Bool
valid_index_flags n i flags = valid_index n i && leb flags most_flags

-- what rule 9 asks of the name of record r on bucket k's chain
abbrev pub own_bucket : List ℕ → ℕ → ℕ → Bool
own_bucket s k r = eqb (bucket_of s (name_of s r)) k

-- what rule 10 asks of the image list at p
abbrev pub valid_image_list : List ℕ → ℕ → Bool
valid_image_list s p = list_inside s p image_size && leb (be 4 s p) most_images

-- what rule 11 asks of the image at p
abbrev pub valid_image : List ℕ → ℕ → Bool
valid_image s p = valid_index_flags (directories s) (be 2 s (index_field p)) (be 2 s (flags_field p))

-- rule 11 on the image at p, and on m images from p on
abbrev pub image_fault : List ℕ → ℕ → Fault
image_fault s p = unless (valid_image s p) 11 p

abbrev pub images_fault : ℕ → List ℕ → ℕ → Fault
images_fault m s p = first_fault (image_fault s) (step_on image_size) m p

-- on the record r of bucket k's chain: rules 8, 17 and 9 (its name), 10 and 11 (its images)
unfoldable pub name_fault : List ℕ → ℕ → ℕ → Fault
name_fault s k r =
    string_fault (name_extent s r) 8 (name_field r)
    or_else unless (own_bucket s k r) 9 (name_field r)

unfoldable pub list_fault : List ℕ → ℕ → Fault
list_fault s r =
    unless (valid_image_list s (images_at s r)) 10 (images_field r)
    or_else images_fault (images s r) s (entries_at (images_at s r))

-- both, and in the long reading rules 22 to 24 behind its images
unfoldable pub record_fault : Reading → List ℕ → ℕ → ℕ → Fault
record_fault Short s k r = name_fault s k r or_else list_fault s r
record_fault Long s k r =
    name_fault s k r
    or_else list_fault s r
    or_else notes_fault (images s r) s (entries_at (images_at s r))

-- the record r has a whole name, and it is `name`
abbrev pub bears_name : List ℕ → ℕ → List ℕ → Bool
bears_name s r name = spells_name (name_part s r) name

-- the first word of the image at p: its index times 65,536 plus its flags
abbrev pub first_word : List ℕ → ℕ → ℕ
first_word s p = be 2 s (index_field p) * 65536 + be 2 s (flags_field p)

-- the two words of each of m images from p on, the second its IMAGE_DATA_OFFSET
unfoldable pub image_words : ℕ → List ℕ → ℕ → List ℕ
image_words zero s p = []
image_words (suc m) s p = first_word s p ∷ be 4 s (data_field p) ∷ image_words m s (p + image_size)
