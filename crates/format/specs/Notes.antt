-- What is broken first behind an IMAGE_DATA_OFFSET: rules 22 to 24, part by part in source document
-- 000's order (request 10).
use Rattle.std.specs.Prelude.{ℕ, List, Bool, ◌&&◌, drop, leb, eqb, if◌then◌else◌}
use Rattle.format.specs.Layout.{entries_at, image_size, data_field}
use Rattle.format.specs.Number.{be}
use Rattle.format.specs.Part.{inside, list_inside}
use Rattle.format.specs.Fault.{no_fault, unless, ◌or_else◌, first_fault, step_on}
use Rattle.format.specs.String.{string, extent, is_whole}
use Rattle.format.specs.ImageData.{image_data_size, pixel_data_field, meta_data_field, pixel_head_size, pixel_type_field, pixel_data_size, pixdata, meta_data_size, rectangle_field, points_field, names_field, rectangle_size, most_entries, point_size, display_name_size, language_field, text_field, longest_string, there}
use Rattle.format.specs.declared.Fault.{Fault}

-- what rule 22 asks of pixel data at p, with its pixels, and of a list at p whose entries have
-- `size` bytes
abbrev pub pixel_data_inside : List ℕ → ℕ → Bool
pixel_data_inside s p = inside s p pixel_head_size && inside s p (pixel_data_size s p)

abbrev pub valid_entries : List ℕ → ℕ → ℕ → Bool
valid_entries s p size = list_inside s p size && leb (be 4 s p) most_entries

-- the buffer from the string on that the field f names, and the string
abbrev pub note_part : List ℕ → ℕ → List ℕ
note_part s f = drop (be 4 s f) s

abbrev pub note_of : List ℕ → ℕ → List ℕ
note_of s f = string (note_part s f)

-- rule 24 on the string that the field f names
unfoldable pub note_fault : List ℕ → ℕ → Fault
note_fault s f = unless (is_whole (extent longest_string (note_part s f))) 24 f

-- the same on a display name at e: its language, then its text
unfoldable pub display_name_fault : List ℕ → ℕ → Fault
display_name_fault s e = note_fault s (language_field e) or_else note_fault s (text_field e)

-- the judgement of a part at p, which counts only if the part is there
abbrev pub if_there : ℕ → Fault → Fault
if_there p v = if there p then v else no_fault

-- rules 22 and 23 on the pixel data that the field f names
unfoldable pub pixel_data_fault : List ℕ → ℕ → Fault
pixel_data_fault s f =
    let p = be 4 s f in
    if_there p (unless (pixel_data_inside s p) 22 f or_else unless (eqb (be 4 s (pixel_type_field p)) pixdata) 23 f)

-- rule 22 on the rectangle and on the attach points, 22 and 24 on the display names that f names
unfoldable pub rectangle_fault : List ℕ → ℕ → Fault
rectangle_fault s f = if_there (be 4 s f) (unless (inside s (be 4 s f) rectangle_size) 22 f)

unfoldable pub points_fault : List ℕ → ℕ → Fault
points_fault s f = if_there (be 4 s f) (unless (valid_entries s (be 4 s f) point_size) 22 f)

unfoldable pub names_fault : List ℕ → ℕ → Fault
names_fault s f =
    let p = be 4 s f in
    if_there p
    (unless (valid_entries s p display_name_size) 22 f
    or_else first_fault (display_name_fault s) (step_on display_name_size) (be 4 s p) (entries_at p))

-- rules 22 and 24 on the meta data that the field f names, and on its parts
unfoldable pub meta_data_fault : List ℕ → ℕ → Fault
meta_data_fault s f =
    let m = be 4 s f in
    if_there m
    (unless (inside s m meta_data_size) 22 f
    or_else rectangle_fault s (rectangle_field m)
    or_else points_fault s (points_field m)
    or_else names_fault s (names_field m))

-- rules 22 to 24 on the image data that an image's field f names, and on all behind it
unfoldable pub image_data_fault : List ℕ → ℕ → Fault
image_data_fault s f =
    let d = be 4 s f in
    if_there d
    (unless (inside s d image_data_size) 22 f
    or_else pixel_data_fault s (pixel_data_field d)
    or_else meta_data_fault s (meta_data_field d))

-- the same behind each of m images from p on
abbrev pub notes_fault : ℕ → List ℕ → ℕ → Fault
notes_fault m s p = first_fault (λ q. image_data_fault s (data_field q)) (step_on image_size) m p
