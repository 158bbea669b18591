-- What is judged of any bytes c as a catalogue: 18 at the first byte of the first field that is cut
-- off, breaks a rule or follows the end. Document 02, request 8. A length, a text, a count and an
-- image are a field each; a length that reaches past the end is good, and its text is cut off.
use Rattle.std.specs.Prelude.{ℕ, List, Bool, ◌&&◌, length, ltb, leb}
use Rattle.format.specs.Layout.{image_size, longest_path, most_images}
use Rattle.format.specs.Part.{inside}
use Rattle.format.specs.Fault.{unless, ◌or_else◌, first_fault}
use Rattle.format.specs.String.{allowed}
use Rattle.format.specs.declared.Fault.{Fault}
use Rattle.format.specs.Segments.{allowed_path}
use Rattle.catalogue.specs.Catalogue.{allowed_image}
use Rattle.catalogue.specs.Fields.{path_length, path_text_at, path_text, path_end, image_at, image_end, name_length, name_text_at, name_text, image_count_at, image_count, first_image_at, icon_end, path_count, first_path_at, icon_count_at, icon_count, first_icon_at, catalogue_end}

-- a path, at p: its length, 1 to 1,023, and its text
abbrev pub valid_path_length : List ℕ → ℕ → Bool
valid_path_length c p = inside c p 2 && ltb 0 (path_length c p) && leb (path_length c p) longest_path

abbrev pub valid_path_text : List ℕ → ℕ → Bool
valid_path_text c p = inside c (path_text_at p) (path_length c p) && allowed_path (path_text c p)

unfoldable pub path_fields_fault : List ℕ → ℕ → Fault
path_fields_fault c p =
    unless (valid_path_length c p) 18 p
    or_else unless (valid_path_text c p) 18 (path_text_at p)

-- an image, at p, of a catalogue with n directories
abbrev pub valid_image_field : ℕ → List ℕ → ℕ → Bool
valid_image_field n c p = inside c p image_size && allowed_image n (image_at c p)

abbrev pub image_field_fault : ℕ → List ℕ → ℕ → Fault
image_field_fault n c p = unless (valid_image_field n c p) 18 p

-- an icon, at p: its name's length, a byte from 1 on, its name, the count of its images, and these
abbrev pub valid_name_length : List ℕ → ℕ → Bool
valid_name_length c p = inside c p 1 && ltb 0 (name_length c p)

abbrev pub valid_name_text : List ℕ → ℕ → Bool
valid_name_text c p = inside c (name_text_at p) (name_length c p) && allowed (name_text c p)

abbrev pub valid_image_count : List ℕ → ℕ → Bool
valid_image_count c p = inside c (image_count_at c p) 2 && leb (image_count c p) most_images

unfoldable pub icon_fields_fault : ℕ → List ℕ → ℕ → Fault
icon_fields_fault n c p =
    unless (valid_name_length c p) 18 p
    or_else unless (valid_name_text c p) 18 (name_text_at p)
    or_else unless (valid_image_count c p) 18 (image_count_at c p)
    or_else first_fault (image_field_fault n c) image_end (image_count c p) (first_image_at c p)

-- all fields in order, and nothing behind them; an index is judged by the catalogue's own count of
-- directories
unfoldable pub fields_fault : List ℕ → Fault
fields_fault c =
    unless (inside c 0 2) 18 0
    or_else first_fault (path_fields_fault c) (path_end c) (path_count c) first_path_at
    or_else unless (inside c (icon_count_at c) 2) 18 (icon_count_at c)
    or_else first_fault (icon_fields_fault (path_count c) c) (icon_end c) (icon_count c) (first_icon_at c)
    or_else unless (leb (length c) (catalogue_end c)) 18 (catalogue_end c)
