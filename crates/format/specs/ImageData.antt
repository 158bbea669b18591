-- The parts behind an IMAGE_DATA_OFFSET, in the order of source document 000: sizes and fields
-- (request 10).
use Rattle.std.specs.Prelude.{ℕ, ◌+◌, ◌*◌, List, Bool, not, eqb}
use Rattle.format.specs.Layout.{entries_at}
use Rattle.format.specs.Number.{be}

-- ImageData's size and its fields: IMAGE_PIXEL_DATA_OFFSET, IMAGE_META_DATA_OFFSET
abbrev pub image_data_size : ℕ
image_data_size = 8

abbrev pub pixel_data_field : ℕ → ℕ
pixel_data_field d = d

abbrev pub meta_data_field : ℕ → ℕ
meta_data_field d = d + 4

-- pixel data without its pixels, and its fields: IMAGE_PIXEL_DATA_TYPE, IMAGE_PIXEL_DATA_LENGTH;
-- then come that many bytes, PIXEL_DATA
abbrev pub pixel_head_size : ℕ
pixel_head_size = 8

abbrev pub pixel_type_field : ℕ → ℕ
pixel_type_field p = p

abbrev pub pixel_length_field : ℕ → ℕ
pixel_length_field p = p + 4

abbrev pub pixel_data_size : List ℕ → ℕ → ℕ
pixel_data_size s p = pixel_head_size + be 4 s (pixel_length_field p)

-- the only type of pixel data: the GdkPixdata format
abbrev pub pixdata : ℕ
pixdata = 0

-- MetaData's size and its fields: EMBEDDED_RECT_OFFSET, ATTACH_POINT_LIST_OFFSET,
-- DISPLAY_NAME_LIST_OFFSET
abbrev pub meta_data_size : ℕ
meta_data_size = 12

abbrev pub rectangle_field : ℕ → ℕ
rectangle_field m = m

abbrev pub points_field : ℕ → ℕ
points_field m = m + 4

abbrev pub names_field : ℕ → ℕ
names_field m = m + 8

-- EmbeddedRect's size and its fields: X0, Y0, X1, Y1
abbrev pub rectangle_size : ℕ
rectangle_size = 8

abbrev pub x0_field : ℕ → ℕ
x0_field r = r

abbrev pub y0_field : ℕ → ℕ
y0_field r = r + 2

abbrev pub x1_field : ℕ → ℕ
x1_field r = r + 4

abbrev pub y1_field : ℕ → ℕ
y1_field r = r + 6

-- in a list at p (AttachPointList, DisplayNameList): entry i, where each has `size` bytes
abbrev pub entry_at : ℕ → ℕ → ℕ → ℕ
entry_at p size i = entries_at p + size * i

-- the largest count of a list that we allow
abbrev pub most_entries : ℕ
most_entries = 1024

-- AttachPoint's size and its fields: X, Y
abbrev pub point_size : ℕ
point_size = 4

abbrev pub x_field : ℕ → ℕ
x_field e = e

abbrev pub y_field : ℕ → ℕ
y_field e = e + 2

-- DisplayName's size (000's 4 is a slip) and its fields: DISPLAY_LANG_OFFSET, DISPLAY_NAME_OFFSET
abbrev pub display_name_size : ℕ
display_name_size = 8

abbrev pub language_field : ℕ → ℕ
language_field e = e

abbrev pub text_field : ℕ → ℕ
text_field e = e + 4

-- the longest language and the longest text that we allow, in bytes
abbrev pub longest_string : ℕ
longest_string = 255

-- a part with offset 0 is not there; for a string 0 is an offset like any other
abbrev pub there : ℕ → Bool
there p = not (eqb p 0)
