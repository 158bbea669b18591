-- Any bytes c, read as a catalogue: where each field begins, what it says, and the catalogue that
-- they say. Document 02, request 8.
use Rattle.std.specs.Prelude.{ℕ, ◌+◌, ◌*◌, ◌<◌, List, take, drop, get_or}
use Rattle.format.specs.Layout.{image_size, index_field, flags_field, data_field}
use Rattle.format.specs.Number.{be}
use Rattle.catalogue.specs.Row.{row, row_end}
use Rattle.catalogue.specs.Catalogue.{Image, Icon, Catalogue, image_is, icon_is, catalogue_is}

-- each is a byte, as those of a lent buffer are
abbrev pub AreBytes : List ℕ → Type 0
AreBytes c = (i : ℕ) → get_or c i 0 < 256

-- the n bytes at p
abbrev pub part : List ℕ → ℕ → ℕ → List ℕ
part c p n = take n (drop p c)

-- a path, at p: its length, its text, and where it ends
abbrev pub path_length : List ℕ → ℕ → ℕ
path_length c p = be 2 c p

abbrev pub path_text_at : ℕ → ℕ
path_text_at p = p + 2

abbrev pub path_text : List ℕ → ℕ → List ℕ
path_text c p = part c (path_text_at p) (path_length c p)

abbrev pub path_end : List ℕ → ℕ → ℕ
path_end c p = path_text_at p + path_length c p

-- an image, at p, and where it ends
abbrev pub image_at : List ℕ → ℕ → Image
image_at c p = image_is (be 2 c (index_field p)) (be 2 c (flags_field p)) (be 4 c (data_field p))

abbrev pub image_end : ℕ → ℕ
image_end p = p + image_size

-- m images from p on
abbrev pub images_from : ℕ → List ℕ → ℕ → List Image
images_from m c p = row (image_at c) image_end m p

-- an icon, at p: its name's length and its name
abbrev pub name_length : List ℕ → ℕ → ℕ
name_length c p = be 1 c p

abbrev pub name_text_at : ℕ → ℕ
name_text_at p = p + 1

abbrev pub name_text : List ℕ → ℕ → List ℕ
name_text c p = part c (name_text_at p) (name_length c p)

-- the count of its images, the first of them, and where it ends
abbrev pub image_count_at : List ℕ → ℕ → ℕ
image_count_at c p = name_text_at p + name_length c p

abbrev pub image_count : List ℕ → ℕ → ℕ
image_count c p = be 2 c (image_count_at c p)

abbrev pub first_image_at : List ℕ → ℕ → ℕ
first_image_at c p = image_count_at c p + 2

abbrev pub icon_end : List ℕ → ℕ → ℕ
icon_end c p = first_image_at c p + image_size * image_count c p

abbrev pub icon_at : List ℕ → ℕ → Icon
icon_at c p = icon_is (name_text c p) (images_from (image_count c p) c (first_image_at c p))

-- the count of directories, and the first path
abbrev pub path_count : List ℕ → ℕ
path_count c = be 2 c 0

abbrev pub first_path_at : ℕ
first_path_at = 2

-- the count of icons, behind the paths, the first icon, and where all ends
abbrev pub icon_count_at : List ℕ → ℕ
icon_count_at c = row_end (path_end c) (path_count c) first_path_at

abbrev pub icon_count : List ℕ → ℕ
icon_count c = be 2 c (icon_count_at c)

abbrev pub first_icon_at : List ℕ → ℕ
first_icon_at c = icon_count_at c + 2

abbrev pub catalogue_end : List ℕ → ℕ
catalogue_end c = row_end (icon_end c) (icon_count c) (first_icon_at c)

-- the paths, the icons, and the catalogue
abbrev pub paths_in : List ℕ → List (List ℕ)
paths_in c = row (path_text c) (path_end c) (path_count c) first_path_at

abbrev pub icons_in : List ℕ → List Icon
icons_in c = row (icon_at c) (icon_end c) (icon_count c) (first_icon_at c)

abbrev pub catalogue_in : List ℕ → Catalogue
catalogue_in c = catalogue_is (paths_in c) (icons_in c)
