-- A catalogue as data and as bytes, and what it may hold: document 02, request 8.
use Rattle.std.specs.Prelude.{ℕ, ◌^◌, ◌≤◌, ◌<◌, ◌≡◌, Bool, true, length, get_or}
use mathlib.Core.List.{List, [], ◌∷◌, ◌++◌, map, flat_map}
use Rattle.format.specs.Layout.{most_directories, most_images}
use Rattle.format.specs.Bytes.{bytes}
use Rattle.format.specs.String.{allowed}
use Rattle.format.specs.Segments.{allowed_path}
use Rattle.format.specs.Record.{valid_index_flags}

-- an image: DIRECTORY_INDEX, FLAGS and IMAGE_DATA_OFFSET
pub record Image : Type 0 where
  pub index : ℕ
  pub flags : ℕ
  pub data-offset : ℕ

-- an icon: its name, and its images in order
pub record Icon : Type 0 where
  pub name : List ℕ
  pub images : List Image

-- a catalogue: the paths of its directories, and its icons
pub record Catalogue : Type 0 where
  pub paths : List (List ℕ)
  pub icons : List Icon

abbrev pub image_is : ℕ → ℕ → ℕ → Image
image_is i flags offset = record { index = i; flags = flags; data-offset = offset }

abbrev pub icon_is : List ℕ → List Image → Icon
icon_is name is = record { name = name; images = is }

abbrev pub catalogue_is : List (List ℕ) → List Icon → Catalogue
catalogue_is ts xs = record { paths = ts; icons = xs }

-- an image's bytes, as in a cache
abbrev pub image_bytes : Image → List ℕ
image_bytes i = bytes 2 i.index ++ bytes 2 i.flags ++ bytes 4 i.data-offset

-- a path: its length and its text
abbrev pub path_bytes : List ℕ → List ℕ
path_bytes t = bytes 2 (length t) ++ t

-- an icon: its name's length, its name, the count of its images, and these
abbrev pub icon_bytes : Icon → List ℕ
icon_bytes x = bytes 1 (length x.name) ++ x.name ++ bytes 2 (length x.images) ++ flat_map image_bytes x.images

-- a catalogue: its directories and its icons, each section after its count
abbrev pub catalogue_bytes : Catalogue → List ℕ
catalogue_bytes d = bytes 2 (length d.paths) ++ flat_map path_bytes d.paths ++ bytes 2 (length d.icons) ++ flat_map icon_bytes d.icons

-- the most icons that the two bytes of their count can say
abbrev pub most_icons : ℕ
most_icons = 65535

-- an image of a catalogue with n directories keeps rule 11
abbrev pub allowed_image : ℕ → Image → Bool
allowed_image n i = valid_index_flags n i.index i.flags

-- what holds of each element of a list
abbrev pub Each : {A : Type 0} → (A → Type 0) → List A → Type 0
Each P [] = Unit {0}
Each P (x ∷ xs) = P x × Each P xs

abbrev pub GoodImage : ℕ → Image → Type 0
GoodImage n i = (allowed_image n i ≡ true) × (i.data-offset < 2 ^ 32)

pub record GoodIcon (n : ℕ) (x : Icon) : Type 0 where
  pub named : allowed x.name ≡ true
  pub few : length x.images ≤ most_images
  pub images-good : Each (GoodImage n) x.images

-- the names of icons, and that no name stands twice
abbrev pub names : List Icon → List (List ℕ)
names xs = map (λ (x : Icon). x.name) xs

abbrev pub NoneTwice : List (List ℕ) → Type 0
NoneTwice ts = (i j : ℕ) → i < j → j < length ts → get_or ts i [] ≡ get_or ts j [] → ⊥

-- a good catalogue; how many icons it has is asked for beside it, as a cache may hold more
pub record Good (d : Catalogue) : Type 0 where
  pub paths-few : length d.paths ≤ most_directories
  pub paths-good : Each (λ t. allowed_path t ≡ true) d.paths
  pub icons-good : Each (GoodIcon (length d.paths)) d.icons
  pub none-twice : NoneTwice (names d.icons)
