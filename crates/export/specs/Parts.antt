-- The parts of the catalogue that a cache is listed as: of which bytes of the cache each is made.
use Rattle.std.specs.Prelude.{ℕ, ◌≤◌, List, length, get_or}
use Rattle.format.specs.Layout.{entries_at, name_field}
use Rattle.format.specs.Number.{be}
use Rattle.format.specs.Header.{path_of}
use Rattle.format.specs.Record.{name_of, images_at, images}
use Rattle.format.specs.Words.{Keeps}
use Rattle.format.specs.declared.Reading.TheVariants.{Short}
use Rattle.tables.specs.declared.Tables.{Tables}
use Rattle.catalogue.specs.Catalogue.{most_icons, path_bytes, icon_bytes}
use Rattle.catalogue.specs.Listed.{icon_of}
use Rattle.tables.specs.Tables.{Sound}
use Rattle.gathering.specs.Order.{Ordered}
use Rattle.export.specs.declared.parts.IconParts.{IconParts}

-- r is a record of some chain
pub record Kept (s : List ℕ) (r : ℕ) : Type 0 where
  pub bucket : ℕ
  pub keeps : Keeps Short s bucket r

-- where the name and the images of record r stand, and how many bytes and images they are
abbrev pub parts_of : List ℕ → ℕ → IconParts
parts_of s r = record { name = be 4 s (name_field r); length = length (name_of s r); images = entries_at (images_at s r); count = images s r }

-- the bytes of path i, and those of the icon of the i-th record of an index
abbrev pub path_piece : List ℕ → ℕ → List ℕ
path_piece s i = path_bytes (path_of s i)

abbrev pub icon_piece : List ℕ → List ℕ → ℕ → List ℕ
icon_piece s index i = icon_bytes (icon_of s (get_or index i 0))

-- a sound cache, and the index of its n records
pub record Indexed (s : List ℕ) (t : Tables) (index : List ℕ) (n : ℕ) : Type 0 where
  pub sound : Sound s t
  pub ordered : Ordered s index n
  pub room : n ≤ length index
  pub few : n ≤ most_icons
