-- What is written, piece by piece: of the catalogue and of the report, for each directory, image,
-- meeting and chain.
use Rattle.std.specs.Prelude.{ℕ, length}
use mathlib.Core.List.{List, [], ◌++◌, flat_map}
use Rattle.format.specs.Bytes.{bytes, joined}
use Rattle.format.specs.Fault.{if_kept}
use Rattle.format.specs.Header.{path_of, path_fault}
use Rattle.format.specs.Record.{images, image_fault}
use Rattle.format.specs.Words.{link}
use Rattle.format.specs.declared.Fault.{Fault}
use Rattle.catalogue.specs.Catalogue.{path_bytes, image_bytes, icon_bytes}
use Rattle.salvage_spec.specs.Meetings.{met, cut, fate}
use Rattle.salvage_spec.specs.Salvage.{kept_image, image_place, icon}
use Rattle.salvage_spec.specs.Call.{row_words}

-- the words of a judgement, which has a row if it names a broken rule
abbrev pub row_if : Fault → List ℕ
row_if v = if_kept v [] (row_words v)

-- of directory i
abbrev pub path_piece : List ℕ → ℕ → List ℕ
path_piece s i = if_kept (path_fault s i) (path_bytes (path_of s i)) []

abbrev pub path_row : List ℕ → ℕ → List ℕ
path_row s i = row_if (path_fault s i)

-- of image i of the record r; all its images behind the count of those that stay, and their rows
abbrev pub image_piece : List ℕ → ℕ → ℕ → List ℕ
image_piece s r i = flat_map image_bytes (kept_image s (image_place s r i))

abbrev pub images_piece : List ℕ → ℕ → List ℕ
images_piece s r = bytes 2 (length (icon s r).images) ++ joined (image_piece s r) (images s r)

abbrev pub image_row : List ℕ → ℕ → ℕ → List ℕ
image_row s r i = row_if (image_fault s (image_place s r i))

abbrev pub image_rows : List ℕ → ℕ → List ℕ
image_rows s r = joined (image_row s r) (images s r)

-- of step n of bucket k's chain
abbrev pub meeting_piece : List ℕ → ℕ → ℕ → List ℕ
meeting_piece s k n = if_kept (fate s k n) (icon_bytes (icon s (link s k n))) []

abbrev pub meeting_rows : List ℕ → ℕ → ℕ → List ℕ
meeting_rows s k n = if_kept (fate s k n) (image_rows s (link s k n)) (row_words (fate s k n))

-- of bucket k's chain
abbrev pub chain_piece : List ℕ → ℕ → List ℕ
chain_piece s k = joined (meeting_piece s k) (met s k)

abbrev pub chain_rows : List ℕ → ℕ → List ℕ
chain_rows s k = joined (meeting_rows s k) (met s k) ++ row_if (cut s k)
