-- Examples of rules 22 to 24 behind one image, under one proved statement.
use Rattle.std.specs.Prelude.{ℕ, ◌≡◌, refl, List, [], ◌∷◌, ◌++◌, Bool, true, ◌&&◌, replicate, T, eqb}
use Rattle.format.specs.Number.{be}
use Rattle.format.specs.Bytes.{put}
use Rattle.format.specs.Fault.{fault, no_fault, ◌or_else◌, first_fault}
use Rattle.format.specs.String.{string, extent, is_whole}
use Rattle.format.specs.Notes.{note_fault, display_name_fault, pixel_data_fault, rectangle_fault, points_fault, names_fault, meta_data_fault, image_data_fault, notes_fault}
use Rattle.format.specs.Farm.{patched}

-- a buffer of 84 bytes: at 0 a header of which the last field serves as IMAGE_DATA_OFFSET; image
-- data at 12, pixel data at 20 with 2 pixel bytes, meta data at 32, a rectangle at 44, 2 attach
-- points at 52, 1 display name at 64 with the language de at 76 and the text Haus at 79
abbrev pub whole : List ℕ
whole =
    0 ∷ 1 ∷ 0 ∷ 0 ∷ 0 ∷ 0 ∷ 0 ∷ 0 ∷ 0 ∷ 0 ∷ 0 ∷ 12 ∷
    0 ∷ 0 ∷ 0 ∷ 20 ∷ 0 ∷ 0 ∷ 0 ∷ 32 ∷
    0 ∷ 0 ∷ 0 ∷ 0 ∷ 0 ∷ 0 ∷ 0 ∷ 2 ∷ 9 ∷ 9 ∷ 0 ∷ 0 ∷
    0 ∷ 0 ∷ 0 ∷ 44 ∷ 0 ∷ 0 ∷ 0 ∷ 52 ∷ 0 ∷ 0 ∷ 0 ∷ 64 ∷
    0 ∷ 1 ∷ 0 ∷ 2 ∷ 0 ∷ 3 ∷ 0 ∷ 4 ∷
    0 ∷ 0 ∷ 0 ∷ 2 ∷ 0 ∷ 5 ∷ 0 ∷ 6 ∷ 0 ∷ 7 ∷ 1 ∷ 2 ∷
    0 ∷ 0 ∷ 0 ∷ 1 ∷ 0 ∷ 0 ∷ 0 ∷ 76 ∷ 0 ∷ 0 ∷ 0 ∷ 79 ∷
    100 ∷ 101 ∷ 0 ∷ 72 ∷ 97 ∷ 117 ∷ 115 ∷ 0 ∷
    []

-- the buffer with another byte at `at`
abbrev pub with : ℕ → ℕ → List ℕ → List ℕ
with at b s = patched at (b ∷ []) s

-- what is broken first behind the field at 8 of a buffer: nothing, or a rule with its place
data Behind : Type 0 where
  keeps : List ℕ → Behind
  breaks : List ℕ → ℕ → ℕ → Behind

holds : Behind → Bool
holds (keeps s) = eqb (image_data_fault s 8).number 0
holds (breaks s x p) = eqb (image_data_fault s 8).number x && eqb (image_data_fault s 8).place p

all : List Behind → Bool
all [] = true
all (e ∷ es) = holds e && all es

behind : List Behind
behind =
    -- all parts; no image data, no pixel data, no meta data
    keeps whole ∷
    keeps (with 11 0 whole) ∷
    keeps (with 15 0 whole) ∷
    keeps (with 19 0 whole) ∷
    -- image data that ends a byte past the end; at 76 its parts count
    breaks (with 11 77 whole) 22 8 ∷
    breaks (with 11 76 whole) 22 76 ∷
    -- pixel data whose fields or pixels are not inside, and pixels up to the end
    breaks (with 15 77 whole) 22 12 ∷
    breaks (with 27 57 whole) 22 12 ∷
    keeps (with 27 56 whole) ∷
    -- pixel data of another type, and that whose pixels are not inside either
    breaks (with 23 1 whole) 23 12 ∷
    breaks (with 23 1 (with 27 57 whole)) 22 12 ∷
    -- meta data that is not inside; 23 comes before it; at 72 its parts count
    breaks (with 19 73 whole) 22 16 ∷
    breaks (with 23 1 (with 19 73 whole)) 23 12 ∷
    breaks (with 19 72 whole) 22 72 ∷
    -- a rectangle that is not inside, none, and one that just is
    breaks (with 35 77 whole) 22 32 ∷
    keeps (with 35 0 whole) ∷
    keeps (with 35 76 whole) ∷
    -- attach points whose count or entries are not inside; 7 of them just are; none
    breaks (with 39 81 whole) 22 36 ∷
    breaks (with 55 8 whole) 22 36 ∷
    keeps (with 55 7 whole) ∷
    keeps (with 39 0 whole) ∷
    -- 1,024 attach points, and 1,025 of them, all inside
    keeps (with 54 4 (with 55 0 whole) ++ replicate 4068 0) ∷
    breaks (with 54 4 (with 55 1 whole) ++ replicate 4072 0) 22 36 ∷
    -- display names whose count or entries are not inside, and none
    breaks (with 43 81 whole) 22 40 ∷
    breaks (with 67 3 whole) 22 40 ∷
    keeps (with 43 0 whole) ∷
    -- an empty language, a text that is cut off, one at 0, and the language of a second entry
    breaks (with 71 78 whole) 24 68 ∷
    breaks (with 83 33 whole) 24 72 ∷
    breaks (with 75 0 whole) 24 72 ∷
    breaks (with 67 2 whole) 24 76 ∷
    -- a text of 255 bytes, and one of 256
    keeps (with 83 97 whole ++ replicate 250 97 ++ 0 ∷ []) ∷
    breaks (with 83 97 whole ++ replicate 251 97 ++ 0 ∷ []) 24 72 ∷
    []

behind-holds : T (all behind)
unfolding all holds behind image_data_fault meta_data_fault names_fault points_fault rectangle_fault pixel_data_fault display_name_fault note_fault first_fault ◌or_else◌ put be extent string is_whole
behind-holds = tt

-- the second of two images, whose field at 16 leads to 32: 22 for the pixel data at 44
two-images : (notes_fault 1 whole 4 ≡ no_fault) × (notes_fault 2 whole 4 ≡ fault 22 32)
unfolding image_data_fault meta_data_fault names_fault points_fault rectangle_fault pixel_data_fault display_name_fault note_fault first_fault ◌or_else◌ put be extent string is_whole
two-images = (refl, refl)
