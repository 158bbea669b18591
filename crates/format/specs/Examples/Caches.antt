-- Small caches for the examples, and how they are put together.
use Rattle.std.specs.Prelude.{ℕ, List, [], ◌∷◌, ◌++◌, replicate}
use Rattle.format.specs.Farm.{patched, cow}

-- the four bytes of a number below 256, and of the end value
unfoldable pub small : ℕ → List ℕ
small n = 0 ∷ 0 ∷ 0 ∷ n ∷ []

unfoldable pub none : List ℕ
none = 255 ∷ 255 ∷ 255 ∷ 255 ∷ []

-- a cache with another number below 256 in the field at an offset
unfoldable pub with_field : ℕ → ℕ → List ℕ → List ℕ
with_field p n s = patched p (small n) s

-- MAJOR 1 and MINOR 0, then HASH_OFFSET and DIRECTORY_LIST_OFFSET
unfoldable pub header : ℕ → ℕ → List ℕ
header h d = 0 ∷ 1 ∷ 0 ∷ 0 ∷ small h ++ small d

-- a header, one bucket, at 12, and its field, at 16; the directory list comes next, at 20
unfoldable pub start : List ℕ → List ℕ
start field = header 12 20 ++ small 1 ++ field

-- one bucket without records, and no directories
unfoldable pub bare : List ℕ
bare = start none ++ small 0

-- no directories, at 12, and one bucket without records, at 16, the last 8 bytes
unfoldable pub hash_last : List ℕ
hash_last = header 16 12 ++ small 0 ++ small 1 ++ none

-- a hash at 8, whose count is the 2 in DIRECTORY_LIST_OFFSET, and a directory list at 2, whose
-- count is MINOR and half of HASH_OFFSET
unfoldable pub two_in_header : List ℕ
two_in_header = header 8 2 ++ none ++ none

-- a record, at 24, an image list without images, at 36, and a name of n times "n", at 40
unfoldable pub named : ℕ → List ℕ
named n = start (small 24) ++ small 0 ++ none ++ small 40 ++ small 36 ++ small 0 ++ replicate n 110 ++ 0 ∷ []

-- one directory, its field at 24, and its path of n times "p", at 28
unfoldable pub pathed : ℕ → List ℕ
pathed n = start none ++ small 1 ++ small 28 ++ replicate n 112 ++ 0 ∷ []

-- "cow", its record at 24, with one image, at 44: index 0xFFFF, since there are no directories
unfoldable pub undirected : List ℕ
undirected = start (small 24) ++ small 0 ++ none ++ small 36 ++ small 40 ++ cow ++ 0 ∷ small 1 ++ 255 ∷ 255 ∷ 0 ∷ 1 ∷ small 0

-- "cow", an image list without images at 24, a name at 28, and its record last, at 32
unfoldable pub record_last : List ℕ
record_last = start (small 32) ++ small 0 ++ small 0 ++ cow ++ 0 ∷ none ++ small 28 ++ small 24
