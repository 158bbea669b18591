-- Picks in the farm cache of document 01, computed. Its directories are "16" and "64"; cow has an
-- image of each, at 80 and at 88.
use Rattle.std.specs.Prelude.{ℕ, List, [], ◌∷◌, ◌++◌, Bool, true, ◌&&◌, T, eqb}
use Rattle.format.specs.Number.{be}
use Rattle.format.specs.Bytes.{put}
use Rattle.format.specs.Fault.{◌or_else◌, first_fault}
use Rattle.format.specs.String.{string, extent, is_whole, string_fault, same_bytes, signed, hash_from, hash_numbers, hash, allowed}
use Rattle.format.specs.Header.{header_fault}
use Rattle.format.specs.Record.{name_fault, list_fault, record_fault}
use Rattle.format.specs.Chain.{link_fault, follow, chain}
use Rattle.format.specs.Call.{first_named, search_bucket, query_fault, find}
use Rattle.format.specs.Farm.{farm, cow, patched}
use Rattle.pick.specs.Pick.{PickAnswer, serves, fits, first_image, words_fault, pick_is, pick}

-- the six words of a directory
unfoldable pub fixed : ℕ → ℕ → List ℕ
fixed size scale = 0 ∷ size ∷ scale ∷ 0 ∷ 0 ∷ 0 ∷ []

unfoldable pub scalable : ℕ → ℕ → List ℕ
scalable min max = 1 ∷ 64 ∷ 1 ∷ min ∷ max ∷ 0 ∷ []

unfoldable pub threshold : ℕ → ℕ → List ℕ
threshold size far = 2 ∷ size ∷ 1 ∷ 0 ∷ 0 ∷ far ∷ []

unfoldable pub unknown : List ℕ
unknown = 3 ∷ 16 ∷ 1 ∷ 0 ∷ 0 ∷ 0 ∷ []

-- the farm cache without directories, where each image has the index 0xFFFF
unfoldable pub bare : List ℕ
bare = patched 80 (255 ∷ 255 ∷ []) (patched 88 (255 ∷ 255 ∷ []) (patched 96 (0 ∷ 0 ∷ 0 ∷ 0 ∷ []) farm))

-- the pick of cow at a size and a scale, with words for the two directories
unfoldable pub picks : List ℕ → ℕ → ℕ → List ℕ → PickAnswer → Bool
picks s size scale w b = let a = pick s cow size scale w in eqb a.number b.number && eqb a.place b.place

unfoldable pub all : List Bool → Bool
all [] = true
all (b ∷ bs) = b && all bs

unfoldable pub examples : List Bool
examples =
    -- each type at its limits, and one past them
    picks farm 16 1 (fixed 16 1 ++ fixed 64 1) (pick_is 0 80) ∷
    picks farm 64 1 (fixed 16 1 ++ fixed 64 1) (pick_is 0 88) ∷
    picks farm 17 1 (fixed 16 1 ++ fixed 64 1) (pick_is 0 0) ∷
    picks farm 32 1 (fixed 16 1 ++ scalable 32 128) (pick_is 0 88) ∷
    picks farm 128 1 (fixed 16 1 ++ scalable 32 128) (pick_is 0 88) ∷
    picks farm 31 1 (fixed 16 1 ++ scalable 32 128) (pick_is 0 0) ∷
    picks farm 129 1 (fixed 16 1 ++ scalable 32 128) (pick_is 0 0) ∷
    picks farm 64 1 (fixed 16 1 ++ scalable 128 32) (pick_is 0 0) ∷
    picks farm 14 1 (threshold 16 2 ++ fixed 64 1) (pick_is 0 80) ∷
    picks farm 18 1 (threshold 16 2 ++ fixed 64 1) (pick_is 0 80) ∷
    picks farm 13 1 (threshold 16 2 ++ fixed 64 1) (pick_is 0 0) ∷
    picks farm 19 1 (threshold 16 2 ++ fixed 64 1) (pick_is 0 0) ∷
    -- the distance, not a sum or a difference that wraps
    picks farm 0 1 (threshold 2 0xFFFFFFFF ++ fixed 64 1) (pick_is 0 80) ∷
    picks farm 0xFFFFFFFF 1 (threshold 2 0xFFFFFFFF ++ fixed 64 1) (pick_is 0 80) ∷
    picks farm 0xFFFFFFFF 1 (threshold 0 0xFFFFFFFE ++ fixed 64 1) (pick_is 0 0) ∷
    -- the scale, and the first in the order of the list
    picks farm 16 2 (fixed 16 1 ++ fixed 16 2) (pick_is 0 88) ∷
    picks farm 16 2 (fixed 16 1 ++ fixed 16 1) (pick_is 0 0) ∷
    picks farm 64 1 (threshold 63 2 ++ fixed 64 1) (pick_is 0 80) ∷
    -- 31, then 32; an unknown type that would not matter is refused too
    picks farm 16 1 (fixed 16 1) (pick_is 31 0) ∷
    picks farm 16 1 (0 ∷ fixed 16 1 ++ fixed 64 1) (pick_is 31 0) ∷
    picks farm 16 1 (unknown ++ 0 ∷ []) (pick_is 31 0) ∷
    picks farm 16 1 (fixed 16 1 ++ unknown) (pick_is 32 6) ∷
    picks farm 16 1 (unknown ++ unknown) (pick_is 32 0) ∷
    -- without directories no words are lent, and 0xFFFF never fits
    picks bare 0 0 [] (pick_is 0 0) ∷
    picks bare 0 0 (fixed 0 0) (pick_is 31 0) ∷
    -- the lookup's refusals come before: an image that breaks rule 11
    picks (patched 88 (0 ∷ 2 ∷ []) farm) 16 1 [] (pick_is 11 88) ∷
    []

examples-hold : T (all examples)
unfolding all picks examples fixed scalable threshold unknown bare put farm cow pick words_fault first_image fits serves find search_bucket first_named query_fault link_fault follow chain record_fault name_fault list_fault header_fault ◌or_else◌ first_fault extent string is_whole string_fault same_bytes signed hash_from hash_numbers hash allowed be
examples-hold = tt
