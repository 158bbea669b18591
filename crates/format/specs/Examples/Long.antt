-- Examples of the long reading, in the farm cache with image data behind it.
use Rattle.std.specs.Prelude.{ℕ, List, [], ◌∷◌, ◌++◌}
use Rattle.format.specs.Answer.{accepted, refused}
use Rattle.format.specs.Farm.{Example, checks, checks_long, farm, patched}
use Rattle.format.specs.Examples.Caches.{small, with_field}

-- both images of cow, their fields at 84 and 92, have the image data at 126; its pixel data at 134
-- has 2 bytes of pixels; its meta data at 144 has a rectangle at 156, an attach point in the list
-- at 164, and a display name in the list at 172: language "de" at 184, text "Kuh" at 187
unfoldable pub noted : List ℕ
noted =
    with_field 84 126 (with_field 92 126 farm)
    ++ small 134 ++ small 144
    ++ small 0 ++ small 2 ++ 9 ∷ 9 ∷ small 156 ++ small 164 ++ small 172
    ++ 0 ∷ 1 ∷ 0 ∷ 2 ∷ 0 ∷ 3 ∷ 0 ∷ 4 ∷ small 1 ++ 0 ∷ 5 ∷ 0 ∷ 6 ∷ small 1 ++ small 184 ++ small 187
    ++ 100 ∷ 101 ∷ 0 ∷ 75 ∷ 117 ∷ 104 ∷ 0 ∷ []

unfoldable pub long_examples : List Example
long_examples =
    -- all of it keeps the rules, and so does a cache without image data
    checks_long noted (accepted 2 3 2) ∷
    checks_long farm (accepted 2 3 2) ∷
    -- image data that ends past the end, of either image; the short reading doesn't follow it
    checks_long (with_field 84 184 noted) (refused 22 84 3) ∷
    checks_long (with_field 92 184 noted) (refused 22 92 3) ∷
    checks (with_field 84 184 noted) (accepted 2 3 2) ∷
    -- 11 of the second image comes before 22 of the first
    checks_long (patched 88 (255 ∷ 255 ∷ []) (with_field 84 184 noted)) (refused 11 88 3) ∷
    -- 22 behind hen's image comes before 9 in bucket 1
    checks_long (with_field 20 28 (with_field 72 184 noted)) (refused 22 72 1) ∷
    -- pixels past the end, another type, both; pixel data that is not there
    checks_long (with_field 138 50 noted) (refused 22 126 3) ∷
    checks_long (with_field 134 1 noted) (refused 23 126 3) ∷
    checks_long (with_field 134 1 (with_field 138 50 noted)) (refused 22 126 3) ∷
    checks_long (with_field 126 0 noted) (accepted 2 3 2) ∷
    -- 4,294,967,295 bytes of pixels
    checks_long (patched 138 (255 ∷ 255 ∷ 255 ∷ 255 ∷ []) noted) (refused 22 126 3) ∷
    -- an empty text, and one that is cut off
    checks_long (with_field 180 190 noted) (refused 24 180 3) ∷
    checks_long (patched 190 (33 ∷ []) noted) (refused 24 180 3) ∷
    -- hen and oat are a loop; image data that breaks a rule on it comes before 12
    checks_long (with_field 40 28 noted) (refused 12 16 181) ∷
    checks_long (with_field 40 28 (with_field 72 184 noted)) (refused 22 72 1) ∷
    []
