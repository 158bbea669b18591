-- Bytes that are judged good, and those that are refused with 18, at each kind of field.
use Rattle.std.specs.Prelude.{List, [], ◌∷◌, ◌++◌, Bool, take}
use Rattle.format.specs.Bytes.{put}
use Rattle.catalogue.specs.Examples.Catalogues.{farm_bytes, pair_bytes, path_of_bytes, judged_good, refused18}

unfoldable pub judged_examples : List Bool
judged_examples =
    judged_good farm_bytes ∷
    judged_good pair_bytes ∷
    -- no bytes, half of the count of directories, and the least catalogue
    refused18 [] 0 ∷
    refused18 (0 ∷ []) 0 ∷
    judged_good (0 ∷ 0 ∷ 0 ∷ 0 ∷ []) ∷
    -- a path's length: cut off, 0, and 1,024; up to 1,023 it is good, and the text is cut off
    refused18 (take 3 farm_bytes) 2 ∷
    refused18 (put farm_bytes 2 (0 ∷ 0 ∷ [])) 2 ∷
    judged_good (path_of_bytes 1023 3 255) ∷
    refused18 (path_of_bytes 1024 4 0) 2 ∷
    refused18 (put farm_bytes 2 (3 ∷ 255 ∷ [])) 4 ∷
    refused18 (put farm_bytes 2 (4 ∷ 0 ∷ [])) 2 ∷
    -- its text: a slash first, "..", an empty piece, a zero byte, and cut off
    refused18 (put farm_bytes 4 (47 ∷ [])) 4 ∷
    refused18 (put farm_bytes 4 (46 ∷ 46 ∷ [])) 4 ∷
    refused18 (put farm_bytes 9 (47 ∷ [])) 8 ∷
    refused18 (put farm_bytes 5 (0 ∷ [])) 4 ∷
    refused18 (take 9 farm_bytes) 8 ∷
    -- the count of icons
    refused18 (take 11 farm_bytes) 10 ∷
    -- a name's length: cut off, 0, and one past the end, which is good
    refused18 (take 12 farm_bytes) 12 ∷
    refused18 (put farm_bytes 12 (0 ∷ [])) 12 ∷
    refused18 (put farm_bytes 12 (255 ∷ [])) 13 ∷
    -- a name with a zero byte
    refused18 (put farm_bytes 14 (0 ∷ [])) 13 ∷
    -- the count of images: cut off, 1,025, and 1,024, after which the second image is refused
    refused18 (take 17 farm_bytes) 16 ∷
    refused18 (put farm_bytes 16 (4 ∷ 1 ∷ [])) 16 ∷
    refused18 (put farm_bytes 16 (4 ∷ 0 ∷ [])) 26 ∷
    -- an image: cut off, an index of 2 or 0xFFFF with two directories, flags of 16
    refused18 (take 61 farm_bytes) 54 ∷
    refused18 (put farm_bytes 18 (0 ∷ 2 ∷ [])) 18 ∷
    refused18 (put farm_bytes 18 (255 ∷ 255 ∷ [])) 18 ∷
    refused18 (put farm_bytes 20 (0 ∷ 16 ∷ [])) 18 ∷
    -- and an index of 0 without directories
    refused18 (put pair_bytes 8 (0 ∷ 0 ∷ [])) 8 ∷
    -- a byte that follows the end
    refused18 (farm_bytes ++ (0 ∷ [])) 62 ∷
    -- the first of two: a text before the next length, and an image before the next name
    refused18 (put (put farm_bytes 4 (47 ∷ [])) 6 (0 ∷ 0 ∷ [])) 4 ∷
    refused18 (put (put farm_bytes 18 (0 ∷ 2 ∷ [])) 26 (0 ∷ [])) 18 ∷
    []
