-- Examples of rules 6 to 12 and 17, of the words of a lookup, and of the paths of request 4.
use Rattle.std.specs.Prelude.{List, [], ◌∷◌, take, replicate}
use Rattle.format.specs.Answer.{accepted, refused, looked_up, directory_is}
use Rattle.format.specs.Farm.{Example, checks, looks_up, names, farm, looped, patched, cow, oat, pig, lent}
use Rattle.format.specs.Examples.Caches.{none, with_field, named, pathed, undirected, record_last}

unfoldable pub record_examples : List Example
record_examples =
    -- an empty path
    checks (pathed 0) (refused 6 24 0) ∷
    -- a path of one byte
    names (pathed 1) 0 (directory_is 0 0) (112 ∷ []) ∷
    -- a path of 1,023 bytes
    checks (pathed 1023) (accepted 1 0 0) ∷
    -- a path of 1,024 bytes
    checks (pathed 1024) (refused 6 24 0) ∷
    -- 1,023 bytes up to the end, without a zero byte; one more is too long
    checks (take 1051 (pathed 1024)) (refused 17 24 0) ∷
    checks (take 1052 (pathed 1024)) (refused 6 24 0) ∷
    -- a path that begins at the end, and one past it
    names (take 28 (pathed 1)) 0 (directory_is 17 24) [] ∷
    names (with_field 24 200 (pathed 1)) 0 (directory_is 17 24) [] ∷
    -- "/p" cut off, and a path that is too long and begins with a slash
    checks (take 30 (patched 28 (47 ∷ []) (pathed 2))) (refused 17 24 0) ∷
    checks (patched 28 (47 ∷ []) (pathed 1024)) (refused 6 24 0) ∷
    -- a record ending at L
    checks record_last (accepted 0 1 1) ∷
    -- a record ending at L + 1
    checks (take 43 record_last) (refused 7 16 0) ∷
    -- an empty name
    checks (named 0) (refused 8 28 1) ∷
    -- a name of one byte
    looks_up (named 1) (110 ∷ []) [] (looked_up 0 24 0 1) [] ∷
    -- a name of 255 bytes
    checks (named 255) (accepted 0 1 1) ∷
    looks_up (named 255) (replicate 255 110) [] (looked_up 0 24 0 1) [] ∷
    -- a name of 256 bytes
    checks (named 256) (refused 8 28 1) ∷
    -- 255 bytes up to the end, without a zero byte; one more is too long
    checks (take 295 (named 256)) (refused 17 28 1) ∷
    checks (take 296 (named 256)) (refused 8 28 1) ∷
    looks_up (take 295 (named 256)) (110 ∷ []) [] (looked_up 17 28 0 1) [] ∷
    -- an image list ending at L; without directories the index is 0xFFFF
    checks undirected (accepted 0 1 1) ∷
    looks_up undirected cow (lent 3) (looked_up 0 24 1 1) (4294901761 ∷ 0 ∷ 7 ∷ []) ∷
    -- an image list ending at L + 1
    checks (take 51 undirected) (refused 10 32 1) ∷
    -- index 0xFFFE without directories
    checks (patched 44 (255 ∷ 254 ∷ []) undirected) (refused 11 44 1) ∷
    -- index 0 without directories
    checks (patched 44 (0 ∷ 0 ∷ []) undirected) (refused 11 44 1) ∷
    -- index 0xFFFF beside directories
    checks (patched 88 (255 ∷ 255 ∷ []) farm) (refused 11 88 3) ∷
    -- flags 0
    checks (patched 70 (0 ∷ 0 ∷ []) farm) (accepted 2 3 2) ∷
    -- flags 15
    checks (patched 70 (0 ∷ 15 ∷ []) farm) (accepted 2 3 2) ∷
    -- flags 16
    checks (patched 70 (0 ∷ 16 ∷ []) farm) (refused 11 68 1) ∷
    -- an IMAGE_DATA_OFFSET of 0xFFFFFFFF: it is handed back and not followed
    looks_up (patched 72 none farm) oat (lent 2) (looked_up 0 40 1 2) (1 ∷ 4294967295 ∷ []) ∷
    -- one of 0x01020304 in cow's second image
    looks_up (patched 92 (1 ∷ 2 ∷ 3 ∷ 4 ∷ []) farm) cow (lent 4) (looked_up 0 52 2 1) (1 ∷ 0 ∷ 65540 ∷ 16909060 ∷ []) ∷
    []

unfoldable pub loop_examples : List Example
loop_examples =
    -- cow, alone in bucket 2, whose field is at 24, leads to itself
    checks (with_field 52 52 farm) (refused 12 24 116) ∷
    looks_up (with_field 52 52 farm) cow (lent 4) (looked_up 0 52 2 1) (1 ∷ 0 ∷ 65540 ∷ 0 ∷ []) ∷
    looks_up (with_field 52 52 farm) pig (lent 2) (looked_up 12 24 0 116) (lent 2) ∷
    looks_up (with_field 52 52 farm) oat (lent 2) (looked_up 0 40 1 2) (1 ∷ 0 ∷ []) ∷
    -- loops in buckets 0 and 2
    checks (with_field 52 52 looped) (refused 12 16 116) ∷
    -- oat leads to itself, behind hen
    checks (with_field 40 40 farm) (refused 12 16 116) ∷
    -- a loop of hen and oat, whose name is at the end: another fault comes before 12
    checks (with_field 44 126 looped) (refused 17 44 2) ∷
    []

-- in the two paths of the farm cache, at 108 and 111, with their fields at 100 and 104
unfoldable pub path_examples : List Example
path_examples =
    -- ".." first; a lookup looks at no path
    checks (patched 108 (46 ∷ 46 ∷ []) farm) (refused 16 100 0) ∷
    looks_up (patched 108 (46 ∷ 46 ∷ []) farm) oat (lent 2) (looked_up 0 40 1 2) (1 ∷ 0 ∷ []) ∷
    -- ".." second; only its own directory is refused
    names (patched 111 (46 ∷ 46 ∷ []) farm) 0 (directory_is 0 0) (49 ∷ 54 ∷ []) ∷
    names (patched 111 (46 ∷ 46 ∷ []) farm) 1 (directory_is 16 104) [] ∷
    -- "6/"
    checks (patched 111 (54 ∷ 47 ∷ []) farm) (refused 16 104 0) ∷
    -- ".x"
    checks (patched 111 (46 ∷ 120 ∷ []) farm) (accepted 2 3 2) ∷
    -- ".." and "/4": 16 comes straight after 6 of the same path, and before the next path
    checks (patched 108 (46 ∷ 46 ∷ 0 ∷ 47 ∷ 52 ∷ []) farm) (refused 16 100 0) ∷
    -- "/." and "..": a leading slash stays 6
    checks (patched 108 (47 ∷ 46 ∷ 0 ∷ 46 ∷ 46 ∷ []) farm) (refused 6 100 0) ∷
    []
