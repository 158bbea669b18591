-- Examples of rules 1 to 5 and 13, and of parts that stand in the header.
use Rattle.std.specs.Prelude.{List, [], ◌∷◌, ◌++◌, take, replicate}
use Rattle.format.specs.Answer.{accepted, refused, looked_up, directory_is}
use Rattle.format.specs.Farm.{Example, checks, looks_up, names, farm, patched, oat, lent}
use Rattle.format.specs.Examples.Caches.{with_field, header, bare, hash_last, two_in_header}

unfoldable pub table_examples : List Example
table_examples =
    -- 11 bytes
    checks (take 11 farm) (refused 1 0 0) ∷
    looks_up (take 11 farm) oat (lent 2) (looked_up 1 0 0 0) (lent 2) ∷
    names (take 11 farm) 0 (directory_is 1 0) [] ∷
    -- 12 bytes, with a directory list at 2 and a hash of 4 buckets at 4
    checks (header 4 2) (refused 5 4 0) ∷
    -- MINOR 1
    checks (patched 2 (0 ∷ 1 ∷ []) farm) (refused 3 0 0) ∷
    -- MAJOR 2
    checks (patched 0 (0 ∷ 2 ∷ []) farm) (refused 3 0 0) ∷
    -- the directory list and the hash both at the end: 4 is named
    checks (with_field 4 126 (with_field 8 126 farm)) (refused 4 8 0) ∷
    looks_up (with_field 4 126 (with_field 8 126 farm)) oat (lent 2) (looked_up 4 8 0 0) (lent 2) ∷
    names (with_field 4 126 (with_field 8 126 farm)) 0 (directory_is 4 8) [] ∷
    -- b of 0
    checks (with_field 12 0 farm) (refused 5 4 0) ∷
    -- b of 1, no directories, and the directory list ending at L
    checks bare (accepted 0 0 0) ∷
    names bare 0 (directory_is 15 0) [] ∷
    -- the directory list ending at L + 1
    checks (take 23 bare) (refused 4 8 0) ∷
    -- the hash ending at L
    checks hash_last (accepted 0 0 0) ∷
    -- the hash ending at L + 1
    checks (take 23 hash_last) (refused 5 4 0) ∷
    -- an empty name asked for
    looks_up farm [] (lent 2) (looked_up 13 0 0 0) (lent 2) ∷
    -- the same in 11 bytes: 13 comes before 1
    looks_up (take 11 farm) [] (lent 2) (looked_up 13 0 0 0) (lent 2) ∷
    -- a name of 255 bytes asked for
    looks_up bare (replicate 255 110) (lent 2) (looked_up 30 0 0 0) (lent 2) ∷
    -- a name of 256 bytes asked for
    looks_up bare (replicate 256 110) (lent 2) (looked_up 13 0 0 0) (lent 2) ∷
    -- "oat" and a zero byte asked for
    looks_up farm (oat ++ 0 ∷ []) (lent 2) (looked_up 13 0 0 0) (lent 2) ∷
    []

-- The header of the farm cache has at 2 a count of 0 and at 11 a string, of the byte 96.
unfoldable pub header_examples : List Example
header_examples =
    -- a hash and a directory list that begin in the header
    checks two_in_header (accepted 0 0 0) ∷
    looks_up two_in_header oat (lent 2) (looked_up 30 0 0 0) (lent 2) ∷
    -- the same with the last byte cut
    checks (take 19 two_in_header) (refused 5 4 0) ∷
    -- the directory list at 2 has no directories, so that hen's image has a wrong index
    checks (with_field 8 2 farm) (refused 11 68 1) ∷
    names (with_field 8 2 farm) 0 (directory_is 15 0) [] ∷
    -- the directory list at 8 has 8 directories, the first with an empty path
    checks (with_field 8 8 farm) (refused 6 12 0) ∷
    -- the second path at 11
    checks (with_field 104 11 farm) (accepted 2 3 2) ∷
    names (with_field 104 11 farm) 1 (directory_is 0 0) (96 ∷ []) ∷
    -- hen's name at 11: its hash is 96 and its bucket 0
    checks (with_field 32 11 farm) (accepted 2 3 2) ∷
    looks_up (with_field 32 11 farm) (96 ∷ []) (lent 3) (looked_up 0 28 1 1) (1 ∷ 0 ∷ 7 ∷ []) ∷
    -- oat's image list at 2
    checks (with_field 48 2 farm) (accepted 2 3 2) ∷
    looks_up (with_field 48 2 farm) oat (lent 2) (looked_up 0 40 0 2) (lent 2) ∷
    -- a record at 0: its name would be the hash's count
    checks (with_field 16 0 farm) (refused 8 4 1) ∷
    -- a record at 4: its name would be the directory list's count
    checks (with_field 16 4 farm) (refused 8 8 1) ∷
    []
