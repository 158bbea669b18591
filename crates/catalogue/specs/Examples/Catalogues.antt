-- The farm's catalogue and the cache that is written from it, a catalogue of two icons, and how a
-- call is compared with what it has to answer.
use Rattle.std.specs.Prelude.{ℕ, List, [], ◌∷◌, ◌++◌, Bool, true, ◌&&◌, length, replicate, eqb}
use Rattle.format.specs.String.{same_bytes}
use Rattle.format.specs.Farm.{cow, oat, lent}
use Rattle.catalogue.specs.Catalogue.{Catalogue, image_is, icon_is, catalogue_is}
use Rattle.catalogue.specs.Repeats.{catalogue_fault}
use Rattle.catalogue.specs.Call.{WriteAnswer, write_is, write, write_leaves, catalogue_of, catalogue_leaves}

unfoldable pub hen : List ℕ
hen = 104 ∷ 101 ∷ 110 ∷ []

-- the directories "16" and "64", the icons hen, oat and cow
unfoldable pub farm_catalogue : Catalogue
farm_catalogue =
    catalogue_is
    ((49 ∷ 54 ∷ []) ∷ (54 ∷ 52 ∷ []) ∷ [])
    (icon_is hen (image_is 0 1 0 ∷ []) ∷ icon_is oat (image_is 0 1 0 ∷ []) ∷ icon_is cow (image_is 0 1 0 ∷ image_is 1 4 0 ∷ []) ∷ [])

-- its bytes: paths at 2 and 6, the count of icons at 10, icons at 12, 26 and 40
unfoldable pub farm_bytes : List ℕ
farm_bytes =
    0 ∷ 2 ∷ 0 ∷ 2 ∷ 49 ∷ 54 ∷ 0 ∷ 2 ∷ 54 ∷ 52 ∷ 0 ∷ 3 ∷
    3 ∷ 104 ∷ 101 ∷ 110 ∷ 0 ∷ 1 ∷ 0 ∷ 0 ∷ 0 ∷ 1 ∷ 0 ∷ 0 ∷ 0 ∷ 0 ∷
    3 ∷ 111 ∷ 97 ∷ 116 ∷ 0 ∷ 1 ∷ 0 ∷ 0 ∷ 0 ∷ 1 ∷ 0 ∷ 0 ∷ 0 ∷ 0 ∷
    3 ∷ 99 ∷ 111 ∷ 119 ∷ 0 ∷ 2 ∷ 0 ∷ 0 ∷ 0 ∷ 1 ∷ 0 ∷ 0 ∷ 0 ∷ 0 ∷ 0 ∷ 1 ∷ 0 ∷ 4 ∷ 0 ∷ 0 ∷ 0 ∷ 0 ∷
    []

-- the cache with 3 buckets, part by part
unfoldable pub farm_written : List ℕ
farm_written =
    0 ∷ 1 ∷ 0 ∷ 0 ∷ 0 ∷ 0 ∷ 0 ∷ 12 ∷ 0 ∷ 0 ∷ 0 ∷ 108 ∷
    0 ∷ 0 ∷ 0 ∷ 3 ∷ 0 ∷ 0 ∷ 0 ∷ 28 ∷ 255 ∷ 255 ∷ 255 ∷ 255 ∷ 0 ∷ 0 ∷ 0 ∷ 52 ∷
    0 ∷ 0 ∷ 0 ∷ 40 ∷ 0 ∷ 0 ∷ 0 ∷ 126 ∷ 0 ∷ 0 ∷ 0 ∷ 64 ∷
    255 ∷ 255 ∷ 255 ∷ 255 ∷ 0 ∷ 0 ∷ 0 ∷ 130 ∷ 0 ∷ 0 ∷ 0 ∷ 76 ∷
    255 ∷ 255 ∷ 255 ∷ 255 ∷ 0 ∷ 0 ∷ 0 ∷ 134 ∷ 0 ∷ 0 ∷ 0 ∷ 88 ∷
    0 ∷ 0 ∷ 0 ∷ 1 ∷ 0 ∷ 0 ∷ 0 ∷ 1 ∷ 0 ∷ 0 ∷ 0 ∷ 0 ∷
    0 ∷ 0 ∷ 0 ∷ 1 ∷ 0 ∷ 0 ∷ 0 ∷ 1 ∷ 0 ∷ 0 ∷ 0 ∷ 0 ∷
    0 ∷ 0 ∷ 0 ∷ 2 ∷ 0 ∷ 0 ∷ 0 ∷ 1 ∷ 0 ∷ 0 ∷ 0 ∷ 0 ∷ 0 ∷ 1 ∷ 0 ∷ 4 ∷ 0 ∷ 0 ∷ 0 ∷ 0 ∷
    0 ∷ 0 ∷ 0 ∷ 2 ∷ 0 ∷ 0 ∷ 0 ∷ 120 ∷ 0 ∷ 0 ∷ 0 ∷ 123 ∷
    49 ∷ 54 ∷ 0 ∷ 54 ∷ 52 ∷ 0 ∷ 104 ∷ 101 ∷ 110 ∷ 0 ∷ 111 ∷ 97 ∷ 116 ∷ 0 ∷ 99 ∷ 111 ∷ 119 ∷ 0 ∷
    []

-- no directories, the icons "a" and "b", of which "a" has one image, with flags 15 and an offset
unfoldable pub pair_bytes : List ℕ
pair_bytes =
    0 ∷ 0 ∷ 0 ∷ 2 ∷
    1 ∷ 97 ∷ 0 ∷ 1 ∷ 255 ∷ 255 ∷ 0 ∷ 15 ∷ 255 ∷ 255 ∷ 255 ∷ 255 ∷
    1 ∷ 98 ∷ 0 ∷ 0 ∷
    []

-- the cache with 2 buckets: "b" is in bucket 0, "a" in bucket 1, so the check meets "b" first
unfoldable pub pair_written : List ℕ
pair_written =
    0 ∷ 1 ∷ 0 ∷ 0 ∷ 0 ∷ 0 ∷ 0 ∷ 12 ∷ 0 ∷ 0 ∷ 0 ∷ 64 ∷
    0 ∷ 0 ∷ 0 ∷ 2 ∷ 0 ∷ 0 ∷ 0 ∷ 36 ∷ 0 ∷ 0 ∷ 0 ∷ 24 ∷
    255 ∷ 255 ∷ 255 ∷ 255 ∷ 0 ∷ 0 ∷ 0 ∷ 68 ∷ 0 ∷ 0 ∷ 0 ∷ 48 ∷
    255 ∷ 255 ∷ 255 ∷ 255 ∷ 0 ∷ 0 ∷ 0 ∷ 70 ∷ 0 ∷ 0 ∷ 0 ∷ 60 ∷
    0 ∷ 0 ∷ 0 ∷ 1 ∷ 255 ∷ 255 ∷ 0 ∷ 15 ∷ 255 ∷ 255 ∷ 255 ∷ 255 ∷ 0 ∷ 0 ∷ 0 ∷ 0 ∷
    0 ∷ 0 ∷ 0 ∷ 0 ∷
    97 ∷ 0 ∷ 98 ∷ 0 ∷
    []

-- one directory, whose path has n bytes "n", h times 256 and l; and no icons
unfoldable pub path_of_bytes : ℕ → ℕ → ℕ → List ℕ
path_of_bytes n h l = 0 ∷ 1 ∷ h ∷ l ∷ replicate n 110 ++ (0 ∷ 0 ∷ [])

unfoldable pub same_answer : WriteAnswer → WriteAnswer → Bool
same_answer a b = eqb a.number b.number && eqb a.place b.place && eqb a.length b.length

-- the call answers a, and leaves `after` where `before` was lent
unfoldable pub writes : List ℕ → ℕ → List ℕ → WriteAnswer → List ℕ → Bool
writes c b before a after = same_answer (write c b (length before)) a && same_bytes (write_leaves c b before) after

unfoldable pub lists : List ℕ → List ℕ → WriteAnswer → List ℕ → Bool
lists s before a after = same_answer (catalogue_of s (length before)) a && same_bytes (catalogue_leaves s before) after

-- it refuses with x at p, and leaves what was lent, which was room enough for the farm's
unfoldable pub write_refuses : List ℕ → ℕ → ℕ → ℕ → Bool
write_refuses c b x p = writes c b (lent 140) (write_is x p 0) (lent 140)

unfoldable pub list_refuses : List ℕ → ℕ → ℕ → Bool
list_refuses s x p = lists s (lent 64) (write_is x p 0) (lent 64)

-- the bytes are judged good, or refused with 18 at p
unfoldable pub judged_good : List ℕ → Bool
judged_good c = eqb (catalogue_fault c).number 0

unfoldable pub refused18 : List ℕ → ℕ → Bool
refused18 c p = eqb (catalogue_fault c).number 18 && eqb (catalogue_fault c).place p

unfoldable pub all : List Bool → Bool
all [] = true
all (b ∷ bs) = b && all bs
