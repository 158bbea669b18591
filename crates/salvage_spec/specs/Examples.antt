-- The farm cache of document 01 and damaged ones, salvaged.
use Rattle.std.specs.Prelude.{ℕ, Bool, true, ◌&&◌, length, take, drop, T, eqb}
use mathlib.Core.List.{List, [], ◌∷◌, ◌++◌, flat_map}
use Rattle.format.specs.Number.{be}
use Rattle.format.specs.Bytes.{bytes, joined, put}
use Rattle.format.specs.Fault.{◌or_else◌}
use Rattle.format.specs.String.{string, extent, string_fault, same_bytes, among, signed, hash_from, hash_numbers, hash}
use Rattle.format.specs.Segments.{segments, first_segment, later_segments, valid_segment, all_valid}
use Rattle.format.specs.Header.{header_fault, path_fault}
use Rattle.format.specs.Record.{name_fault}
use Rattle.format.specs.Words.{link, link_field}
use Rattle.format.specs.Farm.{farm, looped, patched, lent, oat, cow}
use Rattle.salvage_spec.specs.Lists.{first_failing}
use Rattle.salvage_spec.specs.Meetings.{named_below, passed, cut_at, met, cut, fate_among, kept_names, fate}
use Rattle.salvage_spec.specs.Salvage.{paths_below, kept_image, icon, chain_icons, icons, catalogue, row, image_entries, meeting_entries, chain_entries, path_entries, entries}
use Rattle.salvage_spec.specs.Call.{SalvageAnswer, salvage_is, salvage_fault, salvage, bytes_left_of, words_left_of}

-- a buffer, the room lent in bytes and in words, and what has to come of it: the answer, and what
-- is written to the front of both
pub record Example : Type 0 where
  pub buffer : List ℕ
  pub room : ℕ
  pub words : ℕ
  pub answer : SalvageAnswer
  pub catalogue : List ℕ
  pub report : List ℕ

unfoldable pub same_answer : SalvageAnswer → SalvageAnswer → Bool
same_answer a b = eqb a.number b.number && eqb a.place b.place && eqb a.length b.length && eqb a.rows b.rows

-- the vs and then what was lent
abbrev onto : List ℕ → ℕ → List ℕ
onto vs n = vs ++ drop (length vs) (lent n)

unfoldable pub holds : Example → Bool
holds e =
    same_answer (salvage e.buffer e.room e.words) e.answer
    && same_bytes (bytes_left_of e.buffer (lent e.room) (lent e.words)) (onto e.catalogue e.room)
    && same_bytes (words_left_of e.buffer (lent e.room) (lent e.words)) (onto e.report e.words)

unfoldable pub all : List Example → Bool
all [] = true
all (e ∷ es) = holds e && all es

-- salvaged into 64 bytes and 6 words
unfoldable pub gives : List ℕ → List ℕ → List ℕ → ℕ → Example
gives s c r rows = record { buffer = s; room = 64; words = 6; answer = salvage_is 0 0 (length c) rows; catalogue = c; report = r }

-- refused with n at p
unfoldable pub refuses : List ℕ → ℕ → ℕ → ℕ → ℕ → Example
refuses s room words n p = record { buffer = s; room = room; words = words; answer = salvage_is n p 0 0; catalogue = []; report = [] }

unfoldable pub hen : List ℕ
hen = 104 ∷ 101 ∷ 110 ∷ []

-- the parts of the farm's catalogue: both paths, a name, a count, an image
unfoldable pub both : List ℕ
both = 0 ∷ 2 ∷ 0 ∷ 2 ∷ 49 ∷ 54 ∷ 0 ∷ 2 ∷ 54 ∷ 52 ∷ []

unfoldable pub second : List ℕ
second = 0 ∷ 1 ∷ 0 ∷ 2 ∷ 54 ∷ 52 ∷ []

unfoldable pub count : ℕ → List ℕ
count n = 0 ∷ n ∷ []

unfoldable pub image : ℕ → ℕ → List ℕ
image i f = 0 ∷ i ∷ 0 ∷ f ∷ 0 ∷ 0 ∷ 0 ∷ 0 ∷ []

unfoldable pub named : List ℕ → ℕ → List ℕ
named name m = 3 ∷ name ++ count m

unfoldable pub hen_whole : List ℕ
hen_whole = named hen 1 ++ image 0 1

unfoldable pub oat_whole : List ℕ
oat_whole = named oat 1 ++ image 0 1

unfoldable pub cow_whole : List ℕ
cow_whole = named cow 2 ++ image 0 1 ++ image 1 4

unfoldable pub examples : List Example
examples =
    -- P1 and P8 to P11: whole, a loop cut, a stray record, a name cut off, a bad index
    gives farm (both ++ count 3 ++ hen_whole ++ oat_whole ++ cow_whole) [] 0 ∷
    gives looped (both ++ count 3 ++ hen_whole ++ oat_whole ++ cow_whole) (12 ∷ 16 ∷ []) 1 ∷
    gives (patched 20 (0 ∷ 0 ∷ 0 ∷ 28 ∷ []) farm) (both ++ count 3 ++ hen_whole ++ oat_whole ++ cow_whole) (9 ∷ 32 ∷ []) 1 ∷
    gives (take 125 farm) (both ++ count 2 ++ hen_whole ++ oat_whole) (17 ∷ 56 ∷ []) 1 ∷
    gives (patched 88 (0 ∷ 2 ∷ []) farm) (both ++ count 3 ++ hen_whole ++ oat_whole ++ named cow 1 ++ image 0 1) (11 ∷ 88 ∷ []) 1 ∷
    -- oat follows itself; oat's follower is not inside
    gives (patched 40 (0 ∷ 0 ∷ 0 ∷ 40 ∷ []) farm) (both ++ count 3 ++ hen_whole ++ oat_whole ++ cow_whole) (12 ∷ 16 ∷ []) 1 ∷
    gives (patched 40 (0 ∷ 0 ∷ 0 ∷ 120 ∷ []) farm) (both ++ count 3 ++ hen_whole ++ oat_whole ++ cow_whole) (7 ∷ 40 ∷ []) 1 ∷
    -- oat is named hen too; then hen's images are not inside, so that the later hen stays
    gives (patched 118 hen farm) (both ++ count 2 ++ hen_whole ++ cow_whole) (20 ∷ 44 ∷ []) 1 ∷
    gives (patched 36 (0 ∷ 0 ∷ 1 ∷ 0 ∷ []) (patched 118 hen farm)) (both ++ count 2 ++ hen_whole ++ cow_whole) (10 ∷ 36 ∷ []) 1 ∷
    -- the first path climbs: indexes close up; the image that hen and oat share has bad flags too,
    -- and a row for each of them, equal as words
    gives (patched 108 (46 ∷ 46 ∷ []) farm) (second ++ count 3 ++ named hen 0 ++ named oat 0 ++ named cow 1 ++ image 0 4) (16 ∷ 100 ∷ []) 1 ∷
    gives (patched 70 (0 ∷ 16 ∷ []) (patched 108 (46 ∷ 46 ∷ []) farm))
    (second ++ count 3 ++ named hen 0 ++ named oat 0 ++ named cow 1 ++ image 0 4) (16 ∷ 100 ∷ 11 ∷ 68 ∷ 11 ∷ 68 ∷ []) 3 ∷
    -- of three paths the second is empty: the third has its index then
    gives (patched 88 (0 ∷ 2 ∷ []) (patched 8 (0 ∷ 0 ∷ 0 ∷ 126 ∷ []) farm) ++ (0 ∷ 0 ∷ 0 ∷ 3 ∷ 0 ∷ 0 ∷ 0 ∷ 108 ∷ 0 ∷ 0 ∷ 0 ∷ 0 ∷ 0 ∷ 0 ∷ 0 ∷ 111 ∷ []))
    (both ++ count 3 ++ hen_whole ++ oat_whole ++ cow_whole) (6 ∷ 134 ∷ []) 1 ∷
    -- both paths went, and all images with them; 0xFFFF has a row even then
    gives (patched 108 (47 ∷ 54 ∷ 0 ∷ 46 ∷ 46 ∷ []) farm) (count 0 ++ count 3 ++ named hen 0 ++ named oat 0 ++ named cow 0) (6 ∷ 100 ∷ 16 ∷ 104 ∷ []) 2 ∷
    gives (patched 88 (255 ∷ 255 ∷ []) (patched 108 (47 ∷ 54 ∷ 0 ∷ 46 ∷ 46 ∷ []) farm))
    (count 0 ++ count 3 ++ named hen 0 ++ named oat 0 ++ named cow 0) (6 ∷ 100 ∷ 16 ∷ 104 ∷ 11 ∷ 88 ∷ []) 3 ∷
    -- refused: eleven bytes; a byte and a word too few
    refuses (take 11 farm) 64 6 1 0 ∷
    refuses farm 61 0 19 0 ∷
    refuses looped 62 1 19 0 ∷
    []

examples-hold : T (all examples)
unfolding all holds gives refuses same_answer examples both second count image named hen_whole oat_whole cow_whole farm looped put lent hen oat cow salvage salvage_fault bytes_left_of words_left_of flat_map bytes joined first_failing named_below passed cut_at met cut fate_among kept_names fate paths_below kept_image icon chain_icons icons catalogue row image_entries meeting_entries chain_entries path_entries entries link link_field name_fault header_fault path_fault segments first_segment later_segments valid_segment all_valid ◌or_else◌ string extent string_fault same_bytes among signed hash_from hash_numbers hash be
examples-hold = tt
