-- What salvage makes of a buffer that passes rules 1 to 5: the catalogue of what is kept, and the
-- report of what went, both in the order met. Document 02, request 11.
use Rattle.std.specs.Prelude.{ℕ, ◌+◌, ◌*◌, List, [], ◌∷◌, ◌++◌, not, length, eqb, if◌then◌else◌}
use Rattle.format.specs.Layout.{entries_at, image_size, index_field, flags_field, data_field}
use Rattle.format.specs.Number.{be}
use Rattle.format.specs.Bytes.{joined}
use Rattle.format.specs.Fault.{if_kept}
use Rattle.format.specs.Header.{directories, buckets, path_of, path_fault}
use Rattle.format.specs.Record.{name_of, images_at, images, valid_image, image_fault}
use Rattle.format.specs.Words.{link}
use Rattle.format.specs.declared.Fault.{Fault}
use Rattle.catalogue.specs.Catalogue.{Image, Icon, Catalogue, image_is, icon_is, catalogue_is}
use Rattle.salvage_spec.specs.Meetings.{Meeting, meeting, met, cut, fate}

-- the paths kept of the directories below i; so many come before directory i, and that is its new
-- index if it is kept
unfoldable pub paths_below : List ℕ → ℕ → List (List ℕ)
paths_below s = joined (λ i. if_kept (path_fault s i) (path_of s i ∷ []) [])

abbrev pub new_index : List ℕ → ℕ → ℕ
new_index s i = length (paths_below s i)

-- the image at p, with a new index
abbrev pub reindexed : List ℕ → ℕ → ℕ → Image
reindexed s p i = image_is i (be 2 s (flags_field p)) (be 4 s (data_field p))

-- what is kept of the image at p: nothing if it breaks rule 11, by the file's own count of
-- directories, or if its directory went. Its index closes up; with no directories in the file it is
-- 0xFFFF and stays.
unfoldable pub kept_image : List ℕ → ℕ → List Image
kept_image s p =
    let i = be 2 s (index_field p) in
    if not (valid_image s p) then [] else
    if eqb (directories s) 0 then reindexed s p i ∷ [] else
    if_kept (path_fault s i) (reindexed s p (new_index s i) ∷ []) []

-- where image i of the record r stands
abbrev pub image_place : List ℕ → ℕ → ℕ → ℕ
image_place s r i = entries_at (images_at s r) + image_size * i

-- the icon of the record r
unfoldable pub icon : List ℕ → ℕ → Icon
icon s r = icon_is (name_of s r) (joined (λ i. kept_image s (image_place s r i)) (images s r))

-- the icons kept below step n of bucket k's chain, on the whole chain, and all of them
abbrev pub icons_below : List ℕ → ℕ → ℕ → List Icon
icons_below s k = joined (λ n. if_kept (fate s k n) (icon s (link s k n) ∷ []) [])

unfoldable pub chain_icons : List ℕ → ℕ → List Icon
chain_icons s k = icons_below s k (met s k)

unfoldable pub icons : List ℕ → List Icon
icons s = joined (chain_icons s) (buckets s)

unfoldable pub catalogue : List ℕ → Catalogue
catalogue s = catalogue_is (paths_below s (directories s)) (icons s)

-- An entry of the report says what it is for: the path of a directory, a meeting, the image at an
-- offset, or the end of a bucket's chain. Rows of different entries may be equal.
pub data Entry : Type 0 where
  of_path : ℕ → Entry
  of_meeting : Meeting → Entry
  of_image : ℕ → Entry
  of_cut : ℕ → Entry

-- its row: number and place
unfoldable pub row : List ℕ → Entry → Fault
row s (of_path i) = path_fault s i
row s (of_meeting m) = fate s m.bucket m.step
row s (of_image p) = image_fault s p
row s (of_cut k) = cut s k

-- the images of the record r that break rule 11
unfoldable pub image_entries : List ℕ → ℕ → List Entry
image_entries s r = joined (λ i. if_kept (image_fault s (image_place s r i)) [] (of_image (image_place s r i) ∷ [])) (images s r)

-- of a meeting: its own entry if the record goes, else those of its images
unfoldable pub meeting_entries : List ℕ → ℕ → ℕ → List Entry
meeting_entries s k n = if_kept (fate s k n) (image_entries s (link s k n)) (of_meeting (meeting k n) ∷ [])

-- of a chain: those of its meetings, then that of what cuts it
unfoldable pub chain_entries : List ℕ → ℕ → List Entry
chain_entries s k = joined (meeting_entries s k) (met s k) ++ if_kept (cut s k) [] (of_cut k ∷ [])

unfoldable pub path_entries : List ℕ → List Entry
path_entries s = joined (λ i. if_kept (path_fault s i) [] (of_path i ∷ [])) (directories s)

-- the report
unfoldable pub entries : List ℕ → List Entry
entries s = path_entries s ++ joined (chain_entries s) (buckets s)
