-- What squeezing answers, and what stands in the lent bytes afterwards.
use Rattle.std.specs.Prelude.{ℕ, List, [], ◌∷◌, length, leb, eqb}
use Rattle.format.specs.Layout.{hash_field, entries_at, image_size, data_field}
use Rattle.format.specs.Number.{be}
use Rattle.format.specs.Fault.{fault, no_fault, unless, ◌or_else◌, first_fault, step_on}
use Rattle.format.specs.Header.{buckets}
use Rattle.format.specs.Record.{images_at, images}
use Rattle.format.specs.Chain.{all_records}
use Rattle.format.specs.Call.{check}
use Rattle.format.specs.declared.Fault.{Fault}
use Rattle.format.specs.declared.Reading.TheVariants.{Short}
use Rattle.catalogue.specs.Call.{WriteAnswer, allowed_size, answer_to, left_by}
use Rattle.squeeze_spec.specs.Squeezed.{contents, squeezed}
use Rattle.squeeze_spec.specs.Packed.{packed_size}

-- 25 at the image at p, if its IMAGE_DATA_OFFSET is not 0
abbrev pub plain_fault : List ℕ → ℕ → Fault
plain_fault s p = unless (eqb (be 4 s (data_field p)) 0) 25 p

-- the same on m images from p on, on those of the record r, and on those of all records of a list
abbrev pub images_data_fault : ℕ → List ℕ → ℕ → Fault
images_data_fault m s p = first_fault (plain_fault s) (step_on image_size) m p

abbrev pub record_data_fault : List ℕ → ℕ → Fault
record_data_fault s r = images_data_fault (images s r) s (entries_at (images_at s r))

unfoldable pub data_fault : List ℕ → List ℕ → Fault
data_fault s [] = no_fault
data_fault s (r ∷ rs) = record_data_fault s r or_else data_fault s rs

-- how many bytes the squeezed cache has
abbrev pub squeezed_size : List ℕ → ℕ
squeezed_size s = packed_size (contents s) (buckets s)

-- what is judged of a cache to be squeezed into `room` bytes: the check's own, 25 at HASH_OFFSET
-- for more than 4,096 buckets, 25 at an image, then 19
unfoldable pub squeeze_fault : List ℕ → ℕ → Fault
squeeze_fault s room =
    fault (check Short s).number (check Short s).place
    or_else unless (leb (buckets s) 4096) 25 hash_field
    or_else data_fault s (all_records Short s)
    or_else unless (allowed_size (squeezed_size s) room) 19 0

-- squeezing the cache s into `room` bytes, and the lent bytes after it
unfoldable pub squeeze : List ℕ → ℕ → WriteAnswer
squeeze s room = answer_to (squeeze_fault s room) (squeezed_size s)

unfoldable pub squeeze_leaves : List ℕ → List ℕ → List ℕ
squeeze_leaves s lent = left_by (squeeze_fault s (length lent)) (squeezed s) lent
