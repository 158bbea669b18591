-- What a user is promised of the four calls after a long check that accepts.
use Rattle.std.specs.Prelude.{ℕ, ◌+◌, ◌*◌, ◌<◌, ◌≡◌, List, ◌⊎◌}
use Rattle.format.specs.Layout.{entries_at, image_size, data_field}
use Rattle.format.specs.Number.{be}
use Rattle.format.specs.Header.{buckets}
use Rattle.format.specs.Record.{images_at, images}
use Rattle.format.specs.Words.{OnChain, Accepted}
use Rattle.format.specs.declared.Reading.TheVariants.{Long}
use Rattle.image_data.specs.Call as calls

-- a number that says what was asked for, or that it is not there
abbrev pub Answered : ℕ → Type 0
Answered n = (n ≡ 0) ⊎ (n ≡ 33)

-- the field IMAGE_DATA_OFFSET of image j of the record r
abbrev pub image_field : List ℕ → ℕ → ℕ → ℕ
image_field s r j = data_field (entries_at (images_at s r) + image_size * j)

-- d is the IMAGE_DATA_OFFSET of an image of a record: of image j of the record r, which lies on the
-- chain of bucket k at step n
pub record OfImage (s : List ℕ) (d : ℕ) : Type 0 where
  pub k : ℕ
  pub n : ℕ
  pub r : ℕ
  pub j : ℕ
  pub bucket : k < buckets s
  pub chained : OnChain s k n r
  pub image : j < images s r
  pub offset : be 4 s (image_field s r j) ≡ d

-- in a cache that the long check accepts, a call by such an offset answers 0 or 33
abbrev pub AfterLong : List ℕ → ℕ → ℕ → Type 0
AfterLong s d number = Accepted Long s → OfImage s d → Answered number

-- and so does each of the four, whatever the entry i
pub record Promise (s : List ℕ) (d : ℕ) : Type 0 where
  pub rectangle : AfterLong s d (calls.rectangle s d).number
  pub point : (i : ℕ) → AfterLong s d (calls.attach_point s d i).number
  pub language : (i : ℕ) → AfterLong s d (calls.display_language s d i).number
  pub text : (i : ℕ) → AfterLong s d (calls.display_text s d i).number
