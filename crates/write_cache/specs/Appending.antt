-- What the records of a cache are put by, and when it may be written.
use Rattle.std.specs.Prelude.{ℕ, ◌%◌, ◌≤◌, ◌<◌, ◌≡◌, List, length, eqb, if◌then◌else◌}
use Rattle.format.specs.Layout.{header_size, entry_field, chain_field, end_value}
use Rattle.format.specs.Bytes.{put}
use Rattle.format.specs.String.{hash}
use Rattle.catalogue.specs.Catalogue.{Catalogue}
use Rattle.catalogue.specs.Fields.{name_text}
use Rattle.catalogue.specs.Written.{lists_begin, names_begin, places, written_size, front}

-- the field that leads to the next record of bucket k, whose last record is r: its bucket's where it
-- has none, and else the CHAIN_OFFSET of that record
abbrev pub leads : ℕ → ℕ → ℕ
leads r k = if eqb r end_value then entry_field header_size k else chain_field r

-- the bucket, of b, of the icon at p
abbrev pub bucket_at : List ℕ → ℕ → ℕ → ℕ
bucket_at c p b = hash (name_text c p) % b

-- the cache of the catalogue d with b buckets may be written, and has room in `out`
pub record Fits (d : Catalogue) (b : ℕ) (out : List ℕ) : Type 0 where
  pub some : 0 < b
  pub few : b ≤ 4096
  pub room : written_size d b ≤ length out
  pub short : written_size d b ≤ 16777216

-- its lists and names begin there, and its header and a hash of empty buckets stand in `out`
pub record Ready (d : Catalogue) (b lists names : ℕ) (out : List ℕ) : Type 0 where
  pub fits : Fits d b out
  pub first-list : lists ≡ lists_begin d b
  pub first-name : names ≡ names_begin d b
  pub begun : out ≡ put out 0 (front d b (places d b) 0)
