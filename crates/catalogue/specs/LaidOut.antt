-- When a buffer is a cache of a catalogue, wherever its parts stand: document 01, 'The layout', and
-- document 02, request 8. A written cache is one, and so is one in which equal strings and lists
-- stand once; it is not asked that parts are apart.
use Rattle.std.specs.Prelude.{ℕ, zero, suc, ◌-◌, ◌≤◌, ◌<◌, ◌%◌, ◌≡◌, length, drop, get_or, eqb, if◌then◌else◌}
use mathlib.Core.List.{List, [], ◌∷◌, ◌++◌, flat_map}
use Rattle.format.specs.Layout.{end_value, most_bytes}
use Rattle.format.specs.Bytes.{bytes, joined}
use Rattle.format.specs.String.{hash}
use Rattle.catalogue.specs.Catalogue.{Icon, Catalogue, image_bytes, icon_is}

-- the bytes xs stand in s at p
pub record Stands (s : List ℕ) (p : ℕ) (xs : List ℕ) : Type 0 where
  pub rest : List ℕ
  pub there : drop p s ≡ xs ++ rest

-- path i and icon i of a catalogue
abbrev pub nth_path : Catalogue → ℕ → List ℕ
nth_path d i = get_or d.paths i []

abbrev pub nth_icon : Catalogue → ℕ → Icon
nth_icon d i = get_or d.icons i (icon_is [] [])

-- the bucket of icon i, of b
abbrev pub icon_bucket : Catalogue → ℕ → ℕ → ℕ
icon_bucket d b i = hash (nth_icon d i).name % b

-- where the parts stand: the hash, the directory list, and by number each record, image list, name
-- and path
pub record Places : Type 0 where
  pub buckets-at : ℕ
  pub directories-at : ℕ
  pub record-at : ℕ → ℕ
  pub images-at : ℕ → ℕ
  pub name-at : ℕ → ℕ
  pub path-at : ℕ → ℕ

-- the record of the first icon of bucket k among m icons from icon i on, or the end value;
-- `bucket` and `record-at` give an icon's bucket and record
unfoldable pub first_in : (ℕ → ℕ) → (ℕ → ℕ) → ℕ → ℕ → ℕ → ℕ
first_in bucket record-at k i zero = end_value
first_in bucket record-at k i (suc m) = if eqb (bucket i) k then record-at i else first_in bucket record-at k (suc i) m

-- with the first n icons: where the chain of bucket k begins, and where it goes on behind icon i
abbrev pub first_of : Catalogue → ℕ → Places → ℕ → ℕ → ℕ
first_of d b q n k = first_in (icon_bucket d b) q.record-at k 0 n

abbrev pub next_of : Catalogue → ℕ → Places → ℕ → ℕ → ℕ
next_of d b q n i = first_in (icon_bucket d b) q.record-at (icon_bucket d b i) (suc i) (n - suc i)

-- The bytes of each part; those of the hash and of a record are the ones with the first n icons.
abbrev pub header_bytes : Places → List ℕ
header_bytes q = bytes 2 1 ++ bytes 2 0 ++ bytes 4 q.buckets-at ++ bytes 4 q.directories-at

-- a count and that many offsets
abbrev pub table_bytes : (ℕ → ℕ) → ℕ → List ℕ
table_bytes offset n = bytes 4 n ++ joined (λ i. bytes 4 (offset i)) n

abbrev pub hash_bytes : Catalogue → ℕ → Places → ℕ → List ℕ
hash_bytes d b q n = table_bytes (first_of d b q n) b

abbrev pub directories_bytes : Catalogue → Places → List ℕ
directories_bytes d q = table_bytes q.path-at (length d.paths)

-- the record of icon i: the next of its bucket, its name, its image list
abbrev pub record_bytes : Catalogue → ℕ → Places → ℕ → ℕ → List ℕ
record_bytes d b q n i = bytes 4 (next_of d b q n i) ++ bytes 4 (q.name-at i) ++ bytes 4 (q.images-at i)

abbrev pub list_bytes : Icon → List ℕ
list_bytes x = bytes 4 (length x.images) ++ flat_map image_bytes x.images

-- a text and its zero byte
abbrev pub text_and_zero : List ℕ → List ℕ
text_and_zero t = t ++ (0 ∷ [])

-- s is a cache of the catalogue d with b buckets: each part stands at its place, and s is not too
-- long
pub record Lays (s : List ℕ) (d : Catalogue) (b : ℕ) (q : Places) : Type 0 where
  pub header : Stands s 0 (header_bytes q)
  pub hash : Stands s q.buckets-at (hash_bytes d b q (length d.icons))
  pub directories : Stands s q.directories-at (directories_bytes d q)
  pub records : (i : ℕ) → i < length d.icons → Stands s (q.record-at i) (record_bytes d b q (length d.icons) i)
  pub lists : (i : ℕ) → i < length d.icons → Stands s (q.images-at i) (list_bytes (nth_icon d i))
  pub names : (i : ℕ) → i < length d.icons → Stands s (q.name-at i) (text_and_zero (nth_icon d i).name)
  pub paths : (i : ℕ) → i < length d.paths → Stands s (q.path-at i) (text_and_zero (nth_path d i))
  pub not-too-long : length s ≤ most_bytes
