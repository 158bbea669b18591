-- The cache that is written from a catalogue: header, hash, records, image lists, directory list,
-- strings, in catalogue order without gaps. Document 02, request 8.
use Rattle.std.specs.Prelude.{ℕ, ◌+◌, ◌*◌, List, ◌++◌, length}
use Rattle.format.specs.Layout.{entry_field, record_size, header_size}
use Rattle.format.specs.Bytes.{joined}
use Rattle.catalogue.specs.Catalogue.{Catalogue}
use Rattle.catalogue.specs.LaidOut.{nth_path, nth_icon, Places, header_bytes, hash_bytes, record_bytes, list_bytes, directories_bytes, text_and_zero}

-- the first n image lists, paths and names, each string with its zero byte
abbrev pub lists_up_to : Catalogue → ℕ → List ℕ
lists_up_to d = joined (λ i. list_bytes (nth_icon d i))

abbrev pub paths_up_to : Catalogue → ℕ → List ℕ
paths_up_to d = joined (λ i. text_and_zero (nth_path d i))

abbrev pub names_up_to : Catalogue → ℕ → List ℕ
names_up_to d = joined (λ i. text_and_zero (nth_icon d i).name)

-- where each kind of part begins, with b buckets
abbrev pub records_begin : ℕ → ℕ
records_begin b = entry_field header_size b

abbrev pub lists_begin : Catalogue → ℕ → ℕ
lists_begin d b = records_begin b + record_size * length d.icons

abbrev pub directories_begin : Catalogue → ℕ → ℕ
directories_begin d b = lists_begin d b + length (lists_up_to d (length d.icons))

abbrev pub paths_begin : Catalogue → ℕ → ℕ
paths_begin d b = entry_field (directories_begin d b) (length d.paths)

abbrev pub names_begin : Catalogue → ℕ → ℕ
names_begin d b = paths_begin d b + length (paths_up_to d (length d.paths))

-- where each part stands: behind those before it
abbrev pub places : Catalogue → ℕ → Places
places d b = record {
  buckets-at = header_size;
  directories-at = directories_begin d b;
  record-at = λ i. records_begin b + record_size * i;
  images-at = λ i. lists_begin d b + length (lists_up_to d i);
  name-at = λ i. names_begin d b + length (names_up_to d i);
  path-at = λ i. paths_begin d b + length (paths_up_to d i);
}

-- how many bytes it has
abbrev pub written_size : Catalogue → ℕ → ℕ
written_size d b = names_begin d b + length (names_up_to d (length d.icons))

-- header, hash and records with the first n icons
abbrev pub front : Catalogue → ℕ → Places → ℕ → List ℕ
front d b q n = header_bytes q ++ hash_bytes d b q n ++ joined (record_bytes d b q n) n

-- a cache: these, then image lists, the directory list and strings, without gaps
abbrev pub arranged : Catalogue → ℕ → Places → List ℕ → List ℕ → List ℕ
arranged d b q lists strings = front d b q (length d.icons) ++ lists ++ directories_bytes d q ++ strings

-- each list and each string by itself, in catalogue order, the paths before the names
unfoldable pub written : Catalogue → ℕ → List ℕ
written d b =
    arranged d b (places d b) (lists_up_to d (length d.icons)) (paths_up_to d (length d.paths) ++ names_up_to d (length d.icons))
