-- Lists and strings that are arranged behind the records, in whatever way, make a cache that lays
-- out the catalogue, if each stands where its field says.
use Rattle.std.specs.Prelude.{ℕ, ◌+◌, ◌*◌, ◌≤◌, ◌<◌, ◌≡◌, List, [], ◌++◌, length}
use Rattle.std.proofs.Common.{sym, ap, ◌∙◌, append-nil, arith, length-append}
use Rattle.format.specs.Bytes.{joined}
use Rattle.catalogue.specs.Catalogue.{Catalogue}
use Rattle.catalogue.specs.LaidOut.{Stands, nth_path, nth_icon, Places, header_bytes, hash_bytes, record_bytes, list_bytes, directories_bytes, text_and_zero, Lays}
use Rattle.catalogue.specs.Written.{records_begin, lists_begin, front, arranged}
use Rattle.catalogue.proofs.Laws.Stands.{stands-first, stands-behind, stands-part, stands_at, stands-within}
use Rattle.catalogue.proofs.Laws.Tables.{table-length, header-length}
use Rattle.catalogue.proofs.Laws.Front.{tables, tables-length, records-size, front_length}

-- where the strings begin, behind the lists
abbrev pub strings_begin : Catalogue → ℕ → List ℕ → ℕ
strings_begin d b lists = lists_begin d b + length lists + 4 + 4 * length d.paths

-- xs stands in the part that begins at p, at the offset r of the buffer
pub record Placed (part : List ℕ) (p r : ℕ) (xs : List ℕ) : Type 0 where
  pub offset : ℕ
  pub place : r ≡ p + offset
  pub stands : Stands part offset xs
  pub inside : offset + length xs ≤ length part

pub record Arranges (d : Catalogue) (b : ℕ) (q : Places) (lists strings : List ℕ) : Type 0 where
  pub buckets-at : q.buckets-at ≡ 12
  pub directories-at : q.directories-at ≡ lists_begin d b + length lists
  pub record-at : (i : ℕ) → q.record-at i ≡ records_begin b + 12 * i
  pub images : (i : ℕ) → i < length d.icons → Placed lists (lists_begin d b) (q.images-at i) (list_bytes (nth_icon d i))
  pub names : (i : ℕ) → i < length d.icons → Placed strings (strings_begin d b lists) (q.name-at i) (text_and_zero (nth_icon d i).name)
  pub paths : (i : ℕ) → i < length d.paths → Placed strings (strings_begin d b lists) (q.path-at i) (text_and_zero (nth_path d i))

module _ (d : Catalogue) (b : ℕ) (q : Places) (lists strings : List ℕ) where
  abbrev n : ℕ
  n = length d.icons

  -- the bytes up to the end of the lists and of the directory list, and how many they are
  abbrev up_to_lists : List ℕ
  up_to_lists = front d b q n ++ lists

  abbrev up_to_directories : List ℕ
  up_to_directories = up_to_lists ++ directories_bytes d q

  lists-end : length up_to_lists ≡ lists_begin d b + length lists
  lists-end = length-append (front d b q n) lists ∙ ap (λ m. m + length lists) (front_length d b q n)

  directories-end : length up_to_directories ≡ strings_begin d b lists
  directories-end = omega (arith, length-append up_to_lists (directories_bytes d q), lists-end, table-length q.path-at (length d.paths))

  pub arranged-length : length (arranged d b q lists strings) ≡ strings_begin d b lists + length strings
  arranged-length = length-append up_to_directories strings ∙ ap (λ m. m + length strings) directories-end

  -- each kind of part stands where it begins
  abbrev s : List ℕ
  s = arranged d b q lists strings

  whole : Stands s 0 s
  whole = record { rest = []; there = sym (append-nil s) }

  up-to-directories : Stands s 0 up_to_directories
  up-to-directories = stands-first up_to_directories strings whole

  up-to-lists : Stands s 0 up_to_lists
  up-to-lists = stands-first up_to_lists (directories_bytes d q) up-to-directories

  up-to-records : Stands s 0 (front d b q n)
  up-to-records = stands-first (front d b q n) lists up-to-lists

  up-to-hash : Stands s 0 (tables d b q n)
  up-to-hash = stands-first (tables d b q n) (joined (record_bytes d b q n) n) up-to-records

  placed : {part xs : List ℕ} {p r : ℕ} → Stands s p part → Placed part p r xs → Stands s r xs
  placed h g = stands_at (stands-within g.inside h g.stands) (sym g.place)

  pub arranged-lays : Arranges d b q lists strings → length s ≤ 16777216 → Lays s d b q
  arranged-lays a l =
      let records = stands-behind (tables d b q n) (joined (record_bytes d b q n) n) (tables-length d b q n) up-to-records in
      let all-lists = stands-behind (front d b q n) lists (front_length d b q n) up-to-lists in
      let all-strings = stands-behind up_to_directories strings directories-end whole in
      record {
        header = stands-first (header_bytes q) (hash_bytes d b q n) up-to-hash;
        hash = stands-behind (header_bytes q) (hash_bytes d b q n) (header-length q ∙ sym a.buckets-at) up-to-hash;
        directories = stands-behind up_to_lists (directories_bytes d q) (lists-end ∙ sym a.directories-at) up-to-directories;
        records = λ i g.
            stands_at (stands-part (record_bytes d b q n) n g records) (ap (λ m. records_begin b + m) (records-size d b q n i) ∙ sym (a.record-at i));
        lists = λ i g. placed all-lists (a.images i g);
        names = λ i g. placed all-strings (a.names i g);
        paths = λ i g. placed all-strings (a.paths i g);
        not-too-long = l;
      }
