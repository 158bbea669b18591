-- The cache of a catalogue in request 8's layout, in which equal strings and equal image lists
-- stand once, at first use.
use Rattle.std.specs.Prelude.{ℕ, ◌+◌, ◌*◌, List, [], ◌++◌, length, get_or}
use Rattle.format.specs.Layout.{header_size, entry_field, record_size}
use Rattle.catalogue.specs.Catalogue.{Catalogue, names}
use Rattle.catalogue.specs.LaidOut.{nth_icon, Places, list_bytes, text_and_zero}
use Rattle.catalogue.specs.Written.{records_begin, lists_begin, arranged}
use Rattle.squeeze_spec.specs.Uses.{stored_once, place_of}

-- the image list of icon i, as bytes
abbrev pub nth_list : Catalogue → ℕ → List ℕ
nth_list c i = list_bytes (nth_icon c i)

-- the i-th string in the order of use: the paths, then the names
abbrev pub nth_string : Catalogue → ℕ → List ℕ
nth_string c i = get_or (c.paths ++ names c.icons) i []

abbrev pub string_part : Catalogue → ℕ → List ℕ
string_part c i = text_and_zero (nth_string c i)

abbrev pub packed_lists : Catalogue → List ℕ
packed_lists c = stored_once (nth_list c) (nth_list c) (length c.icons)

abbrev pub packed_strings : Catalogue → List ℕ
packed_strings c = stored_once (nth_string c) (string_part c) (length c.paths + length c.icons)

-- where the directory list and the strings begin, with b buckets
abbrev pub directories_at : Catalogue → ℕ → ℕ
directories_at c b = lists_begin c b + length (packed_lists c)

abbrev pub strings_at : Catalogue → ℕ → ℕ
strings_at c b = entry_field (directories_at c b) (length c.paths)

abbrev pub string_at : Catalogue → ℕ → ℕ → ℕ
string_at c b i = strings_at c b + place_of (nth_string c) (string_part c) i

-- where each part stands
abbrev pub packed_places : Catalogue → ℕ → Places
packed_places c b = record {
  buckets-at = header_size;
  directories-at = directories_at c b;
  record-at = λ i. records_begin b + record_size * i;
  images-at = λ i. lists_begin c b + place_of (nth_list c) (nth_list c) i;
  path-at = λ i. string_at c b i;
  name-at = λ i. string_at c b (length c.paths + i);
}

-- how many bytes it has
abbrev pub packed_size : Catalogue → ℕ → ℕ
packed_size c b = strings_at c b + length (packed_strings c)

unfoldable pub packed : Catalogue → ℕ → List ℕ
packed c b = arranged c b (packed_places c b) (packed_lists c) (packed_strings c)
