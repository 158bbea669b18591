-- The records and the names of a squeezed cache, icon by icon.
use Rattle.std.specs.Prelude.{ℕ, suc, ◌+◌, ◌-◌, ◌*◌, ◌≤◌, ◌<◌, ◌≡◌, List, length, eqb, if◌then◌else◌}
use Rattle.format.specs.Bytes.{bytes, put}
use Rattle.format.specs.Header.{buckets, directories}
use Rattle.format.specs.Layout.{end_value, header_size, entry_field}
use Rattle.catalogue.specs.LaidOut.{Stands, Places, icon_bucket}
use Rattle.catalogue.specs.Written.{records_begin, front}
use Rattle.squeeze_spec.specs.Packed.{packed_places, strings_at}
use Rattle.squeeze_spec.specs.Squeezed.{contents}
use Rattle.squeeze_spec.specs.Call.{squeezed_size}
use Rattle.squeeze_paths.specs.Pathed.{strings_up_to}
use Rattle.squeeze_texts.specs.Named.{string_of}

-- the field that leads to the record at r of bucket k, where the record before is of bucket j
abbrev pub leads : ℕ → ℕ → ℕ → ℕ
leads j k r = if eqb j k then r - 12 else entry_field header_size k

module _ (s : List ℕ) where
  -- where the parts of the squeezed cache are, and where its strings begin
  abbrev pub places : Places
  places = packed_places (contents s) (buckets s)

  abbrev pub strings : ℕ
  strings = strings_at (contents s) (buckets s)

  abbrev pub icons : ℕ
  icons = length (contents s).icons

  -- the table of where the lists are, at the end of the room for the records
  abbrev pub table : ℕ
  table = records_begin (buckets s) + 8 * icons

  -- `lent` with the records and the names of the first i icons
  abbrev pub recorded : List ℕ → ℕ → List ℕ
  recorded lent i = put (put lent 0 (front (contents s) (buckets s) places i)) strings (strings_up_to s (string_of s i))

-- all but the records and the names stands in the buffer, and the table
pub record Ready (s lent : List ℕ) : Type 0 where
  pub fits : squeezed_size s ≤ length lent
  pub short : squeezed_size s ≤ 16777216
  pub few : buckets s ≤ 4096
  pub begun : lent ≡ put lent 0 (front (contents s) (buckets s) (places s) 0)
  pub paths-put : lent ≡ put lent (strings s) (strings_up_to s (directories s))
  pub listed : (i : ℕ) → i < icons s → Stands lent (table s + 4 * i) (bytes 4 ((places s).images-at i))

-- i icons are put: the next name goes to `end`, and the last record is of bucket j
pub record Recorded (s lent out : List ℕ) (i end j : ℕ) : Type 0 where
  pub within : i ≤ icons s
  pub built : out ≡ recorded s lent i
  pub ends : end ≡ strings s + length (strings_up_to s (string_of s i))
  pub none : i ≡ 0 → j ≡ end_value
  pub last : (m : ℕ) → i ≡ suc m → j ≡ icon_bucket (contents s) (buckets s) m

-- of some buffer
pub record Recording (s out : List ℕ) (i end j : ℕ) : Type 0 where
  pub lent : List ℕ
  pub ready : Ready s lent
  pub recorded : Recorded s lent out i end j
