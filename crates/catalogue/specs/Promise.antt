-- What request 8 promises: bytes that are judged good are those of what they say, and back; a cache
-- that lays out a catalogue serves it; a written cache does, and is listed as the bytes that it was
-- written from; and what is listed from any cache is a good catalogue, to which the
-- writer answers 0 or 19.
use Rattle.std.specs.Prelude.{ℕ, ◌≤◌, ◌<◌, ◌≡◌, ◌⊎◌, List, ◌++◌, true, length, drop, get_or}
use Rattle.format.specs.Fault.{no_fault}
use Rattle.listing.specs.Paging.{EachOnce}
use Rattle.catalogue.specs.Catalogue.{Catalogue, Good, most_icons, catalogue_bytes}
use Rattle.catalogue.specs.Fields.{AreBytes, catalogue_in}
use Rattle.catalogue.specs.Repeats.{catalogue_fault}
use Rattle.catalogue.specs.LaidOut.{Places, Lays}
use Rattle.catalogue.specs.Serves.{Serves}
use Rattle.catalogue.specs.Written.{places}
use Rattle.catalogue.specs.Listed.{offset_order, listed}
use Rattle.catalogue.specs.Call.{WriteAnswer, write_is, allowed_buckets, written_bytes, write, write_leaves, listed_bytes, catalogue_of, catalogue_leaves}

-- of bytes that are judged good: the catalogue that they say is good, and they are its bytes
pub record Says (c : List ℕ) : Type 0 where
  pub good : Good (catalogue_in c)
  pub icons-few : length (catalogue_in c).icons ≤ most_icons
  pub bytes : catalogue_bytes (catalogue_in c) ≡ c

-- of the bytes of a catalogue: they are judged good, and say it
pub record SaysBack (d : Catalogue) : Type 0 where
  pub judged : catalogue_fault (catalogue_bytes d) ≡ no_fault
  pub said : catalogue_in (catalogue_bytes d) ≡ d

pub record BytesPromise : Type 0 where
  pub says : (c : List ℕ) → AreBytes c → (catalogue_fault c).number ≡ 0 → Says c
  pub back : (d : Catalogue) → Good d → length d.icons ≤ most_icons → SaysBack d

-- of any layout
abbrev pub LayoutPromise : Type 0
LayoutPromise = (s : List ℕ) (d : Catalogue) (b : ℕ) (q : Places) → Good d → 0 < b → Lays s d b q → Serves s d b q

-- of a call that is refused: it writes nothing
abbrev pub Refuses : WriteAnswer → List ℕ → List ℕ → Type 0
Refuses a lent after = (a.number ≡ 0 → ⊥) → (a.length ≡ 0) × (after ≡ lent)

-- of a call of the writer that answers 0: the cache serves its catalogue, and is listed as c
pub record Writes (c : List ℕ) (b : ℕ) (lent : List ℕ) : Type 0 where
  pub answer : write c b (length lent) ≡ write_is 0 0 (length (written_bytes c b))
  pub leaves : write_leaves c b lent ≡ written_bytes c b ++ drop (length (written_bytes c b)) lent
  pub serves : Serves (written_bytes c b) (catalogue_in c) b (places (catalogue_in c) b)
  pub back : (room : ℕ) → length c ≤ room → catalogue_of (written_bytes c b) room ≡ write_is 0 0 (length c)
  pub back-leaves : (other : List ℕ) → length c ≤ length other → catalogue_leaves (written_bytes c b) other ≡ c ++ drop (length c) other

pub record WriterPromise : Type 0 where
  pub writes : (c : List ℕ) (b : ℕ) (lent : List ℕ) → AreBytes c → (write c b (length lent)).number ≡ 0 → Writes c b lent
  pub refuses : (c : List ℕ) (b : ℕ) (lent : List ℕ) → Refuses (write c b (length lent)) lent (write_leaves c b lent)

-- the writer answers 0 or 19 to c, for an allowed bucket count
abbrev pub Taken : List ℕ → Type 0
Taken c = (b room : ℕ) → allowed_buckets b ≡ true → ((write c b room).number ≡ 0) ⊎ ((write c b room).number ≡ 19)

-- of a call of the reader that answers 0: each record of each chain is listed once, by rising
-- offset, as a good catalogue, to which the writer answers 0 or 19
pub record ListsCatalogue (s lent : List ℕ) : Type 0 where
  pub answer : catalogue_of s (length lent) ≡ write_is 0 0 (length (listed_bytes s))
  pub leaves : catalogue_leaves s lent ≡ listed_bytes s ++ drop (length (listed_bytes s)) lent
  pub each-once : EachOnce s (offset_order s)
  pub rises : (i j : ℕ) → i < j → j < length (offset_order s) → get_or (offset_order s) i 0 < get_or (offset_order s) j 0
  pub good : Good (listed s)
  pub says_back : SaysBack (listed s)
  pub taken : Taken (listed_bytes s)

pub record ReaderPromise : Type 0 where
  pub lists : (s lent : List ℕ) → AreBytes s → (catalogue_of s (length lent)).number ≡ 0 → ListsCatalogue s lent
  pub refuses : (s lent : List ℕ) → Refuses (catalogue_of s (length lent)) lent (catalogue_leaves s lent)
