-- What request 12 promises of a call of squeeze: one that answers 0 leaves a cache that does what
-- the old one did and stays as it is when squeezed.
use Rattle.std.specs.Prelude.{ℕ, ◌≤◌, ◌<◌, ◌≡◌, List, ◌++◌, map, length, drop}
use Rattle.format.specs.Header.{buckets, directories, path_of}
use Rattle.format.specs.Record.{name_of}
use Rattle.format.specs.Chain.{all_records}
use Rattle.format.specs.Call.{lookup, lookup_words}
use Rattle.format.specs.declared.Reading.TheVariants.{Short}
use Rattle.catalogue.specs.Catalogue.{Good, NoneTwice}
use Rattle.catalogue.specs.Fields.{AreBytes}
use Rattle.catalogue.specs.LaidOut.{Lays}
use Rattle.catalogue.specs.Serves.{Serves}
use Rattle.catalogue.specs.Listed.{listed}
use Rattle.catalogue.specs.Call.{write_is}
use Rattle.catalogue.specs.Promise.{Refuses}
use Rattle.squeeze_spec.specs.Packed.{packed_places}
use Rattle.squeeze_spec.specs.Squeezed.{kept_records, contents, squeezed}
use Rattle.squeeze_spec.specs.Call.{squeeze, squeeze_leaves}

-- two caches give a name the same number and as many images, for any room, and the same words
pub record SameLookup (s t name : List ℕ) : Type 0 where
  pub number : (room : ℕ) → (lookup t name room).number ≡ (lookup s name room).number
  pub images : (room : ℕ) → (lookup t name room).images ≡ (lookup s name room).images
  pub words : (ws : List ℕ) → lookup_words t name ws ≡ lookup_words s name ws

-- of a cache s that may be squeezed, and its squeezed cache t, which lays out what s holds: no two
-- of its records bear one name, so all would stay
pub record Faithful (s t : List ℕ) : Type 0 where
  pub good : Good (contents s)
  pub lays : Lays t (contents s) (buckets s) (packed_places (contents s) (buckets s))
  pub serves : Serves t (contents s) (buckets s) (packed_places (contents s) (buckets s))
  pub lists : listed t ≡ contents s
  pub names-once : NoneTwice (map (name_of t) (all_records Short t))
  pub all_stay : kept_records t ≡ all_records Short t
  pub same-buckets : buckets t ≡ buckets s
  pub same-directories : directories t ≡ directories s
  pub same-paths : (i : ℕ) → i < directories s → path_of t i ≡ path_of s i
  pub same-lookups : (name : List ℕ) → SameLookup s t name

-- squeezing the cache t gives its own bytes
pub record Stays (t : List ℕ) : Type 0 where
  pub answer : (room : ℕ) → length t ≤ room → squeeze t room ≡ write_is 0 0 (length t)
  pub leaves : (lent : List ℕ) → length t ≤ length lent → squeeze_leaves t lent ≡ t ++ drop (length t) lent

-- of a call that answers 0
pub record Squeezes (s lent : List ℕ) : Type 0 where
  pub answer : squeeze s (length lent) ≡ write_is 0 0 (length (squeezed s))
  pub leaves : squeeze_leaves s lent ≡ squeezed s ++ drop (length (squeezed s)) lent
  pub faithful : Faithful s (squeezed s)
  pub again : squeezed (squeezed s) ≡ squeezed s
  pub stays : Stays (squeezed s)

pub record SqueezePromise : Type 0 where
  pub squeezes : (s lent : List ℕ) → AreBytes s → (squeeze s (length lent)).number ≡ 0 → Squeezes s lent
  pub refuses : (s lent : List ℕ) → Refuses (squeeze s (length lent)) lent (squeeze_leaves s lent)
