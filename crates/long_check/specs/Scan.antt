-- What a second walk over the sound records of a cache says of the long check.
use Rattle.std.specs.Prelude.{ℕ, ◌+◌, ◌≤◌, ◌<◌, ◌≡◌, List, length}
use Rattle.format.specs.Layout.{end_value}
use Rattle.format.specs.Header.{buckets}
use Rattle.format.specs.Chain.{itself}
use Rattle.format.specs.Words.{Breaks, Lengths, Region, link, link_field, sum}
use Rattle.format.specs.declared.Reading.TheVariants.{Short, Long}

-- the first `sound` records in the check's order keep the short rules
pub record SoundTo (s : List ℕ) (sound : ℕ) : Type 0 where
  pub len : ℕ → ℕ
  pub bucket : ℕ
  pub count : ℕ
  pub region : Region Short s len bucket count
  pub last : bucket ≤ buckets s
  pub some : 0 < count → bucket < buckets s
  pub all : sound ≡ sum len bucket + count
  pub few : sound ≤ length s

-- the walk stands at the field f of bucket k's chain after n of its records, and `passed` in all;
-- `mark` is one of the n, or the end value
pub record Stands (s : List ℕ) (k f n passed mark : ℕ) : Type 0 where
  pub len : ℕ → ℕ
  pub region : Region Long s len k n
  pub field : f ≡ link_field s k n
  pub all : passed ≡ sum len k + n
  pub marked : (mark ≡ end_value → ⊥) → (i : ℕ) × (i < n) × (link s k i ≡ mark)

-- where a rule is broken first by the long reading
pub record BreaksLong (s : List ℕ) (x p passed : ℕ) : Type 0 where
  pub len : ℕ → ℕ
  pub bucket : ℕ
  pub count : ℕ
  pub below : Lengths Long s bucket len
  pub breaks : Breaks Long s bucket count x p
  pub real : bucket < buckets s
  pub opened : passed ≡ sum len bucket + count + itself x

-- the first `sound` records keep the long rules
abbrev pub KeepLong : List ℕ → ℕ → Type 0
KeepLong s sound = (len : ℕ → ℕ) (k n : ℕ) → Region Short s len k n → sum len k + n ≤ sound → Region Long s len k n
