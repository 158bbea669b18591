-- The check of the buckets, from turn to turn.
use Rattle.std.specs.Prelude.{ℕ, ◌≤◌, ◌≡◌, List}
use Rattle.format.specs.Header.{buckets}
use Rattle.format.specs.Chain.{Chain, most_records, longest_below, opened_on}
use Rattle.format.specs.Call.{check_buckets, unnamed}
use Rattle.format.specs.declared.Found.{Found}
use Rattle.format.specs.declared.Reading.TheVariants.{Short}

-- what a search says of a chain on which no record bears the name; f is the bucket's field
abbrev pub unnamed_on : ℕ → Chain → Found
unnamed_on f c = unnamed f c.after (opened_on c)

-- n buckets are left from bucket k on, o records are opened, and the longest chain so far has
-- `longest`; the rest of the check is the whole
pub record Checking (s : List ℕ) (n k o longest : ℕ) : Type 0 where
  pub few : o ≤ most_records s
  pub longest-is : longest ≡ longest_below Short s k
  pub rest : check_buckets Short n s k o ≡ check_buckets Short (buckets s) s 0 0
