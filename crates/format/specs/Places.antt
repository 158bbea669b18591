-- Where a record stands: twice on a chain, and in the check's order.
use Rattle.std.specs.Prelude.{ℕ, ◌+◌, ◌<◌, ◌≡◌, List, length}
use Rattle.format.specs.Header.{buckets}
use Rattle.format.specs.Chain.{chain_of, most_records, nth_record}
use Rattle.format.specs.Words.{link, Keeps, sum}
use Rattle.format.specs.declared.Reading.TheVariants.{Short}

-- two steps below n name one record
pub record Repeat (s : List ℕ) (k n : ℕ) : Type 0 where
  pub first : ℕ
  pub second : ℕ
  pub order : first < second
  pub below : second < n
  pub same : link s k second ≡ link s k first

-- the length of bucket k's chain, where it holds
abbrev pub chain_length : List ℕ → ℕ → ℕ
chain_length s k = length (chain_of Short s k (most_records s)).records

-- the n-th record in the check's order stands on bucket k's chain, at step m
pub record StandsAt (s : List ℕ) (n k m : ℕ) : Type 0 where
  pub bucket : k < buckets s
  pub step : m < chain_length s k
  pub place : n ≡ sum (chain_length s) k + m
  pub named : nth_record s n ≡ link s k m
  pub keeps : Keeps Short s k (nth_record s n)
