-- Where a walk over all records of an accepted cache stands, in the check's order.
use Rattle.std.specs.Prelude.{ℕ, ◌+◌, ◌≤◌, ◌<◌, ◌≡◌, List, length}
use Rattle.format.specs.Layout.{end_value}
use Rattle.format.specs.Header.{buckets}
use Rattle.format.specs.Chain.{all_records, nth_record}
use Rattle.format.specs.Words.{link, sum}
use Rattle.format.specs.declared.Reading.TheVariants.{Short}
use Rattle.format.specs.Places.{chain_length, StandsAt}
use Rattle.in_order.specs.declared.Cursor.{Cursor}

-- r is an offset, not the end value
abbrev pub Real : ℕ → Type 0
Real r = r ≡ end_value → ⊥

-- n records are passed, and r stands in the next field of bucket k's chain
pub record Before (s : List ℕ) (n k r : ℕ) : Type 0 where
  pub bucket : k < buckets s
  pub step : ℕ
  pub within : step ≤ chain_length s k
  pub passed : n ≡ sum (chain_length s) k + step
  pub field : r ≡ link s k step

-- a record is at hand
pub record Here (s : List ℕ) (n k r : ℕ) : Type 0 where
  pub step : ℕ
  pub stands : StandsAt s n k step
  pub is : r ≡ nth_record s n

-- it is at hand, or all are passed
pub record At (s : List ℕ) (c : Cursor) : Type 0 where
  pub here : Real c.«record» → Here s c.number c.bucket c.«record»
  pub all : c.«record» ≡ end_value → c.number ≡ length (all_records Short s)
