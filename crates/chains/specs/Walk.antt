-- What the functions of this crate say of a field and of a chain, in the words of `format`.
use Rattle.std.specs.Prelude.{ℕ, suc, ◌+◌, ◌≤◌, ◌<◌, ◌≡◌, List, length}
use Rattle.format.specs.Chain.{Chain, chain_of, opened_on}
use Rattle.format.specs.Words.{link_field, KeepsBelow}
use Rattle.format.specs.Places.{Repeat}
use Rattle.format.specs.declared.Next.TheVariants.{Record}
use Rattle.format.specs.declared.Reading.TheVariants.{Short}
use Rattle.chains.specs.declared.Walked.{Walked}

-- how many records of a chain are opened, and what comes after those that keep the rules
abbrev pub walked : Chain → Walked
walked c = record { opened = opened_on c; after = c.after }

-- o records opened, the last of them at r
abbrev pub stepped_to : ℕ → ℕ → Walked
stepped_to o r = record { opened = o; after = Record r }

-- a walk of bucket k's chain stands at the field f after o records, which keep the rules
pub record Stands (s : List ℕ) (k f o : ℕ) : Type 0 where
  pub field : f ≡ link_field s k o
  pub inside : f + 4 ≤ length s
  pub keeps : KeepsBelow Short s k o

-- r is from o on, and no further than `most`. How far is not said: no answer hangs on it, only the
-- time
pub record Further (o most r : ℕ) : Type 0 where
  pub onward : o ≤ r
  pub few : r ≤ most

-- a walk that has judged bucket k's chain up to `stop`: if a record is to come that may be opened,
-- the chain has come back by then
pub record Judged (s : List ℕ) (k most : ℕ) (a : Walked) : Type 0 where
  pub stop : ℕ
  pub few : stop ≤ most
  pub walk : a ≡ walked (chain_of Short s k stop)
  pub back : (r : ℕ) → a.after ≡ Record r → stop < most → Repeat s k (suc stop)
