-- What the functions of this crate say of a field and of a chain, by the name that is looked for.
use Rattle.std.specs.Prelude.{ℕ, ◌+◌, ◌≤◌, ◌≡◌, List, Bool, true, false}
use Rattle.format.specs.String.{same_bytes}
use Rattle.format.specs.Record.{name_of}
use Rattle.format.specs.Chain.{follow, opens}
use Rattle.format.specs.Words.{NoneBelow}
use Rattle.format.specs.declared.Next.{Next}
use Rattle.format.specs.declared.Next.TheVariants.{Record}
use Rattle.format.specs.declared.Reading.TheVariants.{Short}
use Rattle.chains.specs.Walk.{Stands}
use Rattle.search.specs.declared.Seen.{Seen}
use Rattle.search.specs.declared.Sought.{Sought}

abbrev pub seen : Next → Bool → Seen
seen next bears = record { next = next; bears = bears }

-- what the field f leads to; where that is a record, whether it bears the name
pub record Seeks (s name : List ℕ) (k f : ℕ) (a : Seen) : Type 0 where
  pub next : a.next ≡ follow Short s k f
  pub bears : (r : ℕ) → a.next ≡ Record r → a.bears ≡ same_bytes (name_of s r) name

-- a search past at most `stop` records: where it stands, with none that bears the name behind it,
-- and what comes next; a record there bears the name, or is the last that may be looked at
pub record SeeksTo (s name : List ℕ) (k stop : ℕ) (a : Sought) : Type 0 where
  pub field : ℕ
  pub passed : ℕ
  pub stands : Stands s k field passed
  pub few : passed ≤ stop
  pub none : NoneBelow s name k passed
  pub next : a.next ≡ follow Short s k field
  pub opened : a.opened ≡ passed + opens a.next
  pub met : (r : ℕ) → a.next ≡ Record r → a.bears ≡ true → name_of s r ≡ name
  pub unmet : (r : ℕ) → a.next ≡ Record r → a.bears ≡ false → (name_of s r ≡ name → ⊥) × (passed ≡ stop)
