-- The names along the chains of an accepted cache, and where 20 stands on one of them.
use Rattle.std.specs.Prelude.{ℕ, List, [], map}
use Rattle.format.specs.Layout.{name_field}
use Rattle.format.specs.Record.{name_of}
use Rattle.format.specs.Chain.{chain_of, most_records}
use Rattle.format.specs.declared.Fault.{Fault}
use Rattle.format.specs.declared.Reading.TheVariants.{Short}
use Rattle.catalogue.specs.Repeats.{Use, use_is, repeat_fault}

-- the names of records, each refused at its NAME_OFFSET
abbrev pub uses_of : List ℕ → List ℕ → List Use
uses_of s rs = map (λ r. use_is (name_of s r) (name_field r)) rs

-- 20 at the first name on bucket k's chain that a record before it on the chain has
abbrev pub chain_repeat : List ℕ → ℕ → Fault
chain_repeat s k = repeat_fault [] (uses_of s (chain_of Short s k (most_records s)).records)
