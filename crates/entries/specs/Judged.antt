-- What is judged of things in a row, and where they end.
use Rattle.std.specs.Prelude.{ℕ, Result}
use Rattle.format.specs.Fault.{first_fault, outcome}
use Rattle.format.specs.declared.Fault.{Fault}
use Rattle.catalogue.specs.Row.{row_end}

-- where n things end of which the first stands at p, or the rule that is broken first
abbrev pub row_judged : (ℕ → Fault) → (ℕ → ℕ) → ℕ → ℕ → Result ℕ Fault
row_judged judge next n p = outcome (first_fault judge next n p) (row_end next n p)
