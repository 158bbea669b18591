-- What one chain gives to a step.
use Rattle.std.specs.Prelude.{ℕ, ◌+◌, Option, Some, None, Result, Ok, Err}
use Rattle.format.specs.Fault.{fault}
use Rattle.format.specs.declared.Fault.{Fault}
use Rattle.format.specs.declared.Next.{Next}
use Rattle.format.specs.declared.Next.TheVariants.{End, Broken, Record}
use Rattle.listing.specs.Listing.{position, step_to}
use Rattle.listing.specs.declared.Step.{Step}

-- by what comes after the c records passed on bucket k's chain; nothing where it ends
abbrev pub reached : ℕ → ℕ → Next → Result (Option Step) Fault
reached k c End = Ok None
reached k c (Broken x p) = Err (fault x p)
reached k c (Record r) = Ok (Some (step_to r (position k (c + 1))))
