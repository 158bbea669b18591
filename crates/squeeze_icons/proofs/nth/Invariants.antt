use Rattle.std.proofs.Common.{◌≡◌}
use Rattle.squeeze_icons.specs.Staying.{Staying}
use Rattle.squeeze_icons.proofs.nth.Given as goal

abbrev pub invariant-loop-passed : goal.invariant-loop-passed
invariant-loop-passed l = record { stays : Staying l.cache l.icon; number : l.icon.icon ≡ l._passed }
