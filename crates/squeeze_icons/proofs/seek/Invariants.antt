use Rattle.std.proofs.Common.{◌-◌, length}
use Rattle.format.specs.Chain.{all_records}
use Rattle.format.specs.declared.Reading.TheVariants.{Short}
use Rattle.squeeze_icons.specs.Staying.{Seeking}
use Rattle.squeeze_icons.proofs.seek.Given as goal

abbrev pub invariant-loop-at : goal.invariant-loop-at
invariant-loop-at l = Seeking l.cache l.icon l.at

abbrev pub decreases-loop-at : goal.decreases-loop-at
decreases-loop-at l = length (all_records Short l.cache) - l.at.number
