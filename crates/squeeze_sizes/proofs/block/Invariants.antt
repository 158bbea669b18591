use Rattle.std.proofs.Common.{◌≡◌, ◌-◌, length}
use Rattle.squeeze_spec.specs.Squeezed.{contents}
use Rattle.squeeze_icons.specs.Staying.{Staying}
use Rattle.squeeze_sizes.specs.Counting.{Counts}
use Rattle.squeeze_sizes.proofs.block.Given as goal

abbrev pub invariant-loop-icon : goal.invariant-loop-icon
invariant-loop-icon l = record {
  index_lent : length l.index ≡ length l.initial.index;
  again_lent : length l.again ≡ length l.initial.again;
  stays : Staying l.cache l.icon;
  counts : Counts l.cache l.index l.again l.from l.icon.icon l.bytes l.counted;
}

abbrev pub decreases-loop-icon : goal.decreases-loop-icon
decreases-loop-icon l = length (contents l.cache).icons - l.icon.icon
