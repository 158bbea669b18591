use Rattle.std.proofs.Common.{◌≡◌, ◌-◌, length}
use Rattle.squeeze_sizes.specs.Counting.{Counting}
use Rattle.squeeze_sizes.proofs.measure.Given as goal

abbrev pub invariant-loop-from : goal.invariant-loop-from
invariant-loop-from l = record {
  index_lent : length l.index ≡ length l.initial.index;
  again_lent : length l.again ≡ length l.initial.again;
  counting : Counting l.cache l.from l.bytes;
}

abbrev pub decreases-loop-from : goal.decreases-loop-from
decreases-loop-from l = l.icons - l.from
