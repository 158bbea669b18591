use Rattle.std.proofs.Common.{ℕ, ◌+◌, ◌-◌}
use Rattle.long_check.specs.Scan.{Stands}
use Rattle.long_check.proofs.scan.Given as goal

abbrev pub invariant-loop-passed : goal.invariant-loop-passed
invariant-loop-passed l = record {
  n : ℕ;
  stands : Stands l.cache l.bucket l.field n l.passed l.mark;
}

abbrev pub decreases-loop-passed : goal.decreases-loop-passed
decreases-loop-passed l = l.sound - l.passed + (l.t.buckets - l.bucket)
