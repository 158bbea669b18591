use Rattle.std.proofs.Common.{◌-◌}
use Rattle.checking.specs.Buckets.{Checking}
use Rattle.checking.proofs.check_buckets.Given as goal

abbrev pub invariant-loop-bucket : goal.invariant-loop-bucket
invariant-loop-bucket l = Checking l.cache (l.n - l.bucket) l.bucket l.opened l.longest
