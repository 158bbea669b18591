use Rattle.std.proofs.Common.{◌-◌, length}
use Rattle.chains.specs.Walk.{Stands}
use Rattle.gathering.proofs.repeated.count.Given as goal

abbrev pub invariant-loop-bucket : goal.invariant-loop-bucket
invariant-loop-bucket l = Stands l.cache l.bucket l.field l.n

abbrev pub decreases-loop-bucket : goal.decreases-loop-bucket
decreases-loop-bucket l = length l.cache - l.n
