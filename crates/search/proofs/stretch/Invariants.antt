use Rattle.std.proofs.Common.{◌≤◌, ◌-◌}
use Rattle.format.specs.Words.{NoneBelow}
use Rattle.chains.specs.Walk.{Stands}
use Rattle.search.proofs.stretch.Given as goal

abbrev pub invariant-loop-record : goal.invariant-loop-record
invariant-loop-record l = record {
  few : l.opened ≤ l.stop;
  stands : Stands l.cache l.bucket l.field l.opened;
  none : NoneBelow l.cache l.name l.bucket l.opened;
}

abbrev pub decreases-loop-record : goal.decreases-loop-record
decreases-loop-record l = l.stop - l.opened
