use Rattle.std.proofs.Common.{◌+◌, ◌-◌, ◌*◌, ◌≤◌, length}
use Rattle.salvage_reach.specs.Ways.{Ahead}
use Rattle.salvage_reach.proofs.find_way.Given as goal

abbrev pub invariant-loop-record : goal.invariant-loop-record
invariant-loop-record l = record {
  here : l.field + 4 ≤ length l.cache;
  ahead : Ahead l.cache l.bucket l.field l.step l.mark;
}

abbrev pub decreases-loop-record : goal.decreases-loop-record
decreases-loop-record l = 5 * length l.cache - l.step
