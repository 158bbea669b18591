use Rattle.std.proofs.Common.{◌≡◌, suc, ◌+◌, ◌-◌, ◌<◌, ◌≤◌}
use Rattle.format.specs.Places.{Repeat}
use Rattle.chains.specs.Walk.{Stands}
use Rattle.chains.proofs.go_on.Given as goal

abbrev pub invariant-loop-stop : goal.invariant-loop-stop
invariant-loop-stop l = record {
  stands : Stands l.cache l.bucket l.field l.opened;
  last : l.opened ≡ l.stop + 1;
  few : l.stop ≤ l.most;
  back : l.stop < l.far → Repeat l.cache l.bucket (suc l.stop);
}

abbrev pub decreases-loop-stop : goal.decreases-loop-stop
decreases-loop-stop l = l.most - l.stop
