use Rattle.std.proofs.Common.{◌≤◌, ◌-◌}
use Rattle.chains.specs.Walk.{Stands}
use Rattle.chains.proofs.pass.Given as goal

abbrev pub invariant-loop-record : goal.invariant-loop-record
invariant-loop-record l = record { few : l.opened ≤ l.most; stands : Stands l.cache l.bucket l.field l.opened }

abbrev pub decreases-loop-record : goal.decreases-loop-record
decreases-loop-record l = l.most - l.opened
