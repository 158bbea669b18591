use Rattle.std.proofs.Common.{◌≡◌, ◌-◌, length}
use Rattle.chains.specs.Walk.{Stands}
use Rattle.gathering.specs.Order.{Gathered}
use Rattle.gathering.specs.Laws.Order.{reached}
use Rattle.gathering.proofs.order.take_chain.Given as goal

abbrev pub invariant-loop-bucket : goal.invariant-loop-bucket
invariant-loop-bucket l = record {
  lent : length l.index ≡ length l.initial.index;
  stands : Stands l.cache l.bucket l.field l.step;
  gathered : Gathered l.index l.count (reached l.cache l.bucket l.step);
}

abbrev pub decreases-loop-bucket : goal.decreases-loop-bucket
decreases-loop-bucket l = length l.cache - l.step
