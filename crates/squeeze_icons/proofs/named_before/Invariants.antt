use Rattle.std.proofs.Common.{◌-◌}
use Rattle.format.specs.Places.{chain_length}
use Rattle.in_order.specs.Cursor.{Here}
use Rattle.squeeze_icons.specs.Laws.Before.{Passing}
use Rattle.squeeze_icons.proofs.named_before.Given as goal

abbrev pub invariant-loop-other : goal.invariant-loop-other
invariant-loop-other l =
    (here : Here l.cache l.at.number l.at.bucket l.at.«record») × Passing l.cache l.at.number l.at.bucket here.step l.other l.passed

abbrev pub decreases-loop-other : goal.decreases-loop-other
decreases-loop-other l = chain_length l.cache l.at.bucket - l.passed
