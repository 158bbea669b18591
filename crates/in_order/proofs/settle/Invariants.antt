use Rattle.std.proofs.Common.{◌-◌}
use Rattle.format.specs.Layout.{end_value}
use Rattle.in_order.specs.Cursor.{Before}
use Rattle.in_order.proofs.settle.Given as goal

-- the chains before that of bucket k are passed
abbrev pub invariant-loop-k : goal.invariant-loop-k
invariant-loop-k l = Before l.cache l.number (l.k - 1) end_value
