use Rattle.std.proofs.Common.{◌-◌, ◌≤◌}
use Rattle.keys.specs.Key.{key_at}
use Rattle.names.specs.Index.{Rising, Between}
use Rattle.names.proofs.find.Given as goal

abbrev pub invariant-loop-low : goal.invariant-loop-low
invariant-loop-low l = record {
  apart : l.low ≤ l.high;
  within : l.high ≤ l.n;
  between : Rising (key_at l.kind l.s) l.index l.n → Between (key_at l.kind l.s) l.index l.n (key_at l.kind l.s l.at) l.low l.high;
}

abbrev pub decreases-loop-low : goal.decreases-loop-low
decreases-loop-low l = l.high - l.low
