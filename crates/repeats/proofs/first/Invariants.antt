use mathlib.Core.Path.{◌≡◌}
use lib.ListN.{length}
use Rattle.repeats.proofs.Laws.{Passed}
use Rattle.repeats.proofs.first.Given as goal

abbrev pub invariant-loop-left : goal.invariant-loop-left
invariant-loop-left l = record { lent : length l.index ≡ length l.initial.index; passed : Passed l.cache l.field l.n l.at l.done l.left }

abbrev pub decreases-loop-left : goal.decreases-loop-left
decreases-loop-left l = l.left
