use Rattle.rounds.specs.Laws.{Marked}
use Rattle.rounds.proofs.find.Given as goal

abbrev pub invariant-loop-done : goal.invariant-loop-done
invariant-loop-done l = Marked l.cache l.field l.done l.start l.at l.mark
