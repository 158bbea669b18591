use Rattle.judging.specs.Laws.Repeating.{Passed}
use Rattle.judging.proofs.repeated.Given as goal

abbrev pub invariant-loop-i : goal.invariant-loop-i
invariant-loop-i l = Passed l.catalogue l.m l.at l.index l.here l.i
