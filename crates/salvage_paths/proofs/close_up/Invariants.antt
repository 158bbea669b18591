use Rattle.salvage_paths.specs.Closed.{ClosedTo, PathsPut}
use Rattle.salvage_paths.proofs.close_up.Given as goal

abbrev pub invariant-loop-i : goal.invariant-loop-i
invariant-loop-i l = record {
  closed : ClosedTo l.cache l.closed l.i l.kept;
  put : PathsPut l.cache l.initial.out l.out l.at l.initial.report l.report l.i l.bytes l.words;
}
