use Rattle.paths.proofs.Reading.{Reading}
use Rattle.paths.proofs.read_path.Given as goal

abbrev pub invariant-loop-i : goal.invariant-loop-i
invariant-loop-i l = Reading l.part l.valid l.start l.i
