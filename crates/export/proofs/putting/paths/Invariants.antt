use Rattle.std.proofs.Common.{◌+◌}
use Rattle.catalogue.proofs.Laws.Pass.{Pass}
use Rattle.export.specs.Parts.{path_piece}
use Rattle.export.proofs.putting.paths.Given as goal

abbrev pub invariant-loop-i : goal.invariant-loop-i
invariant-loop-i l = Pass (λ j. j + 1) 0 (path_piece l.cache) l.initial.out l.at l.out l.i l.place l.i
