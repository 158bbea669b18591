use Rattle.std.proofs.Common.{◌+◌}
use Rattle.catalogue.proofs.Laws.Pass.{Pass}
use Rattle.export.specs.Parts.{icon_piece}
use Rattle.export.proofs.putting.icons.Given as goal

abbrev pub invariant-loop-offset : goal.invariant-loop-offset
invariant-loop-offset l = Pass (λ j. j + 1) 0 (icon_piece l.cache l.index) l.initial.out l.at l.out l.offset-index l.place l.offset-index
