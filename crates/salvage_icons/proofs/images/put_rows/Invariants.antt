use Rattle.salvage_icons.specs.Laws.Images.{RowsTo}
use Rattle.salvage_icons.proofs.images.put_rows.Given as goal

abbrev pub invariant-loop-i : goal.invariant-loop-i
invariant-loop-i l = RowsTo l.cache l.«record» l.initial.report l.report l.at l.i l.next
