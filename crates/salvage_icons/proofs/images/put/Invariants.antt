use Rattle.std.proofs.Common.{◌+◌}
use Rattle.salvage_icons.specs.Laws.Images.{PutTo}
use Rattle.salvage_icons.proofs.images.put.Given as goal

abbrev pub invariant-loop-i : goal.invariant-loop-i
invariant-loop-i l = PutTo l.cache l.«record» l.initial.out l.out (l.at + 2) l.i l.stay l.next
