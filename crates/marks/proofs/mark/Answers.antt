-- `marks::mark` meets its contract: the bit is set, and no other changes.
use Prim.Native.Nat.{◌/◌, ◌%◌}
use mathlib.Core.Path.{ap}
use native.Mathlib.Omega.{arith}
use lib.Bits.{bit_or}
use lib.ListN.{get_or}
use Rattle.marks.specs.Laws.{one_shifted, marks-set}
use Rattle.marks.proofs.mark.Goals as goal

pub returns-then-word-marks : goal.returns-then-word-marks
returns-then-word-marks c = let a = c.args in marks-set _ _ (ap (bit_or (get_or a.marks.now (a.i / 32) 0)) (one_shifted (a.i % 32) (omega arith))) (omega arith)
