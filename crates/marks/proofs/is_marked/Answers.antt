-- `marks::is_marked` meets its contract: the bit is read as it is defined.
use mathlib.Core.Path.{refl, sym}
use native.Mathlib.Omega.{arith}
use Rattle.marks.specs.Marks.{marked}
use Rattle.marks.specs.Laws.{no-mark}
use Rattle.marks.proofs.is_marked.Goals as goal

pub returns-then-word-marks : goal.returns-then-word-marks
unfolding marked
returns-then-word-marks c = refl

pub returns : goal.returns
returns c = sym (no-mark _ _ (omega arith))
