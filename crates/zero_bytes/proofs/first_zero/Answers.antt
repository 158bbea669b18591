-- `zero_bytes::first_zero` meets its contract: eight zero bits stand above the highest mark for
-- each byte of the string.
use mathlib.Core.Path.{ap}
use native.Mathlib.Omega.{arith}
use lib.Count.{count_leading_zeros}
use Rattle.zero_bytes.proofs.Laws.{zeros-above}
use Rattle.zero_bytes.proofs.first_zero.Goals as goal

pub returns : goal.returns
returns c =
    let w = c.args.w in
    omega (arith, zeros-above 8 w, ap (count_leading_zeros 64) c.zero_marks.ensures)
