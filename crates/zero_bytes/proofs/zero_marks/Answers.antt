-- `zero_bytes::zero_marks` meets its contract: with the marks the number that is inverted makes
-- 255 in each byte.
use native.Mathlib.Omega.{arith}
use Rattle.zero_bytes.specs.Marks.{rep}
use Rattle.zero_bytes.proofs.Laws.{marks-complete}
use Rattle.zero_bytes.proofs.zero_marks.Goals as goal

pub returns : goal.returns
unfolding rep
returns c = omega (arith, marks-complete 8 c.args.w (omega arith))
