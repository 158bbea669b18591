-- `bigendian::u16_at` meets its contract: the library's number of two bytes is the definition's.
use Rattle.std.proofs.Common.{arith, add-zero}
use Rattle.format.specs.Number.{be}
use Rattle.bigendian.proofs.u16_at.Goals as goal

pub returns : goal.returns
unfolding be
returns c = simp add-zero (omega (arith, c.from_be_bytes.ensures))
