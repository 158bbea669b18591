-- `bigendian::byte` meets its contract: one byte is a number of width 1, and the slice's rule gives
-- its bound.
use native.Mathlib.Omega.{arith}
use Rattle.format.proofs.Laws.Reads.{be-byte}
use Rattle.bigendian.proofs.byte.Goals as goal

pub returns : goal.returns
returns c =
    let a = c.args in
    omega (arith, be-byte a.s.now a.at, c.type_inv.s a.at)
