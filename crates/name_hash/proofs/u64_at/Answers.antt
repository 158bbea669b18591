-- `name_hash::u64_at` meets its contract: two reads of four bytes joined, by the law `be-join` at
-- the widths 4 and 4.
use native.Mathlib.Omega.{arith}
use Rattle.format.proofs.Laws.Reads.{be-join}
use Rattle.name_hash.proofs.u64_at.Goals as goal

pub returns : goal.returns
returns c = let a = c.args in omega (arith, be-join 4 4 a.s.now a.at)
