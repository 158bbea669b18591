-- `filling::byte` meets its contract: a byte is a number of width 1.
use Rattle.std.proofs.Common.{arith, mod-eq_of_lt}
use Rattle.format.specs.Bytes.{bytes}
use Rattle.filling.proofs.byte.Goals as goal

pub returns : goal.returns
unfolding bytes
returns c = rw (mod-eq_of_lt {n = c.args.n} {m = 256} (omega arith)) c.part.ensures
