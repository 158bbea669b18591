-- `filling::short` meets its contract: the library's bytes of a number are those of the definition.
use Rattle.bigendian.proofs.Part.{two_bytes}
use Rattle.filling.proofs.short.Goals as goal

pub returns : goal.returns
returns c = rw (← two_bytes c.args.n, ← c.to_be_bytes.ensures) c.part.ensures
