-- `filling::long` meets its contract: the library's bytes of a number are those of the definition.
use Rattle.bigendian.proofs.Part.{four_bytes}
use Rattle.filling.proofs.long.Goals as goal

pub returns : goal.returns
returns c = rw (← four_bytes c.args.n, ← c.to_be_bytes.ensures) c.part.ensures
