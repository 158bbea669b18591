-- `bigendian::put_u16` meets its contract: the number's bytes are copied to their place.
use Rattle.std.proofs.Common.{◌∙◌, arith}
use Rattle.format.specs.Bytes.{bytes}
use Rattle.format.proofs.Laws.Bytes.{bytes-length}
use Rattle.bigendian.proofs.Part.{part-put, two_bytes}
use Rattle.bigendian.proofs.put_u16.Goals as goal

pub returns : goal.returns
returns c =
    let a = c.args in
    part-put a.out.now (bytes 2 a.n) a.at _ (c.copy_from_slice.ensures.after ∙ c.to_be_bytes.ensures ∙ two_bytes a.n) (omega (arith, bytes-length 2 a.n))
