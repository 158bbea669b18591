-- `export::putting::name` meets its contract: the name is put behind its length.
use Prim.Native.Nat.{◌+◌}
use mathlib.Core.Path.{ap}
use native.Mathlib.Omega.{arith}
use Rattle.format.specs.Bytes.{bytes}
use Rattle.format.proofs.Laws.Bytes.{bytes-length}
use Rattle.format.proofs.Laws.Put.{put_then}
use Rattle.catalogue.specs.Fields.{part}
use Rattle.catalogue.proofs.Laws.Spans.{part_length}
use Rattle.export.proofs.putting.name.Goals as goal

pub returns : goal.returns
returns c =
    let a = c.args in
    let s = a.cache.now in
    put_then a.out.now a.place (bytes 1 a.size) (part s a.start a.size) (ap (λ m. a.place + m) (bytes-length 1 a.size))
    (omega (arith, part_length s a.start a.size c.requires.0, c.requires.1)) c.put_byte.ensures c.copy.ensures
