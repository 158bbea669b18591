-- `export::putting::counted` meets its contract: the bytes are put behind their count.
use Prim.Native.Nat.{◌+◌}
use mathlib.Core.Path.{ap}
use native.Mathlib.Omega.{arith}
use Rattle.format.specs.Bytes.{bytes}
use Rattle.format.proofs.Laws.Bytes.{bytes-length}
use Rattle.format.proofs.Laws.Put.{put_then}
use Rattle.catalogue.specs.Fields.{part}
use Rattle.catalogue.proofs.Laws.Spans.{part_length}
use Rattle.export.proofs.putting.counted.Goals as goal

pub returns : goal.returns
returns c =
    let a = c.args in
    let s = a.cache.now in
    put_then a.out.now a.place (bytes 2 a.count) (part s a.start a.n) (ap (λ m. a.place + m) (bytes-length 2 a.count))
    (omega (arith, part_length s a.start a.n c.requires.0, c.requires.1)) c.put_u16.ensures c.copy.ensures
