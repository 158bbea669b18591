-- `passes::head::header` meets its contract: four numbers, one behind the other.
use mathlib.Core.Path.{◌≡◌}
use mathlib.Core.List.{◌++◌}
use native.Mathlib.Omega.{arith}
use lib.ListN.{length, length-append}
use Rattle.format.specs.Bytes.{bytes}
use Rattle.format.proofs.Laws.Bytes.{bytes-length}
use Rattle.format.proofs.Laws.Put.{put_then}
use Rattle.passes.proofs.head.header.Goals as goal

pub returns : goal.returns
returns c =
    let a = c.args in
    let s = a.out.now in
    let version = bytes 2 1 ++ bytes 2 0 in
    let wide : length version ≡ 4 = simp (length-append, bytes-length) in
    let wider : length (version ++ bytes 4 12) ≡ 8 = simp (length-append, bytes-length) in
    let two = put_then s 0 (bytes 2 1) (bytes 2 0) {q = 2} (omega (arith, bytes-length 2 1)) (omega (arith, bytes-length 2 0, c.requires)) c.put_u16.ensures c.put_u16-2.ensures in
    let three = put_then s 0 version (bytes 4 12) {q = 4} (omega arith) (omega (arith, bytes-length 4 12, c.requires)) two c.put_u32.ensures in
    put_then s 0 (version ++ bytes 4 12) (bytes 4 a.directories) {q = 8} (omega arith) (omega (arith, bytes-length 4 a.directories, c.requires)) three c.put_u32-2.ensures
