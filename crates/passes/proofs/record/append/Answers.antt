-- `passes::record::append` meets its contract: three numbers, one behind the other, and the field.
use Prim.Native.Nat.{◌+◌}
use mathlib.Core.Path.{◌≡◌, ap, ◌∙◌}
use mathlib.Core.List.{◌++◌}
use native.Mathlib.Omega.{arith}
use lib.ListN.{length, length-append}
use Rattle.format.specs.Layout.{end_value}
use Rattle.format.specs.Bytes.{bytes, put}
use Rattle.format.proofs.Laws.Bytes.{bytes-length}
use Rattle.format.proofs.Laws.Put.{put_then}
use Rattle.passes.proofs.record.append.Goals as goal

pub returns : goal.returns
returns c =
    let a = c.args in
    let s = a.out.now in
    let end = bytes 4 end_value in
    let wide : length (end ++ bytes 4 a.name) ≡ 8 = simp (length-append, bytes-length) in
    let two = put_then s a.at end (bytes 4 a.name) {q = a.at + 4} (omega (arith, bytes-length 4 end_value)) (omega (arith, bytes-length 4 a.name, c.requires)) c.put_u32.ensures c.put_u32-2.ensures in
    let three = put_then s a.at (end ++ bytes 4 a.name) (bytes 4 a.images) {q = a.at + 8} (omega arith) (omega (arith, bytes-length 4 a.images, c.requires)) two c.put_u32-3.ensures in
    c.put_u32-4.ensures ∙ ap (λ o. put o a.field (bytes 4 a.at)) three
