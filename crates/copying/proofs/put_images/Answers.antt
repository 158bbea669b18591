-- `copying::put_images` meets its contract: the images are put behind their count.
use Prim.Native.Nat.{◌+◌, ◌*◌}
use mathlib.Core.Path.{◌≡◌, ap}
use native.Mathlib.Omega.{arith}
use lib.ListN.{length, take, drop, length-drop}
use lib.Seq.{length-take-le}
use Rattle.format.specs.Bytes.{bytes}
use Rattle.format.proofs.Laws.Bytes.{bytes-length}
use Rattle.format.proofs.Laws.Put.{put_then}
use Rattle.copying.proofs.put_images.Goals as goal

pub returns : goal.returns
returns c =
    let a = c.args in
    let s = a.from.now in
    let size : length (take (8 * a.m) (drop a.start s)) ≡ 8 * a.m = length-take-le _ _ (omega (arith, length-drop a.start s)) in
    let counted : a.at + length (bytes 4 a.m) ≡ a.at + 4 = ap (λ n. a.at + n) (bytes-length 4 a.m) in
    put_then a.out.now a.at (bytes 4 a.m) (take (8 * a.m) (drop a.start s)) counted (omega arith) c.put_u32.ensures c.copy.ensures
