-- `copying::put_string` meets its contract: a zero byte is put behind the text.
use Prim.Native.Nat.{◌+◌}
use mathlib.Core.Path.{◌≡◌}
use mathlib.Core.List.{[], ◌∷◌}
use native.Mathlib.Omega.{arith}
use lib.ListN.{length, take, drop, length-drop}
use lib.Seq.{length-take-le}
use Rattle.format.specs.Bytes.{bytes}
use Rattle.format.proofs.Laws.Put.{put_then}
use Rattle.copying.proofs.put_string.Goals as goal

pub returns : goal.returns
unfolding bytes
returns c =
    let a = c.args in
    let s = a.from.now in
    let text = take a.n (drop a.start s) in
    let size : length text ≡ a.n = length-take-le _ _ (omega (arith, length-drop a.start s)) in
    put_then a.out.now a.at text (0 ∷ []) {q = a.at + a.n} (omega arith) (omega arith) c.copy.ensures c.put_byte.ensures
