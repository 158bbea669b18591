-- `passes::head::tables` meets its contract: the hash, a count and its fields, is put
-- behind the header.
use Prim.Native.Nat.{ℕ, ◌*◌}
use mathlib.Core.Path.{◌≡◌, ap, ◌∙◌}
use mathlib.Core.List.{List, ◌++◌, append_assoc}
use native.Mathlib.Omega.{arith}
use lib.ListN.{length, length-append}
use Rattle.format.specs.Layout.{end_value}
use Rattle.format.specs.Bytes.{bytes, joined, put}
use Rattle.format.proofs.Laws.Bytes.{bytes-length, joined_length}
use Rattle.format.proofs.Laws.Put.{put_then}
use Rattle.passes.proofs.head.tables.Goals as goal

pub returns : goal.returns
returns c =
    let a = c.args in
    let s = a.out.now in
    let head = bytes 2 1 ++ bytes 2 0 ++ bytes 4 12 ++ bytes 4 a.directories in
    let count = bytes 4 a.buckets in
    let fields : List ℕ = joined (λ i. bytes 4 end_value) a.buckets in
    let wide : length head ≡ 12 = simp (length-append, bytes-length) in
    let wider : length (head ++ count) ≡ 16 = simp (length-append, bytes-length) in
    let all : length fields ≡ 4 * a.buckets = joined_length (λ i. bytes 4 end_value) 4 (λ i. bytes-length 4 end_value) a.buckets in
    let two = put_then s 0 head count {q = 12} (omega arith) (omega (arith, bytes-length 4 a.buckets, c.requires)) c.header.ensures c.put_u32.ensures in
    put_then s 0 (head ++ count) fields {q = 16} (omega arith) (omega (arith, c.requires)) two c.clear.ensures
    ∙ ap (put s 0) (append_assoc head count fields)
