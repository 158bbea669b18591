-- `passes::putting::directories` meets its contract: the entries are put behind their count.
use Rattle.std.proofs.Common.{ℕ, ◌+◌, List, length, ap, arith}
use Rattle.format.specs.Bytes.{bytes, joined}
use Rattle.format.proofs.Laws.Bytes.{bytes-length, joined_length}
use Rattle.format.proofs.Laws.Put.{put_then}
use Rattle.catalogue.specs.Fields.{catalogue_in}
use Rattle.catalogue.specs.Written.{paths_up_to}
use Rattle.passes.specs.Laws.Counts.{few-paths}
use Rattle.passes.proofs.putting.directories.Goals as goal

pub overflow_cast-n : goal.overflow_cast-n
overflow_cast-n c = omega (arith, few-paths c.requires.by_index.2)

pub returns : goal.returns
returns c =
    let a = c.args in
    let f : ℕ → List ℕ = λ i. bytes 4 (a.strings + length (paths_up_to (catalogue_in a.catalogue.now) i)) in
    let wide = joined_length f 4 (λ i. bytes-length 4 _) a.n in
    put_then a.out.now a.at (bytes 4 a.n) (joined f a.n) (ap (λ m. a.at + m) (bytes-length 4 a.n)) (omega (arith, wide, c.requires.n_in_bounds))
    c.put_u32.ensures c.entries.ensures
