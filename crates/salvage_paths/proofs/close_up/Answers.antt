-- `salvage_paths::close_up` meets its contract. The loop's invariant: the directories below `i` are
-- closed up, and what is put for them stands.
use Prim.Native.Nat.{◌<◌}
use mathlib.Core.Path.{ap}
use native.Mathlib.Omega.{arith}
use lib.ListN.{length}
use Rattle.format.specs.Header.{path_fault}
use Rattle.format.specs.declared.Fault.{Fault}
use Rattle.format.proofs.Laws.Outcomes.{kept-by, broken-by}
use Rattle.tables.specs.Laws.{valid-header, same-directories, path_inside, path-start, path-size}
use Rattle.tables.specs.Tables.{part_of}
use Rattle.salvage_spec.proofs.Laws.Paths.{paths-few}
use Rattle.salvage_spec.proofs.Laws.Places.{path-within}
use Rattle.salvage_paths.specs.Laws.Table.{closed_none, closed-kept, closed-gone}
use Rattle.salvage_paths.specs.Laws.Paths.{paths-put-none, paths-put-kept, paths-put-gone}
use Rattle.salvage_paths.proofs.close_up.Goals as goal
use Rattle.salvage_paths.proofs.close_up.Goals.{in-Ok, in-Err}

pub loop-i-init : goal.loop-i-init
loop-i-init c = record { closed = closed_none _ _; put = paths-put-none _ _ _ _ }

pub overflow_add-kept : goal.overflow_add-kept
overflow_add-kept c =
    omega (arith, same-directories c.requires.0, valid-header c.requires.0, c.loop-i.invariant.closed.count, paths-few c.args.cache.now c.loop-i.i)

pub put_path-bytes-requires : goal.put_path-bytes-requires
put_path-bytes-requires c =
    let s = c.args.cache.now in
    let i = c.loop-i.i in
    let e = c.in-Ok.ensures in
    let h = path_inside s i (kept-by (path_fault s i) (part_of s i) _ e).0 in (
      omega (arith, path-start {s = s} {i = i} e h, path-size {s = s} {i = i} e h, h.inside),
      omega (arith, path-size {s = s} {i = i} e h, h.short),
      omega (arith, same-directories c.requires.0, valid-header c.requires.0, c.loop-i.invariant.put.bytes-few, c.requires.2),
    )

pub row-words-requires : goal.row-words-requires
row-words-requires c =
    let s = c.args.cache.now in
    let i = c.loop-i.i in
    let place = ap (λ (f : Fault). f.place) (broken-by (path_fault s i) (part_of s i) _ c.in-Err.ensures).1 in (
      omega (arith, same-directories c.requires.0, valid-header c.requires.0, c.loop-i.invariant.put.words-few),
      omega (arith, place, path-within s i, same-directories c.requires.0, valid-header c.requires.0),
    )

pub loop-i-preserved : goal.loop-i-preserved
loop-i-preserved c =
    let s = c.args.cache.now in
    let i = c.loop-i.i in
    let h = c.loop-i.invariant in
    let room : i < length c.loop-i.closed = omega (arith, same-directories c.requires.0, c.requires.1) in
    elim c.match-path.branch [
      | in-Ok w ↦
          let kept = (kept-by (path_fault s i) (part_of s i) _ w.in-Ok.ensures).0 in
          rw (w.closed-is, w.out-is, w.report-is, w.kept-is, w.bytes-is, w.words-is) (record {
            closed = closed-kept h.closed room kept;
            put = paths-put-kept h.put w.in-Ok.ensures kept w.put_path-bytes.ensures;
          })
      | in-Err w ↦
          let bad = broken-by (path_fault s i) (part_of s i) _ w.in-Err.ensures in
          rw (w.closed-is, w.out-is, w.report-is, w.kept-is, w.bytes-is, w.words-is) (record {
            closed = closed-gone h.closed room bad.0;
            put = paths-put-gone h.put bad.0 (rw bad.1 at w.row-words.ensures);
          })
    ]
