-- `passes::sizes::size` meets its contract (`size_is`). A good catalogue is short, so no sum wraps.
use Rattle.std.proofs.Common.{sym, arith}
use Rattle.judging.specs.Laws.Bounds.{catalogue-short}
use Rattle.passes.specs.Laws.Counts.{few-paths, few-icons, size_is}
use Rattle.passes.proofs.sizes.size.Goals as goal

pub overflow_mul-result-2 : goal.overflow_mul-result-2
overflow_mul-result-2 c = omega (arith, few-icons c.requires.0)

pub overflow_add-result-3 : goal.overflow_add-result-3
overflow_add-result-3 c =
    let h = c.requires.0 in omega (arith, few-icons h, catalogue-short c.args.catalogue.now h.are-bytes h.good)

pub overflow_mul-result-3 : goal.overflow_mul-result-3
overflow_mul-result-3 c = omega (arith, few-paths c.requires.0)

pub overflow_add-result-4 : goal.overflow_add-result-4
overflow_add-result-4 c =
    let h = c.requires.0 in omega (arith, few-icons h, few-paths h, catalogue-short c.args.catalogue.now h.are-bytes h.good)

pub returns : goal.returns
returns c = sym (size_is c.requires.0 c.args.buckets)
