-- `squeeze_names::take` meets its contract: a name that is met again is no new entry.
use Rattle.squeeze_names.specs.Laws.Adds.{noted-is, noted-not}
use Rattle.squeeze_names.proofs.take.Goals as goal

pub returns-then-met-clause-taken : goal.returns-then-met-clause-taken
returns-then-met-clause-taken c = λ before known.
    let asked = c.met.ensures before known in
    (noted-is asked.right c.if-met.true c.mark.ensures, rw c.if-met.true at asked.after)

pub returns-clause-taken : goal.returns-clause-taken
returns-clause-taken c = λ before known.
    let asked = c.met.ensures before known in
    (noted-not asked.right c.if-met.false, rw c.if-met.false at asked.after)
