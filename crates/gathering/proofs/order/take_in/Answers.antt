-- `gathering::order::take_in` meets its contract, whether the record was met before or not.
use Rattle.gathering.specs.Laws.Order.{gathered-more}
use Rattle.gathering.proofs.order.take_in.Goals as goal

pub returns-then-met : goal.returns-then-met
returns-then-met c = λ rs h. rw c.if-met.true at (gathered-more h (c.met.ensures h.met h.known))

pub returns : goal.returns
returns c = λ rs h. rw c.if-met.false at (gathered-more h (c.met.ensures h.met h.known))
