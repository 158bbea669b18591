-- `squeeze_names::look` meets its contract.
use Rattle.squeeze_names.specs.Laws.Adds.{noted-is, noted-not}
use Rattle.squeeze_names.proofs.look.Goals as goal

pub returns-then-holds : goal.returns-then-holds
returns-then-holds c = λ before known. noted-is (c.holds.ensures before known) c.if-holds.true c.mark.ensures

pub returns-else-holds : goal.returns-else-holds
returns-else-holds c = λ before known. noted-not (c.holds.ensures before known) c.if-holds.false
