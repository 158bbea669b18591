-- `pick::serves` meets its contract.
use Rattle.std.proofs.Common.{arith}
use Rattle.std.proofs.lemmas.Grind.{common_steps}
use Rattle.pick.specs.Pick.{serves}
use Rattle.pick.proofs.serves.Goals as goal

pub returns-then-d-scale : goal.returns-then-d-scale
unfolding serves
returns-then-d-scale c = grind (arith, common_steps)

pub returns-else-d-scale : goal.returns-else-d-scale
unfolding serves
returns-else-d-scale c = grind (arith, common_steps)
