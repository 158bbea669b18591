-- `image_data::part` meets its contract. Nothing wraps: the size is taken from the length, which is
-- no smaller.
use Rattle.std.proofs.Common.{arith}
use Rattle.std.proofs.lemmas.Grind.{common_steps}
use Rattle.format.specs.Fault.{◌or_else◌}
use Rattle.image_data.specs.Call.{part_fault}
use Rattle.image_data.proofs.part.Goals as goal

pub returns-then-at-eq0 : goal.returns-then-at-eq0
unfolding part_fault ◌or_else◌
returns-then-at-eq0 c = grind (arith, common_steps)

pub returns-then-cache-size : goal.returns-then-cache-size
unfolding part_fault ◌or_else◌
returns-then-cache-size c = grind (arith, common_steps)

pub returns : goal.returns
unfolding part_fault ◌or_else◌
returns c = grind (arith, common_steps)
