-- `image_data::listed` meets its contract. Nothing wraps, since a valid list ends inside.
use Rattle.std.proofs.Common.{arith}
use Rattle.std.proofs.lemmas.Grind.{common_steps}
use Rattle.format.specs.Fault.{◌or_else◌}
use Rattle.image_data.specs.Call.{entry_fault}
use Rattle.image_data.proofs.listed.Goals as goal

pub returns-then-list-eq0 : goal.returns-then-list-eq0
unfolding entry_fault ◌or_else◌
returns-then-list-eq0 c = grind (arith, common_steps)

pub returns-then-not-valid_entries : goal.returns-then-not-valid_entries
unfolding entry_fault ◌or_else◌
returns-then-not-valid_entries c = grind (arith, common_steps)

pub returns-then-u32_at-entry : goal.returns-then-u32_at-entry
unfolding entry_fault ◌or_else◌
returns-then-u32_at-entry c = grind (arith, common_steps)

pub returns : goal.returns
unfolding entry_fault ◌or_else◌
returns c = grind (arith, common_steps)
