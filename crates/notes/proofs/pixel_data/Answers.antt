-- `notes::pixel_data` meets its contract.
use Rattle.std.proofs.Common.{arith}
use Rattle.std.proofs.lemmas.Grind.{common_steps}
use Rattle.format.specs.Fault.{◌or_else◌}
use Rattle.format.specs.Notes.{pixel_data_fault}
use Rattle.notes.proofs.pixel_data.Goals as goal

pub returns-then-at-eq0 : goal.returns-then-at-eq0
unfolding pixel_data_fault ◌or_else◌
returns-then-at-eq0 c = grind (arith, common_steps)

pub returns-then-not-pixels_inside : goal.returns-then-not-pixels_inside
unfolding pixel_data_fault ◌or_else◌
returns-then-not-pixels_inside c = grind (arith, common_steps)

pub returns-then-u32_at-ne0 : goal.returns-then-u32_at-ne0
unfolding pixel_data_fault ◌or_else◌
returns-then-u32_at-ne0 c = grind (arith, common_steps)

pub returns : goal.returns
unfolding pixel_data_fault ◌or_else◌
returns c = grind (arith, common_steps)
