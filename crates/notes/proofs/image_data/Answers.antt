-- `notes::image_data` meets its contract: its parts are judged one after the other.
use Rattle.std.proofs.Common.{arith}
use Rattle.std.proofs.lemmas.Grind.{common_steps}
use Rattle.format.specs.Fault.{◌or_else◌}
use Rattle.format.specs.Notes.{image_data_fault}
use Rattle.notes.proofs.image_data.Goals as goal

pub returns-then-data-eq0 : goal.returns-then-data-eq0
unfolding image_data_fault ◌or_else◌
returns-then-data-eq0 c = grind (arith, common_steps)

pub returns-then-cache-data : goal.returns-then-cache-data
unfolding image_data_fault ◌or_else◌
returns-then-cache-data c = grind (arith, common_steps)

pub returns-in_err-pixel_data : goal.returns-in_err-pixel_data
unfolding image_data_fault ◌or_else◌
returns-in_err-pixel_data c = grind (arith, common_steps)

pub returns : goal.returns
unfolding image_data_fault ◌or_else◌
returns c = grind (arith, common_steps)
