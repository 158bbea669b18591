-- `notes::meta_data` meets its contract: its parts are judged one after the other.
use Rattle.std.proofs.Common.{arith}
use Rattle.std.proofs.lemmas.Grind.{common_steps}
use Rattle.format.specs.Fault.{◌or_else◌}
use Rattle.format.specs.Notes.{meta_data_fault}
use Rattle.notes.proofs.meta_data.Goals as goal

pub returns-then-at-eq0 : goal.returns-then-at-eq0
unfolding meta_data_fault ◌or_else◌
returns-then-at-eq0 c = grind (arith, common_steps)

pub returns-then-cache-at : goal.returns-then-cache-at
unfolding meta_data_fault ◌or_else◌
returns-then-cache-at c = grind (arith, common_steps)

pub returns-in_err-rectangle : goal.returns-in_err-rectangle
unfolding meta_data_fault ◌or_else◌
returns-in_err-rectangle c = grind (arith, common_steps)

pub returns-in_err-points : goal.returns-in_err-points
unfolding meta_data_fault ◌or_else◌
returns-in_err-points c = grind (arith, common_steps)

pub returns : goal.returns
unfolding meta_data_fault ◌or_else◌
returns c = grind (arith, common_steps)
