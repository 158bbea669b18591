-- `notes::names` meets its contract.
use Rattle.std.proofs.Common.{arith}
use Rattle.std.proofs.lemmas.Grind.{common_steps}
use Rattle.format.specs.Fault.{◌or_else◌}
use Rattle.format.specs.Notes.{names_fault}
use Rattle.notes.proofs.names.Goals as goal

pub returns-then-at-eq0 : goal.returns-then-at-eq0
unfolding names_fault ◌or_else◌
returns-then-at-eq0 c = grind (arith, common_steps)

pub returns-then-not-valid_entries : goal.returns-then-not-valid_entries
unfolding names_fault ◌or_else◌
returns-then-not-valid_entries c = grind (arith, common_steps)

pub returns : goal.returns
unfolding names_fault ◌or_else◌
returns c = grind (arith, common_steps)
