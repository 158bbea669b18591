-- `notes::display_name` meets its contract: the language is judged first.
use Rattle.std.proofs.Common.{arith}
use Rattle.std.proofs.lemmas.Grind.{common_steps}
use Rattle.format.specs.Fault.{◌or_else◌}
use Rattle.format.specs.Notes.{display_name_fault}
use Rattle.notes.proofs.display_name.Goals as goal

pub returns-in_err-note : goal.returns-in_err-note
unfolding display_name_fault ◌or_else◌
returns-in_err-note c = grind (arith, common_steps)

pub returns : goal.returns
unfolding display_name_fault ◌or_else◌
returns c = grind (arith, common_steps)
