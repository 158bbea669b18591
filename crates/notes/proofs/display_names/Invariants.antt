use Rattle.std.proofs.Common.{◌≡◌, ◌+◌, ◌-◌, ◌*◌}
use Rattle.format.specs.Fault.{first_fault, step_on}
use Rattle.format.specs.Notes.{display_name_fault}
use Rattle.notes.proofs.display_names.Given as goal

abbrev pub invariant-loop-i : goal.invariant-loop-i
invariant-loop-i l =
    first_fault (display_name_fault l.cache) (step_on 8) (l.count - l.i) (l.at + 8 * l.i) ≡ first_fault (display_name_fault l.cache) (step_on 8) l.count l.at
