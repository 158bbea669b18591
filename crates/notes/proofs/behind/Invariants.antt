use Rattle.std.proofs.Common.{◌≡◌, ◌+◌, ◌-◌, ◌*◌}
use Rattle.format.specs.Notes.{notes_fault}
use Rattle.notes.specs.Again.{KeptBehind}
use Rattle.notes.proofs.behind.Given as goal

abbrev pub invariant-loop-i : goal.invariant-loop-i
invariant-loop-i l = record {
  rest : notes_fault (l.count - l.i) l.cache (l.at + 8 * l.i) ≡ notes_fault l.count l.cache l.at;
  kept : KeptBehind l.cache l.last;
}
