use Rattle.std.proofs.Common.{◌≡◌, ◌-◌, ◌*◌}
use Rattle.format.specs.Fault.{first_fault, step_on}
use Rattle.pick.specs.Pick.{kind_fault, kinds_fault}
use Rattle.pick.proofs.judge_kinds.Given as goal

abbrev pub invariant-loop-i : goal.invariant-loop-i
invariant-loop-i l = first_fault (kind_fault l.words) (step_on 6) (l.n - l.i) (6 * l.i) ≡ kinds_fault l.n l.words
