use Rattle.std.proofs.Common.{◌≡◌, ◌-◌, ◌≤◌, length}
use Rattle.rounds.specs.Stepping.{ahead}
use Rattle.repeats.specs.Along.{name_along}
use Rattle.squeeze_names.specs.Repeated.{Adds, among_first}
use Rattle.squeeze_names.proofs.chain.Given as goal

abbrev pub invariant-loop-done : goal.invariant-loop-done
invariant-loop-done l = record {
  within : l.done ≤ l.n;
  index_lent : length l.index ≡ length l.initial.index;
  marks_lent : length l.marks ≡ length l.initial.marks;
  here : l.at ≡ ahead l.cache l.field l.done;
  marked : Adds l.initial.marks l.marks l.number l.n (among_first (name_along l.cache l.field) l.done);
}

abbrev pub decreases-loop-done : goal.decreases-loop-done
decreases-loop-done l = l.n - l.done
