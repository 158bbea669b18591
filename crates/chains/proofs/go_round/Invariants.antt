use Rattle.std.proofs.Common.{◌≡◌, ◌+◌, ◌-◌, ◌≤◌}
use Rattle.rounds.specs.Stepping.{ahead}
use Rattle.chains.proofs.go_round.Given as goal

abbrev pub invariant-loop-opened : goal.invariant-loop-opened
invariant-loop-opened l = record {
  onward : l.initial.opened ≤ l.opened;
  within : l.opened ≤ l.most + 1;
  stepped : l.field ≡ ahead l.cache l.initial.field (l.opened - l.initial.opened);
}

abbrev pub decreases-loop-opened : goal.decreases-loop-opened
decreases-loop-opened l = l.most + 1 - l.opened
