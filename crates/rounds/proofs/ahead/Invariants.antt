use Rattle.std.proofs.Common.{◌≡◌}
use Rattle.rounds.specs.Stepping.{ahead}
use Rattle.rounds.proofs.ahead.Given as goal

abbrev pub invariant-loop-step : goal.invariant-loop-step
invariant-loop-step l = l.at ≡ ahead l.cache l.field l._step
