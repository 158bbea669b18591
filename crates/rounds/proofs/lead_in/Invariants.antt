use Rattle.std.proofs.Common.{◌≡◌, ℕ, ◌+◌, ◌<◌}
use Rattle.rounds.specs.Stepping.{ahead}
use Rattle.rounds.proofs.lead_in.Given as goal

abbrev pub invariant-loop-step : goal.invariant-loop-step
invariant-loop-step l = record {
  slow : l.slow ≡ ahead l.cache l.field l.step;
  fast : l.fast ≡ ahead l.cache l.field (l.step + l.round.steps);
  first : (i : ℕ) → i < l.step → ahead l.cache l.field (i + l.round.steps) ≡ ahead l.cache l.field i → ⊥;
}
