use Rattle.salvage_walk.specs.Walk.{Steps}
use Rattle.salvage_walk.proofs.chain.Given as goal

abbrev pub invariant-loop-step : goal.invariant-loop-step
invariant-loop-step l = Steps l.cache l.bucket l.initial.catalogue l.catalogue l.initial.report l.report l.index l.field l._step l.sums l.so_far
