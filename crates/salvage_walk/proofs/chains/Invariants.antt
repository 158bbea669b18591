use Rattle.salvage_walk.specs.Laws.Chains.{WalksTo}
use Rattle.salvage_walk.proofs.chains.Given as goal

abbrev pub invariant-loop-bucket : goal.invariant-loop-bucket
invariant-loop-bucket l = WalksTo l.cache l.bucket l.initial.catalogue l.catalogue l.initial.report l.report l.initial.so_far l.so_far
