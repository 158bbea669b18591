use Rattle.std.proofs.Common.{◌≡◌, length}
use Rattle.gathering.specs.Laws.Buckets.{PassedChains}
use Rattle.gathering.proofs.repeated.in_cache.Given as goal

abbrev pub invariant-loop-bucket : goal.invariant-loop-bucket
invariant-loop-bucket l = record { lent : length l.index ≡ length l.initial.index; passed : PassedChains l.cache l.bucket }
