use Rattle.std.proofs.Common.{◌≡◌, length}
use Rattle.format.specs.Chain.{records_below}
use Rattle.format.specs.declared.Reading.TheVariants.{Short}
use Rattle.gathering.specs.Order.{Gathered}
use Rattle.gathering.proofs.order.records.Given as goal

abbrev pub invariant-loop-bucket : goal.invariant-loop-bucket
invariant-loop-bucket l = record { lent : length l.index ≡ length l.initial.index; gathered : Gathered l.index l.n (records_below Short l.cache l.bucket) }
