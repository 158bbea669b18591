use Rattle.std.proofs.Common.{◌≡◌, ◌-◌, ◌≤◌}
use Rattle.format.specs.Header.{buckets}
use Rattle.format.specs.Chain.{most_records}
use Rattle.listing.specs.Listing.{onward}
use Rattle.listing.proofs.Position.onward.Given as goal

abbrev pub invariant-loop-bucket : goal.invariant-loop-bucket
invariant-loop-bucket l = record {
  few : l.walked ≤ l.passed;
  most : l.passed ≤ most_records l.cache;
  rest : onward (l.n - l.bucket) l.cache l.fn.self l.bucket l.passed ≡ onward (buckets l.cache - l.fn.self.bucket) l.cache l.fn.self l.fn.self.bucket l.fn.self.count;
}
