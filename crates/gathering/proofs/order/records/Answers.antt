-- `gathering::order::records` meets its contract: the index has the records of the chains that are
-- passed.
use Rattle.std.proofs.Common.{◌≡◌, ◌+◌, ◌-◌, suc, refl, arith}
use Rattle.format.specs.Header.{buckets}
use Rattle.format.specs.Chain.{records_below}
use Rattle.tables.specs.Laws.{same-buckets}
use Rattle.gathering.specs.Laws.Order.{gathered_none, gathered-ordered, fewer-below}
use Rattle.gathering.proofs.order.records.Goals as goal

pub loop-bucket-init : goal.loop-bucket-init
unfolding records_below
loop-bucket-init c = record { lent = refl; gathered = gathered_none _ }

pub take_chain-n-requires-clause-bucket_in_bounds : goal.take_chain-n-requires-clause-bucket_in_bounds
take_chain-n-requires-clause-bucket_in_bounds c =
    let s = c.args.cache.now in
    let k = suc c.loop-bucket.bucket in
    let count = same-buckets c.requires.0.tables in
    let all : buckets s - k + k ≡ buckets s = omega arith in
    omega (arith, c.loop-bucket.invariant.lent, rw all at (fewer-below s k (buckets s - k)), c.requires.1)

pub returns : goal.returns
returns c =
    let all : c.loop-bucket.bucket ≡ buckets c.args.cache.now = omega (arith, same-buckets c.requires.0.tables) in
    gathered-ordered c.requires.0.accepted (rw all at c.loop-bucket.invariant.gathered)
