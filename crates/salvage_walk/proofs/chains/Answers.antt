-- `salvage_walk::chains` meets its contract. The loop's invariant is `WalksTo`: the chains of the
-- buckets passed are walked, unless there are too many icons.
use Prim.Native.Nat.{◌≤◌, ◌<◌}
use native.Mathlib.Omega.{arith}
use Rattle.format.specs.Header.{buckets}
use Rattle.tables.specs.Laws.{valid-header, same-buckets}
use Rattle.salvage_walk.specs.Laws.Chains.{walks-none, walks_next, walks-all, walks-stopped}
use Rattle.salvage_walk.proofs.chains.Goals as goal

pub loop-bucket-init : goal.loop-bucket-init
loop-bucket-init c = walks-none _ _ _ _ c.requires.icons_value.0

pub returns-then-so_far-gt65535 : goal.returns-then-so_far-gt65535
returns-then-so_far-gt65535 c =
    walks-stopped c.loop-bucket.invariant (omega (arith, same-buckets c.requires.tables_of.0)) c.if-so_far-gt65535.true

pub chain-so_far-requires-clause-icons_bound : goal.chain-so_far-requires-clause-icons_bound
chain-so_far-requires-clause-icons_bound c =
    let few : c.loop-bucket.so_far.icons ≤ 65535 = omega (arith, c.if-so_far-gt65535.false) in
    let below : c.loop-bucket.bucket < buckets c.args.cache.now = omega (arith, same-buckets c.requires.tables_of.0) in
    let g = c.loop-bucket.invariant.whole few in (
      few,
      omega (arith, few, g.icons, g.bytes-few, c.requires.icons_value),
      omega (arith, few, g.icons, g.words-few, c.requires.icons_value, below, valid-header c.requires.tables_of.0),
    )

pub loop-bucket-preserved : goal.loop-bucket-preserved
loop-bucket-preserved c =
    walks_next c.loop-bucket.invariant c.requires.icons_value.0 (omega (arith, c.if-so_far-gt65535.false)) c.chain-so_far.ensures

pub returns : goal.returns
returns c = walks-all c.loop-bucket.invariant (omega (arith, same-buckets c.requires.tables_of.0))
