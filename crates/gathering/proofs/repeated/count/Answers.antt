-- `gathering::repeated::count` meets its contract: the walk stands on the chain after the records
-- that it has counted.
use Rattle.std.proofs.Common.{◌∙◌, arith}
use Rattle.format.proofs.Laws.Apart.{holds-few}
use Rattle.tables.specs.Laws.{same-field}
use Rattle.gathering.specs.Laws.Walks.{chain-holds, stands-first, stands-ended, stands-below, stands-next}
use Rattle.gathering.proofs.repeated.count.Goals as goal

pub loop-bucket-init : goal.loop-bucket-init
loop-bucket-init c =
    stands-first c.requires.0 c.requires.1 (c.bucket_field-field.ensures ∙ same-field c.requires.0.tables c.args.bucket)

pub returns-then-record : goal.returns-then-record
returns-then-record c = stands-ended c.loop-bucket.invariant c.u32_at-record.ensures c.if-record.true

pub overflow_add-n : goal.overflow_add-n
overflow_add-n c =
    let (n, h) = chain-holds c.requires.0 c.args.bucket c.requires.1 in
    omega (arith, stands-below c.loop-bucket.invariant h c.u32_at-record.ensures c.if-record.false, holds-few h)

pub loop-bucket-smaller : goal.loop-bucket-smaller
loop-bucket-smaller c =
    let (n, h) = chain-holds c.requires.0 c.args.bucket c.requires.1 in
    omega (arith, stands-below c.loop-bucket.invariant h c.u32_at-record.ensures c.if-record.false, holds-few h)

pub loop-bucket-preserved : goal.loop-bucket-preserved
loop-bucket-preserved c =
    let (n, h) = chain-holds c.requires.0 c.args.bucket c.requires.1 in
    stands-next c.loop-bucket.invariant h c.u32_at-record.ensures c.if-record.false
