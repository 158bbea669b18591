-- `gathering::order::take_chain` meets its contract: the walk stands on the chain after `step`
-- records, and the index has these and those of the chains before.
use Rattle.std.proofs.Common.{◌≤◌, length, refl, ◌∙◌, arith}
use Rattle.format.proofs.Laws.Apart.{holds-few}
use Rattle.tables.specs.Laws.{same-field}
use Rattle.gathering.specs.Laws.Walks.{chain-holds, stands-first, stands-link, stands-ended, stands-below, stands-next}
use Rattle.gathering.specs.Laws.Order.{reached, reached-first, reached-next, reached-all, reached-length}
use Rattle.gathering.proofs.order.take_chain.Goals as goal

pub loop-bucket-init : goal.loop-bucket-init
loop-bucket-init c =
    let (sound, inside) = c.requires.sound in
    record {
      lent = refl;
      stands = stands-first sound inside (c.bucket_field-field.ensures ∙ same-field sound.tables c.args.bucket);
      gathered = rw (← reached-first c.args.cache.now c.args.bucket) c.requires.gathered;
    }

pub returns-then-record : goal.returns-then-record
returns-then-record c =
    rw (← reached-all _ _ (stands-ended c.loop-bucket.invariant.stands c.u32_at-record.ensures c.if-record.true)) c.loop-bucket.invariant.gathered

-- there is room for one more record: the chain has more than `step`
pub take_in-count-requires : goal.take_in-count-requires
take_in-count-requires c =
    let s = c.args.cache.now in
    let k = c.args.bucket in
    let (sound, inside) = c.requires.sound in
    let (n, h) = chain-holds sound k inside in
    let below = stands-below c.loop-bucket.invariant.stands h c.u32_at-record.ensures c.if-record.false in
    let all : length (reached s k n) ≤ length c.args.index.now = rw (reached-all s k h) c.requires.bucket_in_bounds in
    omega (arith, c.loop-bucket.invariant.lent, c.loop-bucket.invariant.gathered.few, reached-length s k c.loop-bucket.step, reached-length s k n)

pub overflow_add-step : goal.overflow_add-step
overflow_add-step c =
    let (n, h) = chain-holds c.requires.sound.0 c.args.bucket c.requires.sound.1 in
    omega (arith, stands-below c.loop-bucket.invariant.stands h c.u32_at-record.ensures c.if-record.false, holds-few h)

pub loop-bucket-smaller : goal.loop-bucket-smaller
loop-bucket-smaller c =
    let (n, h) = chain-holds c.requires.sound.0 c.args.bucket c.requires.sound.1 in
    omega (arith, stands-below c.loop-bucket.invariant.stands h c.u32_at-record.ensures c.if-record.false, holds-few h)

pub loop-bucket-preserved : goal.loop-bucket-preserved
loop-bucket-preserved c =
    let at = c.loop-bucket.invariant.stands in
    let (n, h) = chain-holds c.requires.sound.0 c.args.bucket c.requires.sound.1 in
    record {
      lent = omega arith;
      stands = stands-next at h c.u32_at-record.ensures c.if-record.false;
      gathered = rw (reached-next _ _ _ (stands-link at c.u32_at-record.ensures)) at (c.take_in-count.ensures _ c.loop-bucket.invariant.gathered);
    }
