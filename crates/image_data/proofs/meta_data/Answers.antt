-- `image_data::meta_data` meets its contract: rules 1 and 2, the image data and the meta data are
-- judged in this order.
use Rattle.std.proofs.Common.{◌∙◌, arith}
use Rattle.format.proofs.Laws.Outcomes.{kept-by}
use Rattle.std.proofs.lemmas.Result.{err_from_is_err_and}
use Rattle.image_data.proofs.Laws.Way.{way-ends, way_on}
use Rattle.image_data.proofs.Laws.Judged.{too_short, too_large, bytes-kept, part-inside, meta-bytes, meta-next}
use Rattle.image_data.proofs.meta_data.Goals as goal

pub returns-then-cache-lt12 : goal.returns-then-cache-lt12
returns-then-cache-lt12 c = let s = c.args.cache.now in rw (meta-bytes s c.args.«data» (too_short s (omega arith)))

pub returns-then-cache-gt16777216 : goal.returns-then-cache-gt16777216
returns-then-cache-gt16777216 c = let s = c.args.cache.now in rw (meta-bytes s c.args.«data» (too_large s (omega arith)))

pub returns-in_err-part : goal.returns-in_err-part
returns-in_err-part c =
    let told = err_from_is_err_and c.from_residual.result c.from_residual.ensures.1 in
    let kept = meta-next c.args.cache.now c.args.«data» (bytes-kept c.args.cache.now (omega (arith, c.if-cache-lt12.false)) (omega (arith, c.if-cache-gt16777216.false))) in
    rw (told.1, told.2, kept) (way-ends _ _ _ _ c.in_err-part.ensures)

pub overflow_add-field : goal.overflow_add-field
overflow_add-field c = omega (arith, part-inside _ _ _ _ (kept-by _ _ _ c.in_ok-part.ensures).0)

pub u32_at-requires : goal.u32_at-requires
u32_at-requires c = omega (arith, part-inside _ _ _ _ (kept-by _ _ _ c.in_ok-part.ensures).0)

pub returns : goal.returns
returns c =
    let kept = meta-next c.args.cache.now c.args.«data» (bytes-kept c.args.cache.now (omega (arith, c.if-cache-lt12.false)) (omega (arith, c.if-cache-gt16777216.false))) in
    rw kept (rw c.u32_at.ensures at c.part-2.ensures ∙ way_on _ _ _ _ c.in_ok-part.ensures)
