-- `squeeze_sizes::measure` meets its contract: block by block, all icons are passed.
use Rattle.std.proofs.Common.{refl, arith}
use Rattle.squeeze_sizes.specs.Laws.Counting.{counting-none, counting-next, counting-all}
use Rattle.squeeze_sizes.proofs.measure.Goals as goal

pub loop-from-init : goal.loop-from-init
loop-from-init c = record { index_lent = refl; again_lent = refl; counting = counting-none _ }

pub block-counted-requires : goal.block-counted-requires
block-counted-requires c =
    let own = c.requires.sound in
    record { sound = (own.0, omega (arith, own.1), omega (arith, own.2), omega (arith, own.3), own.4); counting = c.loop-from.invariant.counting }

pub loop-from-smaller : goal.loop-from-smaller
loop-from-smaller c =
    omega (arith, c.loop-from-test.true, c.requires.icons_value, c.block-counted.ensures.onward (omega (arith, c.loop-from-test.true, c.requires.icons_value)))

pub loop-from-preserved : goal.loop-from-preserved
loop-from-preserved c =
    record { index_lent = omega arith; again_lent = omega arith; counting = counting-next c.loop-from.invariant.counting c.block-counted.ensures }

pub returns : goal.returns
returns c = counting-all c.loop-from.invariant.counting (omega (arith, c.loop-from-test.false, c.requires.icons_value))
