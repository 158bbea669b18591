-- `squeeze_lists::lists` meets its contract: block by block, the lists of all icons are stored.
use Rattle.std.proofs.Common.{refl, arith}
use Rattle.squeeze_lists.specs.Laws.Shares.{filled_at}
use Rattle.squeeze_lists.proofs.lists.Goals as goal

pub loop-from-init : goal.loop-from-init
loop-from-init c = record { index_lent = refl; places_lent = refl; out_lent = refl; filled = λ lent place h. h }

pub block-shared-requires : goal.block-shared-requires
block-shared-requires c =
    let i = c.loop-from.invariant in
    let own = c.requires.sound in
    let g = c.requires.icons_value.1 in
    record {
      sound = (own.0, omega (arith, own.1), omega (arith, own.2), omega (arith, own.3), own.4);
      begun = record { lent = g.lent; at = g.at; filled = i.filled g.lent g.at g.filled };
    }

pub loop-from-smaller : goal.loop-from-smaller
loop-from-smaller c =
    omega (arith, c.loop-from-test.true, c.block-shared.ensures.1 (omega (arith, c.loop-from-test.true, c.requires.icons_value.0)))

pub loop-from-preserved : goal.loop-from-preserved
loop-from-preserved c = record {
  index_lent = omega arith;
  places_lent = omega arith;
  out_lent = omega arith;
  filled = λ lent place h. c.block-shared.ensures.0 lent place (c.loop-from.invariant.filled lent place h);
}

pub returns : goal.returns
returns c = λ lent place h.
    let f = c.loop-from.invariant.filled lent place h in
    (_, filled_at (omega (arith, f.within, c.loop-from-test.false, c.requires.icons_value.0)) f)
