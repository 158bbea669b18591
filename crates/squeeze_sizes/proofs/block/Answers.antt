-- `squeeze_sizes::block` meets its contract: before each turn the icons passed are counted.
use Rattle.std.proofs.Common.{◌^◌, ◌≤◌, length, refl, arith}
use Rattle.catalogue.specs.Fields.{AreBytes}
use Rattle.tables.specs.Laws.{valid-header}
use Rattle.squeeze_spec.specs.Squeezed.{contents}
use Rattle.squeeze_icons.specs.Laws.Icon.{icon-at, all-passed, icons-few}
use Rattle.squeeze_sizes.specs.Laws.Lists.{icon-list, lists-few}
use Rattle.squeeze_sizes.specs.Laws.Counting.{counts-none, counts-at, counts-few, counts-block}
use Rattle.squeeze_sizes.proofs.block.Goals as goal

pub nth-icon-requires : goal.nth-icon-requires
nth-icon-requires c = (c.requires.sound.0, c.requires.sound.4, c.requires.counting.within)

pub loop-icon-init : goal.loop-icon-init
loop-icon-init c =
    record { index_lent = refl; again_lent = refl; stays = c.nth-icon.ensures.0; counts = counts-at c.nth-icon.ensures.1 (counts-none _ _ _ c.args.from c.args.bytes) }

pub u32_at-list-requires : goal.u32_at-list-requires
u32_at-list-requires c = omega (arith, (icon-at c.requires.sound.0.accepted c.loop-icon.invariant.stays c.loop-icon-test.true).keeps.inside)

pub count-counted-requires : goal.count-counted-requires
count-counted-requires c =
    let s = c.args.cache.now in
    let own = c.requires.sound in
    let i = c.loop-icon.invariant in
    let acc = own.0.accepted in
    let here = icon-at acc i.stays c.loop-icon-test.true in
    let small : AreBytes s = λ j. omega (arith, c.type_inv.cache j) in
    let short : length s ≤ 2 ^ 24 = omega (arith, valid-header own.0.tables) in
    let icons : length (contents s).icons ≤ 2 ^ 24 = omega (arith, icons-few acc) in
    let few : c.loop-icon.counted.bytes ≤ 2 ^ 48 = omega (arith, counts-few c.requires.counting i.counts (omega (arith, here.below)), lists-few acc short icons) in
    record {
      list_at = (icon-list small here c.u32_at-list.ensures, omega (arith, own.1), omega (arith, own.2), omega (arith, own.3), omega (arith, here.below), omega (arith, few));
      by_index = (_, _, i.counts);
    }

pub next-icon-requires : goal.next-icon-requires
next-icon-requires c = (c.requires.sound.0, c.requires.sound.4, c.loop-icon.invariant.stays, c.loop-icon-test.true)

pub loop-icon-smaller : goal.loop-icon-smaller
loop-icon-smaller c = omega (arith, (icon-at c.requires.sound.0.accepted c.loop-icon.invariant.stays c.loop-icon-test.true).below, c.next-icon.ensures.1)

pub loop-icon-preserved : goal.loop-icon-preserved
loop-icon-preserved c = record {
  index_lent = omega arith;
  again_lent = omega arith;
  stays = c.next-icon.ensures.0;
  counts = counts-at c.next-icon.ensures.1 (c.count-counted.ensures _ _ c.loop-icon.invariant.counts);
}

pub returns : goal.returns
returns c =
    counts-block c.requires.counting c.loop-icon.invariant.counts (all-passed c.requires.sound.0.accepted c.loop-icon.invariant.stays c.loop-icon-test.false)
