-- `squeeze_lists::block` meets its contract. The loop's invariant is `Shares`, of any buffer that
-- was filled so far before the loop.
use Rattle.std.proofs.Common.{refl, arith}
use Rattle.catalogue.specs.Fields.{AreBytes}
use Rattle.tables.specs.Laws.{valid-header}
use Rattle.squeeze_icons.specs.Laws.Icon.{icon-at, all-passed, icons-few}
use Rattle.squeeze_sizes.specs.Laws.Lists.{icon-list, icon-list-inside}
use Rattle.squeeze_lists.specs.Laws.Shares.{shares-first, shares_at, shares-filled, shares-onward}
use Rattle.squeeze_lists.proofs.block.Goals as goal

pub nth-icon-requires : goal.nth-icon-requires
nth-icon-requires c = (c.requires.sound.0, c.requires.sound.4, c.requires.begun.filled.within)

pub loop-icon-init : goal.loop-icon-init
loop-icon-init c = record {
  index_lent = refl;
  places_lent = refl;
  out_lent = refl;
  stays = c.nth-icon.ensures.0;
  shares = λ lent at h. shares-first _ _ c.nth-icon.ensures.1 h;
}

pub u32_at-list-requires : goal.u32_at-list-requires
u32_at-list-requires c = omega (arith, (icon-at c.requires.sound.0.accepted c.loop-icon.invariant.stays c.loop-icon-test.true).keeps.inside)

pub overflow_mul-cell : goal.overflow_mul-cell
overflow_mul-cell c =
    let acc = c.requires.sound.0.accepted in
    omega (arith, (icon-at acc c.loop-icon.invariant.stays c.loop-icon-test.true).below, icons-few acc, valid-header c.requires.sound.0.tables)

pub overflow_add-cell : goal.overflow_add-cell
overflow_add-cell c =
    let acc = c.requires.sound.0.accepted in
    let r = c.requires.begun.filled.room in
    omega (arith, (icon-at acc c.loop-icon.invariant.stays c.loop-icon-test.true).below, icons-few acc, valid-header c.requires.sound.0.tables, r.apart, r.short)

pub share-shared-requires : goal.share-shared-requires
share-shared-requires c =
    let i = c.loop-icon.invariant in
    let g = c.requires.begun in
    let own = c.requires.sound in
    let acc = own.0.accepted in
    let here = icon-at acc i.stays c.loop-icon-test.true in
    let small : AreBytes c.args.cache.now = λ j. omega (arith, c.type_inv.cache j) in
    record {
      list_at = (icon-list small here c.u32_at-list.ensures, omega (arith, own.1), omega (arith, own.2), omega (arith, own.3), here.below, omega (arith, here.below, icons-few acc, valid-header own.0.tables));
      list_in_bounds = icon-list-inside here c.u32_at-list.ensures;
      sharing = record { lent = g.lent; table = c.args.table; at = g.at; from = c.args.from; shares = i.shares g.lent g.at g.filled; cell_at = refl };
    }

pub next-icon-requires : goal.next-icon-requires
next-icon-requires c = (c.requires.sound.0, c.requires.sound.4, c.loop-icon.invariant.stays, c.loop-icon-test.true)

pub loop-icon-smaller : goal.loop-icon-smaller
loop-icon-smaller c = omega (arith, (icon-at c.requires.sound.0.accepted c.loop-icon.invariant.stays c.loop-icon-test.true).below, c.next-icon.ensures.1)

pub loop-icon-preserved : goal.loop-icon-preserved
loop-icon-preserved c = record {
  index_lent = omega arith;
  places_lent = omega arith;
  out_lent = omega arith;
  stays = c.next-icon.ensures.0;
  shares = λ lent at h. shares_at c.next-icon.ensures.1 (c.share-shared.ensures lent _ at _ (c.loop-icon.invariant.shares lent at h) refl);
}

pub returns : goal.returns
returns c =
    let all = all-passed c.requires.sound.0.accepted c.loop-icon.invariant.stays c.loop-icon-test.false in
    let g = c.requires.begun in
    (λ lent at h. shares-filled (c.loop-icon.invariant.shares lent at h) all, shares-onward (c.loop-icon.invariant.shares g.lent g.at g.filled) all)
