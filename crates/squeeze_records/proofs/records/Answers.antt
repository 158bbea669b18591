-- `squeeze_records::records` meets its contract: before each turn the icons passed are put.
use Rattle.std.proofs.Common.{refl, sym, ap, ◌∙◌, arith}
use Rattle.tables.specs.Laws.{same-buckets, valid-header}
use Rattle.squeeze_icons.specs.Laws.Icon.{icon-at, all-passed, icons-few}
use Rattle.squeeze_records.specs.Recorded.{recorded}
use Rattle.squeeze_records.specs.Laws.Recorded.{recorded-none, recorded-at}
use Rattle.squeeze_records.proofs.records.Goals as goal

pub overflow_mul-table : goal.overflow_mul-table
overflow_mul-table c =
    let own = c.requires.sound.0 in
    omega (arith, c.requires.icons_value.0, icons-few own.accepted, valid-header own.tables)

pub overflow_add-table : goal.overflow_add-table
overflow_add-table c =
    let own = c.requires.sound.0 in
    omega (arith, c.requires.icons_value.0, icons-few own.accepted, valid-header own.tables)

pub loop-item-init : goal.loop-item-init
loop-item-init c = record {
  lent = refl;
  stays = c.first-item.ensures.0;
  recorded = recorded-at c.first-item.ensures.1 (recorded-none c.requires.sound.0.accepted c.requires.icons_value.1 c.requires.paths_known.1);
}

pub icon-end-requires : goal.icon-end-requires
icon-end-requires c =
    let own = c.requires.sound in
    let count = same-buckets own.0.tables in
    let inv = c.loop-item.invariant in
    record {
      accepted = (own.0.accepted, icon-at own.0.accepted inv.stays c.loop-item-test.true, own.2, own.3, c.requires.paths_known.0);
      first_value = (omega (arith, count), omega (arith, count, c.requires.icons_value.0), record { lent = c.args.out.now; ready = c.requires.icons_value.1; recorded = inv.recorded });
    }

pub next-item-requires : goal.next-item-requires
next-item-requires c = (c.requires.sound.0, c.requires.sound.1, c.loop-item.invariant.stays, c.loop-item-test.true)

pub loop-item-smaller : goal.loop-item-smaller
loop-item-smaller c = omega (arith, (icon-at c.requires.sound.0.accepted c.loop-item.invariant.stays c.loop-item-test.true).below, c.next-item.ensures.1)

pub loop-item-preserved : goal.loop-item-preserved
loop-item-preserved c = record {
  lent = omega arith;
  stays = c.next-item.ensures.0;
  recorded = recorded-at c.next-item.ensures.1 (c.icon-end.ensures _ c.requires.icons_value.1 c.loop-item.invariant.recorded);
}

pub returns : goal.returns
returns c =
    let all = all-passed c.requires.sound.0.accepted c.loop-item.invariant.stays c.loop-item-test.false in
    c.loop-item.invariant.recorded.built ∙ ap (recorded c.args.cache.now c.args.out.now) (all ∙ sym c.requires.icons_value.0)
