-- `squeeze_texts::measure` meets its contract: what is measured are the strings of the icons passed.
use Rattle.std.proofs.Common.{◌+◌, length, sym, ap, ◌∙◌, add-zero, arith}
use Rattle.tables.specs.Laws.{valid-header}
use Rattle.squeeze_icons.specs.Laws.Icon.{icon-at, all-passed, icons-few}
use Rattle.squeeze_paths.specs.Pathed.{strings_up_to}
use Rattle.squeeze_texts.specs.Named.{string_of}
use Rattle.squeeze_texts.specs.Laws.{icon-name, name-whole, stored-end}
use Rattle.squeeze_texts.proofs.measure.Goals as goal

pub loop-icon-init : goal.loop-icon-init
loop-icon-init c =
    let none = c.first-icon.ensures.1 in
    record {
      stays = c.first-icon.ensures.0;
      few = omega arith;
      ends = λ at known e. e ∙ ap (λ i. at + length (strings_up_to c.args.cache.now i)) (sym (ap (string_of c.args.cache.now) none ∙ add-zero _));
    }

pub u32_at-name-requires : goal.u32_at-name-requires
u32_at-name-requires c = omega (arith, (icon-at c.requires.sound.0.accepted c.loop-icon.invariant.stays c.loop-icon-test.true).keeps.inside)

pub store-stored-requires : goal.store-stored-requires
store-stored-requires c =
    let own = c.requires.sound.0 in
    let room = c.requires.entries_in_bounds in
    let here = icon-at own.accepted c.loop-icon.invariant.stays c.loop-icon-test.true in
    (own.accepted, name-whole here.keeps c.u32_at-name.ensures, room.0, room.1, omega (arith, c.loop-icon.invariant.few, here.below, icons-few own.accepted, valid-header own.tables, room.2))

pub next-icon-requires : goal.next-icon-requires
next-icon-requires c = (c.requires.sound.0, c.requires.sound.1, c.loop-icon.invariant.stays, c.loop-icon-test.true)

pub loop-icon-smaller : goal.loop-icon-smaller
loop-icon-smaller c = omega (arith, (icon-at c.requires.sound.0.accepted c.loop-icon.invariant.stays c.loop-icon-test.true).below, c.next-icon.ensures.1)

pub loop-icon-preserved : goal.loop-icon-preserved
loop-icon-preserved c =
    let s = c.args.cache.now in
    let here = icon-at c.requires.sound.0.accepted c.loop-icon.invariant.stays c.loop-icon-test.true in
    let one = c.next-icon.ensures.1 in
    record {
      stays = c.next-icon.ensures.0;
      few = omega (arith, c.store-stored.ensures.few, c.loop-icon.invariant.few);
      ends = λ at known e.
          stored-end (c.store-stored.ensures.stored at _ known (icon-name here c.u32_at-name.ensures)) (c.loop-icon.invariant.ends at known e)
          ∙ ap (λ i. at + length (strings_up_to s (string_of s i))) (sym one);
    }

pub returns : goal.returns
returns c =
    let inv = c.loop-icon.invariant in
    record { icons = all-passed c.requires.sound.0.accepted inv.stays c.loop-icon-test.false; few = inv.few; ends = inv.ends }
