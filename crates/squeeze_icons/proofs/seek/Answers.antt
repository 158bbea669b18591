-- `squeeze_icons::seek` meets its contract: before each turn no record passed stays.
use Rattle.std.proofs.Common.{refl, sym, ◌∙◌, arith}
use Rattle.in_order.specs.Laws.{here-below}
use Rattle.squeeze_icons.specs.Laws.Seeking.{seeking-gone}
use Rattle.squeeze_icons.proofs.seek.Goals as goal

pub stays-requires : goal.stays-requires
stays-requires c = (c.requires.0, c.requires.1, c.loop-at.invariant.at, c.loop-at-test.true)

pub returns-then-stays : goal.returns-then-stays
returns-then-stays c =
    let h = c.loop-at.invariant in
    (record { at = h.at; icons = h.icons; stays = λ real. sym c.stays.ensures ∙ c.if-stays.true }, refl)

pub next-at-requires : goal.next-at-requires
next-at-requires c = (c.requires.0, c.loop-at.invariant.at, c.loop-at-test.true)

pub loop-at-smaller : goal.loop-at-smaller
loop-at-smaller c =
    omega (arith, here-below c.requires.0.accepted (c.loop-at.invariant.at.here c.loop-at-test.true), c.next-at.ensures.1)

pub loop-at-preserved : goal.loop-at-preserved
loop-at-preserved c =
    seeking-gone c.loop-at.at c.next-at.ensures.0 c.next-at.ensures.1 c.loop-at.invariant.icons (sym c.stays.ensures ∙ c.if-stays.false)

pub returns : goal.returns
returns c =
    let h = c.loop-at.invariant in
    (record { at = h.at; icons = h.icons; stays = λ real. absurd (real c.loop-at-test.false) }, refl)
