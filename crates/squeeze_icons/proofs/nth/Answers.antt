-- `squeeze_icons::nth` meets its contract: below `n` there is always an icon more.
use Rattle.std.proofs.Common.{arith}
use Rattle.squeeze_icons.specs.Laws.Icon.{all-passed}
use Rattle.squeeze_icons.proofs.nth.Goals as goal

pub next-icon-requires : goal.next-icon-requires
next-icon-requires c =
    let h = c.loop-passed.invariant in
    (c.requires.0, c.requires.1, h.stays, λ e. omega (arith, all-passed c.requires.0.accepted h.stays e, c.requires.2, c.loop-passed-test.true, h.number))
