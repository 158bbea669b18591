-- `squeeze_sizes::count` meets its contract: each way out is a law of `Counts`.
use Rattle.std.proofs.Common.{◌+◌, ◌*◌, ap, arith}
use Rattle.squeeze_sizes.specs.Laws.Counting.{behind-some, counts-passed, counts-enough, counts-again, counts-known, counts-new}
use Rattle.squeeze_sizes.proofs.count.Goals as goal

pub returns-then-until-icon : goal.returns-then-until-icon
returns-then-until-icon c = λ first before h.
    counts-known h c.requires.list_at.0 c.if-until-icon.true c.in-Ok.ensures.within (c.in-Ok.ensures.spotted h.known.known.rising)

pub come_again-requires : goal.come_again-requires
come_again-requires c =
    let own = c.requires.list_at in
    let h = c.requires.by_index.2 in
    let below = c.in-Ok.ensures.within in
    (omega (arith, below, own.2, h.fits), omega (arith, own.3), λ none. omega (arith, c.u32_at.ensures, counts-enough h own.0 below (c.in-Ok.ensures.spotted h.known.known.rising) none))

pub returns-else-until-icon : goal.returns-else-until-icon
returns-else-until-icon c = λ first before h.
    let own = c.requires.list_at in
    let below = c.in-Ok.ensures.within in
    counts-again h own.0 below (c.in-Ok.ensures.spotted h.known.known.rising) (omega (arith, below, own.2, h.fits)) (ap (λ n. 4 + 8 * n) c.u32_at.ensures) c.come_again.ensures

pub returns-then-entries-index : goal.returns-then-entries-index
returns-then-entries-index c = λ first before h.
    let own = c.requires.list_at in
    counts-new h own.0 c.if-until-icon-2.true (c.in-Err.ensures.spotted h.known.known.rising) c.in-Err.ensures.within (omega arith) (omega (arith, own.2)) c.insert.ensures (ap (λ n. c.args.counted.bytes + (4 + 8 * n)) c.u32_at.ensures)

pub returns-else-entries-index : goal.returns-else-entries-index
returns-else-entries-index c = λ first before h.
    counts-passed h c.requires.list_at.0 (c.in-Err.ensures.spotted h.known.known.rising) (omega (arith, h.most, c.if-entries-index.false, c.requires.list_at.1))

pub returns-else-until-icon-2 : goal.returns-else-until-icon-2
returns-else-until-icon-2 c = λ first before h.
    counts-passed h c.requires.list_at.0 (c.in-Err.ensures.spotted h.known.known.rising) (behind-some h c.if-until-icon-2.false)
