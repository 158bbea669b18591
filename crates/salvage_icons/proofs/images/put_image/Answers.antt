-- `salvage_icons::images::put_image` meets its contract: index, flags and offset are put one behind
-- the other.
use native.Mathlib.Omega.{arith}
use Rattle.format.proofs.Laws.Bytes.{bytes-length}
use Rattle.filling.specs.Laws.{puts-more}
use Rattle.salvage_icons.proofs.images.put_image.Goals as goal

pub short-third-requires : goal.short-third-requires
short-third-requires c =
    omega (arith, c.short-second.ensures.next, bytes-length 2 c.args.index, c.requires.1)

pub long-requires : goal.long-requires
long-requires c =
    omega (arith, c.short-third.ensures.next, bytes-length 2 c.u16_at-flags.result, c.short-second.ensures.next, bytes-length 2 c.args.index, c.requires.1)

pub returns : goal.returns
returns c =
    rw (← c.u32_at-data.ensures, ← c.u16_at-flags.ensures) (puts-more (puts-more c.short-second.ensures c.short-third.ensures) c.long.ensures)
