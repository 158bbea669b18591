-- `strings::times31` meets its contract. Rests on `shifted-less-itself`, which is the whole
-- argument.
use Rattle.strings.proofs.Wrapping.{shifted-less-itself}
use Rattle.strings.proofs.times31.Goals as goal

pub returns : goal.returns
returns c = shifted-less-itself c.args.h c.wrapping_sub_u32.type_inv c.wrapping_sub_u32.ensures.value
