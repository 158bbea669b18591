-- `strings::asked` meets its contract: a name that may be asked for is hashed whole, and any other
-- as far as it is read.
use Rattle.std.proofs.Common.{sym, refl, ◌∙◌}
use Rattle.format.specs.String.{allowed}
use Rattle.format.proofs.Laws.Hashes.{allowed-hash}
use Rattle.strings.proofs.asked.Goals as goal

pub returns-then-within : goal.returns-then-within
unfolding allowed
returns-then-within c =
    let may = sym (c.within.ensures 255 _ refl c.read_name-read.ensures.extent) ∙ c.if-within.true in
    rw (may, c.read_name-read.ensures.hash, allowed-hash _ may)

pub returns-else-within : goal.returns-else-within
unfolding allowed
returns-else-within c = rw (sym (c.within.ensures 255 _ refl c.read_name-read.ensures.extent) ∙ c.if-within.false, c.read_name-read.ensures.hash)
