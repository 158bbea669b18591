-- `keys::name_after` meets its contract: one byte is a number of width 1.
use mathlib.Core.Path.{◌∙◌}
use Rattle.format.proofs.Laws.Reads.{be-byte}
use Rattle.keys.proofs.name_after.Goals as goal

pub returns : goal.returns
returns c = c.front.ensures ∙ rw (c.from.ensures, c.byte-n.ensures, be-byte)
