-- `flags::renumbered` meets its contract: from a numbering to itself nothing moves.
use Rattle.std.proofs.Common.{sym}
use Rattle.flags.proofs.Laws.{same-numbering}
use Rattle.flags.proofs.renumbered.Goals as goal

pub returns-in_default : goal.returns-in_default
returns-in_default c = rw (c.in_default.is-0, c.in_default.is-1) (sym (same-numbering _ _ c.requires))

pub returns-in_default-2 : goal.returns-in_default-2
returns-in_default-2 c = rw (c.in_default.is-0, c.in_default.is-1) (sym (same-numbering _ _ c.requires))
