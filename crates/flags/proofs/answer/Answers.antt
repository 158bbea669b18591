-- `flags::answer` meets its contract: there are flags exactly where they are valid.
use Rattle.std.proofs.Common.{◌∙◌}
use Rattle.flags.proofs.Laws.{handed_on}
use Rattle.flags.proofs.answer.Goals as goal

pub returns : goal.returns
returns c = c.ok_or.ensures.value ∙ handed_on _ _ _ c.converted.ensures
