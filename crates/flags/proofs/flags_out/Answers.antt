-- `flags::flags_out` meets its contract: it hands on what `answer` gives.
use Rattle.flags.proofs.Laws.{spread, has-number}
use Rattle.flags.proofs.flags_out.Goals as goal

pub returns-clause-answer : goal.returns-clause-answer
returns-clause-answer c = let e = c.answer.ensures in rw e (spread _ _ _)

pub returns-clause-refused : goal.returns-clause-refused
returns-clause-refused c = let e = c.answer.ensures in rw e (has-number _ _)
