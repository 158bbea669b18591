-- What a call answers, by its result.
use Rattle.std.specs.Prelude.{Result, Ok, Err}
use Rattle.format.specs.declared.Fault.{Fault}
use Rattle.salvage_spec.specs.Call.{SalvageAnswer, salvage_is}
use Rattle.salvage.specs.declared.Saved.{Saved}

-- the answer of a call that tells what was saved, or which refusal there is
abbrev pub salvage_answer : Result Saved Fault → SalvageAnswer
salvage_answer (Ok a) = salvage_is 0 0 a.length a.rows
salvage_answer (Err v) = salvage_is v.number v.place 0 0
