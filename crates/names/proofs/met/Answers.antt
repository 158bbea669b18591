-- `names::met` meets its contract, by what `find` and `insert` ensure.
use Rattle.names.specs.Laws.Index.{found-answers, missing-answers}
use Rattle.names.proofs.met.Goals as goal

pub returns-in-Ok : goal.returns-in-Ok
returns-in-Ok c = λ before known. found-answers known c.in-Ok.ensures.within (c.in-Ok.ensures.spotted known.rising)

pub returns-in-Err : goal.returns-in-Err
returns-in-Err c = λ before known.
    missing-answers known (c.in-Err.ensures.spotted known.rising) c.in-Err.ensures.within c.insert.ensures
