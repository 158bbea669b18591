-- `icon_cache::directory` meets its contract: it judges as `directory_part` does.
use Rattle.std.proofs.lemmas.Result.{err_from_is_err_and}
use Rattle.icon_cache.proofs.Meets.{judged-alike}
use Rattle.icon_cache.proofs.directory.Goals as goal

pub returns-in_err-directory_part-clause-answer : goal.returns-in_err-directory_part-clause-answer
returns-in_err-directory_part-clause-answer c =
    let told = err_from_is_err_and c.from_residual.result c.from_residual.ensures.1 in
    rw (told.1, told.2) (judged-alike _ _ c.in_err-directory_part.ensures.answer)

pub returns-clause-answer : goal.returns-clause-answer
returns-clause-answer c = judged-alike _ _ c.in_ok-directory_part.ensures.answer
