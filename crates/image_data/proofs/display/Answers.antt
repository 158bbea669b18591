-- `image_data::display` meets its contract: the way to the display name, then rule 24 on the one
-- string.
use Rattle.std.proofs.Common.{◌∙◌, arith}
use Rattle.std.proofs.lemmas.Result.{err_from_is_err_and}
use Rattle.format.proofs.Laws.Outcomes.{kept-by}
use Rattle.image_data.proofs.Laws.Called.{way-inside, display-refused, display-judged}
use Rattle.image_data.proofs.display.Goals as goal

pub returns-in_err-at : goal.returns-in_err-at
returns-in_err-at c =
    let told = err_from_is_err_and c.from_residual.result c.from_residual.ensures.1 in
    rw (told.1, told.2) (display-refused _ _ _ _ c.in_err-at.ensures)

pub overflow_add-at : goal.overflow_add-at
overflow_add-at c = omega (arith, way-inside _ _ _ _ _ c.in_ok-at.ensures)

pub string-requires : goal.string-requires
string-requires c = omega (arith, way-inside _ _ _ _ _ c.in_ok-at.ensures)

pub returns : goal.returns
returns c = rw (kept-by _ _ _ c.in_ok-at.ensures).1 at c.string.ensures ∙ display-judged _ _ _ _ c.in_ok-at.ensures
