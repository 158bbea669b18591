-- `image_data::rectangle` meets its contract: refused as its way was, or the four corners, which
-- lie inside.
use Rattle.std.proofs.Common.{ap, arith}
use Rattle.std.proofs.lemmas.Result.{err_from_is_err_and}
use Rattle.image_data.specs.Call.{RectangleAnswer}
use Rattle.image_data.proofs.Laws.Called.{rectangle-refused, rectangle-inside, rectangle-found}
use Rattle.image_data.proofs.Laws.Promise.{promise}
use Rattle.image_data.proofs.rectangle.Goals as goal

pub returns-in_err-at-clause-answer : goal.returns-in_err-at-clause-answer
returns-in_err-at-clause-answer c =
    let told = err_from_is_err_and c.from_residual.result c.from_residual.ensures.1 in
    rw (told.1, told.2) (rectangle-refused _ _ c.in_err-at.ensures)

pub returns-in_err-at-clause-kept : goal.returns-in_err-at-clause-kept
returns-in_err-at-clause-kept c = λ accepted image.
    let told = err_from_is_err_and c.from_residual.result c.from_residual.ensures.1 in
    let same = ap (λ (r : RectangleAnswer). r.number) (rectangle-refused _ _ c.in_err-at.ensures) in
    rw (told.1, told.2, same) ((promise _ _).rectangle accepted image)

pub u16_at-requires : goal.u16_at-requires
u16_at-requires c = omega (arith, rectangle-inside _ _ c.in_ok-at.ensures)

pub overflow_add-at : goal.overflow_add-at
overflow_add-at c = omega (arith, rectangle-inside _ _ c.in_ok-at.ensures)

pub u16_at-requires-2 : goal.u16_at-requires-2
u16_at-requires-2 c = omega (arith, rectangle-inside _ _ c.in_ok-at.ensures)

pub overflow_add-at-2 : goal.overflow_add-at-2
overflow_add-at-2 c = omega (arith, rectangle-inside _ _ c.in_ok-at.ensures)

pub u16_at-requires-3 : goal.u16_at-requires-3
u16_at-requires-3 c = omega (arith, rectangle-inside _ _ c.in_ok-at.ensures)

pub overflow_add-at-3 : goal.overflow_add-at-3
overflow_add-at-3 c = omega (arith, rectangle-inside _ _ c.in_ok-at.ensures)

pub u16_at-requires-4 : goal.u16_at-requires-4
u16_at-requires-4 c = omega (arith, rectangle-inside _ _ c.in_ok-at.ensures)

pub returns-clause-answer : goal.returns-clause-answer
returns-clause-answer c = rw (c.u16_at.ensures, c.u16_at-2.ensures, c.u16_at-3.ensures, c.u16_at-4.ensures) (rectangle-found _ _ c.in_ok-at.ensures)
