-- `image_data::attach_point` meets its contract: refused as its way was, or the point, which lies
-- inside.
use Rattle.std.proofs.Common.{ap, arith}
use Rattle.std.proofs.lemmas.Result.{err_from_is_err_and}
use Rattle.image_data.specs.Call.{PointAnswer, point_fault}
use Rattle.image_data.proofs.Laws.Called.{point-refused, way-inside, point-found}
use Rattle.image_data.proofs.Laws.Promise.{promise}
use Rattle.image_data.proofs.attach_point.Goals as goal

pub returns-in_err-at-clause-answer : goal.returns-in_err-at-clause-answer
unfolding point_fault
returns-in_err-at-clause-answer c =
    let told = err_from_is_err_and c.from_residual.result c.from_residual.ensures.1 in
    rw (told.1, told.2) (point-refused _ _ _ c.in_err-at.ensures)

pub returns-in_err-at-clause-kept : goal.returns-in_err-at-clause-kept
unfolding point_fault
returns-in_err-at-clause-kept c = λ accepted image.
    let told = err_from_is_err_and c.from_residual.result c.from_residual.ensures.1 in
    let same = ap (λ (r : PointAnswer). r.number) (point-refused _ _ _ c.in_err-at.ensures) in
    rw (told.1, told.2, same) ((promise _ _).point _ accepted image)

pub u16_at-requires : goal.u16_at-requires
u16_at-requires c = omega (arith, way-inside _ _ _ _ _ c.in_ok-at.ensures)

pub overflow_add-at : goal.overflow_add-at
overflow_add-at c = omega (arith, way-inside _ _ _ _ _ c.in_ok-at.ensures)

pub u16_at-requires-2 : goal.u16_at-requires-2
u16_at-requires-2 c = omega (arith, way-inside _ _ _ _ _ c.in_ok-at.ensures)

pub returns-clause-answer : goal.returns-clause-answer
unfolding point_fault
returns-clause-answer c = rw (c.u16_at.ensures, c.u16_at-2.ensures) (point-found _ _ _ c.in_ok-at.ensures)
