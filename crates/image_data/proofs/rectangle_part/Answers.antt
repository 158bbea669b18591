-- `image_data::rectangle_part` meets its contract: the way to the meta data, and on from there.
use Rattle.std.proofs.Common.{◌∙◌, arith}
use Rattle.format.proofs.Laws.Outcomes.{kept-by}
use Rattle.std.proofs.lemmas.Result.{err_from_is_err_and}
use Rattle.image_data.specs.Call.{rectangle_call_fault}
use Rattle.image_data.proofs.Laws.Way.{way-ends, way_on}
use Rattle.image_data.proofs.Laws.Judged.{meta-inside}
use Rattle.image_data.proofs.rectangle_part.Goals as goal

pub returns-in_err-field : goal.returns-in_err-field
unfolding rectangle_call_fault
returns-in_err-field c =
    let told = err_from_is_err_and c.from_residual.result c.from_residual.ensures.1 in
    rw (told.1, told.2) (way-ends _ _ _ _ c.in_err-field.ensures)

pub u32_at-requires : goal.u32_at-requires
u32_at-requires c = let way = kept-by _ _ _ c.in_ok-field.ensures in omega (arith, way.1, meta-inside _ _ way.0)

pub part-requires : goal.part-requires
part-requires c = let way = kept-by _ _ _ c.in_ok-field.ensures in omega (arith, way.1, meta-inside _ _ way.0)

pub returns : goal.returns
unfolding rectangle_call_fault
returns c =
    let way = kept-by _ _ _ c.in_ok-field.ensures in rw (c.u32_at.ensures, way.1) at c.part.ensures ∙ way_on _ _ _ _ c.in_ok-field.ensures
