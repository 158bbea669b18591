-- `image_data::entry_part` meets its contract: the way to the meta data, and on from there.
use Rattle.std.proofs.Common.{◌∙◌, arith}
use Rattle.format.proofs.Laws.Outcomes.{kept-by}
use Rattle.std.proofs.lemmas.Result.{err_from_is_err_and}
use Rattle.image_data.proofs.Laws.Way.{way-ends, way_on}
use Rattle.image_data.proofs.Laws.Judged.{meta-inside}
use Rattle.image_data.proofs.entry_part.Goals as goal

pub returns-in_err-at : goal.returns-in_err-at
returns-in_err-at c =
    let told = err_from_is_err_and c.from_residual.result c.from_residual.ensures.1 in
    rw (told.1, told.2) (way-ends _ _ _ _ c.in_err-at.ensures)

pub overflow_add-at : goal.overflow_add-at
overflow_add-at c = let way = kept-by _ _ _ c.in_ok-at.ensures in omega (arith, way.1, meta-inside _ _ way.0)

pub listed-requires : goal.listed-requires
listed-requires c = let way = kept-by _ _ _ c.in_ok-at.ensures in (omega (arith, way.1, meta-inside _ _ way.0), omega arith)

pub returns : goal.returns
returns c =
    let way = kept-by _ _ _ c.in_ok-at.ensures in rw way.1 at c.listed.ensures ∙ way_on _ _ _ _ c.in_ok-at.ensures
