-- `judging::judge` meets its contract: the fields decide, or the names. A catalogue has at most as
-- many icons as the index has room for.
use Rattle.std.proofs.Common.{ℕ, arith}
use Rattle.std.proofs.lemmas.Result.{err_from_is_err_and}
use Rattle.std.proofs.Math.ListN.{length-replicate}
use Rattle.format.proofs.Laws.Outcomes.{broken-by}
use Rattle.catalogue.specs.Fields.{AreBytes, path_count, icon_count_at}
use Rattle.catalogue.specs.Judgement.{fields_fault}
use Rattle.judging.specs.Judging.{parts_at}
use Rattle.judging.specs.Laws.Sections.{fields-refused, names-refused, names-kept}
use Rattle.judging.specs.Laws.Bounds.{parts-listed, parts-few}
use Rattle.judging.proofs.judge.Goals as goal

pub returns-in_err-parts : goal.returns-in_err-parts
returns-in_err-parts c =
    let s = c.args.catalogue.now in
    let p = err_from_is_err_and c.from_residual.result c.from_residual.ensures.1 in
    let (broken, is) = broken-by (fields_fault s) (parts_at s (path_count s) (icon_count_at s)) _ c.in_err-parts.ensures in
    rw (p.1, p.2, fields-refused s broken) c.in_err-parts.ensures

pub repeated-requires : goal.repeated-requires
repeated-requires c =
    let s = c.args.catalogue.now in
    let bytes : AreBytes s = λ i. omega (arith, c.type_inv.catalogue i) in
    (parts-listed s bytes c.in_ok-parts.ensures, omega (arith, parts-few s bytes c.in_ok-parts.ensures, length-replicate {A = ℕ} 65536 0))

pub returns-in_err-repeated : goal.returns-in_err-repeated
returns-in_err-repeated c =
    let p = err_from_is_err_and c.from_residual-in_err-repeated.result c.from_residual-in_err-repeated.ensures.1 in
    rw (p.1, p.2) (names-refused c.args.catalogue.now c.in_ok-parts.ensures c.in_err-repeated.ensures)

pub returns : goal.returns
returns c = names-kept c.args.catalogue.now c.in_ok-parts.ensures c.in_ok-repeated.ensures
