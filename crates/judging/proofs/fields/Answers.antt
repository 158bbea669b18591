-- `judging::fields` meets its contract: each `return` is one law of the whole catalogue.
use Rattle.std.proofs.Common.{◌≤◌, length, sym, ◌∙◌, arith}
use Rattle.std.proofs.lemmas.Result.{err_from_is_err_and}
use Rattle.format.specs.Fault.{first_fault}
use Rattle.format.proofs.Laws.Outcomes.{outcome-broken, kept-by, broken-by}
use Rattle.catalogue.specs.Row.{row_end}
use Rattle.catalogue.specs.Fields.{path_end, path_count, icon_count_at}
use Rattle.catalogue.specs.Judgement.{path_fields_fault}
use Rattle.entries.specs.Laws.{path_inside, row_inside, kept-inside}
use Rattle.judging.specs.Judging.{parts_at}
use Rattle.judging.specs.Laws.Sections.{first-count-cut, paths-refused, icons-decide}
use Rattle.judging.proofs.fields.Goals as goal

pub returns-then-catalogue-lt2 : goal.returns-then-catalogue-lt2
returns-then-catalogue-lt2 c = rw (first-count-cut c.args.catalogue.now (omega arith))

pub returns-in_err-end : goal.returns-in_err-end
returns-in_err-end c =
    let s = c.args.catalogue.now in
    let there : 2 ≤ length s = omega arith in
    let p = err_from_is_err_and c.from_residual.result c.from_residual.ensures.1 in
    let (broken, is) = broken-by (first_fault (path_fields_fault s) (path_end s) (path_count s) 2) (row_end (path_end s) (path_count s) 2) _ (rw c.u16_at-n.ensures at c.in_err-end.ensures) in
    let refused = paths-refused s there broken in
    rw (p.1, p.2, is, refused) (sym (outcome-broken _ (parts_at s (path_count s) (icon_count_at s)) broken))

pub icon_section-requires : goal.icon_section-requires
icon_section-requires c =
    let s = c.args.catalogue.now in
    let there : 2 ≤ length s = omega arith in
    let n = c.u16_at-n.result in
    kept-inside (first_fault (path_fields_fault s) (path_end s) n 2) (row_end (path_end s) n 2) c.in_ok-end.ensures (row_inside (path_fields_fault s) (path_end s) (path_inside s) n 2 there)

pub returns : goal.returns
returns c =
    let s = c.args.catalogue.now in
    let there : 2 ≤ length s = omega arith in
    let (kept, is) = kept-by (first_fault (path_fields_fault s) (path_end s) (path_count s) 2) (row_end (path_end s) (path_count s) 2) _ (rw c.u16_at-n.ensures at c.in_ok-end.ensures) in
    c.icon_section.ensures ∙ rw (c.u16_at-n.ensures, is, icons-decide s there kept)
