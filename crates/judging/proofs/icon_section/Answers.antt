-- `judging::icon_section` meets its contract: each `return` is one law of the icons from their
-- count on.
use Rattle.std.proofs.Common.{◌+◌, ◌≤◌, length, sym, arith}
use Rattle.std.proofs.lemmas.Result.{err_from_is_err_and}
use Rattle.format.specs.Number.{be}
use Rattle.format.specs.Fault.{first_fault}
use Rattle.format.proofs.Laws.Outcomes.{outcome-broken, kept-by, broken-by}
use Rattle.catalogue.specs.Row.{row_end}
use Rattle.catalogue.specs.Fields.{icon_end}
use Rattle.catalogue.specs.Judgement.{icon_fields_fault}
use Rattle.judging.specs.Judging.{parts_at}
use Rattle.judging.specs.Laws.Sections.{count_cut, icons-refused, more-follows, icons-kept}
use Rattle.judging.proofs.icon_section.Goals as goal

pub returns-then-catalogue-at-lt2 : goal.returns-then-catalogue-at-lt2
returns-then-catalogue-at-lt2 c = let a = c.args in rw (count_cut a.catalogue.now a.n a.at (omega arith))

pub returns-in_err-end : goal.returns-in_err-end
returns-in_err-end c =
    let a = c.args in
    let s = a.catalogue.now in
    let there : a.at + 2 ≤ length s = omega arith in
    let p = err_from_is_err_and c.from_residual.result c.from_residual.ensures.1 in
    let (broken, is) = broken-by (first_fault (icon_fields_fault a.n s) (icon_end s) (be 2 s a.at) (a.at + 2)) (row_end (icon_end s) (be 2 s a.at) (a.at + 2)) _ (rw c.u16_at-count.ensures at c.in_err-end.ensures) in
    rw (p.1, p.2, is, icons-refused s a.n a.at there broken) (sym (outcome-broken _ (parts_at s a.n a.at) broken))

pub returns-then-end-catalogue : goal.returns-then-end-catalogue
returns-then-end-catalogue c =
    let a = c.args in
    let s = a.catalogue.now in
    let there : a.at + 2 ≤ length s = omega arith in
    let (kept, is) = kept-by (first_fault (icon_fields_fault a.n s) (icon_end s) (be 2 s a.at) (a.at + 2)) (row_end (icon_end s) (be 2 s a.at) (a.at + 2)) _ (rw c.u16_at-count.ensures at c.in_ok-end.ensures) in
    rw (is, more-follows s a.n a.at there kept (rw is at c.if-end-catalogue.true))

pub returns : goal.returns
returns c =
    let a = c.args in
    let s = a.catalogue.now in
    let there : a.at + 2 ≤ length s = omega arith in
    let (kept, is) = kept-by (first_fault (icon_fields_fault a.n s) (icon_end s) (be 2 s a.at) (a.at + 2)) (row_end (icon_end s) (be 2 s a.at) (a.at + 2)) _ (rw c.u16_at-count.ensures at c.in_ok-end.ensures) in
    rw (c.u16_at-count.ensures, icons-kept s a.n a.at there kept (rw is at c.if-end-catalogue.false))
