-- `records::judge` meets its contract: the laws `record-misnamed` and `record-named` say which part
-- judges first.
use Rattle.std.proofs.Common.{sym, ap, ◌∙◌}
use Rattle.std.proofs.lemmas.Result.{err_from_is_err_and}
use Rattle.format.specs.Fault.{verdict}
use Rattle.format.specs.Record.{name_fault}
use Rattle.format.proofs.Laws.Outcomes.{kept-by, broken-by}
use Rattle.format.proofs.Laws.Records.{record-misnamed, record-named}
use Rattle.tables.proofs.Handed.{breaks}
use Rattle.records.proofs.judge.Goals as goal

pub returns-in_err-judge_name : goal.returns-in_err-judge_name
returns-in_err-judge_name c =
    let a = c.args in
    let broken = broken-by (name_fault a.cache.now a.bucket a.«record») tt _ c.in_err-judge_name.ensures in
    let p = err_from_is_err_and c.from_residual.result c.from_residual.ensures.1 in
    rw (p.1, p.2, broken.1) (breaks tt (record-misnamed _ _ _ broken.0) broken.0)

pub returns : goal.returns
returns c =
    let a = c.args in
    let kept = kept-by (name_fault a.cache.now a.bucket a.«record») tt _ c.in_ok-judge_name.ensures in
    c.judge_images.ensures ∙ ap verdict (sym (record-named _ _ _ kept.0))
