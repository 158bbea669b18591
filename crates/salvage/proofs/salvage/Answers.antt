-- `salvage::salvage` meets its contract: 1 to 5 are refused, and the rest is `save`.
use Rattle.std.proofs.lemmas.Result.{err_from_is_err_and}
use Rattle.format.specs.Header.{header_fault}
use Rattle.format.proofs.Laws.Outcomes.{broken-by}
use Rattle.salvage.specs.Laws.Call.{refuses, header-refuses}
use Rattle.salvage.proofs.salvage.Goals as goal

pub returns-in_err-header : goal.returns-in_err-header
returns-in_err-header c =
    let a = c.args in
    let s = a.cache.now in
    let bad = broken-by (header_fault s) tt _ c.in_err-header.ensures in
    let p = err_from_is_err_and c.from_residual.result c.from_residual.ensures.1 in
    let h = refuses s a.catalogue.now a.report.now (header-refuses s a.catalogue.now a.report.now bad.0) bad.0 in
    record {
      answer = rw (p.1, p.2, bad.1) h.answer;
      refused = rw (p.1, p.2, bad.1) h.refused;
      bytes = h.bytes_left;
      words = h.words_left;
    }
