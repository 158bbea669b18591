-- `icon_cache::directory_part` meets its contract: the header, the index and the path are judged in
-- this order.
use Rattle.std.proofs.Common.{◌∙◌, sym, ap, arith}
use Rattle.std.proofs.lemmas.Result.{err_from_is_err_and}
use Rattle.format.specs.Fault.{outcome}
use Rattle.format.proofs.Laws.Outcomes.{broken-by}
use Rattle.format.proofs.Laws.Directory.{directory-header, directory-beyond, directory-path, part-refused}
use Rattle.tables.specs.Tables.{part_of}
use Rattle.tables.specs.Laws.{same-directories}
use Rattle.icon_cache.proofs.Meets.{part-answered, part-numbered}
use Rattle.icon_cache.proofs.directory_part.Goals as goal

pub returns-in_err-header-clause-answer : goal.returns-in_err-header-clause-answer
returns-in_err-header-clause-answer c =
    let told = err_from_is_err_and c.from_residual.result c.from_residual.ensures.1 in
    let broken = broken-by _ _ _ c.in_err-header.ensures in
    rw (told.1, told.2, broken.1) (sym (part-refused _ _ (directory-header _ _ broken.0) broken.0))

pub returns-in_err-header-clause-refused : goal.returns-in_err-header-clause-refused
returns-in_err-header-clause-refused c =
    let told = err_from_is_err_and c.from_residual.result c.from_residual.ensures.1 in
    let broken = broken-by _ _ _ c.in_err-header.ensures in
    rw (told.1, told.2, broken.1) (omega (arith, broken.0))

pub returns-then-t-index-clause-answer : goal.returns-then-t-index-clause-answer
returns-then-t-index-clause-answer c =
    let read = c.read-t.ensures in
    sym (part-refused _ _ (directory-beyond _ _ read.header (rw (same-directories read) at c.if-t-index.true)) (λ z. omega arith))

pub returns-clause-answer : goal.returns-clause-answer
returns-clause-answer c =
    let read = c.read-t.ensures in
    let s = c.args.cache.now in
    let judged = directory-path s c.args.index read.header (rw (same-directories read) at c.if-t-index.false) in
    part-answered _ _ _ (c.path.ensures ∙ ap (λ v. outcome v (part_of s c.args.index)) (sym judged))

pub returns-clause-refused : goal.returns-clause-refused
returns-clause-refused c =
    let read = c.read-t.ensures in
    let s = c.args.cache.now in
    let judged = directory-path s c.args.index read.header (rw (same-directories read) at c.if-t-index.false) in
    part-numbered _ _ _ (c.path.ensures ∙ ap (λ v. outcome v (part_of s c.args.index)) (sym judged))
