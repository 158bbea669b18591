-- `export::catalogue_of` meets its contract: the check refuses, or the cache is accepted.
use Rattle.std.proofs.Common.{sym, ap, ◌∙◌, arith}
use Rattle.format.specs.declared.CheckAnswer.{CheckAnswer}
use Rattle.format.proofs.Laws.Rules.{tables-keep-header}
use Rattle.listing.proofs.Laws.Pages.{pages}
use Rattle.export.specs.Laws.Call.{check-refuses}
use Rattle.export.proofs.catalogue_of.Goals as goal

pub returns-then-check-ne0 : goal.returns-then-check-ne0
returns-then-check-ne0 c =
    let told = check-refuses c.args.cache.now c.args.catalogue.now c.check_short-check.ensures.answer c.if-check-ne0.true in
    record { answer = told.answer; refused = told.refused; lent = told.leaves }

pub read-t-requires : goal.read-t-requires
read-t-requires c = tables-keep-header _ (c.check_short-check.ensures.demand.accepted.0 c.if-check-ne0.false).tables-kept

pub list-requires : goal.list-requires
list-requires c =
    let accepted = c.check_short-check.ensures.demand.accepted.0 c.if-check-ne0.false in
    let icons = ap (λ (a : CheckAnswer). a.icons) c.check_short-check.ensures.answer ∙ sym ((pages c.args.cache.now).as_many accepted) in
    (record { tables = c.read-t.ensures; accepted = accepted }, icons, omega arith)
