-- `judging::icons` meets its contract: what is judged of the icons that are left is what is judged of all.
use Rattle.std.proofs.Common.{◌∙◌}
use Rattle.std.proofs.lemmas.Result.{err_from_is_err_and}
use Rattle.catalogue.specs.Fields.{icon_end}
use Rattle.catalogue.specs.Judgement.{icon_fields_fault}
use Rattle.entries.specs.Laws.{icon-inside, kept-inside, row-done, row-stops, row-goes-on}
use Rattle.judging.proofs.icons.Goals as goal

pub returns-in_err-here : goal.returns-in_err-here
returns-in_err-here c =
    let s = c.args.catalogue.now in
    let p = err_from_is_err_and c.from_residual.result c.from_residual.ensures.1 in
    rw (p.1, p.2) (row-stops (icon_fields_fault c.args.n s) (icon_end s) c.loop.here c.loop-test.true (icon_end s c.loop.here) c.in_err-here.ensures ∙ c.loop.invariant.rest)

pub loop-preserved : goal.loop-preserved
loop-preserved c =
    let s = c.args.catalogue.now in
    record {
      within = kept-inside (icon_fields_fault c.args.n s c.loop.here) (icon_end s c.loop.here) c.in_ok-here.ensures (icon-inside c.args.n s c.loop.here);
      rest = row-goes-on (icon_fields_fault c.args.n s) (icon_end s) c.loop.here c.loop-test.true c.in_ok-here.ensures ∙ c.loop.invariant.rest;
    }

pub returns : goal.returns
returns c =
    let s = c.args.catalogue.now in row-done (icon_fields_fault c.args.n s) (icon_end s) c.loop.here c.loop-test.false ∙ c.loop.invariant.rest
