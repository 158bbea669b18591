-- `judging::paths` meets its contract: what is judged of the paths that are left is what is judged of all.
use Rattle.std.proofs.Common.{◌∙◌}
use Rattle.std.proofs.lemmas.Result.{err_from_is_err_and}
use Rattle.catalogue.specs.Fields.{path_end}
use Rattle.catalogue.specs.Judgement.{path_fields_fault}
use Rattle.entries.specs.Laws.{path_inside, kept-inside, row-done, row-stops, row-goes-on}
use Rattle.judging.proofs.paths.Goals as goal

pub returns-in_err-here : goal.returns-in_err-here
returns-in_err-here c =
    let s = c.args.catalogue.now in
    let p = err_from_is_err_and c.from_residual.result c.from_residual.ensures.1 in
    rw (p.1, p.2) (row-stops (path_fields_fault s) (path_end s) c.loop.here c.loop-test.true (path_end s c.loop.here) c.in_err-here.ensures ∙ c.loop.invariant.rest)

pub loop-preserved : goal.loop-preserved
loop-preserved c =
    let s = c.args.catalogue.now in
    record {
      within = kept-inside (path_fields_fault s c.loop.here) (path_end s c.loop.here) c.in_ok-here.ensures (path_inside s c.loop.here);
      rest = row-goes-on (path_fields_fault s) (path_end s) c.loop.here c.loop-test.true c.in_ok-here.ensures ∙ c.loop.invariant.rest;
    }

pub returns : goal.returns
returns c =
    let s = c.args.catalogue.now in row-done (path_fields_fault s) (path_end s) c.loop.here c.loop-test.false ∙ c.loop.invariant.rest
