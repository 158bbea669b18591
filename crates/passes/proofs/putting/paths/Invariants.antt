use Rattle.catalogue.specs.Fields.{path_end, catalogue_in}
use Rattle.catalogue.specs.LaidOut.{nth_path, text_and_zero}
use Rattle.catalogue.proofs.Laws.Pass.{Pass}
use Rattle.passes.proofs.putting.paths.Given as goal

abbrev pub invariant-loop : goal.invariant-loop
invariant-loop l =
    Pass (path_end l.catalogue) 2 (λ j. text_and_zero (nth_path (catalogue_in l.catalogue) j)) l.initial.out l.at l.out l.here l.place l.counter
