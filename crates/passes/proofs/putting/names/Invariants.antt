use Rattle.catalogue.specs.Fields.{icon_end, catalogue_in}
use Rattle.catalogue.specs.LaidOut.{nth_icon, text_and_zero}
use Rattle.catalogue.proofs.Laws.Pass.{Pass}
use Rattle.passes.proofs.putting.names.Given as goal

abbrev pub invariant-loop : goal.invariant-loop
invariant-loop l =
    Pass (icon_end l.catalogue) l.first (λ j. text_and_zero (nth_icon (catalogue_in l.catalogue) j).name) l.initial.out l.at l.out l.icon l.place l.counter
