use Rattle.catalogue.specs.Fields.{icon_end, catalogue_in}
use Rattle.catalogue.specs.LaidOut.{nth_icon, list_bytes}
use Rattle.catalogue.proofs.Laws.Pass.{Pass}
use Rattle.passes.proofs.putting.lists.Given as goal

abbrev pub invariant-loop : goal.invariant-loop
invariant-loop l =
    Pass (icon_end l.catalogue) l.first (λ j. list_bytes (nth_icon (catalogue_in l.catalogue) j)) l.initial.out l.at l.out l.icon l.place l.counter
