use Rattle.std.proofs.Common.{◌≡◌, ◌+◌, length}
use Rattle.catalogue.specs.Row.{row_end}
use Rattle.catalogue.specs.Fields.{icon_end, catalogue_in}
use Rattle.catalogue.specs.Written.{lists_up_to}
use Rattle.passes.proofs.sizes.lists_end.Given as goal

abbrev pub invariant-loop : goal.invariant-loop
invariant-loop l = record {
  here : l.icon ≡ row_end (icon_end l.catalogue) l.counter l.first;
  passed : l.end ≡ l.at + length (lists_up_to (catalogue_in l.catalogue) l.counter);
}
