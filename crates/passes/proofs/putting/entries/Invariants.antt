use Rattle.std.proofs.Common.{◌≡◌, ◌+◌, ◌*◌, length}
use Rattle.format.specs.Bytes.{bytes}
use Rattle.catalogue.specs.Fields.{path_end, catalogue_in}
use Rattle.catalogue.specs.Written.{paths_up_to}
use Rattle.catalogue.proofs.Laws.Pass.{Pass}
use Rattle.passes.proofs.putting.entries.Given as goal

abbrev pub invariant-loop-i : goal.invariant-loop-i
invariant-loop-i l = record {
  passed : Pass (path_end l.catalogue) 2 (λ j. bytes 4 (l.strings + length (paths_up_to (catalogue_in l.catalogue) j))) l.initial.out l.at l.out l.here (l.at + 4 * l.i) l.i;
  string : l.string ≡ l.strings + length (paths_up_to (catalogue_in l.catalogue) l.i);
}
