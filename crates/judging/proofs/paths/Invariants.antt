use Rattle.std.proofs.Common.{◌≡◌, ◌-◌, ◌≤◌, length}
use Rattle.catalogue.specs.Fields.{path_end}
use Rattle.catalogue.specs.Judgement.{path_fields_fault}
use Rattle.entries.specs.Judged.{row_judged}
use Rattle.judging.proofs.paths.Given as goal

abbrev pub invariant-loop : goal.invariant-loop
invariant-loop l = record {
  within : l.here ≤ length l.catalogue;
  rest : row_judged (path_fields_fault l.catalogue) (path_end l.catalogue) (l.n - l.counter) l.here ≡ row_judged (path_fields_fault l.catalogue) (path_end l.catalogue) l.n l.at;
}
