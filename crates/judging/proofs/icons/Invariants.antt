use Rattle.std.proofs.Common.{◌≡◌, ◌-◌, ◌≤◌, length}
use Rattle.catalogue.specs.Fields.{icon_end}
use Rattle.catalogue.specs.Judgement.{icon_fields_fault}
use Rattle.entries.specs.Judged.{row_judged}
use Rattle.judging.proofs.icons.Given as goal

abbrev pub invariant-loop : goal.invariant-loop
invariant-loop l = record {
  within : l.here ≤ length l.catalogue;
  rest : row_judged (icon_fields_fault l.n l.catalogue) (icon_end l.catalogue) (l.m - l.counter) l.here ≡ row_judged (icon_fields_fault l.n l.catalogue) (icon_end l.catalogue) l.m l.at;
}
