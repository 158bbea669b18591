use Rattle.std.proofs.Common.{◌≡◌, ◌+◌, ◌-◌, ◌*◌, ◌≤◌, length}
use Rattle.catalogue.specs.Fields.{image_end}
use Rattle.catalogue.specs.Judgement.{image_field_fault}
use Rattle.entries.specs.Judged.{row_judged}
use Rattle.entries.proofs.images.Given as goal

abbrev pub invariant-loop-i : goal.invariant-loop-i
invariant-loop-i l = record {
  within : l.at + 8 * l.i ≤ length l.catalogue;
  rest : row_judged (image_field_fault l.n l.catalogue) image_end (l.m - l.i) (l.at + 8 * l.i) ≡ row_judged (image_field_fault l.n l.catalogue) image_end l.m l.at;
}
