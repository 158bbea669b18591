use Rattle.std.proofs.Common.{◌≡◌, ◌*◌, ◌≤◌, length}
use Rattle.format.specs.Bytes.{joined}
use Rattle.export.specs.Parts.{icon_piece}
use Rattle.export.proofs.sizes.icons.Given as goal

abbrev pub invariant-loop-offset : goal.invariant-loop-offset
invariant-loop-offset l = record {
  sum : l.size ≡ length (joined (icon_piece l.cache l.index) l.offset-index);
  few : l.size ≤ 8450 * l.offset-index;
}
