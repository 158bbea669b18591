use Rattle.std.proofs.Common.{◌≡◌, length}
use Rattle.squeeze_names.specs.Laws.Chains.{Through}
use Rattle.squeeze_names.proofs.mark_repeated.Given as goal

abbrev pub invariant-loop-bucket : goal.invariant-loop-bucket
invariant-loop-bucket l = record {
  index_lent : length l.index ≡ length l.initial.index;
  marks_lent : length l.marks ≡ length l.initial.marks;
  through : Through l.cache l.initial.marks l.marks l.bucket l.number;
}
