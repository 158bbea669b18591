use Rattle.std.proofs.Common.{◌≡◌, ◌≤◌, length}
use Rattle.squeeze_names.specs.Repeated.{TakenIn}
use Rattle.squeeze_names.specs.Laws.Blocks.{block_is}
use Rattle.squeeze_names.proofs.take_in.Given as goal

abbrev pub invariant-loop-i : goal.invariant-loop-i
invariant-loop-i l = record {
  index_lent : length l.index ≡ length l.initial.index;
  marks_lent : length l.marks ≡ length l.initial.marks;
  fits : l.entries ≤ l.room;
  taken : TakenIn l.cache l.field l.number l.index l.initial.marks l.marks (block_is l.i l.entries l.at);
}
